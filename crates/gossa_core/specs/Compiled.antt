-- What `compile` writes of a unit.
use Rattle.std.specs.Prelude.{◌≡◌, ℕ, List, ◌++◌, map, Ok}
use Rattle.std.specs.List.{All}
use Rattle.ssa_ir.specs.declared.func.SsaUnit.{SsaUnit}
use Rattle.case_text.specs.CaseText.{cases_text}
use Rattle.ssa_text.specs.Text.{func_names}
use Rattle.ssa_text.specs.UnitReading.{read_unit}
use Rattle.ssa_check.specs.Failing.{Accepted}
use Rattle.listing.specs.SameShow.{SameShow}
use Rattle.listing.specs.Text.{listings_text}
use Rattle.listing.specs.declared.code.Listings.{Listings}
use Rattle.sum_compile.specs.Narrow.{Narrow}
use Rattle.sum_compile.specs.Plain.{plain_listing}

-- the listings of a unit, by the plain allocation
abbrev pub listings_of : ℕ → SsaUnit → Listings
listings_of regs u = record { sigs = u.sigs; funcs = map (plain_listing regs) u.funcs }

-- what is written for a unit: the canonical text of its listings, and behind it that of its cases
abbrev pub output_of : (regs : ℕ) → SsaUnit → List ℕ
output_of regs u = listings_text (listings_of regs u) ++ cases_text (func_names u.funcs) u.cases

-- the text spells an accepted unit of narrow functions; the output is exactly the canonical text of the plain
-- allocation's listings of it, with its cases behind them, and the listings show what the unit shows
pub record Compiles (regs : ℕ) (text output : List ℕ) : Type 0 where
  pub unit : SsaUnit
  pub read : read_unit text ≡ Ok unit
  pub accepted : Accepted unit
  pub narrow : All Narrow unit.funcs
  pub listed : output ≡ output_of regs unit
  pub shows : SameShow unit (listings_of regs unit)
