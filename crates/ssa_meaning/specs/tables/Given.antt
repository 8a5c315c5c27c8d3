-- What stays the same in a run.
use Rattle.std.specs.Prelude.{◌≡◌, ℕ, List}
use Rattle.ssa_ir.specs.Inputs.{symbol_in}
use Rattle.ssa_tables.specs.SignatureTable.{names_of}
use Rattle.ssa_meaning.specs.declared.step.Given.{Given}
use Rattle.ssa_meaning.specs.tables.Symbols.{address_in}

-- the tables are those of the unit and of the case
pub record IsGiven (g : Given) : Type 0 where
  pub signatures : g.signatures.now ≡ names_of g.unit.now
  pub symbols : (name : List ℕ) → address_in g.symbols.now name ≡ symbol_in g.case.now.syms name
