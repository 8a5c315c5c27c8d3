-- A unit's listings show what the unit shows.
use Rattle.std.specs.Prelude.{◌≡◌, ℕ, map, Some, slice_get}
use Rattle.ssa_ir.specs.declared.func.Func.{Func}
use Rattle.ssa_ir.specs.declared.func.SsaUnit.{SsaUnit}
use Rattle.ssa_ir.specs.Inputs.{Inputs}
use Rattle.ssa_ir.specs.Lookups.{sig_of}
use Rattle.ssa_ir.specs.Run.{Callees, generic, run}
use Rattle.listing.specs.declared.code.Listing.{Listing}
use Rattle.listing.specs.declared.code.Listings.{Listings}
use Rattle.listing.specs.ListingRun.{run_listing}

-- the signatures that a unit gives to its callees: those of its sig lines and of its functions, by name
abbrev pub callees_of : SsaUnit → Callees
callees_of u name = sig_of u name

-- a function's listing shows what the function shows, for every bound and all inputs, whatever replies they have
abbrev pub ShowsAs : Callees → Func → Listing → Type 0
ShowsAs callees f l = (n : ℕ) (inputs : Inputs) → run_listing callees inputs l n ≡ run (generic callees) inputs f n

-- the listings have exactly the signatures and the functions of the unit, in order, and one number of registers; and
-- each shows what its function shows
pub record SameShow (u : SsaUnit) (l : Listings) : Type 0 where
  pub regs : ℕ
  pub signatures : l.sigs ≡ u.sigs
  pub functions : map (λ g. g.code.sig) l.funcs ≡ map (λ f. f.sig) u.funcs
  pub one_machine : map (λ g. g.code.regs) l.funcs ≡ map (λ f. regs) u.funcs
  pub shows : (i : ℕ) (f : Func) (g : Listing) → slice_get u.funcs i ≡ Some f → slice_get l.funcs i ≡ Some g
      → ShowsAs (callees_of u) f g
