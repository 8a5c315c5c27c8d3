-- What holds of the runs of all listings.
use Rattle.std.specs.Prelude.{◌≡◌, ◌≢◌, ℕ, ◌≤◌, false, List, ◌∷◌}
use Rattle.gossa_base.specs.declared.ids.ValueId.{ValueId}
use Rattle.gossa_base.specs.declared.ids.BlockId.{BlockId}
use Rattle.ssa_ir.specs.declared.case.End.TheVariants.{Going}
use Rattle.ssa_ir.specs.Inputs.{Inputs}
use Rattle.ssa_ir.specs.Run.{Callees}
use Rattle.ssa_ir.specs.Showing.{ends}
use Rattle.listing.specs.declared.line.Line.{Line}
use Rattle.listing.specs.declared.line.Line.TheVariants.{Label}
use Rattle.listing.specs.declared.code.Listing.{Listing}
use Rattle.listing.specs.ListingRun.{run_listing}

-- a run that ended within its bound is the same with every larger bound
abbrev pub EndedRunStays : Type 0
EndedRunStays =
    (callees : Callees) (inputs : Inputs) (l : Listing) (n m : ℕ) → n ≤ m
    → (run_listing callees inputs l n).end ≢ Going → run_listing callees inputs l m ≡ run_listing callees inputs l n

-- a listing that begins with the label of a counted block takes no turn with the bound 0
abbrev pub BoundZeroGoesOn : Type 0
BoundZeroGoesOn =
    (callees : Callees) (inputs : Inputs) (l : Listing) (b : BlockId) (held : List (ℕ × ValueId)) (lines : List Line)
    → l.code.lines ≡ Label b held ∷ lines → b.split ≡ false → run_listing callees inputs l 0 ≡ ends Going
