-- What holds of the runs of all functions.
use Rattle.std.specs.Prelude.{◌≡◌, ◌≢◌, ℕ, ◌≤◌, length}
use Rattle.ssa_ir.specs.declared.case.End.TheVariants.{Going}
use Rattle.ssa_ir.specs.declared.func.Func.{Func}
use Rattle.ssa_ir.specs.Inputs.{Inputs}
use Rattle.ssa_ir.specs.Run.{Form, run}
use Rattle.ssa_ir.specs.Showing.{ends}

-- a run that ended within its bound is the same with every larger bound
abbrev pub EndedRunStays : Type 0
EndedRunStays =
    (form : Form) (inputs : Inputs) (f : Func) (n m : ℕ) → n ≤ m
    → (run form inputs f n).end ≢ Going → run form inputs f m ≡ run form inputs f n

-- the run of a function that has a block takes no turn with the bound 0
abbrev pub BoundZeroGoesOn : Type 0
BoundZeroGoesOn = (form : Form) (inputs : Inputs) (f : Func) → 1 ≤ length f.blocks → run form inputs f 0 ≡ ends Going
