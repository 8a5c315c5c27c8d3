-- What a block's turn leaves: where the run goes on, or its end.
use Rattle.std.specs.Prelude.{◌≡◌, ℕ, ◌<◌, List, length, Option, None, Some, slice_get}
use Rattle.ssa_ir.specs.declared.case.CallShown.{CallShown}
use Rattle.ssa_ir.specs.declared.case.End.TheVariants.{Stuck}
use Rattle.ssa_ir.specs.declared.case.Shown.{Shown}
use Rattle.ssa_ir.specs.declared.func.Block.{Block}
use Rattle.ssa_ir.specs.declared.func.Func.{Func}
use Rattle.ssa_ir.specs.Run.{State}
use Rattle.ssa_ir.specs.Showing.{ends}
use Rattle.ssa_meaning.specs.declared.ready.Way.{Way}
use Rattle.ssa_meaning.specs.declared.control.Onward.{Onward}
use Rattle.ssa_meaning.specs.declared.control.Onward.TheVariants.{Enters, Ended}
use Rattle.ssa_meaning.specs.tables.Ran.{behind}

-- how a run goes on from a block
abbrev pub Further : Type 0
Further = Block → Option ℕ → State → Shown

-- the way of an edge is taken; an edge without one is stuck
abbrev pub along : Option Way → Onward
along None = Ended Stuck
along (Some w) = Enters w

abbrev pub enters : Further → ℕ → State → Option Block → Shown
enters go edge s None = ends Stuck
enters go edge s (Some b) = go b (Some edge) s

-- from a state the run enters a block of the function by an edge, or is over
abbrev pub onward_shown : Func → Onward → Further → State → Shown
onward_shown f (Enters w) go s = enters go w.edge s (slice_get f.blocks w.block)
onward_shown f (Ended e) go s = ends e

-- the block to enter is one of the function
abbrev pub IsWithin : Func → Onward → Type 0
IsWithin f (Enters w) = w.block < length f.blocks
IsWithin f (Ended e) = Unit {0}

-- a turn was taken, with the calls shown before and after it: however the run goes on from blocks, it shows the same
abbrev pub Turned : Func → (Further → Shown) → (before after : List CallShown) → Onward → State → Type 0
Turned f turn before after onward s = (go : Further) → behind before (turn go)
    ≡ behind after (onward_shown f onward go s)
