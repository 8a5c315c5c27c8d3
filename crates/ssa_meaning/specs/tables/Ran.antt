-- A part of a run that was taken: what it showed, and whether and from where the run goes on.
use Rattle.std.specs.Prelude.{◌≡◌, List, ◌++◌, Option, None, Some}
use Rattle.ssa_ir.specs.declared.case.CallShown.{CallShown}
use Rattle.ssa_ir.specs.declared.case.End.{End}
use Rattle.ssa_ir.specs.declared.case.Shown.{Shown}
use Rattle.ssa_ir.specs.Run.{State}
use Rattle.ssa_ir.specs.Showing.{ends}

-- what comes behind calls that were shown
abbrev pub behind : List CallShown → Shown → Shown
behind calls rest = record { calls = calls ++ rest.calls; end = rest.end }

-- behind values: the run goes on, or is over
pub data Next : Type 0 where
  GoesOn : Next
  IsOver : End → Next

abbrev pub next_shown : Next → State → (State → Shown) → Shown
next_shown GoesOn s go = go s
next_shown (IsOver e) s go = ends e

-- a part of a run from one state, with the calls shown before and after it: however the run goes on, it shows the same
abbrev pub Ran : ((State → Shown) → Shown) → (before after : List CallShown) → Next → State → Type 0
Ran part before after next s = (go : State → Shown) → behind before (part go) ≡ behind after (next_shown next s go)

-- where the run is over, this is its end
abbrev pub next_of : Option End → Next
next_of None = GoesOn
next_of (Some e) = IsOver e
