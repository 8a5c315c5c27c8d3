-- What holds of the runs of all functions, with more replies and with other junk.
use Rattle.std.specs.Prelude.{◌≡◌, ◌≢◌, ℕ, ◌≤◌, List, ◌++◌, map}
use Rattle.ssa_ir.specs.declared.case.Case.{Case}
use Rattle.ssa_ir.specs.declared.case.End.TheVariants.{Going, NoReply}
use Rattle.ssa_ir.specs.declared.case.Piece.{Piece}
use Rattle.ssa_ir.specs.declared.case.Reply.{Reply}
use Rattle.ssa_ir.specs.declared.func.Func.{Func}
use Rattle.ssa_ir.specs.declared.func.SsaUnit.{SsaUnit}
use Rattle.ssa_ir.specs.Inputs.{Inputs, Answer}
use Rattle.ssa_ir.specs.Run.{Form, run}
use Rattle.ssa_meaning.specs.CaseRun.{case_shown}

-- inputs with more answers behind theirs
abbrev pub with_more : Inputs → List Answer → Inputs
with_more inputs more = record inputs { answers = inputs.answers ++ more }

-- a run that didn't ask for a reply that wasn't there is the same with more of them
abbrev pub MoreRepliesStay : Type 0
MoreRepliesStay =
    (form : Form) (inputs : Inputs) (more : List Answer) (f : Func) (n : ℕ)
    → (run form inputs f n).end ≢ NoReply → run form (with_more inputs more) f n ≡ run form inputs f n

-- the same case with a bound that isn't less, and with more replies behind its own
pub record GoesFurther (c d : Case) : Type 0 where
  pub func : d.func ≡ c.func
  pub bound : c.bound ≤ d.bound
  pub args : d.args ≡ c.args
  pub syms : d.syms ≡ c.syms
  pub mem : d.mem ≡ c.mem
  pub junk : d.junk ≡ c.junk
  pub more : List Reply
  pub replies : d.replies ≡ c.replies ++ more

-- a case that ended shows the same with a greater bound and with more replies behind those that it took
abbrev pub EndedCaseStays : Type 0
EndedCaseStays =
    (u : SsaUnit) (c d : Case) → GoesFurther c d
    → (case_shown u c).end ≢ Going → (case_shown u c).end ≢ NoReply → case_shown u d ≡ case_shown u c

-- what of a reply is no junk: its words, and what it wrote
abbrev pub told_by : Reply → List ℕ × List Piece
told_by r = (r.words, r.writes)

-- two cases that differ in nothing but their junk, that of their replies among it, and the words of the collector
pub record DifferInJunk (c d : Case) : Type 0 where
  pub func : c.func ≡ d.func
  pub bound : c.bound ≡ d.bound
  pub args : c.args ≡ d.args
  pub syms : c.syms ≡ d.syms
  pub mem : c.mem ≡ d.mem
  pub replies : map told_by c.replies ≡ map told_by d.replies

-- such cases show the same
abbrev pub JunkIsNotShown : Type 0
JunkIsNotShown = (u : SsaUnit) (c d : Case) → DifferInJunk c d → case_shown u c ≡ case_shown u d
