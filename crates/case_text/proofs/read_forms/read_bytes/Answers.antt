use Rattle.std.proofs.Common.{sym, ◌∙◌}
use Rattle.case_text.proofs.FormBytesLemmas.{more_bytes}
use Rattle.case_text.proofs.read_forms.read_bytes.Goals as goal

pub loop-high-preserved : goal.loop-high-preserved
loop-high-preserved c =
    more_bytes _ _ _ _ _ _ _ _ c.in-Some.ensures.cases.0 c.in-Some-split_first.ensures.cases.0
    (sym c.byte_of.ensures ∙ c.in-Some-byte_of.is) c.in_ok-push.ensures.ok
    ∙ c.loop-high.invariant
