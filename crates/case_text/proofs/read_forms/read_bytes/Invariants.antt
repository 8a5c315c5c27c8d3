use Rattle.std.proofs.Common.{◌≡◌, length}
use Rattle.case_text.specs.CaseForms.{bytes_in}
use Rattle.case_text.proofs.FormBytesLemmas.{bytes_behind}
use Rattle.case_text.proofs.read_forms.read_bytes.Given as goal

-- the bytes so far and those of the digits left are those of all digits
abbrev pub invariant-loop-high : goal.invariant-loop-high
invariant-loop-high l = bytes_behind l.bytes (bytes_in l.rest) ≡ bytes_in l.digits

abbrev pub decreases-loop-high : goal.decreases-loop-high
decreases-loop-high l = length l.rest
