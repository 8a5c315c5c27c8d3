use Rattle.std.proofs.Common.{◌≡◌, map, take}
use Rattle.case_text.proofs.read.names_of.Given as goal

-- the names so far
abbrev pub invariant-loop-func : goal.invariant-loop-func
invariant-loop-func l = l.names ≡ map (λ s. s.name) (take l.func-index l.funcs)
