use Rattle.std.proofs.Common.{◌≡◌, map, take}
use Rattle.ssa_text.proofs.reader.whole_names.Given as goal

-- the names so far
abbrev pub invariant-loop-func : goal.invariant-loop-func
invariant-loop-func l = l.names ≡ map (λ f. f.sig.name) (take l.func-index l.funcs)
