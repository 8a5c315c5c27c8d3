use Rattle.std.proofs.Common.{◌≡◌, ◌++◌, take}
use Rattle.ssa_ir.specs.Lookups.{func_sigs}
use Rattle.gossa_core.proofs.run.push_func_sigs.Given as goal

-- the signatures of the functions so far stand behind the others
abbrev pub invariant-loop-func : goal.invariant-loop-func
invariant-loop-func l = l.all.items ≡ l.fn.all.items ++ func_sigs (take l.func-index l.funcs)
