use Rattle.std.proofs.Common.{◌≡◌, ◌++◌, take}
use Rattle.std.specs.List.{flat_map}
use Rattle.ssa_text.specs.Text.{func_text}
use Rattle.ssa_text.proofs.print.print_funcs.Given as goal

-- the functions so far are appended
abbrev pub invariant-loop-func : goal.invariant-loop-func
invariant-loop-func l = l.text.items ≡ l.fn.text.items ++ flat_map func_text (take l.func-index l.funcs)
