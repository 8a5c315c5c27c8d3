use Rattle.std.proofs.Common.{◌≡◌, find, drop}
use Rattle.ssa_ir.specs.Lookups.{is_of, func_sigs}
use Rattle.ssa_ir.proofs.lookups.func_sig_in.Given as goal

-- none so far has the name
abbrev pub invariant-loop-func : goal.invariant-loop-func
invariant-loop-func l =
    find (is_of l.name) (func_sigs l.funcs) ≡ find (is_of l.name) (func_sigs (drop l.func-index l.funcs))
