use Rattle.std.proofs.Common.{◌≡◌, drop}
use Rattle.std.specs.List.{position_from}
use Rattle.ssa_ir.specs.Lookups.{is_of}
use Rattle.ssa_ir.proofs.func.SsaUnit.func_named.Given as goal

-- none so far has the name
abbrev pub invariant-loop-number : goal.invariant-loop-number
invariant-loop-number l = position_from (λ f. is_of l.name f.sig) 0 l.self.funcs
    ≡ position_from (λ f. is_of l.name f.sig) l.number (drop l.number l.self.funcs)
