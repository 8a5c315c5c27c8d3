use Rattle.std.proofs.Common.{◌≡◌, nat_eq, take}
use Rattle.std.specs.List.{list_any}
use Rattle.gossa_base.specs.declared.ids.ValueId.{ValueId}
use Rattle.ssa_check.specs.tables.ChainLinks.{is_taken}
use Rattle.ssa_check.proofs.chains.taken_numbers.Given as goal

-- the memories that those so far take
abbrev pub invariant-loop-link : goal.invariant-loop-link
invariant-loop-link l =
    (id : ValueId) → list_any (nat_eq id.0) l.numbers.keys ≡ is_taken id (take l.link-index l.found)
