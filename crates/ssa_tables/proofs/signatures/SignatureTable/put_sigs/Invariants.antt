use Rattle.std.proofs.Common.{◌≡◌, map, take, nat_eq}
use Rattle.std.specs.Cmp.Lexicographic.{pointwise}
use Rattle.indexmap.specs.IndexSet.{insert_all}
use Rattle.ssa_tables.proofs.signatures.SignatureTable.put_sigs.Given as goal

-- the names of the `sig` lines so far are there
abbrev pub invariant-loop-sig : goal.invariant-loop-sig
invariant-loop-sig l =
    l.self ≡ insert_all (pointwise nat_eq) l.fn.self (map (λ s. s.name) (take l.sig-index l.sigs))
