use Rattle.std.proofs.Common.{◌≡◌, map, take, nat_eq}
use Rattle.std.specs.Cmp.Lexicographic.{pointwise}
use Rattle.indexmap.specs.IndexSet.{insert_all}
use Rattle.ssa_tables.proofs.signatures.SignatureTable.put_funcs.Given as goal

-- the names of the functions so far are there
abbrev pub invariant-loop-func : goal.invariant-loop-func
invariant-loop-func l =
    l.self ≡ insert_all (pointwise nat_eq) l.fn.self (map (λ f. f.sig.name) (take l.func-index l.funcs))
