use Rattle.std.proofs.Common.{◌≡◌, map, take}
use Rattle.sum_compile.specs.Plain.{plain_listing}
use Rattle.sum_compile.proofs.plain.allocate_all.Given as goal

-- the functions so far have their listings
abbrev pub invariant-loop-func : goal.invariant-loop-func
invariant-loop-func l = l.listings ≡ map (plain_listing l.regs) (take l.func-index l.funcs)
