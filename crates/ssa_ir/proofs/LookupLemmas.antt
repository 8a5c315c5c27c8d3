-- Look-ups in lists that are put together.
use Rattle.std.proofs.Common.{◌≡◌, Bool, ℕ, suc, ◌+◌, ◌<◌, List, ◌++◌, length, drop, get_or, find, None, Some, ap, sym}
use Rattle.std.proofs.Common.{◌∙◌, arith}
use Rattle.std.specs.List.{flat_map}
use Rattle.std.specs.Option.{option_or}
use Rattle.std.proofs.Math.Seq.{drop-cons}
use Rattle.std.proofs.lemmas.List.Folds.{find-append}
use Rattle.ssa_ir.specs.declared.func.Value.{Value}
use Rattle.ssa_ir.specs.declared.func.Block.{Block}

-- what is found first in the front is found
pub found_in_front : {X : Type 0} (test : X → Bool) (xs ys : List X) (x : X) → Some x ≡ find test xs
    → Some x ≡ find test (xs ++ ys)
found_in_front test xs ys x e = ap (λ o. option_or o (find test ys)) e ∙ sym (find-append test xs ys)

-- what isn't in the front is looked for behind it
pub found_behind : {X : Type 0} (test : X → Bool) (xs ys : List X) → None ≡ find test xs
    → find test ys ≡ find test (xs ++ ys)
found_behind test xs ys e = ap (λ o. option_or o (find test ys)) e ∙ sym (find-append test xs ys)

-- the values of blocks
abbrev pub all_values : List Block → List Value
all_values blocks = flat_map (λ b. b.values) blocks

-- the values of the blocks from number i on are those of block i, and those of the blocks behind it
pub values_from : (blocks : List Block) (i : ℕ) (b : Block) → i < length blocks
    → all_values (drop i blocks) ≡ (get_or blocks i b).values ++ all_values (drop (i + 1) blocks)
values_from blocks i b lt =
    let next : suc i ≡ i + 1 = omega arith in
    ap all_values (drop-cons blocks i b lt) ∙ ap (λ n. (get_or blocks i b).values ++ all_values (drop n blocks)) next
