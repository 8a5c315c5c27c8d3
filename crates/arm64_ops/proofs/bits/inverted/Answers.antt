use Rattle.std.proofs.Common.{ap, ◌∙◌, ◌-◌, ◌^◌, arith}
use Rattle.std.proofs.lemmas.Nat.{mod_below, pow_pos}
use Rattle.gossa_base.proofs.WordLemmas.{low_mask}
use Rattle.arm64_ops.proofs.bits.inverted.Goals as goal

pub overflow_sub-result-2 : goal.overflow_sub-result-2
overflow_sub-result-2 c =
    let k = c.args.k in
    omega (arith, c.low.ensures, mod_below c.args.a (2 ^ k) (pow_pos k), low_mask k c.requires.at_most_all)

pub returns : goal.returns
returns c =
    ap (λ n. n - c.low.result) (low_mask c.args.k c.requires.at_most_all) ∙ ap (λ n. 2 ^ c.args.k - 1 - n) c.low.ensures
