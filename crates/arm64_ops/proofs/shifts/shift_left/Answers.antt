use Rattle.std.proofs.Common.{ap, cond, sym, ◌∙◌, ◌*◌, ◌^◌}
use Rattle.std.proofs.lemmas.Bool.{lt-ltb}
use Rattle.gossa_base.specs.Words.{low}
use Rattle.gossa_base.proofs.WordLemmas.{low_of_word}
use Rattle.arm64_ops.proofs.shifts.shift_left.Goals as goal

pub returns-then-count-lt64 : goal.returns-then-count-lt64
returns-then-count-lt64 c =
    let shifted = c.args.a * 2 ^ c.args.count in
    c.low.ensures
    ∙ low_of_word c.args.k shifted c.requires.at_most_all
    ∙ ap (λ t. cond t (low c.args.k shifted) 0) (sym (lt-ltb c.args.count 64 c.if-count-lt64.true))
