use Rattle.std.proofs.Common.{◌∷◌, sym, ap, ◌∙◌}
use Rattle.ssa_lines.specs.Headers.{types_ahead}
use Rattle.ssa_lines.proofs.HeaderLemmas.{onto_group, onto_group-none, one_more_word}
use Rattle.ssa_lines.proofs.headers.read_types.Goals as goal

pub loop-scalar-init : goal.loop-scalar-init
loop-scalar-init c =
    let group = types_ahead (c.args.first.now ∷ c.args.words.now) in
    ap (λ types. onto_group types group) c.new-types.ensures ∙ onto_group-none group

pub loop-scalar-preserved : goal.loop-scalar-preserved
loop-scalar-preserved c =
    one_more_word _ _ _ c.loop-scalar.word.now _ _ _ (sym c.type_before.ensures ∙ c.in_default.is)
    (sym c.type_before-in-loop-scalar.ensures ∙ c.in-Some-type_before.is) c.in_ok-push-2.ensures.ok
    c.in-Some-next.ensures
    ∙ c.loop-scalar.invariant
