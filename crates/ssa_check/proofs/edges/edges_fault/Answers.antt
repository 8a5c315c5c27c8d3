use Rattle.std.proofs.Common.{◌≡◌, ◌∙◌, IsPermutation, MatchOption, not, subst, sym}
use Rattle.std.proofs.lemmas.Bool.{not-true, not_from_false}
use Rattle.ssa_check.specs.declared.refusal.Check.TheVariants.{Edges}
use Rattle.ssa_check.specs.BlockChecks.{edges_hold}
use Rattle.ssa_check.specs.tables.EdgeTables.{all_outgoing, all_incoming, first_difference}
use Rattle.ssa_check.specs.Failing.{Meets, LeastPlace}
use Rattle.ssa_check.specs.tables.Lowest.{lowest_block}
use Rattle.ssa_check.proofs.EdgeLemmas.{edges_lowest}
use Rattle.ssa_check.proofs.PlaceLemmas.{block_place}
use Rattle.ssa_check.proofs.edges.edges_fault.Goals as goal

pub returns : goal.returns
returns c = λ u.
    let f = c.args.func.now in
    let left = c.sorted-outgoing.result.items in
    let right = c.sorted-incoming.result.items in
    let moved_left : IsPermutation (all_outgoing f) left =
    subst (λ l. IsPermutation l left) c.in_ok-all_outgoing.ensures c.sorted-outgoing.ensures.permutation in
    let moved_right : IsPermutation (all_incoming f) right =
    subst (λ l. IsPermutation l right) c.in_ok-all_incoming.ensures c.sorted-incoming.ensures.permutation in
    let lowest : c.first_difference.result ≡ lowest_block (λ b. not (edges_hold f b)) f =
    c.first_difference.ensures
    ∙ (λ i. first_difference (c.as_slice.ensures.value i) (c.as_slice-2.ensures.value i))
    ∙ edges_lowest f c.requires left right moved_left c.sorted-outgoing.ensures.sorted moved_right
    c.sorted-incoming.ensures.sorted in
    let place = block_place Edges u f (λ b. not (edges_hold f b)) c.requires (λ none. none) (λ b v none. none)
    (λ b. not-true (edges_hold f b)) (λ b. not_from_false (edges_hold f b)) in
    subst (λ o. MatchOption o (Meets Edges u f) (LeastPlace Edges u f)) (sym c.place_of_block.ensures)
    (place c.first_difference.result lowest)
