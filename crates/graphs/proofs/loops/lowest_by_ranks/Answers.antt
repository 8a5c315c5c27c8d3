use Rattle.std.proofs.Common.{◌≡◌, length, true, None, Some, IfSome, refl, sym, subst, ◌∙◌}
use Rattle.graphs.specs.Graphs.{ComesBack}
use Rattle.graphs.specs.Loops.{LeastOnLoop}
use Rattle.graphs.specs.Ranks.{IsOrdered}
use Rattle.graphs.proofs.LoopLemmas.{none_by_ranks, some_by_ranks, staying_within}
use Rattle.graphs.proofs.loops.lowest_by_ranks.Goals as goal

pub returns-in_default-clause-least : goal.returns-in_default-clause-least
returns-in_default-clause-least c =
    let ordered : IsOrdered c.args.graph.now c.args.ranks.now = c.if-not-is_ordered.ensures.0 refl in
    λ lowest e. let same : None ≡ lowest = cc in
    subst (LeastOnLoop c.args.graph.now c.args.names.now) same
    (none_by_ranks c.args.graph.now c.args.ranks.now c.args.names.now ordered c.in_default.ensures)

pub comes_back-requires : goal.comes_back-requires
comes_back-requires c =
    staying_within (length c.args.graph.now) c.args.graph.now c.args.ranks.now c.args.names.now c.in-Some.lowest
    c.requires.nodes
    c.in-Some.ensures

pub returns-then-branch-clause-least : goal.returns-then-branch-clause-least
returns-then-branch-clause-least c =
    let ordered : IsOrdered c.args.graph.now c.args.ranks.now = c.if-not-is_ordered.ensures.0 refl in
    let back : ComesBack c.args.graph.now c.in-Some.lowest.node = c.in_ok-comes_back.ensures.0 c.if-branch.true in
    λ lowest e. let same : Some c.in-Some.lowest ≡ lowest = cc in
    subst (LeastOnLoop c.args.graph.now c.args.names.now) same
    (some_by_ranks c.args.graph.now c.args.ranks.now c.args.names.now c.in-Some.lowest ordered c.in-Some.ensures back)

pub returns-clause-exact : goal.returns-clause-exact
returns-clause-exact c = λ lowest shows.
    let back : ComesBack c.args.graph.now c.in-Some.lowest.node =
    subst (λ o. IfSome o (λ x. ComesBack c.args.graph.now x.node)) (sym (c.in-Some.ensures ∙ shows.is_lowest))
    shows.back in
    let yes_back : c.in_ok-comes_back.field-0 ≡ true = c.in_ok-comes_back.ensures.1 back in
    cc
