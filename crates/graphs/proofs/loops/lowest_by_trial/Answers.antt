use Rattle.std.proofs.Common.{ℕ, ◌+◌, Bool, List, get_or, take, Decides, sym, subst, ap, ◌∙◌}
use Rattle.graphs.specs.declared.loops.Named.{Named}
use Rattle.graphs.specs.Graphs.{ComesBack}
use Rattle.graphs.specs.Loops.{LeastOnLoop, lower_if}
use Rattle.graphs.proofs.LoopLemmas.{trial_more}
use Rattle.graphs.proofs.loops.lowest_by_trial.Goals as goal
use Rattle.graphs.proofs.loops.lowest_by_trial.Goals.{then-branch, else-branch}

pub loop-name-preserved : goal.loop-name-preserved
loop-name-preserved c =
    let graph : List (List ℕ) = c.args.graph.now in
    let names : List Named = c.args.names.now in
    let i : ℕ = c.loop-name.name-index in
    let d : Named = record { node = 0; number = 0 } in
    let back : Bool = c.in_ok-comes_back.field-0 in
    let decides : Decides back (ComesBack graph (get_or names i d).node) = c.in_ok-comes_back.ensures in
    let more : LeastOnLoop graph (take (i + 1) names) (lower_if back c.loop-name.lowest (get_or names i d)) =
    trial_more graph names i d back c.loop-name.lowest c.loop-name-test.true decides c.loop-name.invariant in
    elim c.if-branch.branch [
      | then-branch w ↦
          subst (LeastOnLoop graph (take (i + 1) names))
          (ap (λ b. lower_if b c.loop-name.lowest (get_or names i d)) w.if-branch.true
          ∙ sym (w.lowest-is ∙ w.lower-lowest.ensures)) more
      | else-branch w ↦
          subst (LeastOnLoop graph (take (i + 1) names))
          (ap (λ b. lower_if b c.loop-name.lowest (get_or names i d)) w.if-branch.false ∙ sym w.lowest-is) more
    ]
