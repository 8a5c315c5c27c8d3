use Rattle.std.proofs.Common.{◌≡◌, ℕ, ◌<◌, List, [], ◌∷◌, ◌++◌, length, refl, sym, subst, ap, ◌∙◌, arith}
use Rattle.std.specs.List.{All}
use Rattle.std.proofs.lemmas.List.{length-append}
use Rattle.graphs.specs.Graphs.{ComesBack, targets}
use Rattle.graphs.specs.Searches.{reach_all, unseen, work}
use Rattle.graphs.proofs.ReachLemmas.{Grows}
use Rattle.graphs.proofs.SearchLemmas.{Searches, nothing, begins, follows, follow_grows, found, ended}
use Rattle.graphs.proofs.search.comes_back.Goals as goal

pub loop-node-init : goal.loop-node-init
loop-node-init c =
    let graph : List (List ℕ) = c.args.graph.now in
    let value : c.targets.result.now ≡ targets graph c.args.start = c.targets.ensures.value in
    let within : All (λ v. v < length graph) (targets graph c.args.start) =
    subst (All (λ v. v < length graph)) value c.targets.ensures.within in
    let empty : c.in_ok-search.search ≡ nothing (length graph) = c.in_ok-search.ensures ∙ ap nothing c.len.ensures in
    let reached : c.reach_all.new.self ≡ reach_all c.in_ok-search.search c.targets.result.now =
    c.in_ok-reach_all.ensures in
    subst (Searches graph c.args.start)
    (sym (reached ∙ ap (λ s. reach_all s c.targets.result.now) empty ∙ ap (reach_all (nothing (length graph))) value))
    (begins graph c.args.start within)

pub returns-then-node-start : goal.returns-then-node-start
returns-then-node-start c =
    let taken : c.loop-node.search.waiting ≡ c.next.new.self.waiting ++ c.in-Some.node ∷ [] = c.in-Some.ensures.taken in
    let back : ComesBack c.args.graph.now c.args.start =
    found c.args.graph.now c.args.start c.loop-node.search c.next.new.self.waiting
    (taken ∙ ap (λ n. c.next.new.self.waiting ++ n ∷ []) c.if-node-start.true) c.loop-node.invariant in
    (λ e. back, λ h. refl)

pub loop-node-smaller : goal.loop-node-smaller
loop-node-smaller c =
    let graph : List (List ℕ) = c.args.graph.now in
    let taken : c.loop-node.search.waiting ≡ c.next.new.self.waiting ++ c.in-Some.node ∷ [] = c.in-Some.ensures.taken in
    let value : c.targets-in-Some.result.now ≡ targets graph c.in-Some.node = c.targets-in-Some.ensures.value in
    let within : All (λ v. v < length graph) (targets graph c.in-Some.node) =
    subst (All (λ v. v < length graph)) value c.targets-in-Some.ensures.within in
    let seen : c.next.new.self.seen ≡ c.loop-node.search.seen = c.in-Some.ensures.seen in
    let reached : c.reach_all-in-Some.new.self ≡ reach_all c.next.new.self c.targets-in-Some.result.now =
    c.in_ok-reach_all-2.ensures in
    let grows : Grows c.next.new.self (reach_all c.next.new.self (targets graph c.in-Some.node))
    (targets graph c.in-Some.node) =
    follow_grows graph c.in-Some.node c.loop-node.search c.next.new.self seen within c.loop-node.invariant.nodes in
    let same : work c.reach_all-in-Some.new.self ≡ work c.next.new.self =
    ap work (reached ∙ ap (reach_all c.next.new.self) value) ∙ grows.same_work in
    omega (arith, same, ap length taken, length-append c.next.new.self.waiting (c.in-Some.node ∷ []), ap unseen seen)

pub loop-node-preserved : goal.loop-node-preserved
loop-node-preserved c =
    let graph : List (List ℕ) = c.args.graph.now in
    let taken : c.loop-node.search.waiting ≡ c.next.new.self.waiting ++ c.in-Some.node ∷ [] = c.in-Some.ensures.taken in
    let value : c.targets-in-Some.result.now ≡ targets graph c.in-Some.node = c.targets-in-Some.ensures.value in
    let within : All (λ v. v < length graph) (targets graph c.in-Some.node) =
    subst (All (λ v. v < length graph)) value c.targets-in-Some.ensures.within in
    let reached : c.reach_all-in-Some.new.self ≡ reach_all c.next.new.self c.targets-in-Some.result.now =
    c.in_ok-reach_all-2.ensures in
    subst (Searches graph c.args.start) (sym (reached ∙ ap (reach_all c.next.new.self) value))
    (follows graph c.args.start c.in-Some.node c.loop-node.search c.next.new.self c.in-Some.ensures.seen taken
    c.if-node-start.false within
    c.loop-node.invariant)

pub returns : goal.returns
returns c =
    let none : c.loop-node.search.waiting ≡ [] = c.in_default.ensures.ended in
    (λ e. cc, λ h. absurd (ended c.args.graph.now c.args.start c.loop-node.search none c.loop-node.invariant h))
