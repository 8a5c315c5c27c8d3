-- A search reaches what paths lead to, and nothing else: what holds while it goes on, as long as the node that it
-- began with hasn't come up again.
use Rattle.std.proofs.Common.{◌≡◌, ℕ, zero, suc, ◌<◌, ◌≢◌, ◌⊎◌, inl, inr, true, false, List, [], ◌∷◌, ◌++◌, length}
use Rattle.std.proofs.Common.{get_or, replicate, subst, sym, ap, ◌∙◌}
use Rattle.std.specs.List.{All}
use Rattle.std.proofs.lemmas.List.{length-replicate}
use Rattle.graphs.specs.Graphs.{ComesBack, among, has_edge, targets}
use Rattle.graphs.specs.Paths.{Leads}
use Rattle.graphs.specs.Searches.{Reached, is_seen, reach_all}
use Rattle.graphs.proofs.AmongLemmas.{among_here, among_front, among_back, among_last, among_within}
use Rattle.graphs.proofs.PathLemmas.{ends_in, leads_then}
use Rattle.graphs.proofs.ReachLemmas.{Grows, grows_all}

pub record Searches (graph : List (List ℕ)) (start : ℕ) (s : Reached) : Type 0 where
  pub nodes : length s.seen ≡ length graph
  pub leads : (k : ℕ) → is_seen s k ≡ true → Leads (has_edge graph) start k
  pub waiting_seen : (k : ℕ) → among s.waiting k ≡ true → is_seen s k ≡ true
  pub first : (v : ℕ) → has_edge graph start v ≡ true → is_seen s v ≡ true
  pub closed : (k : ℕ) → is_seen s k ≡ true
      → (among s.waiting k ≡ true) ⊎ ((v : ℕ) → has_edge graph k v ≡ true → is_seen s v ≡ true)
  pub start_waits : is_seen s start ≡ true → among s.waiting start ≡ true

abbrev pub nothing : ℕ → Reached
nothing n = record { seen = replicate n false; waiting = [] }

seen_false : (n k : ℕ) → get_or (replicate n false) k false ≡ true → ⊥
seen_false zero k h = cc
seen_false (suc n) zero h = cc
seen_false (suc n) (suc k) h = seen_false n k h

-- where nothing was reached, all that is reached is new
all_new : (n : ℕ) (t : Reached) (nodes : List ℕ) → Grows (nothing n) t nodes → (k : ℕ) → is_seen t k ≡ true
    → (among nodes k ≡ true) × (among t.waiting k ≡ true)
all_new n t nodes g k h = from_cases (g.seen_from k h)
  where
    from_cases : (is_seen (nothing n) k ≡ true) ⊎ ((among nodes k ≡ true) × (among t.waiting k ≡ true))
        → (among nodes k ≡ true) × (among t.waiting k ≡ true)
    from_cases (inl seen) = absurd (seen_false n k seen)
    from_cases (inr new) = new

begins_from : (graph : List (List ℕ)) (start : ℕ) (t : Reached)
    → Grows (nothing (length graph)) t (targets graph start)
    → Searches graph start t
begins_from graph start t g = record {
  nodes = g.same_length ∙ length-replicate (length graph) false;
  leads = λ k h. ([], (all_new (length graph) t (targets graph start) g k h).0);
  waiting_seen = λ k h. waits_by k (g.waits_from k h);
  first = λ v h. g.each_seen v h;
  closed = λ k h. inl (all_new (length graph) t (targets graph start) g k h).1;
  start_waits = λ h. (all_new (length graph) t (targets graph start) g start h).1;
}
  where
    waits_by : (k : ℕ) → (false ≡ true) ⊎ (is_seen t k ≡ true) → is_seen t k ≡ true
    waits_by k (inl none) = cc
    waits_by k (inr seen) = seen

-- a search begins with the nodes behind the first
pub begins : (graph : List (List ℕ)) (start : ℕ) → All (λ v. v < length graph) (targets graph start)
    → Searches graph start (reach_all (nothing (length graph)) (targets graph start))
begins graph start within =
    begins_from graph start (reach_all (nothing (length graph)) (targets graph start))
    (grows_all (nothing (length graph)) (targets graph start)
    (λ k h. subst (λ m. k < m) (sym (length-replicate (length graph) false))
    (among_within (length graph) (targets graph start) within k h)))

module _ (graph : List (List ℕ)) (start node : ℕ) (s rest t : Reached) (same : rest.seen ≡ s.seen)
    (taken : s.waiting ≡ rest.waiting ++ node ∷ []) (differ : node ≢ start) (search : Searches graph start s)
    (g : Grows rest t (targets graph node)) where
  seen_before : (k : ℕ) → is_seen rest k ≡ true → is_seen s k ≡ true
  seen_before k h = subst (λ seen. get_or seen k false ≡ true) same h

  seen_after : (k : ℕ) → is_seen s k ≡ true → is_seen t k ≡ true
  seen_after k h = g.seen_stays k (subst (λ seen. get_or seen k false ≡ true) (sym same) h)

  waited : (k : ℕ) → among s.waiting k ≡ true → (among rest.waiting k ≡ true) ⊎ (node ≡ k)
  waited k h = among_last rest.waiting node k (subst (λ waiting. among waiting k ≡ true) taken h)

  rest_waited : (k : ℕ) → among rest.waiting k ≡ true → among s.waiting k ≡ true
  rest_waited k h =
      subst (λ waiting. among waiting k ≡ true) (sym taken) (among_front rest.waiting (node ∷ []) k h)

  node_seen : is_seen s node ≡ true
  node_seen =
      search.waiting_seen node (subst (λ waiting. among waiting node ≡ true) (sym taken)
      (among_back rest.waiting (node ∷ []) node (among_here node [])))

  leads_by : (k : ℕ) → (is_seen rest k ≡ true) ⊎ ((has_edge graph node k ≡ true) × (among t.waiting k ≡ true))
      → Leads (has_edge graph) start k
  leads_by k (inl seen) = search.leads k (seen_before k seen)
  leads_by k (inr new) = leads_then (has_edge graph) start node k (search.leads node node_seen) new.0

  waits_by : (k : ℕ) → (among rest.waiting k ≡ true) ⊎ (is_seen t k ≡ true) → is_seen t k ≡ true
  waits_by k (inl waits) = seen_after k (search.waiting_seen k (rest_waited k waits))
  waits_by k (inr seen) = seen

  abbrev Closed : ℕ → Type 0
  Closed k = (among t.waiting k ≡ true) ⊎ ((v : ℕ) → has_edge graph k v ≡ true → is_seen t v ≡ true)

  closed_waiting : (k : ℕ) → (among rest.waiting k ≡ true) ⊎ (node ≡ k) → Closed k
  closed_waiting k (inl waits) = inl (g.waits_on k waits)
  closed_waiting k (inr here) = inr (λ v h. g.each_seen v (subst (λ i. has_edge graph i v ≡ true) (sym here) h))

  closed_before : (k : ℕ) → (among s.waiting k ≡ true) ⊎ ((v : ℕ) → has_edge graph k v ≡ true → is_seen s v ≡ true)
      → Closed k
  closed_before k (inl waits) = closed_waiting k (waited k waits)
  closed_before k (inr all) = inr (λ v h. seen_after v (all v h))

  closed_by : (k : ℕ) → (is_seen rest k ≡ true) ⊎ ((has_edge graph node k ≡ true) × (among t.waiting k ≡ true))
      → Closed k
  closed_by k (inl seen) = closed_before k (search.closed k (seen_before k seen))
  closed_by k (inr new) = inl new.1

  start_rest : (among rest.waiting start ≡ true) ⊎ (node ≡ start) → among t.waiting start ≡ true
  start_rest (inl waits) = g.waits_on start waits
  start_rest (inr here) = absurd (differ here)

  start_by : (is_seen rest start ≡ true) ⊎ ((has_edge graph node start ≡ true) × (among t.waiting start ≡ true))
      → among t.waiting start ≡ true
  start_by (inl seen) = start_rest (waited start (search.start_waits (seen_before start seen)))
  start_by (inr new) = new.1

  follows_from : Searches graph start t
  follows_from = record {
    nodes = g.same_length ∙ ap length same ∙ search.nodes;
    leads = λ k h. leads_by k (g.seen_from k h);
    waiting_seen = λ k h. waits_by k (g.waits_from k h);
    first = λ v h. seen_after v (search.first v h);
    closed = λ k h. closed_by k (g.seen_from k h);
    start_waits = λ h. start_by (g.seen_from start h);
  }

-- all nodes behind one that waited are reached
pub follow_grows : (graph : List (List ℕ)) (node : ℕ) (s rest : Reached) → rest.seen ≡ s.seen
    → All (λ v. v < length graph) (targets graph node)
    → length s.seen ≡ length graph → Grows rest (reach_all rest (targets graph node)) (targets graph node)
follow_grows graph node s rest same within nodes =
    grows_all rest (targets graph node)
    (λ k h. subst (λ m. k < m) (sym (ap length same ∙ nodes))
    (among_within (length graph) (targets graph node) within k h))

-- one step: a node that waited is left, and all nodes behind it are reached
pub follows : (graph : List (List ℕ)) (start node : ℕ) (s rest : Reached) → rest.seen ≡ s.seen
    → s.waiting ≡ rest.waiting ++ node ∷ []
    → node ≢ start → All (λ v. v < length graph) (targets graph node) → Searches graph start s
    → Searches graph start (reach_all rest (targets graph node))
follows graph start node s rest same taken differ within search =
    follows_from graph start node s rest (reach_all rest (targets graph node)) same taken differ search
    (follow_grows graph node s rest same within search.nodes)

-- where the first node waits, it comes back to itself
pub found : (graph : List (List ℕ)) (start : ℕ) (s : Reached) (rest : List ℕ) → s.waiting ≡ rest ++ start ∷ []
    → Searches graph start s
    → ComesBack graph start
found graph start s rest taken search =
    search.leads start (search.waiting_seen start
    (subst (λ waiting. among waiting start ≡ true) (sym taken)
    (among_back rest (start ∷ []) start (among_here start []))))

-- where none waits, it doesn't
pub ended : (graph : List (List ℕ)) (start : ℕ) (s : Reached) → s.waiting ≡ [] → Searches graph start s
    → ComesBack graph start → ⊥
ended graph start s none search back = start_seen (search.start_waits reached)
  where
    no_wait : (k : ℕ) → among s.waiting k ≡ true → ⊥
    no_wait k h = let e : false ≡ true = sym (ap (λ waiting. among waiting k) none) ∙ h in cc

    by_cases : (k v : ℕ) → has_edge graph k v ≡ true
        → (among s.waiting k ≡ true) ⊎ ((w : ℕ) → has_edge graph k w ≡ true → is_seen s w ≡ true)
        → is_seen s v ≡ true
    by_cases k v edge (inl waits) = absurd (no_wait k waits)
    by_cases k v edge (inr all) = all v edge

    reached : is_seen s start ≡ true
    reached =
        ends_in (has_edge graph) (λ k. is_seen s k ≡ true) (λ k v here edge. by_cases k v edge (search.closed k here))
        start search.first
        back.0 start back.1

    start_seen : among s.waiting start ≡ true → ⊥
    start_seen = no_wait start
