-- The graph of nodes and edges has exactly these edges.
use Rattle.std.proofs.Common.{◌≡◌, ℕ, zero, suc, ◌==◌, ◌<◌, ◌⊎◌, inl, inr, Bool, true, false, ◌&&◌, ◌||◌, List, [], ◌∷◌}
use Rattle.std.proofs.Common.{◌++◌, length, get_or, set, map, replicate, Vec, Global, refl, subst, sym, ap, ◌∙◌, arith}
use Rattle.std.specs.List.{All, fold, list_any}
use Rattle.std.proofs.lemmas.Bool.{cases_eq, eq-eqb, ne_eqb}
use Rattle.std.proofs.lemmas.List.{get_or-set_other, get_or-set_same, length-replicate, length-set, map-set}
use Rattle.std.proofs.lemmas.List.Elements.{All-head, All-tail}
use Rattle.std.proofs.lemmas.List.Folds.{list_any-append}
use Rattle.graphs.specs.declared.graph.Edge.{Edge}
use Rattle.graphs.specs.Graphs.{among, graph_of, has_edge, targets, with_edge}

-- ---- the edges of a graph

abbrev pub is_edge : (u v : ℕ) → Edge → Bool
is_edge u v e = (e.source == u) && (e.target == v)

abbrev pub have_edge : List Edge → (u v : ℕ) → Bool
have_edge edges u v = list_any (is_edge u v) edges

or_assoc : (a b c : Bool) → ((a || b) || c) ≡ (a || (b || c))
or_assoc true b c = refl
or_assoc false b c = refl

or_none : (a : Bool) → (a || false) ≡ a
or_none true = refl
or_none false = refl

-- one more edge
one_more : (graph : List (List ℕ)) (e : Edge) (u v : ℕ) → e.source < length graph
    → has_edge (with_edge graph e) u v ≡ (has_edge graph u v || is_edge u v e)
one_more graph e u v within = by_source (cases_eq u e.source)
  where
    by_source : (u ≡ e.source) ⊎ (u ≡ e.source → ⊥)
        → has_edge (with_edge graph e) u v ≡ (has_edge graph u v || is_edge u v e)
    by_source (inl same) =
        let here : targets (with_edge graph e) u ≡ targets graph u ++ e.target ∷ [] =
        ap (targets (with_edge graph e)) same
        ∙ get_or-set_same graph e.source (targets graph e.source ++ e.target ∷ []) [] within
        ∙ ap (λ i. targets graph i ++ e.target ∷ []) (sym same) in
        ap (λ nodes. among nodes v) here ∙ list_any-append (λ n. n == v) (targets graph u) (e.target ∷ [])
        ∙ ap (λ b. among (targets graph u) v || b)
        (or_none (e.target == v) ∙ ap (λ b. b && (e.target == v)) (sym (eq-eqb e.source u (sym same))))
    by_source (inr differ) =
        ap (λ nodes. among nodes v)
        (get_or-set_other graph e.source u (targets graph e.source ++ e.target ∷ []) [] differ)
        ∙ sym (or_none (has_edge graph u v))
        ∙ ap (λ b. has_edge graph u v || (b && (e.target == v))) (sym (ne_eqb e.source u (λ same. differ (sym same))))

fold_edges : (graph : List (List ℕ)) (edges : List Edge) (u v : ℕ) → All (λ e. e.source < length graph) edges
    → has_edge (fold with_edge graph edges) u v ≡ (has_edge graph u v || have_edge edges u v)
fold_edges graph [] u v within = sym (or_none (has_edge graph u v))
fold_edges graph (e ∷ edges) u v within =
    let rest : All (λ d. d.source < length graph) edges = All-tail (λ d. d.source < length graph) e edges within in
    let longer : All (λ d. d.source < length (with_edge graph e)) edges =
    subst (λ n. All (λ d. d.source < n) edges)
    (sym (length-set graph e.source (targets graph e.source ++ e.target ∷ []))) rest in
    fold_edges (with_edge graph e) edges u v longer
    ∙ ap (λ b. b || have_edge edges u v) (one_more graph e u v (All-head (λ d. d.source < length graph) e edges within))
    ∙ or_assoc (has_edge graph u v) (is_edge u v e) (have_edge edges u v)

no_targets : (n u : ℕ) → targets (replicate n []) u ≡ []
no_targets zero u = refl
no_targets (suc n) zero = refl
no_targets (suc n) (suc u) = no_targets n u

no_edge : (n u v : ℕ) → has_edge (replicate n []) u v ≡ false
no_edge n u v = ap (λ (nodes : List ℕ). among nodes v) (no_targets n u)

-- the graph of some edges has these
pub graph_has : (n : ℕ) (edges : List Edge) (u v : ℕ) → All (λ e. e.source < n) edges
    → has_edge (graph_of n edges) u v ≡ have_edge edges u v
graph_has n edges u v within =
    fold_edges (replicate n []) edges u v
    (subst (λ m. All (λ e. e.source < m) edges) (sym (length-replicate n [])) within)
    ∙ ap (λ b. b || have_edge edges u v) (no_edge n u v)
