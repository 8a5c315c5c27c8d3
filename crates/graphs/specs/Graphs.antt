-- Graphs over numbered nodes: for each node those to which it has an edge.
use Rattle.std.specs.Prelude.{ℕ, ◌==◌, Bool, List, [], ◌∷◌, ◌++◌, replicate, slice_index_or, slice_set}
use Rattle.std.specs.List.{fold, list_any}
use Rattle.graphs.specs.declared.graph.Edge.{Edge}
use Rattle.graphs.specs.Paths.{Leads}

abbrev pub among : List ℕ → ℕ → Bool
among nodes v = list_any (λ n. n == v) nodes

abbrev pub targets : (graph : List (List ℕ)) → ℕ → List ℕ
targets graph u = slice_index_or graph u []

abbrev pub has_edge : (graph : List (List ℕ)) → ℕ → ℕ → Bool
has_edge graph u v = among (targets graph u) v

-- some path leads from a node back to it
abbrev pub ComesBack : (graph : List (List ℕ)) → ℕ → Type 0
ComesBack graph u = Leads (has_edge graph) u u

abbrev pub with_edge : (graph : List (List ℕ)) → Edge → List (List ℕ)
with_edge graph e = slice_set graph e.source (targets graph e.source ++ e.target ∷ [])

-- the graph of so many nodes and these edges
abbrev pub graph_of : (nodes : ℕ) → List Edge → List (List ℕ)
graph_of nodes edges = fold with_edge (replicate nodes []) edges
