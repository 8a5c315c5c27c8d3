-- Paths along edges, whatever the edges are.
use Rattle.std.specs.Prelude.{◌≡◌, ℕ, Bool, true, List, [], ◌∷◌}

-- from a node over those of a list to a last one, each step along an edge
abbrev pub IsPath : (edge : ℕ → ℕ → Bool) → ℕ → List ℕ → ℕ → Type 0
IsPath edge u [] last = edge u last ≡ true
IsPath edge u (v ∷ nodes) last = (edge u v ≡ true) × IsPath edge v nodes last

-- some path leads from one node to another
abbrev pub Leads : (edge : ℕ → ℕ → Bool) → ℕ → ℕ → Type 0
Leads edge u v = (nodes : List ℕ) × IsPath edge u nodes v
