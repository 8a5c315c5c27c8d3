-- Lists of vectors as lists of lists.
use Rattle.std.proofs.Common.{◌≡◌, ℕ, zero, suc, ◌<◌, List, [], ◌∷◌, length, get_or, set, map, replicate, Vec, Global}
use Rattle.std.proofs.Common.{refl, ap, ◌∙◌, arith}
use Rattle.std.specs.List.{All}
use Rattle.std.proofs.lemmas.List.{map-set}
use Rattle.std.proofs.lemmas.List.Elements.{All-tail}

-- lists that are all empty
pub map_empty : (n : ℕ) (lists : List (Vec ℕ Global)) → length lists ≡ n → All (λ v. v.items ≡ []) lists
    → map (λ v. v.items) lists ≡ replicate n []
map_empty zero [] n all = refl
map_empty zero (v ∷ lists) n all = cc
map_empty (suc n) [] m all = cc
map_empty (suc n) (v ∷ lists) m all =
    let here : v.items ≡ [] = all zero v (omega arith) in
    let rest : map (λ (w : Vec ℕ Global). w.items) lists ≡ replicate n [] =
    map_empty n lists (omega (arith, m)) (All-tail (λ w. w.items ≡ []) v lists all) in
    ap (λ xs. xs ∷ map (λ (w : Vec ℕ Global). w.items) lists) here ∙ ap (λ rest. [] ∷ rest) rest

pub map_set : (lists : List (Vec ℕ Global)) (i : ℕ) (v : Vec ℕ Global)
    → map (λ w. w.items) (set lists i v) ≡ set (map (λ w. w.items) lists) i v.items
map_set lists i v = map-set (λ (w : Vec ℕ Global). w.items) lists i v

pub get_map : (lists : List (Vec ℕ Global)) (i : ℕ) (d : Vec ℕ Global) → i < length lists
    → get_or (map (λ w. w.items) lists) i [] ≡ (get_or lists i d).items
get_map [] i d within = absurd (omega (arith, within))
get_map (v ∷ lists) zero d within = refl
get_map (v ∷ lists) (suc i) d within = get_map lists i d (omega (arith, within))
