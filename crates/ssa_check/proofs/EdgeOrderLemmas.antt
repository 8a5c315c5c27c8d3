-- Of two lists of edges in order, the first difference is the lowest target of an edge that they don't have equally
-- often.
use Rattle.std.proofs.Common.{◌≡◌, ◌≢◌, ℕ, zero, suc, ◌+◌, ◌≤◌, ◌<◌, ◌⊎◌, inl, inr, Bool, true, false, cond, eqb}
use Rattle.std.proofs.Common.{nat_lt, if◌then◌else◌, List, [], ◌∷◌, length, drop, get_or, filter, Option, Some}
use Rattle.std.proofs.Common.{slice_get, refl, subst, sym, ap, ◌∙◌, IsPermutation, IsSorted, is_lt, nat_cmp, Less}
use Rattle.std.proofs.Common.{Equal, Greater, arith}
use Rattle.std.specs.Ordering.{ordering_then}
use Rattle.std.proofs.lemmas.Bool.{ltb-true, ltb-false, eqb-true, eqb-false, eq-eqb, ne_eqb, and_left, and_right}
use Rattle.std.proofs.lemmas.Bool.{and_parts, and_from, cases_lt, cases_order}
use Rattle.std.proofs.lemmas.List.Sorted.{sum_by-IsPermutation}
use Rattle.std.proofs.lemmas.List.Sums.{length-filter}
use Rattle.std.proofs.lemmas.Map.Keys.{ge_from_not_lt}
use Rattle.ssa_check.specs.declared.edges.Edge.{Edge}
use Rattle.ssa_check.specs.tables.EdgeTables.{same_edge, edge_cmp, lower_target, common_len, first_difference}
use Rattle.ssa_check.proofs.LowestLemmas.{IsLowest, same_lowest}

none_alike : (edges : List Edge) → common_len edges [] ≡ 0
none_alike [] = refl
none_alike (a ∷ edges) = refl

-- behind its end a list has no edge
pub right_ends : (n : ℕ) (left right : List Edge) → length right ≤ n → common_len (drop n left) (drop n right) ≡ 0
right_ends zero left [] past = none_alike left
right_ends (suc n) left [] past = none_alike (drop (suc n) left)
right_ends zero left (b ∷ right) past = absurd (omega (arith, past))
right_ends (suc n) [] (b ∷ right) past = refl
right_ends (suc n) (a ∷ left) (b ∷ right) past = right_ends n left right (omega (arith, past))

-- ---- counting

-- how often an edge stands in a list
abbrev pub count : Edge → List Edge → ℕ
count e edges = length (filter (λ x. same_edge x e) edges)

count_same : (a e : Edge) (edges : List Edge) → same_edge a e ≡ true → count e (a ∷ edges) ≡ suc (count e edges)
count_same a e edges same =
    ap (λ t. length (cond t (a ∷ filter (λ x. same_edge x e) edges) (filter (λ x. same_edge x e) edges))) same

count_other : (a e : Edge) (edges : List Edge) → same_edge a e ≡ false → count e (a ∷ edges) ≡ count e edges
count_other a e edges other =
    ap (λ t. length (cond t (a ∷ filter (λ x. same_edge x e) edges) (filter (λ x. same_edge x e) edges))) other

count_self : (a : Edge) (edges : List Edge) → count a (a ∷ edges) ≡ suc (count a edges)
count_self a edges =
    count_same a a edges (and_from (eqb a.target a.target) (eqb a.source a.source) (eq-eqb a.target a.target refl)
    (eq-eqb a.source a.source refl))

-- a list in another order has each edge as often
pub count_moved : (e : Edge) (edges moved : List Edge) → IsPermutation edges moved → count e moved ≡ count e edges
count_moved e edges moved is =
    length-filter (λ x. same_edge x e) moved
    ∙ sum_by-IsPermutation (λ x. cond (same_edge x e) 1 0) edges moved is
    ∙ sym (length-filter (λ x. same_edge x e) edges)

-- ---- order

-- an edge stands before another one
abbrev Before : Edge → Edge → Type 0
Before a b = (a.target < b.target) ⊎ ((a.target ≡ b.target) × (a.source < b.source))

abbrev NotBehind : Edge → Edge → Type 0
NotBehind a b = (a.target < b.target) ⊎ ((a.target ≡ b.target) × (a.source ≤ b.source))

not_behind : (t s u v : ℕ) (x y : Bool) → nat_lt u t ≡ x → eqb u t ≡ y
    → is_lt (ordering_then (cond x Less (cond y Equal Greater)) (nat_cmp v s)) ≡ false → (t < u) ⊎ ((t ≡ u) × (s ≤ v))
not_behind t s u v true y below same h = cc
not_behind t s u v false true below same h = inr (sym (eqb-true u t same), ge_from_not_lt v s h)
not_behind t s u v false false below same h = inl (above (cases_order t u))
  where
    above : (t ≡ u) ⊎ ((t < u) ⊎ (u < t)) → t < u
    above (inl is) = absurd (eqb-false u t same (sym is))
    above (inr (inl lower)) = lower
    above (inr (inr higher)) = omega (arith, higher, ltb-false u t below)

not_less : (a b : Edge) → is_lt (edge_cmp b a) ≡ false → NotBehind a b
not_less a b h =
    not_behind a.target a.source b.target b.source (nat_lt b.target a.target) (eqb b.target a.target) refl refl h

before_other : (e a : Edge) → Before e a → same_edge a e ≡ false
before_other e a (inl lower) =
    and_left (eqb a.target e.target) (eqb a.source e.source) (ne_eqb a.target e.target (λ is. omega (arith, is, lower)))
before_other e a (inr lower) =
    and_right (eqb a.target e.target) (eqb a.source e.source)
    (ne_eqb a.source e.source (λ is. omega (arith, is, lower.1)))

before_later : (e a b : Edge) → Before e a → NotBehind a b → Before e b
before_later e a b (inl p) (inl q) = inl (omega (arith, p, q))
before_later e a b (inl p) (inr q) = inl (omega (arith, p, q.0))
before_later e a b (inr p) (inl q) = inl (omega (arith, p.0, q))
before_later e a b (inr p) (inr q) = inr (p.0 ∙ q.0, omega (arith, p.1, q.1))

-- one of two edges stands before the other
apart : (a b : Edge) → same_edge a b ≡ false → Before a b ⊎ Before b a
apart a b other = go (cases_order a.target b.target) (cases_order a.source b.source)
  where
    go : (a.target ≡ b.target) ⊎ ((a.target < b.target) ⊎ (b.target < a.target))
        → (a.source ≡ b.source) ⊎ ((a.source < b.source) ⊎ (b.source < a.source)) → Before a b ⊎ Before b a
    go (inr (inl p)) q = inl (inl p)
    go (inr (inr p)) q = inr (inl p)
    go (inl p) (inr (inl q)) = inl (inr (p, q))
    go (inl p) (inr (inr q)) = inr (inr (sym p, q))
    go (inl p) (inl q) =
        let same : same_edge a b ≡ true =
        and_from (eqb a.target b.target) (eqb a.source b.source) (eq-eqb a.target b.target p)
        (eq-eqb a.source b.source q) in
        cc

-- ---- lists in order

-- no edge of the list would stand before this one
abbrev NoneBefore : Edge → List Edge → Type 0
NoneBefore a edges = (e : Edge) → Before e a → count e edges ≡ 0

abbrev pub Ascends : List Edge → Type 0
Ascends [] = Unit {0}
Ascends (a ∷ edges) = NoneBefore a (a ∷ edges) × Ascends edges

pub ascends : (edges : List Edge) → IsSorted edge_cmp edges → Ascends edges
ascends [] h = tt
ascends (a ∷ []) h = ((λ e before. count_other a e [] (before_other e a before)), tt)
ascends (a ∷ b ∷ edges) h =
    joined (ascends (b ∷ edges) later)
  where
    later : IsSorted edge_cmp (b ∷ edges)
    later k d low within =
        let is : suc k + 1 ≡ suc (k + 1) = omega arith in
        subst (λ j. is_lt (edge_cmp (get_or (a ∷ b ∷ edges) j d) (get_or (b ∷ edges) k d)) ≡ false) is
        (h (suc k) d (omega arith) (omega (arith, within)))

    next : NotBehind a b
    next = not_less a b (h 0 a (omega arith) (omega arith))

    joined : Ascends (b ∷ edges) → Ascends (a ∷ b ∷ edges)
    joined rest = (
      (λ e before. count_other a e (b ∷ edges) (before_other e a before)
          ∙ rest.0 e (before_later e a b before next)),
      rest,
    )

-- ---- the first difference

-- some edge to this block doesn't stand in both lists equally often
abbrev pub Differs : List Edge → List Edge → ℕ → Type 0
Differs left right k = (e : Edge) × (e.target ≡ k) × (count e left ≢ count e right)

lowest_is : (left right : List Edge) (m : ℕ) (a : Edge) → a.target ≡ m → count a left ≢ count a right
    → ((e : Edge) → e.target < m → count e left ≡ count e right) → IsLowest (Some m) (Differs left right)
lowest_is left right m a is differs below = ((a, is, differs), λ n d. least n d (cases_lt n m))
  where
    least : (n : ℕ) → Differs left right n → (n < m) ⊎ (m ≤ n) → m ≤ n
    least n (e, at, other) (inl lower) = absurd (other (below e (omega (arith, at, lower))))
    least n (e, at, other) (inr higher) = higher

-- one more edge in front of both
with_front : (a : Edge) (left right : List Edge) (r : Option ℕ) → IsLowest r (Differs left right)
    → IsLowest r (Differs (a ∷ left) (a ∷ right))
with_front a left right r h = same_lowest r (Differs left right) (Differs (a ∷ left) (a ∷ right)) there back h
  where
    more : (e : Edge) (t : Bool) → same_edge a e ≡ t → count e (a ∷ left) ≡ count e (a ∷ right)
        → count e left ≡ count e right
    more e true same is = omega (arith, is, count_same a e left same, count_same a e right same)
    more e false other is = sym (count_other a e left other) ∙ is ∙ count_other a e right other

    less : (e : Edge) (t : Bool) → same_edge a e ≡ t → count e left ≡ count e right
        → count e (a ∷ left) ≡ count e (a ∷ right)
    less e true same is = count_same a e left same ∙ ap suc is ∙ sym (count_same a e right same)
    less e false other is = count_other a e left other ∙ is ∙ sym (count_other a e right other)

    there : (n : ℕ) → Differs left right n → Differs (a ∷ left) (a ∷ right) n
    there n (e, at, differs) = (e, at, λ is. differs (more e (same_edge a e) refl is))

    back : (n : ℕ) → Differs (a ∷ left) (a ∷ right) n → Differs left right n
    back n (e, at, differs) = (e, at, λ is. differs (less e (same_edge a e) refl is))

-- two edges that are not the same in front
module _ (a b : Edge) (left right : List Edge) (l : NoneBefore a (a ∷ left)) (r : NoneBefore b (b ∷ right)) where
  left_first : (m : ℕ) → Before a b → a.target ≡ m → IsLowest (Some m) (Differs (a ∷ left) (b ∷ right))
  left_first m before is =
      lowest_is (a ∷ left) (b ∷ right) m a is (λ same. omega (arith, same, count_self a left, r a before))
      (below before)
    where
      below : Before a b → (e : Edge) → e.target < m → count e (a ∷ left) ≡ count e (b ∷ right)
      below (inl lower) e under =
          l e (inl (omega (arith, under, is))) ∙ sym (r e (inl (omega (arith, under, is, lower))))
      below (inr lower) e under =
          l e (inl (omega (arith, under, is))) ∙ sym (r e (inl (omega (arith, under, is, lower.0))))

  right_first : (m : ℕ) → Before b a → b.target ≡ m → IsLowest (Some m) (Differs (a ∷ left) (b ∷ right))
  right_first m before is =
      lowest_is (a ∷ left) (b ∷ right) m b is (λ same. omega (arith, same, count_self b right, l b before))
      (below before)
    where
      below : Before b a → (e : Edge) → e.target < m → count e (a ∷ left) ≡ count e (b ∷ right)
      below (inl lower) e under =
          l e (inl (omega (arith, under, is, lower))) ∙ sym (r e (inl (omega (arith, under, is))))
      below (inr lower) e under =
          l e (inl (omega (arith, under, is, lower.0))) ∙ sym (r e (inl (omega (arith, under, is))))

  at_fronts : (t : Bool) → nat_lt b.target a.target ≡ t → Before a b ⊎ Before b a
      → IsLowest (Some (if t then b.target else a.target)) (Differs (a ∷ left) (b ∷ right))
  at_fronts true lower either = right_first b.target (inl (ltb-true b.target a.target lower)) refl
  at_fronts false higher (inl before) = left_first a.target before refl
  at_fronts false higher (inr (inl before)) = absurd (omega (arith, before, ltb-false b.target a.target higher))
  at_fronts false higher (inr (inr before)) = right_first a.target (inr before) before.0

-- what stands where the first n are alike
abbrev behind : List Edge → List Edge → ℕ → Option ℕ
behind left right n = lower_target (slice_get left n) (slice_get right n)

pub lowest_difference : (left right : List Edge) → Ascends left → Ascends right
    → IsLowest (first_difference left right) (Differs left right)
lowest_difference [] [] l r = λ n d. d.2 refl
lowest_difference [] (b ∷ right) l r =
    lowest_is [] (b ∷ right) b.target b refl (λ same. omega (arith, same, count_self b right))
    (λ e under. sym (r.0 e (inl under)))
lowest_difference (a ∷ left) [] l r =
    lowest_is (a ∷ left) [] a.target a refl (λ same. omega (arith, same, count_self a left))
    (λ e under. l.0 e (inl under))
lowest_difference (a ∷ left) (b ∷ right) l r = go (same_edge a b) refl (lowest_difference left right l.1 r.1)
  where
    go : (t : Bool) → same_edge a b ≡ t → IsLowest (first_difference left right) (Differs left right)
        → IsLowest (behind (a ∷ left) (b ∷ right) (cond t (1 + common_len left right) 0))
        (Differs (a ∷ left) (b ∷ right))
    go false other h = at_fronts a b left right l.0 r.0 (nat_lt b.target a.target) refl (apart a b other)
    go true same h =
        let parts = and_parts (eqb a.target b.target) (eqb a.source b.source) same in
        let is : a ≡ b =
        λ i. record { target = eqb-true a.target b.target parts.0 i; source = eqb-true a.source b.source parts.1 i } in
        let one : suc (common_len left right) ≡ 1 + common_len left right = omega arith in
        let here : IsLowest (behind (a ∷ left) (b ∷ right) (suc (common_len left right)))
        (Differs (a ∷ left) (b ∷ right)) =
        subst (λ (x : Edge). IsLowest (first_difference left right) (Differs (a ∷ left) (x ∷ right))) is
        (with_front a left right (first_difference left right) h) in
        subst (λ n. IsLowest (behind (a ∷ left) (b ∷ right) n) (Differs (a ∷ left) (b ∷ right))) one here
