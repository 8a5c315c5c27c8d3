-- What a search has reached before and after it reaches one node, and several.
use Rattle.std.proofs.Common.{◌≡◌, ℕ, zero, suc, ◌<◌, ◌≢◌, ◌⊎◌, inl, inr, Bool, true, false, if◌then◌else◌, List, []}
use Rattle.std.proofs.Common.{◌∷◌, ◌++◌, length, get_or, set, refl, subst, sym, ap, ◌∙◌, arith}
use Rattle.std.proofs.lemmas.Bool.{cases_eq}
use Rattle.std.proofs.lemmas.List.{get_or-set_same, get_or-set_other, length-append, length-set}
use Rattle.graphs.specs.Graphs.{among}
use Rattle.graphs.specs.Searches.{Reached, is_seen, reach, reach_all, unseen, work}
use Rattle.graphs.proofs.AmongLemmas.{among_here, among_later, among_cases, among_front, among_back, among_last}

pub unseen_less : (seen : List Bool) (k : ℕ) → k < length seen → get_or seen k false ≡ false
    → suc (unseen (set seen k true)) ≡ unseen seen
unseen_less [] k within h = omega (arith, within)
unseen_less (true ∷ seen) zero within h = cc
unseen_less (false ∷ seen) zero within h = refl
unseen_less (true ∷ seen) (suc k) within h = unseen_less seen k (omega (arith, within)) h
unseen_less (false ∷ seen) (suc k) within h = ap suc (unseen_less seen k (omega (arith, within)) h)

-- what a search has reached before and after it reaches some nodes
pub record Grows (s t : Reached) (nodes : List ℕ) : Type 0 where
  pub same_length : length t.seen ≡ length s.seen
  pub seen_stays : (k : ℕ) → is_seen s k ≡ true → is_seen t k ≡ true
  pub waits_on : (k : ℕ) → among s.waiting k ≡ true → among t.waiting k ≡ true
  pub each_seen : (k : ℕ) → among nodes k ≡ true → is_seen t k ≡ true
  pub seen_from : (k : ℕ) → is_seen t k ≡ true
      → (is_seen s k ≡ true) ⊎ ((among nodes k ≡ true) × (among t.waiting k ≡ true))
  pub waits_from : (k : ℕ) → among t.waiting k ≡ true → (among s.waiting k ≡ true) ⊎ (is_seen t k ≡ true)
  pub same_work : work t ≡ work s

grows_none : (s : Reached) → Grows s s []
grows_none s = record {
  same_length = refl;
  seen_stays = λ k h. h;
  waits_on = λ k h. h;
  each_seen = λ k h. cc;
  seen_from = λ k h. inl h;
  waits_from = λ k h. inl h;
  same_work = refl;
}

grows_again : (s : Reached) (n : ℕ) → is_seen s n ≡ true → Grows s s (n ∷ [])
grows_again s n h = record {
  same_length = refl;
  seen_stays = λ k seen. seen;
  waits_on = λ k waits. waits;
  each_seen = each_seen;
  seen_from = λ k seen. inl seen;
  waits_from = λ k waits. inl waits;
  same_work = refl;
}
  where
    from_cases : (k : ℕ) → (n ≡ k) ⊎ (false ≡ true) → is_seen s k ≡ true
    from_cases k (inl same) = subst (λ i. is_seen s i ≡ true) same h
    from_cases k (inr none) = cc

    each_seen : (k : ℕ) → among (n ∷ []) k ≡ true → is_seen s k ≡ true
    each_seen k here = from_cases k (among_cases n k [] here)

module _ (s : Reached) (n : ℕ) (within : n < length s.seen) (not_seen : is_seen s n ≡ false) where
  abbrev after : Reached
  after = record { seen = set s.seen n true; waiting = s.waiting ++ n ∷ [] }

  now_seen : is_seen after n ≡ true
  now_seen = get_or-set_same s.seen n true false within

  other : (k : ℕ) → k ≢ n → is_seen after k ≡ is_seen s k
  other k differ = get_or-set_other s.seen n k true false differ

  stays : (k : ℕ) → is_seen s k ≡ true → is_seen after k ≡ true
  stays k h = by_cases (cases_eq k n)
    where
      by_cases : (k ≡ n) ⊎ (k ≡ n → ⊥) → is_seen after k ≡ true
      by_cases (inl same) = subst (λ i. is_seen after i ≡ true) (sym same) now_seen
      by_cases (inr differ) = other k differ ∙ h

  each : (k : ℕ) → among (n ∷ []) k ≡ true → is_seen after k ≡ true
  each k h = from_cases (among_cases n k [] h)
    where
      from_cases : (n ≡ k) ⊎ (false ≡ true) → is_seen after k ≡ true
      from_cases (inl same) = subst (λ i. is_seen after i ≡ true) same now_seen
      from_cases (inr none) = cc

  last_waits : among after.waiting n ≡ true
  last_waits = among_back s.waiting (n ∷ []) n (among_here n [])

  from : (k : ℕ) → is_seen after k ≡ true
      → (is_seen s k ≡ true) ⊎ ((among (n ∷ []) k ≡ true) × (among after.waiting k ≡ true))
  from k h = by_cases (cases_eq k n)
    where
      by_cases : (k ≡ n) ⊎ (k ≡ n → ⊥)
          → (is_seen s k ≡ true) ⊎ ((among (n ∷ []) k ≡ true) × (among after.waiting k ≡ true))
      by_cases (inl same) =
          inr (
            subst (λ i. among (n ∷ []) i ≡ true) (sym same) (among_here n []),
            subst (λ i. among after.waiting i ≡ true) (sym same) last_waits,
          )
      by_cases (inr differ) = inl (sym (other k differ) ∙ h)

  waits_from : (k : ℕ) → among after.waiting k ≡ true → (among s.waiting k ≡ true) ⊎ (is_seen after k ≡ true)
  waits_from k h = by_cases (among_last s.waiting n k h)
    where
      by_cases : (among s.waiting k ≡ true) ⊎ (n ≡ k) → (among s.waiting k ≡ true) ⊎ (is_seen after k ≡ true)
      by_cases (inl before) = inl before
      by_cases (inr same) = inr (subst (λ i. is_seen after i ≡ true) same now_seen)

  grows_new : Grows s after (n ∷ [])
  grows_new = record {
    same_length = length-set s.seen n true;
    seen_stays = stays;
    waits_on = λ k h. among_front s.waiting (n ∷ []) k h;
    each_seen = each;
    seen_from = from;
    waits_from = waits_from;
    same_work = omega (arith, unseen_less s.seen n within not_seen, length-append s.waiting (n ∷ []));
  }

grows_by : (s : Reached) (n : ℕ) → n < length s.seen → (b : Bool) → is_seen s n ≡ b
    → Grows s (if b then s else record { seen = set s.seen n true; waiting = s.waiting ++ n ∷ [] }) (n ∷ [])
grows_by s n within true e = grows_again s n e
grows_by s n within false e = grows_new s n within e

pub grows_one : (s : Reached) (n : ℕ) → n < length s.seen → Grows s (reach s n) (n ∷ [])
grows_one s n within = grows_by s n within (is_seen s n) refl

grows_then : (s t r : Reached) (n : ℕ) (nodes : List ℕ) → Grows s t (n ∷ []) → Grows t r nodes → Grows s r (n ∷ nodes)
grows_then s t r n nodes g h = record {
  same_length = h.same_length ∙ g.same_length;
  seen_stays = λ k seen. h.seen_stays k (g.seen_stays k seen);
  waits_on = λ k waits. h.waits_on k (g.waits_on k waits);
  each_seen = λ k here. each_by k (among_cases n k nodes here);
  seen_from = λ k seen. from_by k (h.seen_from k seen);
  waits_from = λ k waits. waits_by k (h.waits_from k waits);
  same_work = h.same_work ∙ g.same_work;
}
  where
    each_by : (k : ℕ) → (n ≡ k) ⊎ (among nodes k ≡ true) → is_seen r k ≡ true
    each_by k (inl same) =
        h.seen_stays k (subst (λ i. is_seen t i ≡ true) same (g.each_seen n (among_here n [])))
    each_by k (inr later) = h.each_seen k later

    from_one : (k : ℕ) → (n ≡ k) ⊎ (false ≡ true) → among (n ∷ nodes) k ≡ true
    from_one k (inl same) = subst (λ i. among (n ∷ nodes) i ≡ true) same (among_here n nodes)
    from_one k (inr none) = cc

    first_by : (k : ℕ) → (is_seen s k ≡ true) ⊎ ((among (n ∷ []) k ≡ true) × (among t.waiting k ≡ true))
        → (is_seen s k ≡ true) ⊎ ((among (n ∷ nodes) k ≡ true) × (among r.waiting k ≡ true))
    first_by k (inl seen) = inl seen
    first_by k (inr new) = inr (from_one k (among_cases n k [] new.0), h.waits_on k new.1)

    from_by : (k : ℕ) → (is_seen t k ≡ true) ⊎ ((among nodes k ≡ true) × (among r.waiting k ≡ true))
        → (is_seen s k ≡ true) ⊎ ((among (n ∷ nodes) k ≡ true) × (among r.waiting k ≡ true))
    from_by k (inl seen) = first_by k (g.seen_from k seen)
    from_by k (inr new) = inr (among_later n k nodes new.0, new.1)

    wait_first : (k : ℕ) → (among s.waiting k ≡ true) ⊎ (is_seen t k ≡ true)
        → (among s.waiting k ≡ true) ⊎ (is_seen r k ≡ true)
    wait_first k (inl waits) = inl waits
    wait_first k (inr seen) = inr (h.seen_stays k seen)

    waits_by : (k : ℕ) → (among t.waiting k ≡ true) ⊎ (is_seen r k ≡ true)
        → (among s.waiting k ≡ true) ⊎ (is_seen r k ≡ true)
    waits_by k (inl waits) = wait_first k (g.waits_from k waits)
    waits_by k (inr seen) = inr seen

pub grows_all : (s : Reached) (nodes : List ℕ) → ((k : ℕ) → among nodes k ≡ true → k < length s.seen)
    → Grows s (reach_all s nodes) nodes
grows_all s [] within = grows_none s
grows_all s (n ∷ nodes) within =
    let one : Grows s (reach s n) (n ∷ []) = grows_one s n (within n (among_here n nodes)) in
    grows_then s (reach s n) (reach_all (reach s n) nodes) n nodes one
    (grows_all (reach s n) nodes (λ k h. subst (λ m. k < m) (sym one.same_length) (within k (among_later n k nodes h))))
