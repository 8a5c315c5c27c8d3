-- What sweeps find is what paths show, and where nothing new comes it tells of all of them.
use Rattle.std.proofs.Common.{◌≡◌, ℕ, zero, suc, ◌==◌, ◌+◌, ◌<◌, ◌≤◌, ◌⊎◌, inl, inr, Bool, true, false, if◌then◌else◌}
use Rattle.std.proofs.Common.{List, [], ◌∷◌, ◌++◌, length, fold, get_or, set, take, drop, replicate, Option, None, Some}
use Rattle.std.proofs.Common.{refl, sym, subst, ap, ◌∙◌, arith}
use Rattle.std.specs.List.{list_any}
use Rattle.std.proofs.Math.Seq.{take-append_seam}
use Rattle.std.proofs.lemmas.Bool.{cases_eq, cases_lt, eq-eqb, eqb-true, false≢true}
use Rattle.std.proofs.lemmas.List.{get_or-replicate, get_or-set_same, get_or-set_other, get_or_past, length-replicate}
use Rattle.std.proofs.lemmas.List.{length-set}
use Rattle.std.proofs.lemmas.List.Sums.{sum_by-set}
use Rattle.std.proofs.lemmas.Option.{none-some}
use Rattle.gossa_base.specs.declared.ids.ValueId.{ValueId}
use Rattle.ssa_ir.specs.FirstOrder.{same_value}
use Rattle.ssa_tables.specs.Blocks.{IsIndexPath, preds_at}
use Rattle.ssa_check.specs.tables.MemorySweeps.{AreShown, Brings, BringsOther, IsSettled, Shows, Sweeps, Updates, after}
use Rattle.ssa_check.specs.tables.MemorySweeps.{all_left, before_of, changes_left, met, next_of, passed_at}
use Rattle.ssa_check.specs.tables.PassedMemories.{ArePassedMemories, IsReached, SaysBefore, SaysOf, left_by, memory_on}
use Rattle.ssa_check.specs.declared.memories.Leaves.{Leaves}
use Rattle.ssa_check.specs.declared.memories.Leaves.TheVariants.{Through, Known, Unknown}
use Rattle.ssa_check.specs.declared.memories.Passed.{Passed}
use Rattle.ssa_check.specs.declared.memories.Passed.TheVariants.{NoPath, Always, Varies}
use Rattle.graphs.proofs.AmongLemmas.{among_cases, among_here, among_later}

-- ---- what is passed covers a memory that a path has

abbrev pub Covers : Passed → Option ValueId → Type 0
Covers NoPath memory = ⊥
Covers (Always m) memory = memory ≡ Some m
Covers Varies memory = Unit {0}

same_id : (m n : ValueId) → same_value m n ≡ true → m ≡ n
same_id m n e = λ i. record { 0 = eqb-true m.0 n.0 e i }

covers_same : (m n : ValueId) (memory : Option ValueId) (b : Bool) → same_value m n ≡ b → memory ≡ Some m
    → Covers (if b then Always m else Varies) memory
covers_same m n memory true e h = h
covers_same m n memory false e h = tt

covers_other : (m n : ValueId) (memory : Option ValueId) (b : Bool) → same_value m n ≡ b → memory ≡ Some n
    → Covers (if b then Always m else Varies) memory
covers_other m n memory true e h = h ∙ ap Some (sym (same_id m n e))
covers_other m n memory false e h = tt

covers_first : (x y : Passed) (memory : Option ValueId) → Covers x memory → Covers (met x y) memory
covers_first NoPath y memory h = absurd h
covers_first (Always m) NoPath memory h = h
covers_first (Always m) (Always n) memory h = covers_same m n memory (same_value m n) refl h
covers_first (Always m) Varies memory h = tt
covers_first Varies y memory h = tt

covers_second : (x y : Passed) (memory : Option ValueId) → Covers y memory → Covers (met x y) memory
covers_second NoPath y memory h = h
covers_second (Always m) NoPath memory h = absurd h
covers_second (Always m) (Always n) memory h = covers_other m n memory (same_value m n) refl h
covers_second (Always m) Varies memory h = tt
covers_second Varies y memory h = tt

covers_after : (leaves : Leaves) (x : Passed) (memory : Option ValueId) → Covers x memory
    → Covers (after leaves x) (left_by leaves memory)
covers_after Through x memory h = h
covers_after (Known id) NoPath memory h = absurd h
covers_after (Known id) (Always m) memory h = refl
covers_after (Known id) Varies memory h = refl
covers_after Unknown NoPath memory h = absurd h
covers_after Unknown (Always m) memory h = tt
covers_after Unknown Varies memory h = tt

abbrev meets : List Passed → Passed → ℕ → Passed
meets passed x b = met x (passed_at passed b)

covers_on : (passed : List Passed) (blocks : List ℕ) (x : Passed) (memory : Option ValueId) → Covers x memory
    → Covers (fold (meets passed) x blocks) memory
covers_on passed [] x memory h = h
covers_on passed (b ∷ blocks) x memory h =
    covers_on passed blocks (meets passed x b) memory (covers_first x (passed_at passed b) memory h)

covers_one : (passed : List Passed) (blocks : List ℕ) (x : Passed) (a : ℕ) (memory : Option ValueId)
    → list_any (λ p. p == a) blocks ≡ true → Covers (passed_at passed a) memory
    → Covers (fold (meets passed) x blocks) memory
covers_one passed [] x a memory here h = cc
covers_one passed (b ∷ blocks) x a memory here h =
    by_cases (λ later. covers_one passed blocks (meets passed x b) a memory later h) (among_cases b a blocks here)
  where
    by_cases : (list_any (λ p. p == a) blocks ≡ true → Covers (fold (meets passed) (meets passed x b) blocks) memory)
        → (b ≡ a) ⊎ (list_any (λ p. p == a) blocks ≡ true)
        → Covers (fold (meets passed) (meets passed x b) blocks) memory
    by_cases rest (inl same) =
        covers_on passed blocks (meets passed x b) memory
        (covers_second x (passed_at passed b) memory
        (subst (λ k. Covers (passed_at passed k) memory) (sym same) h))
    by_cases rest (inr later) = rest later

-- the memory of a path that isn't empty is covered where it ends
abbrev pub EndCovers : List Leaves → List Passed → List ℕ → Type 0
EndCovers leaves passed [] = Unit {0}
EndCovers leaves passed (a ∷ before) = Covers (passed_at passed a) (memory_on leaves (a ∷ before))

came_covers : (preds : List (List ℕ)) (leaves : List Leaves) (passed : List Passed) (b : ℕ) (before : List ℕ)
    → IsIndexPath preds (b ∷ before) → EndCovers leaves passed before
    → Covers (before_of preds passed b) (memory_on leaves before)
came_covers preds leaves passed zero before is h = tt
came_covers preds leaves passed (suc b) [] is h = absurd (omega (arith, is.0))
came_covers preds leaves passed (suc b) (a ∷ before) is h =
    covers_one passed (preds_at preds (suc b)) NoPath a (memory_on leaves (a ∷ before)) is.0 h

-- only blocks that are there have paths
within : (preds : List (List ℕ)) (b : ℕ) (before : List ℕ) → IsIndexPath preds (b ∷ before) → b < length preds
within preds b [] is = is.1
within preds b (a ∷ before) is = by_cases (cases_lt b (length preds))
  where
    by_cases : (b < length preds) ⊎ (length preds ≤ b) → b < length preds
    by_cases (inl here) = here
    by_cases (inr past) =
        let none : preds_at preds b ≡ [] = get_or_past preds b [] past in
        absurd (false≢true (subst (λ l. list_any (λ p. p == a) l ≡ true) none is.0))

-- where nothing new comes, all paths are covered
end_covers : (preds : List (List ℕ)) (leaves : List Leaves) (passed : List Passed)
    → IsSettled preds leaves passed (length preds) → (path : List ℕ) → IsIndexPath preds path
    → EndCovers leaves passed path
end_covers preds leaves passed settled [] is = absurd is
end_covers preds leaves passed settled (b ∷ []) is =
    subst (λ x. Covers x (memory_on leaves (b ∷ []))) (settled b is.1)
    (covers_second (passed_at passed b) (after (get_or leaves b Unknown) (before_of preds passed b))
    (memory_on leaves (b ∷ []))
    (covers_after (get_or leaves b Unknown) (before_of preds passed b) None
    (came_covers preds leaves passed b [] is tt)))
end_covers preds leaves passed settled (b ∷ a ∷ before) is =
    subst (λ x. Covers x (memory_on leaves (b ∷ a ∷ before))) (settled b (within preds b (a ∷ before) is))
    (covers_second (passed_at passed b) (after (get_or leaves b Unknown) (before_of preds passed b))
    (memory_on leaves (b ∷ a ∷ before))
    (covers_after (get_or leaves b Unknown) (before_of preds passed b) (memory_on leaves (a ∷ before))
    (came_covers preds leaves passed b (a ∷ before) is (end_covers preds leaves passed settled (a ∷ before) is.1))))

-- ---- what is passed is shown

shows_from : (P Q : Option ValueId → Type 0) → ((memory : Option ValueId) → P memory → Q memory) → (x : Passed)
    → Shows P x → Shows Q x
shows_from P Q to NoPath h = tt
shows_from P Q to (Always m) h = to (Some m) h
shows_from P Q to Varies h = (
  record { memory = h.0.memory; brought = to h.0.memory h.0.brought },
  λ m. record { memory = (h.1 m).memory; brought = to (h.1 m).memory (h.1 m).brought; other = (h.1 m).other },
)

abbrev pub number_of : Option ValueId → ℕ
number_of None = 0
number_of (Some m) = m.0

-- two memories that differ show that it varies
module _ (P : Option ValueId → Type 0) (m n : ValueId) (first : P (Some m)) (second : P (Some n)) where
  other_than : same_value m n ≡ false → (id : ValueId) → BringsOther P id
  other_than differ id = by_cases (cases_eq m.0 id.0)
    where
      no_second : m.0 ≡ id.0 → Some n ≡ Some id → ⊥
      no_second is same =
          let equal : n.0 ≡ id.0 = ap number_of same in
          let found : same_value m n ≡ true = eq-eqb m.0 n.0 (is ∙ sym equal) in
          false≢true (sym differ ∙ found)

      by_cases : (m.0 ≡ id.0) ⊎ (m.0 ≡ id.0 → ⊥) → BringsOther P id
      by_cases (inl is) = record { memory = Some n; brought = second; other = no_second is }
      by_cases (inr is_not) = record { memory = Some m; brought = first; other = λ same. is_not (ap number_of same) }

  shows_both : (b : Bool) → same_value m n ≡ b → Shows P (if b then Always m else Varies)
  shows_both true e = first
  shows_both false e = (record { memory = Some m; brought = first }, other_than e)

shows_met : (P : Option ValueId → Type 0) (x y : Passed) → Shows P x → Shows P y → Shows P (met x y)
shows_met P NoPath y h k = k
shows_met P (Always m) NoPath h k = h
shows_met P (Always m) (Always n) h k = shows_both P m n h k (same_value m n) refl
shows_met P (Always m) Varies h k = k
shows_met P Varies y h k = h

-- a block that leaves what it makes itself
module _ (P Q : Option ValueId → Type 0) (id : ValueId) (to : (memory : Option ValueId) → P memory → Q (Some id)) where
  shows_known : (x : Passed) → Shows P x → Shows Q (after (Known id) x)
  shows_known NoPath h = tt
  shows_known (Always m) h = to (Some m) h
  shows_known Varies h = to h.0.memory h.0.brought

-- and one that leaves no memory
module _ (P Q : Option ValueId → Type 0) (to : (memory : Option ValueId) → P memory → Q None) where
  shows_none : (memory : Option ValueId) → P memory → Shows Q Varies
  shows_none memory h = (
    record { memory = None; brought = to memory h },
    λ m. record { memory = None; brought = to memory h; other = λ same. none-some m same },
  )

  shows_unknown : (x : Passed) → Shows P x → Shows Q (after Unknown x)
  shows_unknown NoPath h = tt
  shows_unknown (Always m) h = shows_none (Some m) h
  shows_unknown Varies h = shows_none h.0.memory h.0.brought

shows_after : (P Q : Option ValueId → Type 0) (leaves : Leaves)
    → ((memory : Option ValueId) → P memory → Q (left_by leaves memory))
    → (x : Passed) → Shows P x → Shows Q (after leaves x)
shows_after P Q Through to x h = shows_from P Q to x h
shows_after P Q (Known id) to x h = shows_known P Q id to x h
shows_after P Q Unknown to x h = shows_unknown P Q to x h

-- ---- what is passed through the blocks is shown, so what is passed before one is

abbrev pub ended : List Leaves → ℕ → List ℕ → Option ValueId
ended leaves b before = memory_on leaves (b ∷ before)

abbrev pub Ends : List (List ℕ) → List Leaves → ℕ → Option ValueId → Type 0
Ends preds leaves b = Brings preds (λ before. memory_on leaves (b ∷ before)) b

abbrev pub Comes : List (List ℕ) → List Leaves → ℕ → Option ValueId → Type 0
Comes preds leaves b = Brings preds (memory_on leaves) b

-- a path goes on to the next block
goes_on : (preds : List (List ℕ)) (leaves : List Leaves) (b a : ℕ) → list_any (λ p. p == a) (preds_at preds b) ≡ true
    → (memory : Option ValueId) → Ends preds leaves a memory → Comes preds leaves b memory
goes_on preds leaves b a here memory h = record { before = a ∷ h.before; is_path = (here, h.is_path); same = h.same }

shows_on : (preds : List (List ℕ)) (leaves : List Leaves) (passed : List Passed) (b : ℕ) → AreShown preds leaves passed
    → (blocks : List ℕ)
    → ((a : ℕ) → list_any (λ p. p == a) blocks ≡ true → list_any (λ p. p == a) (preds_at preds b) ≡ true)
    → (x : Passed) → Shows (Comes preds leaves b) x → Shows (Comes preds leaves b) (fold (meets passed) x blocks)
shows_on preds leaves passed b shown [] are x h = h
shows_on preds leaves passed b shown (a ∷ blocks) are x h =
    let comes : Shows (Comes preds leaves b) (passed_at passed a) =
    shows_from (Ends preds leaves a) (Comes preds leaves b) (goes_on preds leaves b a (are a (among_here a blocks)))
    (passed_at passed a)
    (shown a) in
    shows_on preds leaves passed b shown blocks (λ k later. are k (among_later a k blocks later)) (meets passed x a)
    (shows_met (Comes preds leaves b) x (passed_at passed a) h comes)

shows_before : (preds : List (List ℕ)) (leaves : List Leaves) (passed : List Passed) → AreShown preds leaves passed
    → (b : ℕ) → b < length preds → Shows (Comes preds leaves b) (before_of preds passed b)
shows_before preds leaves passed shown zero is =
    let entry : Comes preds leaves zero None = record { before = []; is_path = (refl, is); same = refl } in (
      record { memory = None; brought = entry },
      λ m. record { memory = None; brought = entry; other = λ same. none-some m same },
    )
shows_before preds leaves passed shown (suc b) is =
    shows_on preds leaves passed (suc b) shown (preds_at preds (suc b)) (λ a here. here) NoPath tt

-- what comes now is shown too
shows_next : (preds : List (List ℕ)) (leaves : List Leaves) (passed : List Passed) → AreShown preds leaves passed
    → (b : ℕ)
    → b < length preds → Shows (Ends preds leaves b) (next_of preds leaves passed b)
shows_next preds leaves passed shown b is =
    let left : Leaves = get_or leaves b Unknown in
    let through : (memory : Option ValueId) → Comes preds leaves b memory → Ends preds leaves b (left_by left memory) =
    λ memory h. record { before = h.before; is_path = h.is_path; same = ap (left_by left) h.same } in
    shows_met (Ends preds leaves b) (passed_at passed b) (after left (before_of preds passed b)) (shown b)
    (shows_after (Comes preds leaves b) (Ends preds leaves b) left through (before_of preds passed b)
    (shows_before preds leaves passed shown b is))

-- ---- updates and sweeps

pub none_shown : (preds : List (List ℕ)) (leaves : List Leaves) (n : ℕ) → AreShown preds leaves (replicate n NoPath)
none_shown preds leaves n = λ b. subst (Shows (Ends preds leaves b)) (sym (by_cases b (cases_lt b n))) tt
  where
    by_cases : (b : ℕ) → (b < n) ⊎ (n ≤ b) → passed_at (replicate n NoPath) b ≡ NoPath
    by_cases b (inl here) = get_or-replicate n b NoPath NoPath here
    by_cases b (inr past) =
        get_or_past (replicate n NoPath) b NoPath (omega (arith, past, length-replicate n NoPath))

-- where a change was put
set_shown : (preds : List (List ℕ)) (leaves : List Leaves) (old : List Passed) (k : ℕ) (x : Passed) → k < length old
    → Shows (Ends preds leaves k) x → AreShown preds leaves old → AreShown preds leaves (set old k x)
set_shown preds leaves old k x here h shown = λ b. by_cases b (cases_eq b k)
  where
    by_cases : (b : ℕ) → (b ≡ k) ⊎ (b ≡ k → ⊥) → Shows (Ends preds leaves b) (passed_at (set old k x) b)
    by_cases b (inl same) =
        subst (λ i. Shows (Ends preds leaves i) (passed_at (set old k x) i)) (sym same)
        (subst (Shows (Ends preds leaves k)) (sym (get_or-set_same old k x NoPath here)) h)
    by_cases b (inr differ) =
        subst (Shows (Ends preds leaves b)) (sym (get_or-set_other old k b x NoPath differ)) (shown b)

less_left : (new put next was mid old : ℕ) → new ≡ put → put + was ≡ mid + next → next < was → mid ≤ old → new < old
less_left new put next was mid old same sums less le = omega (arith, same, sums, less, le)

-- the first blocks were swept; one more is
module _ (preds : List (List ℕ)) (leaves : List Leaves) (k : ℕ) (old mid new : List Passed)
    (is : k < length preds) (here : length old ≡ length preds) where
  abbrev next : Passed
  next = next_of preds leaves mid k

  changed_then : (changed : Bool) → Sweeps preds leaves k old mid changed → Updates preds leaves k mid new true
      → Sweeps preds leaves (suc k) old new true
  changed_then changed swept update = record {
    one_each = ap length update.0 ∙ length-set mid k next ∙ swept.one_each;
    shown = shown;
    fewer_left = λ e. fewer (left changed swept);
    settled = λ e. absurd (false≢true (sym e));
  }
    where
      bound : k < length mid
      bound = omega (arith, is, here, swept.one_each)

      shown : AreShown preds leaves old → AreShown preds leaves new
      shown h =
          subst (λ l. AreShown preds leaves l) (sym update.0)
          (set_shown preds leaves mid k next bound (shows_next preds leaves mid (swept.shown h) k is) (swept.shown h))

      left : (b : Bool) → Sweeps preds leaves k old mid b → all_left mid ≤ all_left old
      left true s = omega (arith, s.fewer_left refl)
      left false s = omega (arith, ap all_left (s.settled refl).0)

      fewer : all_left mid ≤ all_left old → all_left new < all_left old
      fewer le =
          less_left (all_left new) (all_left (set mid k next)) (changes_left next) (changes_left (passed_at mid k))
          (all_left mid) (all_left old) (ap all_left update.0) (sum_by-set changes_left mid k next NoPath bound)
          update.1 le

  unchanged_then : (changed : Bool) → Sweeps preds leaves k old mid changed → Updates preds leaves k mid new false
      → Sweeps preds leaves (suc k) old new changed
  unchanged_then changed swept update = record {
    one_each = ap length update.0 ∙ swept.one_each;
    shown = λ h. subst (λ l. AreShown preds leaves l) (sym update.0) (swept.shown h);
    fewer_left = λ e. subst (λ l. all_left l < all_left old) (sym update.0) (swept.fewer_left e);
    settled = λ e. (update.0 ∙ (swept.settled e).0, λ b below. all e b below (cases_lt b k));
  }
    where
      last : changed ≡ false → next_of preds leaves old k ≡ passed_at old k
      last e = subst (λ l. next_of preds leaves l k ≡ passed_at l k) (swept.settled e).0 update.1

      all : changed ≡ false → (b : ℕ) → b < suc k → (b < k) ⊎ (k ≤ b) → next_of preds leaves old b ≡ passed_at old b
      all e b below (inl before) = (swept.settled e).1 b before
      all e b below (inr above) =
          let same : b ≡ k = omega (arith, above, below) in
          subst (λ i. next_of preds leaves old i ≡ passed_at old i) (sym same) (last e)

  pub changed_step : (before result now : Bool) → result ≡ true → now ≡ true → Sweeps preds leaves k old mid before
      → Updates preds leaves k mid new result → Sweeps preds leaves (k + 1) old new now
  changed_step before result now is_result is_now swept update =
      let next_number : suc k ≡ k + 1 = omega arith in
      subst (λ n. Sweeps preds leaves n old new now) next_number
      (subst (Sweeps preds leaves (suc k) old new) (sym is_now)
      (changed_then before swept (subst (Updates preds leaves k mid new) is_result update)))

  pub unchanged_step : (before result now : Bool) → result ≡ false → now ≡ before → Sweeps preds leaves k old mid before
      → Updates preds leaves k mid new result → Sweeps preds leaves (k + 1) old new now
  unchanged_step before result now is_result is_now swept update =
      let next_number : suc k ≡ k + 1 = omega arith in
      subst (λ n. Sweeps preds leaves n old new now) next_number
      (subst (Sweeps preds leaves (suc k) old new) (sym is_now)
      (unchanged_then before swept (subst (Updates preds leaves k mid new) is_result update)))

-- ---- the end

is_reached : (preds : List (List ℕ)) (f : List ℕ → Option ValueId) (b : ℕ) (memory : Option ValueId)
    → Brings preds f b memory → IsReached preds b
is_reached preds f b memory h = record { before = h.before; is_path = h.is_path }

says_end : (preds : List (List ℕ)) (leaves : List Leaves) (b : ℕ) (x : Passed) → Shows (Ends preds leaves b) x
    → ((before : List ℕ) → IsIndexPath preds (b ∷ before) → Covers x (memory_on leaves (b ∷ before)))
    → SaysOf preds leaves b x
says_end preds leaves b NoPath h covers = covers
says_end preds leaves b (Always m) h covers = (is_reached preds (ended leaves b) b (Some m) h, covers)
says_end preds leaves b Varies h covers = (
  is_reached preds (ended leaves b) b h.0.memory h.0.brought,
  λ m. record {
    before = (h.1 m).brought.before;
    is_path = (h.1 m).brought.is_path;
    other = λ same. (h.1 m).other (sym (h.1 m).brought.same ∙ same);
  },
)

says_before : (preds : List (List ℕ)) (leaves : List Leaves) (b : ℕ) (x : Passed) → Shows (Comes preds leaves b) x
    → ((before : List ℕ) → IsIndexPath preds (b ∷ before) → Covers x (memory_on leaves before))
    → SaysBefore preds leaves b x
says_before preds leaves b NoPath h covers = covers
says_before preds leaves b (Always m) h covers = (is_reached preds (memory_on leaves) b (Some m) h, covers)
says_before preds leaves b Varies h covers = (
  is_reached preds (memory_on leaves) b h.0.memory h.0.brought,
  λ m. record {
    before = (h.1 m).brought.before;
    is_path = (h.1 m).brought.is_path;
    other = λ same. (h.1 m).other (sym (h.1 m).brought.same ∙ same);
  },
)

settled_passed : (preds : List (List ℕ)) (leaves : List Leaves) (passed : List Passed) → length passed ≡ length preds
    → AreShown preds leaves passed → IsSettled preds leaves passed (length preds)
    → ArePassedMemories preds leaves passed
settled_passed preds leaves passed one_each shown settled = record {
  says = λ b is. says_end preds leaves b (passed_at passed b) (shown b)
      (λ before path. end_covers preds leaves passed settled (b ∷ before) path);
  one_each = one_each;
}

-- a slice of a whole vector is written back
written_back : (new old : List Passed) (n : ℕ) → n ≡ length new → take n (new ++ drop (length new) old) ≡ new
written_back new old n whole =
    subst (λ k. take k (new ++ drop (length new) old) ≡ new) (sym whole) (take-append_seam new (drop (length new) old))

-- behind a sweep that changes nothing
pub last_sweep : (preds : List (List ℕ)) (leaves : List Leaves) (items old new : List Passed) (n : ℕ) (changed : Bool)
    → n ≡ length items → old ≡ items → length items ≡ length preds → AreShown preds leaves items
    → Sweeps preds leaves (length preds) old new changed → changed ≡ false
    → ArePassedMemories preds leaves (take n (new ++ drop (length new) items))
last_sweep preds leaves items old new n changed whole value one_each shown swept unchanged =
    let same : items ≡ new = sym ((swept.settled unchanged).0 ∙ value) in
    subst (ArePassedMemories preds leaves) (sym (written_back new items n (whole ∙ ap length same)))
    (subst (ArePassedMemories preds leaves) same (settled_passed preds leaves items one_each shown
    (subst (λ l. IsSettled preds leaves l (length preds)) value (swept.settled unchanged).1)))

-- ---- and back: what is said of the ends of blocks is shown and covers

said_shows : (preds : List (List ℕ)) (leaves : List Leaves) (b : ℕ) (x : Passed) → SaysOf preds leaves b x
    → Shows (Ends preds leaves b) x
said_shows preds leaves b NoPath h = tt
said_shows preds leaves b (Always m) h =
    record { before = h.0.before; is_path = h.0.is_path; same = h.1 h.0.before h.0.is_path }
said_shows preds leaves b Varies h = (
  record {
    memory = ended leaves b h.0.before;
    brought = record { before = h.0.before; is_path = h.0.is_path; same = refl };
  },
  λ m. record {
    memory = ended leaves b (h.1 m).before;
    brought = record { before = (h.1 m).before; is_path = (h.1 m).is_path; same = refl };
    other = (h.1 m).other;
  },
)

said_covers : (preds : List (List ℕ)) (leaves : List Leaves) (b : ℕ) (x : Passed) → SaysOf preds leaves b x
    → (before : List ℕ) → IsIndexPath preds (b ∷ before) → Covers x (memory_on leaves (b ∷ before))
said_covers preds leaves b NoPath h before is = h before is
said_covers preds leaves b (Always m) h before is = h.1 before is
said_covers preds leaves b Varies h before is = tt

are_shown : (preds : List (List ℕ)) (leaves : List Leaves) (passed : List Passed)
    → ArePassedMemories preds leaves passed
    → AreShown preds leaves passed
are_shown preds leaves passed are b = by_cases (cases_lt b (length preds))
  where
    by_cases : (b < length preds) ⊎ (length preds ≤ b) → Shows (Ends preds leaves b) (passed_at passed b)
    by_cases (inl is) = said_shows preds leaves b (passed_at passed b) (are.says b is)
    by_cases (inr past) =
        subst (Shows (Ends preds leaves b)) (sym (get_or_past passed b NoPath (omega (arith, past, are.one_each)))) tt

all_cover : (preds : List (List ℕ)) (leaves : List Leaves) (passed : List Passed)
    → ArePassedMemories preds leaves passed
    → (b : ℕ) (before : List ℕ) → IsIndexPath preds (b ∷ before) → EndCovers leaves passed before
all_cover preds leaves passed are b [] is = tt
all_cover preds leaves passed are b (a ∷ before) is =
    said_covers preds leaves a (passed_at passed a) (are.says a (within preds a before is.1)) before is.1

pub before_said : (preds : List (List ℕ)) (leaves : List Leaves) (passed : List Passed) (b : ℕ) → b < length preds
    → ArePassedMemories preds leaves passed → SaysBefore preds leaves b (before_of preds passed b)
before_said preds leaves passed b is are =
    says_before preds leaves b (before_of preds passed b)
    (shows_before preds leaves passed (are_shown preds leaves passed are) b is)
    (λ before path. came_covers preds leaves passed b before path (all_cover preds leaves passed are b before path))
