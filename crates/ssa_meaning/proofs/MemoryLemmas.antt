-- A memory that is changed in place, and what stood there before.
use Rattle.std.proofs.Common.{◌≡◌, ℕ, suc, ◌+◌, ◌-◌, ◌*◌, ◌/◌, ◌^◌, ◌<◌, ◌≤◌, Bool, true, false, cond, List, [], ◌∷◌}
use Rattle.std.proofs.Common.{length, get_or, drop, Option, None, Some, is_some, refl, sym, ap, ◌∙◌, arith}
use Rattle.std.specs.Option.{unwrap_or}
use Rattle.std.specs.Ordering.{nat_cmp, eq_by_cmp}
use Rattle.std.specs.List.Sorted.{IsStrictlySortedBy}
use Rattle.std.specs.Map.{lookup, keys_of}
use Rattle.std.proofs.lemmas.Cmp.{nat_cmp_total, eq_by_cmp_equiv}
use Rattle.std.proofs.lemmas.List.{drop_more}
use Rattle.std.proofs.lemmas.Map.{lookup-none}
use Rattle.std.proofs.lemmas.Map.Entries.{none_past_head}
use Rattle.std.proofs.lemmas.Map.Keys.{sorted_tail, IsDistinct-from_sorted}
use Rattle.std.proofs.Math.Nat.{pow-le-pow_right}
use Rattle.std.specs.FinMap as finite
use Rattle.std.specs.FinMap.{nat_cmp-IsAntisymmetric}
use Rattle.std.specs.FinMap.Entries as entries
use Rattle.gossa_base.specs.Words.{low}
use Rattle.gossa_base.specs.Memory.{Memory, byte_at, read_number, bytes_of, write_bytes}
use Rattle.ssa_meaning.specs.tables.MemoryChanges.{put_back}
use Rattle.ssa_meaning.proofs.ChangeLemmas.{tied}
use Rattle.ssa_meaning.proofs.LoadLemmas.{read_below}

-- ---- the memory of entries

-- whether an address is this one
abbrev pub is_at : ℕ → ℕ → Bool
is_at q a = eq_by_cmp nat_cmp q a

pub swapped : (a q : ℕ) → is_at a q ≡ is_at q a
swapped a q = (eq_by_cmp_equiv nat_cmp_total).symm a q

-- two words for a look-up
pub same_lookup : {X : Type 0} (q : ℕ) (es : List (ℕ × X)) → lookup (is_at q) es ≡ entries.find nat_cmp q es
same_lookup q [] = refl
same_lookup q (e ∷ es) = ap (cond (is_at q e.0) (Some e.1)) (same_lookup q es)

-- what is found in the memory of entries
pub found : (es : List (ℕ × ℕ)) (q : ℕ) → finite.get (finite.from_entries {R = nat_cmp} es) q ≡ lookup (is_at q) es
found es q = finite.get-from_entries nat_cmp_total es q ∙ sym (same_lookup q es)

-- what is looked up is the byte there
pub byte_found : (es : List (ℕ × ℕ)) (q : ℕ) (o : Option ℕ) → o ≡ lookup (is_at q) es
    → low 8 (unwrap_or o 0) ≡ byte_at (finite.from_entries es) q
byte_found es q o is = ap (λ (p : Option ℕ). low 8 (unwrap_or p 0)) (is ∙ sym (found es q))

same_memory : (m n : Memory) → ((q : ℕ) → finite.get m q ≡ finite.get n q) → m ≡ n
same_memory m n alike = finite.same_map nat_cmp_total nat_cmp-IsAntisymmetric m n alike

-- entries with a byte put in give the memory with that byte
pub inserted : (old new : List (ℕ × ℕ)) (a b : ℕ)
    → ((q : ℕ) → lookup (is_at q) new ≡ cond (is_at a q) (Some b) (lookup (is_at q) old))
    → finite.from_entries {R = nat_cmp} new ≡ finite.insert (finite.from_entries old) a b
inserted old new a b updates =
    same_memory (finite.from_entries new) (finite.insert (finite.from_entries old) a b)
    (λ q. found new q ∙ updates q
    ∙ ap (λ t. cond t (Some b) (lookup (is_at q) old)) (swapped a q)
    ∙ ap (cond (is_at q a) (Some b)) (sym (found old q))
    ∙ sym (finite.get-insert nat_cmp_total (finite.from_entries old) a b q))

-- ---- what stood there, put back

-- what stands at an address once entries are put back over what is there
abbrev pub back_over : Option ℕ → ℕ → List (ℕ × Option ℕ) → Option ℕ
back_over o q [] = o
back_over o q (e ∷ es) = back_over (cond (is_at q e.0) e.1 o) q es

pub get-put_back : (m : Memory) (es : List (ℕ × Option ℕ)) (q : ℕ)
    → finite.get (put_back m es) q ≡ back_over (finite.get m q) q es
get-put_back m [] q = refl
get-put_back m ((a, None) ∷ es) q =
    get-put_back (finite.remove m a) es q ∙ ap (λ o. back_over o q es) (finite.get-remove nat_cmp_total m a q)
get-put_back m ((a, Some b) ∷ es) q =
    get-put_back (finite.insert m a b) es q ∙ ap (λ o. back_over o q es) (finite.get-insert nat_cmp_total m a b q)

-- at an address of the entries, nothing depends on what is there
over_any : (o p : Option ℕ) (q : ℕ) (es : List (ℕ × Option ℕ)) → is_some (lookup (is_at q) es) ≡ true
    → back_over o q es ≡ back_over p q es
over_any o p q [] has = cc
over_any o p q (e ∷ es) has = go (is_at q e.0) has (over_any o p q es)
  where
    go : (b : Bool) → is_some (cond b (Some e.1) (lookup (is_at q) es)) ≡ true
        → (is_some (lookup (is_at q) es) ≡ true → back_over o q es ≡ back_over p q es)
        → back_over (cond b e.1 o) q es ≡ back_over (cond b e.1 p) q es
    go true h rest = refl
    go false h rest = rest h

-- elsewhere what is there stays
over_none : (o : Option ℕ) (q : ℕ) (es : List (ℕ × Option ℕ)) → lookup (is_at q) es ≡ None → back_over o q es ≡ o
over_none o q [] none = refl
over_none o q (e ∷ es) none = go (is_at q e.0) none (over_none o q es)
  where
    go : (b : Bool) → cond b (Some e.1) (lookup (is_at q) es) ≡ None
        → (lookup (is_at q) es ≡ None → back_over o q es ≡ o) → back_over (cond b e.1 o) q es ≡ o
    go true h rest = cc
    go false h rest = rest h

-- what was found, and else what is there
abbrev pub found_over : Option (Option ℕ) → Option ℕ → Option ℕ
found_over None o = o
found_over (Some v) o = v

-- no address stands twice
pub once : (q : ℕ) (e : ℕ × Option ℕ) (es : List (ℕ × Option ℕ)) → IsStrictlySortedBy nat_cmp (keys_of (e ∷ es))
    → is_at q e.0 ≡ true → lookup (is_at q) es ≡ None
once q e es sorted here =
    lookup-none (is_at q) es
    (none_past_head (eq_by_cmp_equiv nat_cmp_total) q e es
    (IsDistinct-from_sorted nat_cmp (keys_of (e ∷ es)) sorted) here)

pub over_found : (o : Option ℕ) (q : ℕ) (es : List (ℕ × Option ℕ)) → IsStrictlySortedBy nat_cmp (keys_of es)
    → back_over o q es ≡ found_over (lookup (is_at q) es) o
over_found o q [] sorted = refl
over_found o q (e ∷ es) sorted =
    go (is_at q e.0) refl (over_found o q es (sorted_tail nat_cmp e.0 (keys_of es) sorted))
  where
    go : (b : Bool) → is_at q e.0 ≡ b → back_over o q es ≡ found_over (lookup (is_at q) es) o
        → back_over (cond b e.1 o) q es ≡ found_over (cond b (Some e.1) (lookup (is_at q) es)) o
    go true here rest = over_none e.1 q es (once q e es sorted here)
    go false here rest = rest

-- ---- a byte written

module _ (m n : Memory) (a b : ℕ) (is : n ≡ finite.insert m a b) where
  written : (q : ℕ) → finite.get n q ≡ cond (is_at q a) (Some b) (finite.get m q)
  written q = ap (λ k. finite.get k q) is ∙ finite.get-insert nat_cmp_total m a b q

  -- a byte written again: what stood there is noted already
  pub written_again : (es : List (ℕ × Option ℕ)) → is_some (lookup (is_at a) es) ≡ true → put_back n es ≡ put_back m es
  written_again es noted =
      same_memory (put_back n es) (put_back m es)
      (λ q. get-put_back n es q ∙ ap (λ o. back_over o q es) (written q) ∙ go q (is_at q a) refl
      ∙ sym (get-put_back m es q))
    where
      go : (q : ℕ) (t : Bool) → is_at q a ≡ t
          → back_over (cond t (Some b) (finite.get m q)) q es ≡ back_over (finite.get m q) q es
      go q true here =
          over_any (Some b) (finite.get m q) q es (ap (λ x. is_some (lookup (is_at x) es)) (tied q a here) ∙ noted)
      go q false here = refl

  -- a byte written first: what stood there is noted now
  pub written_first : (old new : List (ℕ × Option ℕ)) (held : Option ℕ)
      → IsStrictlySortedBy nat_cmp (keys_of old) → IsStrictlySortedBy nat_cmp (keys_of new)
      → held ≡ finite.get m a → lookup (is_at a) old ≡ None
      → ((q : ℕ) → lookup (is_at q) new ≡ cond (is_at a q) (Some held) (lookup (is_at q) old))
      → put_back n new ≡ put_back m old
  written_first old new held sorted_old sorted_new stood none updates =
      same_memory (put_back n new) (put_back m old)
      (λ q. get-put_back n new q
      ∙ over_found (finite.get n q) q new sorted_new
      ∙ ap (λ f. found_over f (finite.get n q))
      (updates q ∙ ap (λ t. cond t (Some held) (lookup (is_at q) old)) (swapped a q))
      ∙ ap (found_over (cond (is_at q a) (Some held) (lookup (is_at q) old))) (written q)
      ∙ go q (is_at q a) refl
      ∙ sym (over_found (finite.get m q) q old sorted_old)
      ∙ sym (get-put_back m old q))
    where
      go : (q : ℕ) (t : Bool) → is_at q a ≡ t
          → found_over (cond t (Some held) (lookup (is_at q) old)) (cond t (Some b) (finite.get m q))
          ≡ found_over (lookup (is_at q) old) (finite.get m q)
      go q true here =
          stood ∙ sym (ap (finite.get m) (tied q a here))
          ∙ sym (ap (λ f. found_over f (finite.get m q)) (ap (λ x. lookup (is_at x) old) (tied q a here) ∙ none))
      go q false here = refl

-- ---- bytes written one after the other

-- one more byte of a word
pub byte_stored : (m n end : Memory) (a w i count at byte : ℕ) → i < count → at ≡ low 64 (a + i) → byte ≡ low 8 w
    → n ≡ finite.insert m at byte → write_bytes m (a + i) (bytes_of w (count - i)) ≡ end
    → write_bytes n (a + (i + 1)) (bytes_of (w / 256) (count - (i + 1))) ≡ end
byte_stored m n end a w i count at byte lt at_is byte_is is so_far =
    let more : suc (count - (i + 1)) ≡ count - i = omega arith in
    let next : a + (i + 1) ≡ (a + i) + 1 = omega arith in
    (λ j. write_bytes (is j) (next j) (bytes_of (w / 256) (count - (i + 1))))
    ∙ (λ j. write_bytes (finite.insert m (at_is j) (byte_is j)) ((a + i) + 1) (bytes_of (w / 256) (count - (i + 1))))
    ∙ ap (λ k. write_bytes m (a + i) (bytes_of w k)) more
    ∙ so_far

-- one more byte of a list
pub byte_written : (m n end : Memory) (a i at : ℕ) (bytes : List ℕ) → i < length bytes → at ≡ low 64 (a + i)
    → n ≡ finite.insert m at (get_or bytes i 0) → write_bytes m (a + i) (drop i bytes) ≡ end
    → write_bytes n (a + (i + 1)) (drop (i + 1) bytes) ≡ end
byte_written m n end a i at bytes lt at_is is so_far =
    let next : a + (i + 1) ≡ (a + i) + 1 = omega arith in
    (λ j. write_bytes (is j) (next j) (drop (i + 1) bytes))
    ∙ (λ j. write_bytes (finite.insert m (at_is j) (get_or bytes i 0)) ((a + i) + 1) (drop (i + 1) bytes))
    ∙ ap (write_bytes m (a + i)) (sym (drop_more bytes i 0 lt))
    ∙ so_far

-- ---- bytes read one after the other

fits : (n p b : ℕ) → n < p → p ≤ 72057594037927936 → b < 256 → 256 * n + b < 2 ^ 64
fits n p b below small byte = omega (arith, below, small, byte)

-- a number of at most eight bytes is a word
pub read_fits : (m : Memory) (a i b : ℕ) → i < 8 → b < 256 → 256 * read_number m a i + b < 2 ^ 64
read_fits m a i b lt byte =
    let small : 256 ^ i ≤ 256 ^ 7 = pow-le-pow_right {n = 256} (omega arith) {i = i} {j = 7} (omega arith) in
    fits (read_number m a i) (256 ^ i) b (read_below m a i) small byte
