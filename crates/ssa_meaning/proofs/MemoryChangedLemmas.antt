-- The bytes that changed, by what stood there before.
use Rattle.std.proofs.Common.{◌≡◌, ℕ, Bool, true, false, cond, eqb, List, [], ◌∷◌, ◌++◌, Option, None, Some, refl, sym}
use Rattle.std.proofs.Common.{ap, subst, ◌∙◌, append-nil}
use Rattle.std.specs.Prelude.{T}
use Rattle.std.specs.Option.{unwrap_or}
use Rattle.std.specs.declared.cmp.Ordering.TheVariants.{Less}
use Rattle.std.specs.Ordering.{nat_cmp, is_lt}
use Rattle.std.specs.List.{AllByRecursion}
use Rattle.std.specs.List.Sorted.{IsStrictlySortedBy}
use Rattle.std.specs.Map.{lookup, keys_of}
use Rattle.std.proofs.lemmas.Bool.{eq-eqb}
use Rattle.std.proofs.lemmas.Map.Keys.{sorted_head, sorted_tail}
use Rattle.std.specs.FinMap as finite
use Rattle.std.specs.FinMap.Entries as entries
use Rattle.gossa_base.specs.Words.{low}
use Rattle.gossa_base.specs.Memory.{Memory, byte_at, change_at, changed}
use Rattle.ssa_meaning.specs.tables.MemoryChanges.{put_back}
use Rattle.ssa_meaning.proofs.ChangeLemmas.{new_byte, tied, both, changed_is}
use Rattle.ssa_meaning.proofs.MemoryLemmas.{is_at, once, found_over, get-put_back, over_found}

-- the byte that an entry holds
abbrev pub held_byte : Option ℕ → ℕ
held_byte v = low 8 (unwrap_or v 0)

-- of these entries, those that hold another byte than stands there, each with the byte now
abbrev pub changes_in : Memory → List (ℕ × Option ℕ) → List (ℕ × ℕ)
changes_in m [] = []
changes_in m (e ∷ es) = change_at e.0 (held_byte e.1) (byte_at m e.0) (changes_in m es)

module _ (m : Memory) where
  -- the byte now, where what was found holds another
  abbrev byte_over : ℕ → Option (Option ℕ) → Option ℕ
  byte_over q None = None
  byte_over q (Some v) = cond (eqb (held_byte v) (byte_at m q)) None (Some (byte_at m q))

  changes_found : (es : List (ℕ × Option ℕ)) (q : ℕ) → IsStrictlySortedBy nat_cmp (keys_of es)
      → entries.find nat_cmp q (changes_in m es) ≡ byte_over q (lookup (is_at q) es)
  changes_found [] q sorted = refl
  changes_found (e ∷ es) q sorted =
      go (is_at q e.0) (eqb (held_byte e.1) (byte_at m e.0)) refl refl
      (changes_found es q (sorted_tail nat_cmp e.0 (keys_of es) sorted))
    where
      rest : List (ℕ × ℕ)
      rest = changes_in m es

      left : Bool → Option ℕ
      left b = entries.find nat_cmp q (cond b rest ((e.0, byte_at m e.0) ∷ rest))

      right : Bool → Option ℕ
      right t = byte_over q (cond t (Some e.1) (lookup (is_at q) es))

      at : (b : Bool) → is_at q e.0 ≡ true → eqb (held_byte e.1) (byte_at m e.0) ≡ b
          → byte_over q (Some e.1) ≡ cond b None (Some (byte_at m e.0))
      at b t same = ap (λ a. byte_over a (Some e.1)) (tied q e.0 t) ∙ ap (λ c. cond c None (Some (byte_at m e.0))) same

      go : (t b : Bool) → is_at q e.0 ≡ t → eqb (held_byte e.1) (byte_at m e.0) ≡ b
          → entries.find nat_cmp q rest ≡ byte_over q (lookup (is_at q) es)
          → left (eqb (held_byte e.1) (byte_at m e.0)) ≡ right (is_at q e.0)
      go true true t same ih =
          ap left same ∙ ih ∙ ap (byte_over q) (once q e es sorted t) ∙ sym (at true t same) ∙ sym (ap right t)
      go true false t same ih =
          ap left same ∙ ap (λ c. cond c (Some (byte_at m e.0)) (entries.find nat_cmp q rest)) t
          ∙ sym (at false t same) ∙ sym (ap right t)
      go false true t same ih = ap left same ∙ ih ∙ sym (ap right t)
      go false false t same ih =
          ap left same ∙ ap (λ c. cond c (Some (byte_at m e.0)) (entries.find nat_cmp q rest)) t
          ∙ ih ∙ sym (ap right t)

  -- where nothing was found, the byte is the same
  same_over : (q : ℕ) (o : Option (Option ℕ)) → byte_over q o
      ≡ cond (eqb (held_byte (found_over o (finite.get m q))) (byte_at m q)) None (Some (byte_at m q))
  same_over q None = sym (ap (λ b. cond b None (Some (byte_at m q))) (eq-eqb (byte_at m q) (byte_at m q) refl))
  same_over q (Some v) = refl

  -- what is found among these changes is the new byte
  new_found : (es : List (ℕ × Option ℕ)) (q : ℕ) → IsStrictlySortedBy nat_cmp (keys_of es)
      → entries.find nat_cmp q (changes_in m es) ≡ new_byte (put_back m es) m q
  new_found es q sorted =
      changes_found es q sorted ∙ same_over q (lookup (is_at q) es)
      ∙ ap (λ o. cond (eqb (held_byte o) (byte_at m q)) None (Some (byte_at m q)))
      (sym (get-put_back m es q ∙ over_found (finite.get m q) q es sorted))

  changes_below : (x : ℕ) (es : List (ℕ × Option ℕ)) → AllByRecursion (λ y. nat_cmp x y ≡ Less) (keys_of es)
      → T (entries.below_all nat_cmp x (changes_in m es))
  changes_below x [] below = tt
  changes_below x (e ∷ es) below = go (eqb (held_byte e.1) (byte_at m e.0)) (changes_below x es below.1)
    where
      rest : List (ℕ × ℕ)
      rest = changes_in m es

      go : (b : Bool) → T (entries.below_all nat_cmp x rest)
          → T (entries.below_all nat_cmp x (cond b rest ((e.0, byte_at m e.0) ∷ rest)))
      go true r = r
      go false r =
          both (is_lt (nat_cmp x e.0)) (entries.below_all nat_cmp x rest) (subst (λ o. T (is_lt o)) (sym below.0) tt) r

  changes_ascend : (es : List (ℕ × Option ℕ)) → IsStrictlySortedBy nat_cmp (keys_of es)
      → T (entries.is_sorted nat_cmp (changes_in m es))
  changes_ascend [] sorted = tt
  changes_ascend (e ∷ es) sorted =
      go (eqb (held_byte e.1) (byte_at m e.0)) (changes_ascend es (sorted_tail nat_cmp e.0 (keys_of es) sorted))
    where
      rest : List (ℕ × ℕ)
      rest = changes_in m es

      go : (b : Bool) → T (entries.is_sorted nat_cmp rest)
          → T (entries.is_sorted nat_cmp (cond b rest ((e.0, byte_at m e.0) ∷ rest)))
      go true r = r
      go false r =
          both (entries.below_all nat_cmp e.0 rest) (entries.is_sorted nat_cmp rest)
          (changes_below e.0 es (sorted_head nat_cmp e.0 (keys_of es) sorted)) r

  -- the changes of all entries are the changes since they were put back
  changes_are : (es : List (ℕ × Option ℕ)) → IsStrictlySortedBy nat_cmp (keys_of es)
      → changes_in m es ≡ changed (put_back m es) m
  changes_are es sorted =
      changed_is (put_back m es) m (changes_in m es) (changes_ascend es sorted) (λ q. new_found es q sorted)

  -- where no entry is left, all changes are told
  pub all_told : (done : List (ℕ × ℕ)) (left es : List (ℕ × Option ℕ)) → IsStrictlySortedBy nat_cmp (keys_of es)
      → left ≡ [] → done ++ changes_in m left ≡ changes_in m es → done ≡ changed (put_back m es) m
  all_told done left es sorted none told =
      sym (append-nil done) ∙ ap (λ l. done ++ changes_in m l) (sym none) ∙ told ∙ changes_are es sorted
