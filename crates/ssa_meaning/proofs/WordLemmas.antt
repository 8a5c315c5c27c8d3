-- Tables of words: room for all values, and words put one after the other.
use Rattle.std.proofs.Common.{◌≡◌, ℕ, suc, ◌+◌, ◌<◌, ◌≤◌, List, [], ◌∷◌, length, take, drop, map, filter}
use Rattle.std.proofs.Common.{slice_index_or, Bool, true, false, cond, Some, All, refl, sym, ap, subst, ◌∙◌, arith}
use Rattle.std.specs.List.{flat_map}
use Rattle.std.proofs.lemmas.List.{take_all, drop_more}
use Rattle.std.proofs.lemmas.List.Elements.{All-append, All-cons}
use Rattle.gossa_base.specs.declared.ids.ValueId.{ValueId}
use Rattle.ssa_ir.specs.declared.func.Block.{Block}
use Rattle.ssa_ir.specs.declared.func.Value.{Value}
use Rattle.ssa_ir.specs.OpKinds.{is_phi}
use Rattle.ssa_ir.specs.Phis.{entered}
use Rattle.ssa_ir.specs.Run.{put}
use Rattle.ssa_meaning.specs.tables.Puts.{puts, put_all, phi_pair, phi_word}
use Rattle.ssa_meaning.specs.declared.words.WordTable.{WordTable}
use Rattle.block_order.specs.Apart.{AreApart}
use Rattle.ssa_meaning.specs.tables.Running.{words_of}
use Rattle.ssa_meaning.proofs.TableLemmas.{phis_entered}

-- a number above those of each block's values is above all
pub all_flat : (n : ℕ) (blocks : List Block) → All (λ (b : Block). All (λ (v : Value). v.id.0 < n) b.values) blocks
    → All (λ (v : Value). v.id.0 < n) (flat_map (λ b. b.values) blocks)
all_flat n [] h = λ k d lt. absurd (omega (arith, lt))
all_flat n (b ∷ blocks) h =
    All-append (λ (v : Value). v.id.0 < n) b.values (flat_map (λ c. c.values) blocks) (h 0 b (omega arith))
    (all_flat n blocks (λ k d lt. h (suc k) d (omega (arith, lt))))

-- where all blocks were looked at
pub all_taken : (n i : ℕ) (items blocks : List Block) → items ≡ blocks → length items ≤ i
    → All (λ (b : Block). All (λ (v : Value). v.id.0 < n) b.values) (take i items)
    → All (λ (v : Value). v.id.0 < n) (flat_map (λ b. b.values) blocks)
all_taken n i items blocks e le h =
    all_flat n blocks (subst (λ bs. All (λ (b : Block). All (λ (v : Value). v.id.0 < n) b.values) bs)
    (take_all i items le ∙ e) h)

-- tables with the same words have the same words after these were put
pub put_same : (pairs : List (ValueId × ℕ)) (a b : ℕ → ℕ) → ((n : ℕ) → a n ≡ b n) → (n : ℕ)
    → put_all pairs a n ≡ put_all pairs b n
put_same pairs a b e n = ap (λ words. put_all pairs words n) (λ i k. e k i)

-- one pair is put, and the others are left
pub put_one : (pairs : List (ValueId × ℕ)) (i : ℕ) (pair : ValueId × ℕ) (now next all : ℕ → ℕ)
    → i < length pairs → pair ≡ slice_index_or pairs i pair
    → ((n : ℕ) → next n ≡ put now pair.0.0 pair.1 n)
    → ((n : ℕ) → put_all (drop i pairs) now n ≡ all n)
    → (n : ℕ) → put_all (drop (i + 1) pairs) next n ≡ all n
put_one pairs i pair now next all lt is e so_far n =
    put_same (drop (i + 1) pairs) next (put now pair.0.0 pair.1) e n
    ∙ ap (λ l. put_all l now n) (ap (λ p. p ∷ drop (i + 1) pairs) is ∙ sym (drop_more pairs i pair lt))
    ∙ so_far n

-- the pairs of phis are those of values
pub pairs_below : (len k : ℕ) (words : ℕ → ℕ) (test : Value → Bool) (values : List Value)
    → All (λ (v : Value). v.id.0 < len) values
    → All (λ (p : ValueId × ℕ). p.0.0 < len) (map (phi_pair k words) (filter test values))
pairs_below len k words test [] h = λ i d lt. absurd (omega (arith, lt))
pairs_below len k words test (v ∷ values) h =
    go (test v) (h 0 v (omega arith)) (pairs_below len k words test values (λ i d lt. h (suc i) d (omega (arith, lt))))
  where
    rest : List Value
    rest = filter test values

    go : (b : Bool) → v.id.0 < len → All (λ (p : ValueId × ℕ). p.0.0 < len) (map (phi_pair k words) rest)
        → All (λ (p : ValueId × ℕ). p.0.0 < len) (map (phi_pair k words) (cond b (v ∷ rest) rest))
    go true first others =
        All-cons (λ (p : ValueId × ℕ). p.0.0 < len) (phi_pair k words v) (map (phi_pair k words) rest) first others
    go false first others = others

-- the pairs put are the words put
pub pairs_put : (word : Value → ℕ) (values : List Value) (words : ℕ → ℕ)
    → put_all (map (λ v. (v.id, word v)) values) words ≡ puts word values words
pairs_put word [] words = refl
pairs_put word (v ∷ values) words = pairs_put word values (put words v.id.0 (word v))

-- so a block is entered
pub pairs_entered : (values : List Value) (k : ℕ) (now words next : ℕ → ℕ) (pairs : List (ValueId × ℕ))
    → AreApart values
    → pairs ≡ map (phi_pair k words) (filter (λ v. is_phi v.op) values)
    → ((n : ℕ) → now n ≡ words n) → ((n : ℕ) → next n ≡ put_all pairs now n)
    → (n : ℕ) → next n ≡ entered values (Some k) words n
pairs_entered values k now words next pairs apart is same e n =
    e n ∙ put_same pairs now words same n ∙ ap (λ l. put_all l words n) is
    ∙ ap (λ f. f n) (pairs_put (phi_word k words) (filter (λ v. is_phi v.op) values) words)
    ∙ phis_entered values k words n apart

-- the same list is the same words
pub word_there : (a b : WordTable) → a.words.items ≡ b.words.items → (n : ℕ) → words_of a n ≡ words_of b n
word_there a b e n = ap (λ l. slice_index_or l n 0) e
