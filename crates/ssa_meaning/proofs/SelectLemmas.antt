-- The words of a call's selects, put by index, are those of the answer.
use Rattle.std.proofs.Common.{◌≡◌, ◌≢◌, ℕ, ◌+◌, ◌<◌, ◌≤◌, Bool, true, false, cond, eqb, List, [], ◌∷◌, length, drop}
use Rattle.std.proofs.Common.{filter, slice_get, slice_index_or, Option, None, Some, refl, sym, ap, ◌∙◌}
use Rattle.std.proofs.lemmas.Bool.{eqb-true}
use Rattle.std.proofs.lemmas.List.{drop_all, drop_more}
use Rattle.std.specs.Option.{option_to_list}
use Rattle.std.specs.List.{cons_option}
use Rattle.std.specs.Prelude.{int_lt}
use Rattle.gossa_base.specs.declared.ids.ValueId.{ValueId}
use Rattle.ssa_ir.specs.declared.func.Value.{Value}
use Rattle.ssa_ir.specs.Calls.{answered}
use Rattle.ssa_ir.specs.FirstOrder.{selects, put_by_number, by_number}
use Rattle.ssa_ir.specs.Inputs.{Answer}
use Rattle.ssa_ir.specs.Run.{put}
use Rattle.block_order.specs.Items.{values_at}
use Rattle.ssa_meaning.specs.tables.Puts.{puts, select_word_of}
use Rattle.block_order.specs.Apart.{IsApart, AreApart}
use Rattle.ssa_meaning.proofs.TableLemmas.{selects_answered}

-- tables with the same words have the same words after these were put
pub puts_same : (word : Value → ℕ) (values : List Value) (a b : ℕ → ℕ) → ((n : ℕ) → a n ≡ b n) → (n : ℕ)
    → puts word values a n ≡ puts word values b n
puts_same word values a b e n = ap (λ words. puts word values words n) (λ i k. e k i)

-- one more value, where there is one
puts_option : (word : Value → ℕ) (o : Option Value) (values : List Value) (words : ℕ → ℕ) (n : ℕ)
    → puts word (cons_option o values) words n ≡ puts word values (puts word (option_to_list o) words) n
puts_option word None values words n = refl
puts_option word (Some v) values words n = refl

-- one word is put, and the others are left
pub puts_one : (word : Value → ℕ) (values : List Value) (indexes : List ℕ) (i : ℕ) (now next all : ℕ → ℕ)
    → i < length indexes
    → ((n : ℕ) → next n ≡ puts word (option_to_list (slice_get values (slice_index_or indexes i 0))) now n)
    → ((n : ℕ) → puts word (values_at values (drop i indexes)) now n ≡ all n)
    → (n : ℕ) → puts word (values_at values (drop (i + 1) indexes)) next n ≡ all n
puts_one word values indexes i now next all lt e so_far n =
    puts_same word (values_at values (drop (i + 1) indexes)) next
    (puts word (option_to_list (slice_get values (slice_index_or indexes i 0))) now) e n
    ∙ sym (puts_option word (slice_get values (slice_index_or indexes i 0)) (values_at values (drop (i + 1) indexes))
    now n)
    ∙ ap (λ l. puts word (values_at values l) now n) (sym (drop_more indexes i 0 lt))
    ∙ so_far n

-- no value is left
pub puts_done : (word : Value → ℕ) (values : List Value) (indexes : List ℕ) (i : ℕ) (now all : ℕ → ℕ)
    → length indexes ≤ i → ((n : ℕ) → puts word (values_at values (drop i indexes)) now n ≡ all n)
    → (n : ℕ) → now n ≡ all n
puts_done word values indexes i now all le so_far n =
    ap (λ l. puts word (values_at values l) now n) (sym (drop_all i indexes le)) ∙ so_far n

true_is_not_false : true ≡ false → ⊥
true_is_not_false e = cc

-- words of different numbers are put in either order
put_swapped : (words : ℕ → ℕ) (a x b y n : ℕ) → a ≢ b → put (put words a x) b y n ≡ put (put words b y) a x n
put_swapped words a x b y n ne = go (eqb n a) (eqb n b) refl refl
  where
    go : (p q : Bool) → eqb n a ≡ p → eqb n b ≡ q → cond q y (cond p x (words n)) ≡ cond p x (cond q y (words n))
    go true true p q = absurd (ne (sym (eqb-true n a p) ∙ eqb-true n b q))
    go true false p q = refl
    go false true p q = refl
    go false false p q = refl

-- a value put among values by its number
insert_puts : (word : Value → ℕ) (v : Value) (values : List Value) (words : ℕ → ℕ) (n : ℕ) → IsApart v.id.0 values
    → puts word (put_by_number v values) words n ≡ puts word (v ∷ values) words n
insert_puts word v [] words n h = refl
insert_puts word v (u ∷ values) words n h =
    go (int_lt u.aux v.aux)
    (insert_puts word v values (put words u.id.0 (word u)) n h.1
    ∙ puts_same word values (put (put words u.id.0 (word u)) v.id.0 (word v))
    (put (put words v.id.0 (word v)) u.id.0 (word u))
    (λ k. put_swapped words u.id.0 (word u) v.id.0 (word v) k (λ e. h.0 (sym e))) n)
  where
    go : (b : Bool) → puts word (u ∷ put_by_number v values) words n ≡ puts word (v ∷ u ∷ values) words n
        → puts word (cond b (u ∷ put_by_number v values) (v ∷ u ∷ values)) words n ≡ puts word (v ∷ u ∷ values) words n
    go true e = e
    go false e = refl

apart_put : (n : ℕ) (v : Value) (values : List Value) → n ≢ v.id.0 → IsApart n values
    → IsApart n (put_by_number v values)
apart_put n v [] ne h = (ne, tt)
apart_put n v (u ∷ values) ne h = go (int_lt u.aux v.aux) (apart_put n v values ne h.1)
  where
    go : (b : Bool) → IsApart n (put_by_number v values)
        → IsApart n (cond b (u ∷ put_by_number v values) (v ∷ u ∷ values))
    go true later = (h.0, later)
    go false later = (ne, h)

apart_by_number : (n : ℕ) (values : List Value) → IsApart n values → IsApart n (by_number values)
apart_by_number n [] h = tt
apart_by_number n (v ∷ values) h = apart_put n v (by_number values) h.0 (apart_by_number n values h.1)

-- values put by number, each of its own
sorted_puts : (word : Value → ℕ) (values : List Value) (words : ℕ → ℕ) (n : ℕ) → AreApart values
    → puts word (by_number values) words n ≡ puts word values words n
sorted_puts word [] words n h = refl
sorted_puts word (v ∷ values) words n h =
    insert_puts word v (by_number values) words n (apart_by_number v.id.0 values h.0)
    ∙ sorted_puts word values (put words v.id.0 (word v)) n h.1

apart_filter : (n : ℕ) (test : Value → Bool) (values : List Value) → IsApart n values → IsApart n (filter test values)
apart_filter n test [] h = tt
apart_filter n test (v ∷ values) h = go (test v) (apart_filter n test values h.1)
  where
    go : (b : Bool) → IsApart n (filter test values) → IsApart n (cond b (v ∷ filter test values) (filter test values))
    go true later = (h.0, later)
    go false later = later

are_apart_filter : (test : Value → Bool) (values : List Value) → AreApart values → AreApart (filter test values)
are_apart_filter test [] h = tt
are_apart_filter test (v ∷ values) h = go (test v) (are_apart_filter test values h.1)
  where
    go : (b : Bool) → AreApart (filter test values) → AreApart (cond b (v ∷ filter test values) (filter test values))
    go true later = (apart_filter v.id.0 test values h.0, later)
    go false later = later

-- so the selects of a call by index have the words of the answer
pub selects_put : (values : List Value) (call : ValueId) (answer : Answer) (indexes : List ℕ) (words next : ℕ → ℕ)
    → AreApart values
    → values_at values indexes ≡ by_number (filter (selects call) values)
    → ((n : ℕ) → next n ≡ puts (select_word_of answer) (values_at values indexes) words n)
    → (n : ℕ) → next n ≡ answered false values call answer words n
selects_put values call answer indexes words next apart is e n =
    e n ∙ ap (λ l. puts (select_word_of answer) l words n) is
    ∙ sorted_puts (select_word_of answer) (filter (selects call) values) words n
    (are_apart_filter (selects call) values apart)
    ∙ selects_answered false values call answer words n apart
