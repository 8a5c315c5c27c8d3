-- Words put one after the other, and what each value then has.
use Rattle.std.proofs.Common.{◌≡◌, ◌≢◌, ℕ, Bool, true, false, cond, eqb, List, [], ◌∷◌, filter, Option, None, Some}
use Rattle.std.proofs.Common.{slice_index_or, refl, sym, ap, ◌∙◌, subst}
use Rattle.std.proofs.lemmas.Bool.{eqb-true, eq-eqb}
use Rattle.gossa_base.specs.declared.ids.ValueId.{ValueId}
use Rattle.ssa_ir.specs.declared.func.Value.{Value}
use Rattle.ssa_ir.specs.declared.op.Op.{Op}
use Rattle.ssa_ir.specs.declared.op.Op.TheVariants.{Phi}
use Rattle.ssa_ir.specs.Calls.{result_or, answered}
use Rattle.ssa_ir.specs.FirstOrder.{selects}
use Rattle.ssa_ir.specs.OpKinds.{is_phi}
use Rattle.ssa_ir.specs.Inputs.{Answer, result_word}
use Rattle.ssa_ir.specs.Lookups.{value_named}
use Rattle.ssa_ir.specs.Phis.{source_by_op, source_of, entered}
use Rattle.ssa_ir.specs.Run.{put}
use Rattle.ssa_ir.specs.Widths.{kept}
use Rattle.ssa_meaning.specs.tables.Puts.{puts, phi_word}
use Rattle.block_order.specs.Apart.{IsApart, AreApart}

-- the word of a value that was found, where it passes a test
abbrev pub word_of_found : (Value → Bool) → (Value → ℕ) → Option Value → ℕ → ℕ
word_of_found test word None w = w
word_of_found test word (Some v) w = cond (test v) (word v) w

true_is_not_false : true ≡ false → ⊥
true_is_not_false e = cc

-- another number's word stays
put_elsewhere : (words : ℕ → ℕ) (k w n : ℕ) → n ≢ k → put words k w n ≡ words n
put_elsewhere words k w n ne = go (eqb n k) refl
  where
    go : (b : Bool) → eqb n k ≡ b → cond (eqb n k) w (words n) ≡ words n
    go true e = absurd (ne (eqb-true n k e))
    go false e = ap (λ b. cond b w (words n)) e

put_here : (words : ℕ → ℕ) (k w n : ℕ) → eqb n k ≡ true → put words k w n ≡ w
put_here words k w n e = ap (λ b. cond b w (words n)) e

-- values of other numbers leave a word
pub puts_apart : (word : Value → ℕ) (test : Value → Bool) (values : List Value) (words : ℕ → ℕ) (n : ℕ)
    → IsApart n values → puts word (filter test values) words n ≡ words n
puts_apart word test [] words n h = refl
puts_apart word test (v ∷ values) words n h =
    by_test (test v) refl (puts_apart word test values words n h.1)
    (puts_apart word test values (put words v.id.0 (word v)) n h.1)
  where
    by_test : (b : Bool) → test v ≡ b → puts word (filter test values) words n ≡ words n
        → puts word (filter test values) (put words v.id.0 (word v)) n ≡ put words v.id.0 (word v) n
        → puts word (filter test (v ∷ values)) words n ≡ words n
    by_test true e without with =
        ap (λ b. puts word (cond b (v ∷ filter test values) (filter test values)) words n) e
        ∙ with ∙ put_elsewhere words v.id.0 (word v) n h.0
    by_test false e without with =
        ap (λ b. puts word (cond b (v ∷ filter test values) (filter test values)) words n) e ∙ without

-- after words were put for the values that pass a test, the value of a number has its word
pub puts_found : (word : Value → ℕ) (test : Value → Bool) (values : List Value) (words : ℕ → ℕ) (n : ℕ)
    → AreApart values
    → puts word (filter test values) words n ≡ word_of_found test word (value_named values (record { 0 = n })) (words n)
puts_found word test [] words n h = refl
puts_found word test (v ∷ values) words n h =
    go (eqb v.id.0 n) (test v) refl refl (λ w. puts_found word test values w n h.1)
  where
    rest : List Value
    rest = filter test values

    later : Option Value
    later = value_named values (record { 0 = n })

    with : ℕ → ℕ
    with = put words v.id.0 (word v)

    left : Bool → ℕ
    left b = puts word (cond b (v ∷ rest) rest) words n

    right : Bool → ℕ
    right b = word_of_found test word (cond b (Some v) later) (words n)

    here : eqb v.id.0 n ≡ true → IsApart n values
    here e = subst (λ k. IsApart k values) (eqb-true v.id.0 n e) h.0

    not_here : eqb v.id.0 n ≡ false → n ≢ v.id.0
    not_here f e = true_is_not_false (sym (eq-eqb v.id.0 n (sym e)) ∙ f)

    go : (found passes : Bool) → eqb v.id.0 n ≡ found → test v ≡ passes
        → ((w : ℕ → ℕ) → puts word rest w n ≡ word_of_found test word later (w n))
        → left (test v) ≡ right (eqb v.id.0 n)
    go true true ef ep onward =
        ap left ep ∙ puts_apart word test values with n (here ef)
        ∙ put_here words v.id.0 (word v) n (eq-eqb n v.id.0 (sym (eqb-true v.id.0 n ef)))
        ∙ sym (ap (λ b. cond b (word v) (words n)) ep) ∙ sym (ap right ef)
    go true false ef ep onward =
        ap left ep ∙ puts_apart word test values words n (here ef)
        ∙ sym (ap (λ b. cond b (word v) (words n)) ep) ∙ sym (ap right ef)
    go false true ef ep onward =
        ap left ep ∙ onward with
        ∙ ap (word_of_found test word later) (put_elsewhere words v.id.0 (word v) n (not_here ef))
        ∙ sym (ap right ef)
    go false false ef ep onward = ap left ep ∙ onward words ∙ sym (ap right ef)

-- the number of a value that was found
pub found_number : (values : List Value) (n : ℕ) (v : Value) → value_named values (record { 0 = n }) ≡ Some v
    → v.id.0 ≡ n
found_number [] n v e = cc
found_number (u ∷ values) n v e = go (eqb u.id.0 n) refl (λ f. found_number values n v f)
  where
    go : (b : Bool) → eqb u.id.0 n ≡ b → (value_named values (record { 0 = n }) ≡ Some v → v.id.0 ≡ n) → v.id.0 ≡ n
    go true same onward =
        let first : Some u ≡ Some v =
        sym (ap (λ b. cond b (Some u) (value_named values (record { 0 = n }))) same) ∙ e in
        let is : u ≡ v = cc in
        sym (ap (λ w. w.id.0) is) ∙ eqb-true u.id.0 n same
    go false other onward = onward (sym (ap (λ b. cond b (Some u) (value_named values (record { 0 = n }))) other) ∙ e)

-- the words that a call's selects get, one after the other, are those of the answer
pub selects_answered : (whole : Bool) (values : List Value) (call : ValueId) (answer : Answer) (words : ℕ → ℕ) (n : ℕ)
    → AreApart values
    → puts (λ v. kept whole v.ty (result_word answer v.aux)) (filter (selects call) values) words n
    ≡ answered whole values call answer words n
selects_answered whole values call answer words n apart =
    puts_found (λ v. kept whole v.ty (result_word answer v.aux)) (selects call) values words n apart
    ∙ same (value_named values (record { 0 = n }))
  where
    same : (o : Option Value) → word_of_found (selects call) (λ v. kept whole v.ty (result_word answer v.aux)) o
        (words n)
        ≡ result_or whole answer call o (words n)
    same None = refl
    same (Some v) = refl

taken_by_op : (k n : ℕ) (words : ℕ → ℕ) (id : ValueId) (args : List ValueId) (op : Op) → id.0 ≡ n
    → cond (is_phi op) (words (slice_index_or args k id).0) (words n) ≡ words (source_by_op k id args op).0
taken_by_op k n words id args Phi e = refl
taken_by_op k n words id args _ e = ap words (sym e)

-- the words that phis get, one after the other and each from the words before, are those of the entry
pub phis_entered : (values : List Value) (k : ℕ) (words : ℕ → ℕ) (n : ℕ) → AreApart values
    → puts (phi_word k words) (filter (λ v. is_phi v.op) values) words n ≡ entered values (Some k) words n
phis_entered values k words n apart =
    puts_found (phi_word k words) (λ v. is_phi v.op) values words n apart
    ∙ same (value_named values (record { 0 = n })) refl
  where
    same : (o : Option Value) → value_named values (record { 0 = n }) ≡ o
        → word_of_found (λ v. is_phi v.op) (phi_word k words) o (words n) ≡ words (source_of k n o)
    same None e = refl
    same (Some v) e = taken_by_op k n words v.id v.args v.op (found_number values n v e)
