-- Words in registers and in the frame.
use Rattle.std.proofs.Common.{◌≡◌, ◌≢◌, ℕ, ◌+◌, Bool, true, false, cond, eqb, List, [], ◌∷◌, map, refl, sym, ap, ◌∙◌}
use Rattle.std.proofs.Common.{◌⊎◌, inl, inr, arith}
use Rattle.std.proofs.lemmas.Bool.Decides.{nat_tests}
use Rattle.std.proofs.lemmas.Bool.{eqb-true}
use Rattle.gossa_base.specs.Words.{low}
use Rattle.gossa_base.specs.declared.ids.ValueId.{ValueId}
use Rattle.ssa_ir.specs.Inputs.{Inputs}
use Rattle.ssa_ir.specs.Run.{put}
use Rattle.listing.specs.declared.line.Place.{Place}
use Rattle.listing.specs.declared.line.Place.TheVariants.{Reg, Out, Arg, Frame, Home, Const, Addr}
use Rattle.listing.specs.declared.code.Code.{Code}
use Rattle.listing.specs.Machine.{Machine, word_at, with_place}
use Rattle.sum_compile.specs.Plain.{spill_line, load_line, sum_lines, add_lines}
use Rattle.sum_compile.proofs.NumberedLemmas.{same_id}
use Rattle.sum_compile.proofs.StraightLemmas.{after, AllStraight, straight_effect}

pub put_same : (t : ℕ → ℕ) (n w k : ℕ) → k ≡ n → put t n w k ≡ w
put_same t n w k e = ap (λ b. cond b w (t k)) (test k n e)
  where
    test : (k n : ℕ) → k ≡ n → eqb k n ≡ true
    test k n e = grind (arith, nat_tests)

put_other : (t : ℕ → ℕ) (n w k : ℕ) → k ≢ n → put t n w k ≡ t k
put_other t n w k ne = ap (λ b. cond b w (t k)) (test k n ne)
  where
    test : (k n : ℕ) → k ≢ n → eqb k n ≡ false
    test k n ne = grind (arith, nat_tests)

-- a place that is a constant or a frame word other than h
abbrev pub Apart : ℕ → Place → Type 0
Apart h (Frame i) = i ≢ h
Apart h (Const c) = Unit {0}
Apart h _ = ⊥

-- a place that is a constant or a frame word
abbrev pub IsHeld : Place → Type 0
IsHeld (Frame i) = Unit {0}
IsHeld (Const c) = Unit {0}
IsHeld _ = ⊥

-- a register's word plays no part in a frame word or a constant
pub word_reg : (inputs : Inputs) (code : Code) (p : Place) (r w : ℕ) (m : Machine) → IsHeld p
    → word_at inputs code p (with_place (Reg r) w m) ≡ word_at inputs code p m
word_reg inputs code (Reg r') r w m h = absurd h
word_reg inputs code (Out j) r w m h = absurd h
word_reg inputs code (Arg j) r w m h = absurd h
word_reg inputs code (Frame i) r w m h = refl
word_reg inputs code (Home v) r w m h = absurd h
word_reg inputs code (Const c) r w m h = refl
word_reg inputs code (Addr s) r w m h = absurd h

-- machines whose frames agree but for word h have the same word at a place apart from it
pub word_apart : (inputs : Inputs) (code : Code) (p : Place) (h w : ℕ) (m m' : Machine) → Apart h p
    → m'.frame ≡ put m.frame h w
    → word_at inputs code p m' ≡ word_at inputs code p m
word_apart inputs code (Reg r) h w m m' a e = absurd a
word_apart inputs code (Out j) h w m m' a e = absurd a
word_apart inputs code (Arg j) h w m m' a e = absurd a
word_apart inputs code (Frame i) h w m m' a e = ap (λ f. f i) e ∙ put_other m.frame h w i a
word_apart inputs code (Home v) h w m m' a e = absurd a
word_apart inputs code (Const c) h w m m' a e = refl
word_apart inputs code (Addr s) h w m m' a e = absurd a

-- a spill sets the frame word of its home, and keeps the registers
pub spill_frame : (inputs : Inputs) (code : Code) (at : ValueId → Place) (r : ℕ) (id : ValueId) (h : ℕ) (m : Machine)
    → at id ≡ Frame h
    → straight_effect inputs code (spill_line at (r, id)) m ≡ with_place (Frame h) (m.registers r) m
spill_frame inputs code at r id h m e = ap (λ p. with_place p (m.registers r) m) e

sum_by_test : (inputs : Inputs) (code : Code) (at : ValueId → Place) (id a b : ValueId) (h : ℕ) (m : Machine) (t : Bool)
    → eqb a.0 b.0 ≡ t
    → at id ≡ Frame h → IsHeld (at b)
    → (after inputs code (cond t (load_line at 0 a ∷ sum_lines at id 0)
    (load_line at 0 a ∷ load_line at 1 b ∷ sum_lines at id 1)) m).frame
    ≡ put m.frame h (low 64 (word_at inputs code (at a) m + word_at inputs code (at b) m))
sum_by_test inputs code at id a b h m true t e hb =
    let x = word_at inputs code (at a) m in
    let m1 = with_place (Reg 0) x m in
    let m2 = with_place (Reg 0) (low 64 (x + x)) m1 in
    ap (λ p. (with_place p (low 64 (x + x)) m2).frame) e
    ∙ ap (λ v. put m.frame h (low 64 (x + word_at inputs code (at v) m))) (same_id a b (eqb-true a.0 b.0 t))
sum_by_test inputs code at id a b h m false t e hb =
    let x = word_at inputs code (at a) m in
    let m1 = with_place (Reg 0) x m in
    let y = word_at inputs code (at b) m1 in
    let m2 = with_place (Reg 0) (low 64 (x + y)) (with_place (Reg 1) y m1) in
    ap (λ p. (with_place p (low 64 (x + y)) m2).frame) e
    ∙ ap (λ w. put m.frame h (low 64 (x + w))) (word_reg inputs code (at b) 0 x m hb)

-- the lines of a sum set its home to the sum of its operands' words, and change else only registers
pub sum_frame : (inputs : Inputs) (code : Code) (at : ValueId → Place) (id a b : ValueId) (h : ℕ) (m : Machine)
    → at id ≡ Frame h → IsHeld (at b)
    → (after inputs code (add_lines at id (a ∷ b ∷ [])) m).frame
    ≡ put m.frame h (low 64 (word_at inputs code (at a) m + word_at inputs code (at b) m))
sum_frame inputs code at id a b h m e hb = sum_by_test inputs code at id a b h m (eqb a.0 b.0) refl e hb

straight_by_test : (at : ValueId → Place) (id a b : ValueId) (t : Bool)
    → AllStraight (cond t (load_line at 0 a ∷ sum_lines at id 0)
    (load_line at 0 a ∷ load_line at 1 b ∷ sum_lines at id 1))
straight_by_test at id a b true = (tt, (refl, (tt, tt)))
straight_by_test at id a b false = (tt, (tt, (refl, (tt, tt))))

pub sum_straight : (at : ValueId → Place) (id a b : ValueId) → AllStraight (add_lines at id (a ∷ b ∷ []))
sum_straight at id a b = straight_by_test at id a b (eqb a.0 b.0)

-- spills, one after the other

-- each entry that is spilled to frame word h comes from a register with this word
abbrev pub EachSpills : (ValueId → Place) → (ℕ → ℕ) → (h x : ℕ) → List (ℕ × ValueId) → Type 0
EachSpills at regs h x [] = Unit {0}
EachSpills at regs h x ((r, id) ∷ held) =
    ((h' : ℕ) × (at id ≡ Frame h') × (h' ≡ h → regs r ≡ x)) × EachSpills at regs h x held

-- some entry is spilled to frame word h
abbrev pub SomeSpills : (ValueId → Place) → (h : ℕ) → List (ℕ × ValueId) → Type 0
SomeSpills at h [] = ⊥
SomeSpills at h ((r, id) ∷ held) = (at id ≡ Frame h) ⊎ SomeSpills at h held

frame_injective : (i j : ℕ) → Frame i ≡ Frame j → i ≡ j
frame_injective i j e = cc

equal_or_not : (i j : ℕ) → (i ≡ j) ⊎ (i ≢ j)
equal_or_not i j = by_equality i j (eqb i j) refl
  where
    differ : (i j : ℕ) → eqb i j ≡ false → i ≢ j
    differ i j f e = grind (arith, nat_tests)

    by_equality : (i j : ℕ) (t : Bool) → eqb i j ≡ t → (i ≡ j) ⊎ (i ≢ j)
    by_equality i j true t = inl (eqb-true i j t)
    by_equality i j false t = inr (differ i j t)

-- spilling one entry keeps the registers and brings the word to its frame word
spilled_word : (t : ℕ → ℕ) (h h' w x : ℕ) → (h' ≡ h → w ≡ x) → (t h ≡ x) ⊎ (h' ≡ h) → put t h' w h ≡ x
spilled_word t h h' w x same had = elim (equal_or_not h' h) [
  | inl e ↦ put_same t h' w h (sym e) ∙ same e
  | inr ne ↦ put_other t h' w h (λ e. ne (sym e)) ∙ elim had [ inl e ↦ e | inr e ↦ absurd (ne e) ]
]

pub spills_frame : (inputs : Inputs) (code : Code) (at : ValueId → Place) (held : List (ℕ × ValueId)) (h x : ℕ)
    (m : Machine)
    → EachSpills at m.registers h x held → (m.frame h ≡ x) ⊎ SomeSpills at h held
    → (after inputs code (map (spill_line at) held) m).frame h ≡ x
spills_frame inputs code at [] h x m each had = elim had [ inl e ↦ e | inr e ↦ absurd e ]
spills_frame inputs code at ((r, id) ∷ held) h x m each had =
    let h' = each.0.0 in
    let m1 = with_place (Frame h') (m.registers r) m in
    let onward : (m.frame h ≡ x) ⊎ (h' ≡ h) → (after inputs code (map (spill_line at) held) m1).frame h ≡ x =
    λ now. spills_frame inputs code at held h x m1 each.1
    (inl (spilled_word m.frame h h' (m.registers r) x each.0.2 now)) in
    ap (λ k. (after inputs code (map (spill_line at) held) k).frame h) (spill_frame inputs code at r id h' m each.0.1)
    ∙ elim had [
      | inl e ↦ onward (inl e)
      | inr some ↦ elim some [
        | inl here ↦ onward (inr (frame_injective h' h (sym each.0.1 ∙ here)))
        | inr later ↦ spills_frame inputs code at held h x m1 each.1 (inr later)
      ]
    ]

pub spills_straight : (at : ValueId → Place) (held : List (ℕ × ValueId)) → AllStraight (map (spill_line at) held)
spills_straight at [] = tt
spills_straight at ((r, id) ∷ held) = (tt, spills_straight at held)
