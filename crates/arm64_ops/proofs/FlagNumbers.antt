-- Differences of words as plain numbers: p is the sign bit of a word below 2 p, and d the difference modulo 2 p.
use Rattle.std.proofs.Common.{◌≡◌, ℕ, suc, ◌+◌, ◌-◌, ◌*◌, ◌/◌, ◌%◌, ◌^◌, ◌<◌, ◌≤◌, Bool, true, false, not, ◌&&◌, ◌||◌}
use Rattle.std.proofs.Common.{◌⊎◌, inl, inr, ⊎_elim, refl, sym, ap, ◌∙◌, subst, arith, mod-lt, mod-eq_of_lt}
use Rattle.std.specs.Prelude.{ℤ, pos, negsuc, neg_ℤ, ◌-ℤ◌, ◌<ℤ◌, ◌≤ℤ◌, int_lt, int_le, nat_lt, nat_le, ◌==◌}
use Rattle.std.specs.Prelude.{if◌then◌else◌}
use Rattle.std.proofs.lemmas.Int.{ints}
use Rattle.std.proofs.lemmas.Bool.{cases_lt, lt-ltb, le-ltb, ltb-true, ltb-false, eqb-true, eqb-false}
use Rattle.std.proofs.lemmas.Bool.Decides.{nat_tests}
use Rattle.std.proofs.lemmas.Nat.{div-mul-add}
use Rattle.std.proofs.Math.Nat.{div-eq_of_lt, add-mod, add-mod_right, add-mul-mod_self_left, mul_assoc}
use Rattle.gossa_base.specs.Words.{word_of}
use Rattle.ssa_ir.specs.Conditions.{differ}

-- ---- tests of signed numbers

-- what a test of order tells
pub less_tells : (x y : ℤ) → ((int_lt x y ≡ true) × (x <ℤ y)) ⊎ ((int_lt x y ≡ false) × (y ≤ℤ x))
less_tells x y = by (int_lt x y) refl
  where
    by : (t : Bool) → int_lt x y ≡ t → ((int_lt x y ≡ true) × (x <ℤ y)) ⊎ ((int_lt x y ≡ false) × (y ≤ℤ x))
    by true e = inl (e, omega (arith, ints))
    by false e = inr (e, omega (arith, ints))

pub at_most_tells : (x y : ℤ) → ((int_le x y ≡ true) × (x ≤ℤ y)) ⊎ ((int_le x y ≡ false) × (y <ℤ x))
at_most_tells x y = by (int_le x y) refl
  where
    by : (t : Bool) → int_le x y ≡ t → ((int_le x y ≡ true) × (x ≤ℤ y)) ⊎ ((int_le x y ≡ false) × (y <ℤ x))
    by true e = inl (e, omega (arith, ints))
    by false e = inr (e, omega (arith, ints))

at_most_self : (x : ℤ) → int_le x x ≡ false → ⊥
at_most_self x e = omega (arith, ints)

less_not_more : (x y : ℤ) → int_lt x y ≡ true → int_le x y ≡ false → ⊥
less_not_more x y p q = omega (arith, ints)

neither_less : (x y : ℤ) → int_lt x y ≡ false → int_le x y ≡ true → x ≡ y
neither_less x y p q = omega (arith, ints)

-- one order is the other one turned round and negated
pub not_at_most : (x y : ℤ) → not (int_le x y) ≡ int_lt y x
not_at_most x y = grind (arith, ints, less_tells, at_most_tells)

pub not_less : (x y : ℤ) → not (int_lt x y) ≡ int_le y x
not_less x y = grind (arith, ints, less_tells, at_most_tells)

-- ---- a difference modulo 2 p

-- two words of which p is the sign bit, and their difference modulo 2 p
pub record Apart (p a b d : ℕ) : Type 0 where
  pub some : 0 < p
  pub first : a < p + p
  pub second : b < p + p
  pub below : d < p + p
  pub sum : (d + b ≡ a) ⊎ (d + b ≡ a + (p + p))

-- a word, or 2 p less
abbrev pub signed_by : Bool → (p w : ℕ) → ℤ
signed_by t p w = if t then pos w else (pos w -ℤ pos (p + p))

-- a word of which p is the sign bit, as a signed number
abbrev pub signed_of : (p w : ℕ) → ℤ
signed_of p w = signed_by (nat_lt w p) p w

-- the signed difference is the one modulo 2 p, or lies 2 p below it
signed_difference : (p a b d : ℕ) → Apart p a b d
    → (signed_of p a -ℤ signed_of p b ≡ pos d) ⊎ (signed_of p a -ℤ signed_of p b ≡ pos d -ℤ pos (p + p))
signed_difference p a b d apart = by (nat_lt a p) (nat_lt b p) refl refl apart.sum
  where
    by : (s t : Bool) → nat_lt a p ≡ s → nat_lt b p ≡ t → (d + b ≡ a) ⊎ (d + b ≡ a + (p + p))
        → (signed_by s p a -ℤ signed_by t p b ≡ pos d)
        ⊎ (signed_by s p a -ℤ signed_by t p b ≡ pos d -ℤ pos (p + p))
    by true true e f (inl h) = inl (omega (arith, ints))
    by true true e f (inr h) = inr (omega (arith, ints))
    by false false e f (inl h) = inl (omega (arith, ints))
    by false false e f (inr h) = inr (omega (arith, ints))
    by true false e f (inl h) = inl (grind (arith, ints, nat_tests))
    by true false e f (inr h) = inl (omega (arith, ints))
    by false true e f (inl h) = inr (omega (arith, ints))
    by false true e f (inr h) = inl (grind (arith, ints, nat_tests))

-- the signed value lies in the range of the sign bit p
record InRange (p : ℕ) (x : ℤ) : Type 0 where
  low_end : neg_ℤ (pos p) ≤ℤ x
  high_end : x <ℤ pos p

signed_in_range : (p w : ℕ) → w < p + p → InRange p (signed_of p w)
signed_in_range p w small = by (nat_lt w p) refl
  where
    by : (t : Bool) → nat_lt w p ≡ t → InRange p (signed_by t p w)
    by true e = record { low_end = omega (arith, ints); high_end = omega (arith, ints, ltb-true) }
    by false e = record { low_end = omega (arith, ints, ltb-false); high_end = omega (arith, ints) }

-- the signed difference is out of range exactly where its sign isn't that of the order
overflow_by : (p d : ℕ) (x y z : ℤ) → InRange p x → InRange p y → d < p + p → x -ℤ y ≡ z
    → (z ≡ pos d) ⊎ (z ≡ pos d -ℤ pos (p + p))
    → not (int_le (neg_ℤ (pos p)) z && int_lt z (pos p)) ≡ differ (not (nat_lt d p)) (int_lt x y)
overflow_by p d x y z inx iny small e cases =
    by (int_le (neg_ℤ (pos p)) z) (int_lt z (pos p)) (nat_lt d p) (int_lt x y) refl refl refl refl cases
  where
    by : (l h s t : Bool) → int_le (neg_ℤ (pos p)) z ≡ l → int_lt z (pos p) ≡ h → nat_lt d p ≡ s → int_lt x y ≡ t
        → (z ≡ pos d) ⊎ (z ≡ pos d -ℤ pos (p + p)) → not (l && h) ≡ differ (not s) t
    by true true true false el eh es et c = refl
    by true true false true el eh es et c = refl
    by true false true true el eh es et c = refl
    by true false false false el eh es et c = refl
    by false h true true el eh es et c = refl
    by false h false false el eh es et c = refl
    by true true true true el eh es et (inl c) = absurd (omega (arith, ints, ltb-true d p es))
    by true true true true el eh es et (inr c) = absurd (omega (arith, ints, ltb-true d p es))
    by true true false false el eh es et (inl c) = absurd (omega (arith, ints, ltb-false d p es))
    by true true false false el eh es et (inr c) = absurd (omega (arith, ints, ltb-false d p es))
    by true false true false el eh es et (inl c) = absurd (omega (arith, ints, ltb-true d p es))
    by true false true false el eh es et (inr c) = absurd (omega (arith, ints, ltb-true d p es))
    by true false false true el eh es et (inl c) = absurd (omega (arith, ints, ltb-false d p es))
    by true false false true el eh es et (inr c) = absurd (omega (arith, ints, ltb-false d p es))
    by false h true false el eh es et (inl c) = absurd (omega (arith, ints, ltb-true d p es))
    by false h true false el eh es et (inr c) = absurd (omega (arith, ints, ltb-true d p es))
    by false h false true el eh es et (inl c) = absurd (omega (arith, ints, ltb-false d p es))
    by false h false true el eh es et (inr c) = absurd (omega (arith, ints, ltb-false d p es))

-- so it is of two words of which p is the sign bit
pub overflow : (p a b d : ℕ) → Apart p a b d
    → not (int_le (neg_ℤ (pos p)) (signed_of p a -ℤ signed_of p b) && int_lt (signed_of p a -ℤ signed_of p b) (pos p))
    ≡ differ (not (nat_lt d p)) (int_lt (signed_of p a) (signed_of p b))
overflow p a b d apart =
    overflow_by p d (signed_of p a) (signed_of p b) (signed_of p a -ℤ signed_of p b)
    (signed_in_range p a apart.first) (signed_in_range p b apart.second) apart.below refl
    (signed_difference p a b d apart)

-- ---- the sign bit

-- bit p of a word below 2 p
pub sign_bit : (p w : ℕ) → 0 < p → w < p + p → (w / p % 2 == 1) ≡ not (nat_lt w p)
sign_bit p w some small =
    ⊎_elim
    (λ lt. ap (λ q. q % 2 == 1) (div-eq_of_lt lt) ∙ ap not (sym (lt-ltb w p lt)))
    (λ le. ap (λ q. q % 2 == 1) (ap (λ n. n / p) (whole le) ∙ div-mul-add 1 p (w - p) (rest le))
    ∙ ap not (sym (le-ltb w p le)))
    (cases_lt w p)
  where
    whole : p ≤ w → w ≡ 1 * p + (w - p)
    whole le = omega arith

    rest : p ≤ w → w - p < p
    rest le = omega arith

-- a signed number is below 0 where its sign bit is set
pub sign_below_zero : (p w : ℕ) → w < p + p → int_lt (signed_of p w) (pos 0) ≡ not (nat_lt w p)
sign_below_zero p w small = by (nat_lt w p) refl
  where
    by : (t : Bool) → nat_lt w p ≡ t → int_lt (signed_by t p w) (pos 0) ≡ not t
    by true e = grind (arith, ints, less_tells)
    by false e = grind (arith, ints, less_tells)

-- ---- tests of two words, and of their signed values

-- a difference is 0 where the words are the same
pub zero_difference : (p a b d : ℕ) → Apart p a b d → (d == 0) ≡ (a == b)
zero_difference p a b d apart = by (d == 0) (a == b) refl refl apart.sum
  where
    by : (s t : Bool) → (d == 0) ≡ s → (a == b) ≡ t → (d + b ≡ a) ⊎ (d + b ≡ a + (p + p)) → s ≡ t
    by true true es et c = refl
    by false false es et c = refl
    by true false es et (inl c) = absurd (eqb-false a b et (omega (arith, eqb-true d 0 es)))
    by true false es et (inr c) = absurd (omega (arith, eqb-true d 0 es))
    by false true es et (inl c) = absurd (eqb-false d 0 es (omega (arith, eqb-true a b et)))
    by false true es et (inr c) = absurd (omega (arith, eqb-true a b et))

-- two words with one signed value are the same
same_signed : (p a b : ℕ) → a < p + p → b < p + p → signed_of p a ≡ signed_of p b → a ≡ b
same_signed p a b = by (nat_lt a p) (nat_lt b p) refl refl
  where
    by : (s t : Bool) → nat_lt a p ≡ s → nat_lt b p ≡ t → a < p + p → b < p + p
        → signed_by s p a ≡ signed_by t p b → a ≡ b
    by true true es et la lb e = omega (arith, ints)
    by true false es et la lb e = absurd (omega (arith, ints))
    by false true es et la lb e = absurd (omega (arith, ints))
    by false false es et la lb e = omega (arith, ints)

-- a signed number that is the same or less is at most the other
pub equal_or_less : (p a b : ℕ) → a < p + p → b < p + p
    → (a == b) || int_lt (signed_of p a) (signed_of p b) ≡ int_le (signed_of p a) (signed_of p b)
equal_or_less p a b la lb =
    by (a == b) (int_lt (signed_of p a) (signed_of p b)) (int_le (signed_of p a) (signed_of p b)) refl refl refl
  where
    by : (s t u : Bool) → (a == b) ≡ s → int_lt (signed_of p a) (signed_of p b) ≡ t
        → int_le (signed_of p a) (signed_of p b) ≡ u → s || t ≡ u
    by true t true es et eu = refl
    by false true true es et eu = refl
    by false false false es et eu = refl
    by true t false es et eu =
        absurd (at_most_self (signed_of p a) (ap (λ n. int_le (signed_of p a) (signed_of p n)) (eqb-true a b es) ∙ eu))
    by false true false es et eu = absurd (less_not_more (signed_of p a) (signed_of p b) et eu)
    by false false true es et eu =
        absurd (eqb-false a b es (same_signed p a b la lb (neither_less (signed_of p a) (signed_of p b) et eu)))

-- two signs that differ from one, taken twice, are as before
pub differ_twice : (n q : Bool) → differ n (differ n q) ≡ q
differ_twice true true = refl
differ_twice true false = refl
differ_twice false q = refl

-- a carry, by itself and with equality, against the order of the words
pub not_above : (a b : ℕ) → not (nat_le b a) ≡ nat_lt a b
not_above a b = grind (arith, nat_tests)

pub equal_or_below : (a b : ℕ) → (a == b) || not (nat_le b a) ≡ nat_le a b
equal_or_below a b = grind (arith, nat_tests)

pub neither_below : (a b : ℕ) → not ((a == b) || not (nat_le b a)) ≡ nat_lt b a
neither_below a b = grind (arith, nat_tests)

-- ---- differences and remainders

-- the word of a difference is the difference modulo 2 ^ 64
pub word_of_difference : (a b : ℕ) → (i : ℕ) × (j : ℕ) × (word_of (pos a -ℤ pos b) + b + 2 ^ 64 * i ≡ a + 2 ^ 64 * j)
word_of_difference a b = ⊎_elim above below (cases_lt a b)
  where
    above : a < b → (i : ℕ) × (j : ℕ) × (word_of (pos a -ℤ pos b) + b + 2 ^ 64 * i ≡ a + 2 ^ 64 * j)
    above lt =
        let n : ℕ = b - suc a in
        let e : pos a -ℤ pos b ≡ negsuc n = omega (arith, ints) in
        (0, n / 2 ^ 64 + 1, ap (λ z. word_of z + b + 2 ^ 64 * 0) e ∙ omega arith)

    below : b ≤ a → (i : ℕ) × (j : ℕ) × (word_of (pos a -ℤ pos b) + b + 2 ^ 64 * i ≡ a + 2 ^ 64 * j)
    below le =
        let n : ℕ = a - b in
        let e : pos a -ℤ pos b ≡ pos n = omega (arith, ints) in
        (n / 2 ^ 64, 0, ap (λ z. word_of z + b + 2 ^ 64 * (n / 2 ^ 64)) e ∙ omega arith)

-- two remainders add up to that of the sum, or to m more
sum_of_rests : (u v m : ℕ) → 0 < m → (u % m + v % m ≡ (u + v) % m) ⊎ (u % m + v % m ≡ (u + v) % m + m)
sum_of_rests u v m some = ⊎_elim
    (λ lt. inl (sym (add-mod u v m ∙ mod-eq_of_lt lt)))
    (λ le. inr (over le))
    (cases_lt (u % m + v % m) m)
  where
    over : m ≤ u % m + v % m → u % m + v % m ≡ (u + v) % m + m
    over le =
        let t : ℕ = u % m + v % m - m in
        let whole : u % m + v % m ≡ t + m = omega arith in
        let small : t < m = omega (arith, mod-lt u some, mod-lt v some) in
        whole ∙ ap (λ n. n + m) (sym (add-mod u v m ∙ ap (λ n. n % m) whole ∙ add-mod_right t m ∙ mod-eq_of_lt small))

-- what is modulo 2 ^ 64 a difference, is one modulo each m that divides 2 ^ 64
pub difference_rest : (m r w a b i j : ℕ) → 0 < m → 2 ^ 64 ≡ m * r → w + b + 2 ^ 64 * i ≡ a + 2 ^ 64 * j
    → (w % m + b % m ≡ a % m) ⊎ (w % m + b % m ≡ a % m + m)
difference_rest m r w a b i j some whole e =
    subst (λ n. (w % m + b % m ≡ n) ⊎ (w % m + b % m ≡ n + m)) same (sum_of_rests w b m some)
  where
    many : (x n : ℕ) → (x + 2 ^ 64 * n) % m ≡ x % m
    many x n =
        ap (λ y. (x + y * n) % m) whole ∙ ap (λ y. (x + y) % m) (mul_assoc m r n) ∙ add-mul-mod_self_left x m (r * n)

    same : (w + b) % m ≡ a % m
    same = sym (many (w + b) i) ∙ ap (λ n. n % m) e ∙ many a j
