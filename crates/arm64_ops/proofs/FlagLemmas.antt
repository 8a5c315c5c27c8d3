-- The flags of a difference at a width, and what each condition says of them.
use Rattle.std.proofs.Common.{◌≡◌, ℕ, ◌+◌, ◌-◌, ◌*◌, ◌^◌, ◌<◌, ◌≤◌, Bool, true, false, not, ◌||◌, ◌⊎◌, refl, sym, ap}
use Rattle.std.proofs.Common.{ap₂, ◌∙◌, subst, arith, mod-lt, mod-eq_of_lt}
use Rattle.std.specs.Prelude.{ℤ, pos, ◌-ℤ◌, int_lt, int_le, nat_lt, nat_le, ◌==◌, if◌then◌else◌}
use mathlib.Core.Bool.{beq}
use Rattle.std.proofs.lemmas.Nat.{and_le_l, pow_pos, pow-add}
use Rattle.gossa_base.specs.Words.{low, signed_at, word_of}
use Rattle.ssa_ir.specs.declared.op.CondCode.{CondCode}
use Rattle.ssa_ir.specs.declared.op.CondCode.TheVariants.{EQ, NE, LT, LE, GT, GE, LO, LS, HI, HS}
use Rattle.ssa_ir.specs.Arithmetic.{and_at, difference_at, is_at_most, is_equal, is_less, one_where}
use Rattle.ssa_ir.specs.Conditions.{Flags, compares, differ, fits, flags_in, flags_of_difference, flags_of_test, holds}
use Rattle.ssa_ir.specs.Conditions.{holds_of, inverse, is_negative, packed}
use Rattle.arm64_ops.proofs.FlagNumbers.{not_at_most, not_less, Apart, signed_of, overflow, sign_bit, sign_below_zero}
use Rattle.arm64_ops.proofs.FlagNumbers.{zero_difference, equal_or_less, differ_twice, not_above, equal_or_below}
use Rattle.arm64_ops.proofs.FlagNumbers.{neither_below, word_of_difference, difference_rest}

-- ---- a difference at a width

-- twice the sign bit of k bits is 2 ^ k
pub two_halves : (k : ℕ) → 1 ≤ k → 2 ^ k ≡ 2 ^ (k - 1) + 2 ^ (k - 1)
two_halves k some =
    let next : k ≡ 1 + (k - 1) = omega arith in
    ap (λ n. 2 ^ n) next ∙ pow-add 2 1 (k - 1) ∙ omega arith

-- the low k bits are below 2 ^ k
low_below : (k w : ℕ) → 1 ≤ k → low k w < 2 ^ (k - 1) + 2 ^ (k - 1)
low_below k w some = subst (λ n. low k w < n) (two_halves k some) (mod-lt w (pow_pos k))

-- the difference at a width is one modulo 2 ^ k
pub apart_at : (k a b : ℕ) → 1 ≤ k → k ≤ 64 → Apart (2 ^ (k - 1)) (low k a) (low k b) (difference_at k a b)
apart_at k a b some few = record {
  some = pow_pos (k - 1);
  first = low_below k a some;
  second = low_below k b some;
  below = low_below k (word_of (pos a -ℤ pos b)) some;
  sum = subst (λ n. (d + low k b ≡ low k a) ⊎ (d + low k b ≡ low k a + n)) (two_halves k some) cut_sum;
}
  where
    whole : 2 ^ 64 ≡ 2 ^ k * 2 ^ (64 - k)
    whole = let sum : 64 ≡ k + (64 - k) = omega arith in ap (λ n. 2 ^ n) sum ∙ pow-add 2 k (64 - k)

    d : ℕ
    d = difference_at k a b

    cut_sum : (difference_at k a b + low k b ≡ low k a) ⊎ (difference_at k a b + low k b ≡ low k a + 2 ^ k)
    cut_sum =
        let found = word_of_difference a b in
        difference_rest (2 ^ k) (2 ^ (64 - k)) (word_of (pos a -ℤ pos b)) a b found.0 found.1 (pow_pos k) whole found.2

-- the signed value of a width is that of its sign bit
signed_at_is : (k w : ℕ) → 1 ≤ k → signed_at k w ≡ signed_of (2 ^ (k - 1)) (low k w)
signed_at_is k w some =
    ap (λ n. if nat_lt (low k w) (2 ^ (k - 1)) then pos (low k w) else (pos (low k w) -ℤ pos n)) (two_halves k some)

is_less_is : (k a b : ℕ) → 1 ≤ k
    → is_less k a b ≡ int_lt (signed_of (2 ^ (k - 1)) (low k a)) (signed_of (2 ^ (k - 1)) (low k b))
is_less_is k a b some = ap₂ int_lt (signed_at_is k a some) (signed_at_is k b some)

-- N of a difference is that its sign bit is set
negative_difference : (k a b : ℕ) → 1 ≤ k
    → is_negative k (difference_at k a b) ≡ not (nat_lt (difference_at k a b) (2 ^ (k - 1)))
negative_difference k a b some =
    sign_bit (2 ^ (k - 1)) (difference_at k a b) (pow_pos (k - 1)) (low_below k (word_of (pos a -ℤ pos b)) some)

-- V of a difference is that its sign isn't that of the order
pub overflow_at : (k a b : ℕ) → 1 ≤ k → k ≤ 64
    → not (fits k (signed_at k a -ℤ signed_at k b)) ≡ differ (is_negative k (difference_at k a b)) (is_less k a b)
overflow_at k a b some few =
    ap₂ (λ x y. not (fits k (x -ℤ y))) (signed_at_is k a some) (signed_at_is k b some)
    ∙ overflow (2 ^ (k - 1)) (low k a) (low k b) (difference_at k a b) (apart_at k a b some few)
    ∙ ap₂ differ (sym (negative_difference k a b some)) (sym (is_less_is k a b some))

-- ---- words of flags

-- a word of flags has the flags that it was made of
unpacked_bits : (n z c v : Bool)
    → flags_in (packed (record { n = n; z = z; c = c; v = v })) ≡ record { n = n; z = z; c = c; v = v }
unpacked_bits true true true true = refl
unpacked_bits true true true false = refl
unpacked_bits true true false true = refl
unpacked_bits true true false false = refl
unpacked_bits true false true true = refl
unpacked_bits true false true false = refl
unpacked_bits true false false true = refl
unpacked_bits true false false false = refl
unpacked_bits false true true true = refl
unpacked_bits false true true false = refl
unpacked_bits false true false true = refl
unpacked_bits false true false false = refl
unpacked_bits false false true true = refl
unpacked_bits false false true false = refl
unpacked_bits false false false true = refl
unpacked_bits false false false false = refl

pub unpacked : (f : Flags) → flags_in (packed f) ≡ f
unpacked f = unpacked_bits f.n f.z f.c f.v

-- ---- conditions

not_not : (b : Bool) → b ≡ not (not b)
not_not true = refl
not_not false = refl

pub inverse_twice : (c : CondCode) → inverse (inverse c) ≡ c
inverse_twice EQ = refl
inverse_twice NE = refl
inverse_twice LT = refl
inverse_twice LE = refl
inverse_twice GT = refl
inverse_twice GE = refl
inverse_twice LO = refl
inverse_twice LS = refl
inverse_twice HI = refl
inverse_twice HS = refl

pub inverse_of : (c : CondCode) (f : Flags) → holds_of (inverse c) f ≡ not (holds_of c f)
inverse_of EQ f = refl
inverse_of NE f = not_not f.z
inverse_of LT f = refl
inverse_of GE f = not_not (differ f.n f.v)
inverse_of LE f = refl
inverse_of GT f = not_not (f.z || differ f.n f.v)
inverse_of LO f = not_not f.c
inverse_of HS f = refl
inverse_of LS f = refl
inverse_of HI f = not_not (f.z || not f.c)

-- Z behind a difference is that the words are the same
zero_at : (k a b : ℕ) → 1 ≤ k → k ≤ 64 → (difference_at k a b == 0) ≡ is_equal k a b
zero_at k a b some few =
    zero_difference (2 ^ (k - 1)) (low k a) (low k b) (difference_at k a b) (apart_at k a b some few)

-- N and V differ behind a difference where the first is less
less_at : (k a b : ℕ) → 1 ≤ k → k ≤ 64
    → differ (is_negative k (difference_at k a b)) (not (fits k (signed_at k a -ℤ signed_at k b))) ≡ is_less k a b
less_at k a b some few =
    ap (differ (is_negative k (difference_at k a b))) (overflow_at k a b some few)
    ∙ differ_twice (is_negative k (difference_at k a b)) (is_less k a b)

-- either of the two, behind a difference, is that the first is at most the second
at_most_at : (k a b : ℕ) → 1 ≤ k → k ≤ 64
    → (difference_at k a b == 0)
    || differ (is_negative k (difference_at k a b)) (not (fits k (signed_at k a -ℤ signed_at k b)))
    ≡ is_at_most k a b
at_most_at k a b some few =
    ap₂ (λ s t. s || t) (zero_at k a b some few) (less_at k a b some few)
    ∙ ap₂ (λ x y. is_equal k a b || int_lt x y) (signed_at_is k a some) (signed_at_is k b some)
    ∙ equal_or_less (2 ^ (k - 1)) (low k a) (low k b) (low_below k a some) (low_below k b some)
    ∙ sym (ap₂ int_le (signed_at_is k a some) (signed_at_is k b some))

-- behind the flags of a difference a condition is the comparison that it names
pub flags_compare : (c : CondCode) (k a b : ℕ) → 1 ≤ k → k ≤ 64
    → holds_of c (flags_of_difference k a b) ≡ compares c k a b
flags_compare EQ k a b some few = zero_at k a b some few
flags_compare NE k a b some few = ap not (zero_at k a b some few)
flags_compare LT k a b some few = less_at k a b some few
flags_compare GE k a b some few = ap not (less_at k a b some few) ∙ not_less (signed_at k a) (signed_at k b)
flags_compare LE k a b some few = at_most_at k a b some few
flags_compare GT k a b some few = ap not (at_most_at k a b some few) ∙ not_at_most (signed_at k a) (signed_at k b)
flags_compare LO k a b some few = not_above (low k a) (low k b)
flags_compare HS k a b some few = refl
flags_compare LS k a b some few =
    ap (λ z. z || not (nat_le (low k b) (low k a))) (zero_at k a b some few) ∙ equal_or_below (low k a) (low k b)
flags_compare HI k a b some few =
    ap (λ z. not (z || not (nat_le (low k b) (low k a)))) (zero_at k a b some few) ∙ neither_below (low k a) (low k b)

-- a condition, read in the word of a difference's flags, is the comparison that it names
pub conditions : (k a b : ℕ) → 1 ≤ k → k ≤ 64 → (c : CondCode)
    → holds c (packed (flags_of_difference k a b)) ≡ compares c k a b
conditions k a b some few c = ap (holds_of c) (unpacked (flags_of_difference k a b)) ∙ flags_compare c k a b some few

-- ---- the flags as they are computed

-- the sign of a word of k bits, read as a signed number, is its top bit
pub sign_read : (k w : ℕ) → 1 ≤ k → w < 2 ^ (k - 1) + 2 ^ (k - 1) → int_lt (signed_at k w) (pos 0) ≡ is_negative k w
sign_read k w some small =
    let same : low k w ≡ w = mod-eq_of_lt (subst (λ n. w < n) (sym (two_halves k some)) small) in
    ap (λ x. int_lt x (pos 0)) (signed_at_is k w some ∙ ap (signed_of (2 ^ (k - 1))) same)
    ∙ sign_below_zero (2 ^ (k - 1)) w small
    ∙ sym (sign_bit (2 ^ (k - 1)) w (pow_pos (k - 1)) small)

-- so it is where the word and its signed value are given as equations
sign_read_at : (k w d : ℕ) (s : ℤ) → 1 ≤ k → w < 2 ^ (k - 1) + 2 ^ (k - 1) → d ≡ w → s ≡ signed_at k d
    → int_lt s (pos 0) ≡ is_negative k w
sign_read_at k w d s some small ed es =
    ap (λ x. int_lt x (pos 0)) (es ∙ ap (signed_at k) ed) ∙ sign_read k w some small

-- the bits that both have are no more than those of the first
both_below : (k a b : ℕ) → 1 ≤ k → and_at k a b < 2 ^ (k - 1) + 2 ^ (k - 1)
both_below k a b some = omega (arith, and_le_l (low k a) (low k b), low_below k a some)

-- two tests that aren't the same differ
unlike : (n q : Bool) → not (beq q n) ≡ differ n q
unlike true true = refl
unlike true false = refl
unlike false true = refl
unlike false false = refl

-- the four parts of the word of a difference's flags
pub difference_packed : (k a b d : ℕ) (s : ℤ) (less : Bool) (la lb n z c v : ℕ) → 1 ≤ k → k ≤ 64
    → d ≡ difference_at k a b → s ≡ signed_at k d → less ≡ is_less k a b → la ≡ low k a → lb ≡ low k b
    → n ≡ one_where (int_lt s (pos 0)) → z ≡ one_where (d == 0) → c ≡ one_where (nat_le lb la)
    → v ≡ one_where (not (beq less (int_lt s (pos 0))))
    → 8 * n + 4 * z + 2 * c + v ≡ packed (flags_of_difference k a b)
difference_packed k a b d s less la lb n z c v some few ed es eless ela elb en ez ec ev =
    let small = low_below k (word_of (pos a -ℤ pos b)) some in
    let sign = sign_read_at k (difference_at k a b) d s some small ed es in
    let is_n : n ≡ one_where (is_negative k (difference_at k a b)) = en ∙ ap one_where sign in
    let is_z : z ≡ one_where (difference_at k a b == 0) = ez ∙ ap (λ x. one_where (x == 0)) ed in
    let is_c : c ≡ one_where (nat_le (low k b) (low k a)) = ec ∙ ap₂ (λ x y. one_where (nat_le x y)) elb ela in
    let unlike_less = unlike (is_negative k (difference_at k a b)) (is_less k a b) in
    let over = ap₂ (λ x y. not (beq x y)) eless sign ∙ unlike_less ∙ sym (overflow_at k a b some few) in
    let is_v : v ≡ one_where (not (fits k (signed_at k a -ℤ signed_at k b))) = ev ∙ ap one_where over in
    omega arith

-- the two parts of the word of a test's flags
pub test_packed : (k a b d : ℕ) (s : ℤ) (n z : ℕ) → 1 ≤ k → d ≡ and_at k a b → s ≡ signed_at k d
    → n ≡ one_where (int_lt s (pos 0)) → z ≡ one_where (d == 0) → 8 * n + 4 * z ≡ packed (flags_of_test k a b)
test_packed k a b d s n z some ed es en ez =
    let sign = sign_read_at k (and_at k a b) d s some (both_below k a b some) ed es in
    let is_n : n ≡ one_where (is_negative k (and_at k a b)) = en ∙ ap one_where sign in
    let is_z : z ≡ one_where (and_at k a b == 0) = ez ∙ ap (λ x. one_where (x == 0)) ed in
    omega arith
