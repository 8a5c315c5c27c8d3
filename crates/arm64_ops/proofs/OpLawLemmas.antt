-- Ops of 32 bits read the low halves of their operands, and a remainder is what the product of the quotient leaves.
use Rattle.std.proofs.Common.{◌≡◌, ℕ, suc, ◌+◌, ◌-◌, ◌*◌, ◌/◌, ◌%◌, ◌^◌, ◌<◌, ◌≤◌, Bool, true, false, nat_lt, sym, ap}
use Rattle.std.proofs.Common.{◌∙◌, arith}
use Rattle.std.specs.Prelude.{ℤ, pos, negsuc, ◌+ℤ◌, ◌-ℤ◌, ◌*ℤ◌, int_div, int_rem, if◌then◌else◌, ◌==◌}
use Rattle.std.proofs.Math.Nat.{add-mul-mod_self_left, mod-add-mod, mod-eq_of_lt, mod-mod, zero-mod, zero-mul}
use Rattle.std.proofs.Math.Pow.{mod-mod-pow}
use Rattle.std.proofs.lemmas.Nat.{div-add-mod', mod_below, mul-mod, mul-mod_second, pow-add, pow_pos}
use Rattle.std.proofs.lemmas.Int.{quot-rem}
use borrow.Author.Differences.{up, down}
use Rattle.gossa_base.specs.Words.{low, sext, signed_at, StandsFor}
use Rattle.ssa_ir.specs.Arithmetic.{cut, difference_at, product_at, quotient_at, unsigned_quotient_at, remainder_at}
use Rattle.ssa_ir.specs.Arithmetic.{unsigned_remainder_at, sign_extended}
use Rattle.ssa_ir.specs.declared.op.Width.{Width}
use Rattle.ssa_ir.specs.declared.op.Width.TheVariants.{W8, W16, W32, W64}
use Rattle.ssa_ir.specs.Widths.{bits}
use Rattle.arm64_ops.proofs.OpLawResidues.{residue, residue_sum, residue_difference, residue_product, residue_inverted}
use Rattle.arm64_ops.proofs.OpLawResidues.{without}

-- ---- what is read of the operands: their low k bits

pub product_reads_low : (k a b x y : ℕ) → StandsFor k a x → StandsFor k b y → product_at k a b ≡ product_at k x y
product_reads_low k a b x y h g =
    mul-mod a b (2 ^ k) ∙ (λ i. (h i * g i) % 2 ^ k) ∙ sym (mul-mod x y (2 ^ k))

-- the signed number whose low k bits are n
abbrev signed_of : (k n : ℕ) → ℤ
signed_of k n = if nat_lt n (2 ^ (k - 1)) then pos n else (pos n -ℤ pos (2 ^ k))

pub quotient_reads_low : (k a b x y : ℕ) → StandsFor k a x → StandsFor k b y → quotient_at k a b ≡ quotient_at k x y
quotient_reads_low k a b x y h g =
    λ i. if g i == 0 then 0 else cut k (int_div (signed_of k (h i)) (signed_of k (g i)))

pub remainder_reads_low : (k a b x y : ℕ) → StandsFor k a x → StandsFor k b y → remainder_at k a b ≡ remainder_at k x y
remainder_reads_low k a b x y h g =
    λ i. if g i == 0 then h i else cut k (int_rem (signed_of k (h i)) (signed_of k (g i)))

pub unsigned_quotient_reads_low : (k a b x y : ℕ) → StandsFor k a x → StandsFor k b y
    → unsigned_quotient_at k a b ≡ unsigned_quotient_at k x y
unsigned_quotient_reads_low k a b x y h g = λ i. if g i == 0 then 0 else (h i / g i)

pub unsigned_remainder_reads_low : (k a b x y : ℕ) → StandsFor k a x → StandsFor k b y
    → unsigned_remainder_at k a b ≡ unsigned_remainder_at k x y
unsigned_remainder_reads_low k a b x y h g = λ i. if g i == 0 then h i else (h i % g i)

sext_reads_low : (k a x : ℕ) → StandsFor k a x → sext k a ≡ sext k x
sext_reads_low k a x h = ap (λ n. if nat_lt n (2 ^ (k - 1)) then n else (n + (2 ^ 64 - 2 ^ k))) h

-- a word of 32 bits, with copies of its sign in front, is one of 64 bits
pub word_extended : (a x : ℕ) → StandsFor 32 a x → sext 32 a ≡ sign_extended 32 64 x
word_extended a x h = sext_reads_low 32 a x h ∙ by (nat_lt (low 32 x) (2 ^ 31))
  where
    by : (t : Bool) → (if t then low 32 x else (low 32 x + (2 ^ 64 - 2 ^ 32)))
        ≡ low 64 (if t then low 32 x else (low 32 x + (2 ^ 64 - 2 ^ 32)))
    by true = omega arith
    by false = omega arith

-- ---- words as residues, where 2 to the k is 1 + s

at_modulus : (k s n : ℕ) → 2 ^ k ≡ suc s → low k n ≡ n % suc s
at_modulus k s n e = ap (λ m. n % m) e

-- an integer cut to k bits is the integer modulo 2 to the k
cut_is : (k s : ℕ) → k ≤ 64 → 2 ^ k ≡ suc s → (z : ℤ) → cut k z ≡ residue s z
cut_is k s few e (pos n) =
    let whole : 64 ≡ (64 - k) + k = omega arith in
    ap (λ j. low k (n % 2 ^ j)) whole ∙ mod-mod-pow n (64 - k) k ∙ at_modulus k s n e
    ∙ ap (λ m. m % suc s) (omega arith)
cut_is k s few e (negsuc n) =
    let whole : 64 ≡ (64 - k) + k = omega arith in
    at_modulus k s (2 ^ 64 - 1 - n % 2 ^ 64) e
    ∙ residue_inverted s (2 ^ (64 - k)) (2 ^ 64) n
    (ap (λ j. 2 ^ j) whole ∙ pow-add 2 (64 - k) k ∙ ap (λ m. 2 ^ (64 - k) * m) e) (pow_pos 64)

-- the signed number of a word's low k bits is that word, modulo 2 to the k
signed_is : (k s w : ℕ) → 2 ^ k ≡ suc s → residue s (signed_at k w) ≡ w % suc s
signed_is k s w e = by (nat_lt (low k w) (2 ^ (k - 1)))
  where
    reduced : low k w % suc s ≡ w % suc s
    reduced = ap (λ n. n % suc s) (at_modulus k s w e) ∙ mod-mod w (suc s)

    by : (t : Bool) → residue s (if t then pos (low k w) else (pos (low k w) -ℤ pos (2 ^ k))) ≡ w % suc s
    by true = ap (λ n. n % suc s) (omega arith) ∙ reduced
    by false =
        residue_difference s (low k w) (2 ^ k) ∙ ap (λ m. (low k w + m * s) % suc s) e
        ∙ add-mul-mod_self_left (low k w) (suc s) s ∙ reduced

difference_is : (k s x p : ℕ) → k ≤ 64 → 2 ^ k ≡ suc s → difference_at k x p ≡ (x + p * s) % suc s
difference_is k s x p few e = cut_is k s few e (pos x -ℤ pos p) ∙ residue_difference s x p

modulus : (k : ℕ) → 2 ^ k ≡ suc (2 ^ k - 1)
modulus k = omega (arith, pow_pos k)

-- ---- remainders

-- where the divisor is 0, so is the quotient, and all of x is left
all_left : (k s x y : ℕ) → k ≤ 64 → 2 ^ k ≡ suc s → low k x ≡ difference_at k x (product_at k 0 y)
all_left k s x y few e =
    at_modulus k s x e ∙ ap (λ n. n % suc s) (omega (arith, zero-mul s))
    ∙ ap (λ p. (x + p * s) % suc s) (sym none) ∙ sym (difference_is k s x (product_at k 0 y) few e)
  where
    none : product_at k 0 y ≡ 0
    none = ap (low k) (zero-mul y) ∙ zero-mod (2 ^ k)

-- the cut integer q times a word is the integers' product, modulo 2 to the k
product_is : (k s y : ℕ) → k ≤ 64 → 2 ^ k ≡ suc s → (q : ℤ)
    → product_at k (cut k q) y ≡ residue s (q *ℤ signed_at k y)
product_is k s y few e q =
    at_modulus k s (cut k q * y) e ∙ ap (λ n. (n * y) % suc s) (cut_is k s few e q)
    ∙ sym (mul-mod_second (residue s q) y (suc s))
    ∙ ap (λ n. (residue s q * n) % suc s) (sym (signed_is k s y e))
    ∙ sym (residue_product s q (signed_at k y))

-- where x is q times the divisor and r more, r is left of x without the product's word
signed_left : (k s x y : ℕ) → k ≤ 64 → 2 ^ k ≡ suc s → (q r : ℤ) → q *ℤ signed_at k y +ℤ r ≡ signed_at k x
    → cut k r ≡ difference_at k x (product_at k (cut k q) y)
signed_left k s x y few e q r whole =
    cut_is k s few e r ∙ sym (mod-mod (up r + down r * s) (suc s))
    ∙ without s (residue s (q *ℤ signed_at k y)) (residue s r) x sum
    ∙ ap (λ p. (x + p * s) % suc s) (sym (product_is k s y few e q))
    ∙ sym (difference_is k s x (product_at k (cut k q) y) few e)
  where
    sum : (residue s (q *ℤ signed_at k y) + residue s r) % suc s ≡ x % suc s
    sum = sym (residue_sum s (q *ℤ signed_at k y) r) ∙ ap (residue s) whole ∙ signed_is k s x e

-- the same for naturals: r is at most the low bits of x, and so is a word of k bits
unsigned_left : (k s x y q r : ℕ) → k ≤ 64 → 2 ^ k ≡ suc s → q * low k y + r ≡ low k x
    → r ≡ difference_at k x (product_at k q y)
unsigned_left k s x y q r few e whole =
    let small : r < 2 ^ k = omega (arith, mod_below x (2 ^ k) (pow_pos k)) in
    sym (mod-eq_of_lt small) ∙ at_modulus k s r e ∙ without s (product_at k q y) r x sum
    ∙ sym (difference_is k s x (product_at k q y) few e)
  where
    sum : (product_at k q y + r) % suc s ≡ x % suc s
    sum =
        ap (λ p. (p + r) % suc s) (sym (mul-mod_second q y (2 ^ k)) ∙ at_modulus k s (q * low k y) e)
        ∙ mod-add-mod (q * low k y) (suc s) r ∙ ap (λ n. n % suc s) (whole ∙ at_modulus k s x e) ∙ mod-mod x (suc s)

-- the laws of quotients hold by 0 too, so the test may have either answer
remainder_left : (k x y : ℕ) → k ≤ 64 → remainder_at k x y ≡ difference_at k x (product_at k (quotient_at k x y) y)
remainder_left k x y few = by (low k y == 0)
  where
    by : (t : Bool) → (if t then low k x else cut k (int_rem (signed_at k x) (signed_at k y)))
        ≡ difference_at k x (product_at k (if t then 0 else cut k (int_div (signed_at k x) (signed_at k y))) y)
    by true = all_left k (2 ^ k - 1) x y few (modulus k)
    by false =
        signed_left k (2 ^ k - 1) x y few (modulus k) (int_div (signed_at k x) (signed_at k y))
        (int_rem (signed_at k x) (signed_at k y)) (quot-rem (signed_at k x) (signed_at k y))

unsigned_remainder_left : (k x y : ℕ) → k ≤ 64
    → unsigned_remainder_at k x y ≡ difference_at k x (product_at k (unsigned_quotient_at k x y) y)
unsigned_remainder_left k x y few = by (low k y == 0)
  where
    by : (t : Bool) → (if t then low k x else (low k x % low k y))
        ≡ difference_at k x (product_at k (if t then 0 else (low k x / low k y)) y)
    by true = all_left k (2 ^ k - 1) x y few (modulus k)
    by false =
        unsigned_left k (2 ^ k - 1) x y (low k x / low k y) (low k x % low k y) few (modulus k)
        (div-add-mod' (low k x) (low k y))

at_most_64 : (w : Width) → bits w ≤ 64
at_most_64 W8 = omega arith
at_most_64 W16 = omega arith
at_most_64 W32 = omega arith
at_most_64 W64 = omega arith

pub remainder_is_left : (w : Width) (x y : ℕ)
    → remainder_at (bits w) x y ≡ difference_at (bits w) x (product_at (bits w) (quotient_at (bits w) x y) y)
remainder_is_left w x y = remainder_left (bits w) x y (at_most_64 w)

pub unsigned_remainder_is_left : (w : Width) (x y : ℕ)
    → unsigned_remainder_at (bits w) x y
    ≡ difference_at (bits w) x (product_at (bits w) (unsigned_quotient_at (bits w) x y) y)
unsigned_remainder_is_left w x y = unsigned_remainder_left (bits w) x y (at_most_64 w)
