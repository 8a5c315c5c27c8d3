-- Masks, and the low bits that they keep.
use Rattle.std.proofs.Common.{◌≡◌, ℕ, ◌+◌, ◌-◌, ◌*◌, ◌/◌, ◌%◌, ◌^◌, ◌≤◌, ◌<◌, bit_and, ap, ◌∙◌, arith}
use Rattle.std.proofs.Math.Nat.{suc-mul}
use Rattle.std.proofs.lemmas.Nat.{and_mask, div-mul-add, mod_below, mod_low, mod-pow-add, pow-add, pow_pos}

below : (b ab a'b : ℕ) → ab ≡ a'b + b → 0 < b → ab - 1 ≡ a'b + (b - 1)
below b ab a'b split more = omega (arith, split, more)

split_product : (a b : ℕ) → 0 < a → a * b ≡ (a - 1) * b + b
split_product a b some = ap (λ n. n * b) (omega (arith, some)) ∙ suc-mul (a - 1) b

-- all 64 bits without the 64 - k upper ones
pub low_mask : (k : ℕ) → k ≤ 64 → (2 ^ 64 - 1) / 2 ^ (64 - k) ≡ 2 ^ k - 1
low_mask k few =
    let j : ℕ = 64 - k in
    let sum : 64 ≡ k + j = omega arith in
    ap (λ n. (n - 1) / 2 ^ j) (ap (λ n. 2 ^ n) sum ∙ pow-add 2 k j)
    ∙ ap (λ n. n / 2 ^ j)
    (below (2 ^ j) (2 ^ k * 2 ^ j) ((2 ^ k - 1) * 2 ^ j) (split_product (2 ^ k) (2 ^ j) (pow_pos k)) (pow_pos j))
    ∙ div-mul-add (2 ^ k - 1) (2 ^ j) (2 ^ j - 1) (omega (arith, pow_pos j))

pub masked : (k w : ℕ) → k ≤ 64 → bit_and w ((2 ^ 64 - 1) / 2 ^ (64 - k)) ≡ w % 2 ^ k
masked k w few = ap (bit_and w) (low_mask k few) ∙ and_mask w k

-- the low bits of a word are those of the number that was cut to it
pub low_of_word : (k n : ℕ) → k ≤ 64 → n % 2 ^ 64 % 2 ^ k ≡ n % 2 ^ k
low_of_word k n few =
    let j : ℕ = 64 - k in
    let sum : 64 ≡ j + k = omega arith in
    ap (λ m. n % 2 ^ m % 2 ^ k) sum
    ∙ ap (λ m. m % 2 ^ k) (mod-pow-add n j k)
    ∙ mod_low (n / 2 ^ k % 2 ^ j) k (n % 2 ^ k) (mod_below n (2 ^ k) (pow_pos k))
