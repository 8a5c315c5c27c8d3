-- Integers modulo a number, as naturals below it: sums, differences and products respect it.
use Rattle.std.proofs.Common.{◌≡◌, ℕ, suc, ◌+◌, ◌-◌, ◌*◌, ◌/◌, ◌%◌, ◌<◌, sym, ap, ◌∙◌, arith}
use Rattle.std.specs.Prelude.{ℤ, pos, negsuc, ◌+ℤ◌, ◌-ℤ◌, ◌*ℤ◌, neg_ℤ}
use Rattle.std.proofs.Math.Nat.{add-mod, add-mul-mod_self_right, mod-add-mod, mod-lt, mul-suc}
use Rattle.std.proofs.lemmas.Nat.{div-add-mod', mul-mod}
use borrow.Author.Differences.{up, down, sum_is_lem, neg_is, product_is}

-- an integer modulo 1 + s, where s stands for -1
abbrev pub residue : (s : ℕ) → ℤ → ℕ
residue s z = (up z + down z * s) % suc s

-- numbers that differ by multiples of the modulus
apart : (m a b i j : ℕ) → a + i * m ≡ b + j * m → a % m ≡ b % m
apart m a b i j e = sym (add-mul-mod_self_right a i m) ∙ ap (λ n. n % m) e ∙ add-mul-mod_self_right b j m

-- u - d and p - q are one integer
same_difference : (s u d p q : ℕ) → u + q ≡ d + p → (u + d * s) % suc s ≡ (p + q * s) % suc s
same_difference s u d p q e =
    apart (suc s) (u + d * s) (p + q * s) q d (omega (arith, mul-suc q s, mul-suc d s))

pub residue_sum : (s : ℕ) (a b : ℤ) → residue s (a +ℤ b) ≡ (residue s a + residue s b) % suc s
residue_sum s a b =
    same_difference s (up (a +ℤ b)) (down (a +ℤ b)) (up a + up b) (down a + down b) (omega (arith, sum_is_lem a b))
    ∙ ap (λ n. n % suc s) (regroup (up a) (up b) (down a) (down b))
    ∙ add-mod (up a + down a * s) (up b + down b * s) (suc s)
  where
    regroup : (u v d f : ℕ) → u + v + (d + f) * s ≡ (u + d * s) + (v + f * s)
    regroup u v d f = omega arith

-- a natural less another
pub residue_difference : (s x p : ℕ) → residue s (pos x -ℤ pos p) ≡ (x + p * s) % suc s
residue_difference s x p =
    same_difference s (up (pos x -ℤ pos p)) (down (pos x -ℤ pos p)) x p
    (omega (arith, sum_is_lem (pos x) (neg_ℤ (pos p)), neg_is (pos p)))

pub residue_product : (s : ℕ) (a b : ℤ) → residue s (a *ℤ b) ≡ (residue s a * residue s b) % suc s
residue_product s a b =
    ap (λ n. (n + down (a *ℤ b) * s) % suc s) (product_is a b).0
    ∙ ap (λ n. (up a * up b + down a * down b + n * s) % suc s) (product_is a b).1
    ∙ multiplied (up a) (down a) (up b) (down b)
    ∙ mul-mod (up a + down a * s) (up b + down b * s) (suc s)
  where
    -- s * s is 1 modulo 1 + s
    multiplied : (u d v f : ℕ)
        → (u * v + d * f + (u * f + d * v) * s) % suc s ≡ ((u + d * s) * (v + f * s)) % suc s
    multiplied u d v f =
        apart (suc s) (u * v + d * f + (u * f + d * v) * s) ((u + d * s) * (v + f * s)) (d * f * s) (d * f)
        (omega arith)

-- the bits of n inverted are -1 - n, where N is a multiple of the modulus
pub residue_inverted : (s c N n : ℕ) → N ≡ c * suc s → 0 < N → (N - 1 - n % N) % suc s ≡ residue s (negsuc n)
residue_inverted s c N n e some =
    apart (suc s) (N - 1 - n % N) (0 + suc n * s) (suc n) (c + n / N * c)
    (joined (N - 1 - n % N) (n / N) (n % N) (div-add-mod' n N) (omega (arith, mod-lt n some)))
  where
    joined : (i q r : ℕ) → q * N + r ≡ n → i + suc r ≡ N → i + suc n * suc s ≡ 0 + suc n * s + (c + q * c) * suc s
    joined i q r split whole =
        let rows : q * N ≡ q * (c * suc s) = ap (λ n. q * n) e in
        omega arith

-- what is left of x without a
pub without : (s a b x : ℕ) → (a + b) % suc s ≡ x % suc s → b % suc s ≡ (x + a * s) % suc s
without s a b x e =
    apart (suc s) b (a + b + a * s) a 0 (omega (arith, mul-suc a s))
    ∙ sym (mod-add-mod (a + b) (suc s) (a * s))
    ∙ ap (λ n. (n + a * s) % suc s) e
    ∙ mod-add-mod x (suc s) (a * s)
