-- Values of different numbers, in a function and in each of its blocks.
use Rattle.std.proofs.Common.{◌≡◌, ◌≢◌, ℕ, zero, suc, ◌<◌, List, [], ◌∷◌, ◌++◌, map, length, slice_get, slice_index_or}
use Rattle.std.proofs.Common.{Some, subst, arith}
use Rattle.std.specs.List.{flat_map}
use Rattle.ssa_ir.specs.declared.func.Value.{Value}
use Rattle.ssa_ir.specs.declared.func.Block.{Block}
use Rattle.ssa_ir.specs.WellFormed.{Differ}
use Rattle.block_order.specs.Apart.{IsApart, AreApart}

abbrev numbers : List Value → List ℕ
numbers values = map (λ v. v.id.0) values

apart_from : (n : ℕ) (values : List Value)
    → ((k d : ℕ) → k < length (numbers values) → n ≢ slice_index_or (numbers values) k d) → IsApart n values
apart_from n [] h = tt
apart_from n (v ∷ values) h = (h 0 0 (omega arith), apart_from n values (λ k d lt. h (suc k) d (omega (arith, lt))))

pub are_apart : (values : List Value) → Differ (numbers values) → AreApart values
are_apart [] h = tt
are_apart (v ∷ values) h = (
  apart_from v.id.0 values (λ k d lt. h 0 (suc k) d (omega arith) (omega (arith, lt))),
  are_apart values (λ i j d before within. h (suc i) (suc j) d (omega (arith, before)) (omega (arith, within))),
)

from_front : (n : ℕ) (xs ys : List Value) → IsApart n (xs ++ ys) → IsApart n xs
from_front n [] ys h = tt
from_front n (x ∷ xs) ys h = (h.0, from_front n xs ys h.1)

pub apart_front : (xs ys : List Value) → AreApart (xs ++ ys) → AreApart xs
apart_front [] ys h = tt
apart_front (x ∷ xs) ys h = (from_front x.id.0 xs ys h.0, apart_front xs ys h.1)

pub apart_back : (xs ys : List Value) → AreApart (xs ++ ys) → AreApart ys
apart_back [] ys h = h
apart_back (x ∷ xs) ys h = apart_back xs ys h.1

-- so in each block
pub block_apart : (blocks : List Block) (i : ℕ) (b : Block) → AreApart (flat_map (λ c. c.values) blocks)
    → slice_get blocks i ≡ Some b → AreApart b.values
block_apart [] i b h at = cc
block_apart (c ∷ blocks) zero b h at =
    let same : c ≡ b = cc in
    subst (λ x. AreApart x.values) same (apart_front c.values (flat_map (λ x. x.values) blocks) h)
block_apart (c ∷ blocks) (suc i) b h at =
    block_apart blocks i b (apart_back c.values (flat_map (λ x. x.values) blocks) h) at
