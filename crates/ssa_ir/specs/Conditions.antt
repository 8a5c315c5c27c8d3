-- The flags N, Z, C and V of a comparison, and the ten conditions on them that comparisons of integers need, as the A64
-- manual has them.
use Rattle.std.specs.Prelude.{ℕ, ℤ, pos, negsuc, neg_ℤ, ◌-ℤ◌, ◌+◌, ◌-◌, ◌*◌, ◌/◌, ◌%◌, ◌^◌, ◌==◌, Bool, true, false}
use Rattle.std.specs.Prelude.{not, ◌&&◌, ◌||◌, if◌then◌else◌, nat_lt, nat_le, int_lt, int_le, bit_and, List, [], ◌∷◌}
use Rattle.std.specs.Prelude.{Option, None, Some, slice_get}
use Rattle.gossa_base.specs.Words.{low, signed_at}
use Rattle.ssa_ir.specs.declared.op.CondCode.{CondCode}
use Rattle.ssa_ir.specs.declared.op.CondCode.TheVariants.{EQ, NE, LT, LE, GT, GE, LO, LS, HI, HS}
use Rattle.ssa_ir.specs.Arithmetic.{and_at, difference_at, is_at_most, is_below, is_below_or_same, is_equal, is_less}
use Rattle.ssa_ir.specs.Arithmetic.{one_where}

-- the four flags
pub record Flags : Type 0 where
  -- negative: the sign of the result
  pub n : Bool
  -- the result is zero
  pub z : Bool
  -- carry: of a difference, that nothing was borrowed
  pub c : Bool
  -- overflow: the signed result is out of range
  pub v : Bool

-- as a word: N is bit 3, Z bit 2, C bit 1, V bit 0
abbrev pub packed : Flags → ℕ
packed f = 8 * one_where f.n + 4 * one_where f.z + 2 * one_where f.c + one_where f.v

-- bit i of a word
abbrev pub has_bit : (i w : ℕ) → Bool
has_bit i w = w / 2 ^ i % 2 == 1

-- the flags that a word has in its low four bits
abbrev pub flags_in : ℕ → Flags
flags_in w = record { n = has_bit 3 w; z = has_bit 2 w; c = has_bit 1 w; v = has_bit 0 w }

-- bit k - 1 of a word
abbrev pub is_negative : (k w : ℕ) → Bool
is_negative k w = has_bit (k - 1) w

-- an integer fits in k signed bits
abbrev pub fits : (k : ℕ) → ℤ → Bool
fits k z = int_le (neg_ℤ (pos (2 ^ (k - 1)))) z && int_lt z (pos (2 ^ (k - 1)))

-- the flags of a - b at a width
abbrev pub flags_of_difference : (k a b : ℕ) → Flags
flags_of_difference k a b =
    record {
      n = is_negative k (difference_at k a b);
      z = difference_at k a b == 0;
      c = nat_le (low k b) (low k a);
      v = not (fits k (signed_at k a -ℤ signed_at k b));
    }

-- the flags of the bits that both have, at a width
abbrev pub flags_of_test : (k a b : ℕ) → Flags
flags_of_test k a b = record { n = is_negative k (and_at k a b); z = and_at k a b == 0; c = false; v = false }

abbrev pub differ : Bool → Bool → Bool
differ true b = not b
differ false b = b

-- a condition holds of flags
abbrev pub holds_of : CondCode → Flags → Bool
holds_of EQ f = f.z
holds_of NE f = not f.z
holds_of LT f = differ f.n f.v
holds_of GE f = not (differ f.n f.v)
holds_of LE f = f.z || differ f.n f.v
holds_of GT f = not (f.z || differ f.n f.v)
holds_of LO f = not f.c
holds_of HS f = f.c
holds_of LS f = f.z || not f.c
holds_of HI f = not (f.z || not f.c)

abbrev pub holds : CondCode → (flags : ℕ) → Bool
holds c flags = holds_of c (flags_in flags)

-- the condition that holds exactly where this one doesn't
abbrev pub inverse : CondCode → CondCode
inverse EQ = NE
inverse NE = EQ
inverse LT = GE
inverse GE = LT
inverse LE = GT
inverse GT = LE
inverse LO = HS
inverse HS = LO
inverse LS = HI
inverse HI = LS

-- the comparison that a condition names, of a and b at a width: after the flags of a - b it is what holds
abbrev pub compares : CondCode → (k a b : ℕ) → Bool
compares EQ k a b = is_equal k a b
compares NE k a b = not (is_equal k a b)
compares LT k a b = is_less k a b
compares LE k a b = is_at_most k a b
compares GT k a b = is_less k b a
compares GE k a b = is_at_most k b a
compares LO k a b = is_below k a b
compares LS k a b = is_below_or_same k a b
compares HI k a b = is_below k b a
compares HS k a b = is_below_or_same k b a

-- all conditions, each at its place
abbrev pub all_conditions : List CondCode
all_conditions = EQ ∷ NE ∷ LT ∷ LE ∷ GT ∷ GE ∷ LO ∷ LS ∷ HI ∷ HS ∷ []

-- the condition of a number, its place from 0
abbrev pub condition_at : ℤ → Option CondCode
condition_at (pos i) = slice_get all_conditions i
condition_at (negsuc i) = None

-- of two words the first where the condition holds, whole; no condition chooses 0
abbrev pub selected : Option CondCode → (a b flags : ℕ) → ℕ
selected None a b flags = 0
selected (Some c) a b flags = if holds c flags then a else b
