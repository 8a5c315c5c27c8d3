-- What loads and stores move between a word and the memory, and at which address.
use Rattle.std.specs.Prelude.{ℕ, ℤ, pos, negsuc, ◌*◌, ◌%◌, ◌==◌, ◌&&◌, nat_le, Bool, false, List, []}
use Rattle.std.specs.Prelude.{Option, None, Some}
use Rattle.gossa_base.specs.Memory.{Memory, read_number, bytes_of}
use Rattle.gossa_base.specs.Words.{sext, word_of}
use Rattle.ssa_ir.specs.declared.op.Op.{Op}
use Rattle.ssa_ir.specs.declared.op.Width.{Width}
use Rattle.ssa_ir.specs.declared.op_facts.Access.{Access}
use Rattle.ssa_ir.specs.declared.op_facts.Access.TheVariants.{NoBytes, OfType, Unsigned, Signed}
use Rattle.ssa_ir.specs.declared.types.Scalar.{Scalar}
use Rattle.ssa_ir.specs.declared.types.Ty.{Ty}
use Rattle.ssa_ir.specs.Arithmetic.{sum_at}
use Rattle.ssa_ir.specs.OpFacts.{facts}
use Rattle.ssa_ir.specs.Widths.{bits, bytes, scalar_bytes, type_bytes}

-- the address of a load or store: its pointer and its number, which is 0 in a generic op
abbrev pub address : ℤ → ℕ → ℕ
address aux pointer = sum_at 64 pointer (word_of aux)

-- the word of the bytes at an address, the lowest first
abbrev pub loaded_by : Access → Ty → Memory → ℕ → ℕ
loaded_by NoBytes ty memory a = 0
loaded_by OfType ty memory a = read_number memory a (type_bytes ty)
loaded_by (Unsigned w) ty memory a = read_number memory a (bytes w)
loaded_by (Signed w) ty memory a = sext (bits w) (read_number memory a (bytes w))

-- the word that a load gives of the bytes at an address: a generic load those of its type, so the word is of that width
abbrev pub loaded : Op → Ty → Memory → ℕ → ℕ
loaded op ty memory a = loaded_by (facts op).access ty memory a

-- the bytes of an element type
abbrev pub element_bytes : Option Scalar → ℕ
element_bytes None = 0
element_bytes (Some t) = scalar_bytes t

-- how many bytes a store writes: a generic store as many as its element type has
abbrev pub written : Access → Option Scalar → ℕ
written NoBytes elem = 0
written OfType elem = element_bytes elem
written (Unsigned w) elem = bytes w
written (Signed w) elem = bytes w

-- the bytes that a store writes of a word: the low ones
abbrev pub stored : Op → Option Scalar → ℕ → List ℕ
stored op elem w = bytes_of w (written (facts op).access elem)

-- a number of a multiple of so many bytes, up to 4,095 times as many
abbrev pub is_multiple : (size : ℕ) → ℤ → Bool
is_multiple size (pos n) = n % size == 0 && nat_le n (4095 * size)
is_multiple size (negsuc n) = false

-- the number that a load or store of the machine can have in its line; a generic one has none
abbrev pub takes_number : Access → ℤ → Bool
takes_number NoBytes number = false
takes_number OfType number = false
takes_number (Unsigned w) number = is_multiple (bytes w) number
takes_number (Signed w) number = is_multiple (bytes w) number
