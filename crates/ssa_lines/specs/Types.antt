-- The types that words spell.
use Rattle.std.specs.Prelude.{ℕ, ◌==◌, Bool, false, ◌&&◌, ◌||◌, if◌then◌else◌, List, [], ◌∷◌, codes, Option, None, Some}
use Rattle.std.specs.Prelude.{find}
use Rattle.std.specs.List.{list_all, slice_split}
use Rattle.std.specs.Option.{option_map}
use Rattle.ssa_ir.specs.declared.types.Scalar.{Scalar}
use Rattle.ssa_ir.specs.declared.types.Scalar.TheVariants.{I8, I16, I32, I64, U8, U16, U32, U64, Uintptr}
use Rattle.ssa_ir.specs.declared.types.Scalar.TheVariants.{Bool as TrueOrFalse, Ptr}
use Rattle.ssa_ir.specs.declared.types.Ty.{Ty}
use Rattle.ssa_ir.specs.declared.types.Ty.TheVariants.{One, Mem, Tuple}
use Rattle.ssa_ir.specs.Names.{is_name_start, is_digit}
use Rattle.ssa_lines.specs.Words.{is_same}

-- the names of types: Go's, with its other names for three of them, and the pointer that has a name
abbrev pub type_names : List (List ℕ × Scalar)
type_names =
    (codes "int8", I8) ∷ (codes "int16", I16) ∷ (codes "int32", I32) ∷ (codes "int64", I64)
    ∷ (codes "uint8", U8) ∷ (codes "uint16", U16) ∷ (codes "uint32", U32) ∷ (codes "uint64", U64)
    ∷ (codes "uintptr", Uintptr) ∷ (codes "bool", TrueOrFalse)
    ∷ (codes "int", I64) ∷ (codes "uint", U64) ∷ (codes "byte", U8) ∷ (codes "unsafe.Pointer", Ptr) ∷ []

-- the type of a name among names of types
abbrev pub scalar_among : List (List ℕ × Scalar) → List ℕ → Option Scalar
scalar_among names word = option_map (λ row. row.1) (find (λ row. is_same row.0 word) names)

-- a letter, a digit, or one of _ . * [ ]
abbrev pub is_pointed_byte : ℕ → Bool
is_pointed_byte b = is_name_start b || is_digit b || b == 46 || b == 42 || b == 91 || b == 93

-- * and what it points to, of which only the bytes count
abbrev pub is_pointer : List ℕ → Bool
is_pointer [] = false
is_pointer (b ∷ []) = false
is_pointer (b ∷ c ∷ bytes) = b == 42 && list_all is_pointed_byte (c ∷ bytes)

-- the type of one word that a word spells
abbrev pub scalar_of : List ℕ → Option Scalar
scalar_of word =
    if is_pointer word then Some Ptr else scalar_among type_names word

abbrev pub is_comma : ℕ → Bool
is_comma b = b == 44

abbrev pub before_type : Option Scalar → Option (List Scalar) → Option (List Scalar)
before_type None types = None
before_type (Some t) None = None
before_type (Some t) (Some types) = Some (t ∷ types)

-- types of one word, and last mem
abbrev pub tuple_of : List (List ℕ) → Option (List Scalar)
tuple_of [] = None
tuple_of (part ∷ []) = if is_same part (codes "mem") then Some [] else None
tuple_of (part ∷ other ∷ parts) = before_type (scalar_of part) (tuple_of (other ∷ parts))

-- the type of these parts, where mem alone is a tuple without words or a memory
abbrev pub type_of_parts : Bool → List (List ℕ) → Option Ty
type_of_parts tuple [] = None
type_of_parts tuple (part ∷ []) =
    if is_same part (codes "mem") then Some (if tuple then Tuple [] else Mem) else option_map One (scalar_of part)
type_of_parts tuple (part ∷ other ∷ parts) = option_map Tuple (tuple_of (part ∷ other ∷ parts))

-- the type that stands in angle brackets, on an op of which mem alone is a tuple or not
abbrev pub type_of : Bool → List ℕ → Option Ty
type_of tuple inside = type_of_parts tuple (slice_split is_comma inside)
