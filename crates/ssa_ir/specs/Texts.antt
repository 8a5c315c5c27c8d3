-- The texts of types and signatures.
use Rattle.std.specs.Prelude.{ℕ, List, [], ◌∷◌, ◌++◌, codes}
use Rattle.std.specs.List.{join_by}
use Rattle.ssa_ir.specs.declared.types.Scalar.{Scalar}
use Rattle.ssa_ir.specs.declared.types.Scalar.TheVariants.{I8, I16, I32, I64, U8, U16, U32, U64, Uintptr, Bool, Ptr}
use Rattle.ssa_ir.specs.declared.types.Sig.{Sig}

abbrev pub newline : List ℕ
newline = 10 ∷ []

-- a type, as Go spells it; each pointer prints as *byte
abbrev pub scalar_name : Scalar → List ℕ
scalar_name I8 = codes "int8"
scalar_name I16 = codes "int16"
scalar_name I32 = codes "int32"
scalar_name I64 = codes "int64"
scalar_name U8 = codes "uint8"
scalar_name U16 = codes "uint16"
scalar_name U32 = codes "uint32"
scalar_name U64 = codes "uint64"
scalar_name Uintptr = codes "uintptr"
scalar_name Bool = codes "bool"
scalar_name Ptr = codes "*byte"

-- types in parentheses, with a comma and a space between two of them
abbrev pub group_text : List Scalar → List ℕ
group_text types = codes "(" ++ (join_by scalar_name (codes ", ") types ++ codes ")")

-- the group of results, which is absent where there are none
abbrev pub results_text : List Scalar → List ℕ
results_text [] = []
results_text (t ∷ types) = codes " " ++ group_text (t ∷ types)

-- a signature, as f(int64, int64) (int64)
abbrev pub sig_text : Sig → List ℕ
sig_text s = s.name ++ (group_text s.params ++ results_text s.results)

-- the line of a signature that a unit names
abbrev pub sig_line : Sig → List ℕ
sig_line s = codes "sig " ++ (sig_text s ++ newline)
