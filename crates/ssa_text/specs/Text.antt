-- The canonical text of units. What has no form in it has the empty text, and the fixed words around it stay.
use Rattle.std.specs.Prelude.{ℕ, zero, suc, ℤ, pos, negsuc, List, [], ◌∷◌, ◌++◌, codes, map, slice_get, Option, None}
use Rattle.std.specs.Prelude.{Some}
use Rattle.std.specs.Fmt.{signed_decimal}
use Rattle.std.specs.List.{flat_map}
use Rattle.gossa_base.specs.declared.ids.ValueId.{ValueId}
use Rattle.gossa_base.specs.declared.ids.BlockId.{BlockId}
use Rattle.gossa_base.specs.Texts.{led, value_text, block_text}
use Rattle.ssa_ir.specs.declared.op.AuxRule.{AuxRule}
use Rattle.ssa_ir.specs.declared.op.AuxRule.TheVariants.{Nothing, Int, Bool as TrueOrFalse, Sym, Elem, Dropped}
use Rattle.ssa_ir.specs.declared.types.Scalar.{Scalar}
use Rattle.ssa_ir.specs.declared.types.Ty.{Ty}
use Rattle.ssa_ir.specs.declared.types.Ty.TheVariants.{One, Mem, Tuple, Flags, Void}
use Rattle.ssa_ir.specs.declared.func.Value.{Value}
use Rattle.ssa_ir.specs.declared.func.Kind.{Kind}
use Rattle.ssa_ir.specs.declared.func.Kind.TheVariants.{Plain, If, Ret, Exit, Cond, Bit}
use Rattle.ssa_ir.specs.declared.func.Block.{Block}
use Rattle.ssa_ir.specs.declared.func.Func.{Func}
use Rattle.ssa_ir.specs.declared.func.SsaUnit.{SsaUnit}
use Rattle.ssa_ir.specs.Ops.{row_of}
use Rattle.ssa_ir.specs.OpNames.{op_name}
use Rattle.ssa_ir.specs.Texts.{newline, scalar_name, sig_text, sig_line}
use Rattle.case_text.specs.CaseText.{cases_text}

-- words, each ended by a comma
abbrev pub before_commas : List Scalar → List ℕ
before_commas types = flat_map (λ t. scalar_name t ++ codes ",") types

-- a type's name, as int64, mem, or int64,mem; flags and nothing have none
abbrev pub type_name : Ty → List ℕ
type_name (One t) = scalar_name t
type_name Mem = codes "mem"
type_name (Tuple types) = before_commas types ++ codes "mem"
type_name Flags = []
type_name Void = []

-- a type, in angle brackets behind a space
abbrev pub type_text : Ty → List ℕ
type_text t = codes " <" ++ (type_name t ++ codes ">")

-- the word of a bool's number; a number other than 0 and 1 has none
abbrev pub bool_word : ℤ → List ℕ
bool_word (pos zero) = codes "false"
bool_word (pos (suc zero)) = codes "true"
bool_word (pos (suc (suc n))) = []
bool_word (negsuc n) = []

-- what stands in brackets: the number of an op that has one, in signed decimal, and of a ConstBool its word
abbrev pub brackets_text : AuxRule → ℤ → List ℕ
brackets_text Int aux = codes " [" ++ (signed_decimal aux ++ codes "]")
brackets_text TrueOrFalse aux = codes " [" ++ (bool_word aux ++ codes "]")
brackets_text Nothing aux = []
brackets_text Sym aux = []
brackets_text Elem aux = []
brackets_text Dropped aux = []

-- a name; an absent one has no text
abbrev pub name_or_none : Option (List ℕ) → List ℕ
name_or_none None = []
name_or_none (Some name) = name

abbrev pub scalar_or_none : Option Scalar → List ℕ
scalar_or_none None = []
scalar_or_none (Some t) = scalar_name t

-- what stands in braces: the name or the type of an op that has one
abbrev pub braces_text : AuxRule → Option (List ℕ) → Option Scalar → List ℕ
braces_text Sym sym elem = codes " {" ++ (name_or_none sym ++ codes "}")
braces_text Elem sym elem = codes " {" ++ (scalar_or_none elem ++ codes "}")
braces_text Nothing sym elem = []
braces_text Int sym elem = []
braces_text TrueOrFalse sym elem = []
braces_text Dropped sym elem = []

-- what stands between the type and the arguments of a value: the brackets and the braces of its op's row
abbrev pub aux_text : Value → List ℕ
aux_text v = let rule = (row_of v.op).aux in brackets_text rule v.aux ++ braces_text rule v.sym v.elem

-- what stands behind the op on a value's line, with the line's end
abbrev pub behind_op : Value → List ℕ
behind_op v = type_text v.ty ++ (aux_text v ++ (led (codes " ") value_text v.args ++ newline))

-- the line of a value
abbrev pub value_line : Value → List ℕ
value_line v = value_text v.id ++ (codes " = " ++ (op_name v.op ++ behind_op v))

-- the blocks from which one is entered, behind an arrow, which is absent where there are none
abbrev pub preds_text : List BlockId → List ℕ
preds_text [] = []
preds_text (b ∷ blocks) = codes " <-" ++ led (codes " ") block_text (b ∷ blocks)

-- the control of a block; an absent one has no text
abbrev pub control_text : Option ValueId → List ℕ
control_text None = []
control_text (Some v) = value_text v

abbrev pub block_or_none : Option BlockId → List ℕ
block_or_none None = []
block_or_none (Some b) = block_text b

-- successor j; an absent one has no text
abbrev pub succ_text : List BlockId → ℕ → List ℕ
succ_text succs j = block_or_none (slice_get succs j)

-- a control that decides between two successors, and both, the one of yes first
abbrev pub choice_text : Option ValueId → List BlockId → List ℕ
choice_text control succs =
    codes " " ++ (control_text control ++ (codes " -> " ++ (succ_text succs 0 ++ (codes " " ++ succ_text succs 1))))

-- how a block of this kind ends; the two branches of the machine have no word
abbrev pub end_text : Kind → Option ValueId → List BlockId → List ℕ
end_text Plain control succs = codes "Plain -> " ++ succ_text succs 0
end_text If control succs = codes "If" ++ choice_text control succs
end_text Ret control succs = codes "Ret " ++ control_text control
end_text Exit control succs = codes "Exit " ++ control_text control
end_text (Cond c) control succs = choice_text control succs
end_text Bit control succs = choice_text control succs

-- the line of a block's beginning
abbrev pub block_head : Block → List ℕ
block_head b = block_text b.id ++ (codes ":" ++ (preds_text b.preds ++ newline))

-- the line of a block's end
abbrev pub control_line : Block → List ℕ
control_line b = end_text b.kind b.control b.succs ++ newline

abbrev pub block_lines : Block → List ℕ
block_lines b = block_head b ++ (flat_map value_line b.values ++ control_line b)

-- a function: its line, and its blocks
abbrev pub func_text : Func → List ℕ
func_text f = codes "func " ++ (sig_text f.sig ++ (newline ++ flat_map block_lines f.blocks))

-- the names of functions, by number
abbrev pub func_names : List Func → List (List ℕ)
func_names funcs = map (λ f. f.sig.name) funcs

-- a unit: its signatures, its functions and its cases
abbrev pub unit_text : SsaUnit → List ℕ
unit_text u = flat_map sig_line u.sigs ++ (flat_map func_text u.funcs ++ cases_text (func_names u.funcs) u.cases)
