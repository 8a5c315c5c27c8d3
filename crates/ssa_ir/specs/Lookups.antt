-- Look-ups in units and functions. Each gives the first that fits; in a well-formed unit there is at most one.
use Rattle.std.specs.Prelude.{ℕ, nat_eq, ◌==◌, Bool, List, [], ◌∷◌, ◌++◌, map, find, Option, None}
use Rattle.std.specs.Cmp.Lexicographic.{pointwise}
use Rattle.std.specs.List.{flat_map, position_from}
use Rattle.gossa_base.specs.declared.ids.ValueId.{ValueId}
use Rattle.gossa_base.specs.declared.ids.BlockId.{BlockId}
use Rattle.ssa_ir.specs.declared.types.Sig.{Sig}
use Rattle.ssa_ir.specs.declared.func.Value.{Value}
use Rattle.ssa_ir.specs.declared.func.Block.{Block}
use Rattle.ssa_ir.specs.declared.func.Func.{Func}
use Rattle.ssa_ir.specs.declared.func.SsaUnit.{SsaUnit}
use Rattle.ssa_ir.specs.Edges.{block_named}

-- whether a signature has this name
abbrev pub is_of : List ℕ → Sig → Bool
is_of name s = pointwise nat_eq s.name name

-- the signatures of functions
abbrev pub func_sigs : List Func → List Sig
func_sigs funcs = map (λ f. f.sig) funcs

-- all signatures of a unit: those of its `sig` lines, and those of its functions
abbrev pub signatures : SsaUnit → List Sig
signatures u = u.sigs ++ func_sigs u.funcs

-- the signature of a name
abbrev pub sig_of : SsaUnit → List ℕ → Option Sig
sig_of u name = find (is_of name) (signatures u)

-- the number of the function of a name, from 0
abbrev pub func_named : SsaUnit → List ℕ → Option ℕ
func_named u name = position_from (λ f. is_of name f.sig) 0 u.funcs

-- all values of a function, block by block
abbrev pub values_of : Func → List Value
values_of f = flat_map (λ b. b.values) f.blocks

abbrev pub is_numbered : ValueId → Value → Bool
is_numbered id v = v.id.0 == id.0

-- the value of a number among these
abbrev pub value_named : List Value → ValueId → Option Value
value_named values id = find (is_numbered id) values

-- the value of a number
abbrev pub value_of : Func → ValueId → Option Value
value_of f id = value_named (values_of f) id

-- the block of a number
abbrev pub block_of : Func → BlockId → Option Block
block_of f id = block_named f.blocks id

-- the value that a select of these arguments names: its call
abbrev pub named_by : Func → List ValueId → Option Value
named_by f [] = None
named_by f (a ∷ args) = value_of f a
