-- The plain allocation: each value but constants has a word of the frame of its own, stands there from its definition
-- on, and is loaded for each use.
use Rattle.std.specs.Prelude.{ℕ, suc, ℤ, pos, ◌==◌, Bool, true, false, ◌&&◌, nat_lt, if◌then◌else◌, ◌-◌, count_by, find}
use Rattle.std.specs.Prelude.{map, take, length, List, [], ◌∷◌, ◌++◌, Option, None, Some}
use Rattle.std.specs.Option.{option_map}
use Rattle.std.specs.List.{flat_map}
use Rattle.gossa_base.specs.declared.ids.ValueId.{ValueId}
use Rattle.ssa_ir.specs.declared.op.Op.{Op}
use Rattle.ssa_ir.specs.declared.op.Op.TheVariants.{Arg, Const, Add, Arm64ADD}
use Rattle.ssa_ir.specs.declared.types.Scalar.{Scalar}
use Rattle.ssa_ir.specs.declared.func.Value.{Value}
use Rattle.ssa_ir.specs.declared.func.Kind.{Kind}
use Rattle.ssa_ir.specs.declared.func.Kind.TheVariants.{Ret}
use Rattle.ssa_ir.specs.declared.func.Block.{Block}
use Rattle.ssa_ir.specs.declared.func.Func.{Func}
use Rattle.ssa_ir.specs.FirstOrder.{first_order}
use Rattle.listing.specs.declared.line.Line.{Line}
use Rattle.listing.specs.declared.line.Line.TheVariants.{Label, Op as Compute, Move, Ret as Return}
use Rattle.listing.specs.declared.line.Note.TheVariants.{Value as Computes, Spill, Load, Results}
use Rattle.listing.specs.declared.line.Place.{Place}
use Rattle.listing.specs.declared.line.Place.TheVariants.{Reg, Frame, Home, Const as Constant}
use Rattle.listing.specs.declared.code.Listing.{Listing}

-- parameters and sums have a home
abbrev pub has_home : Op → Bool
has_home Arg = true
has_home (Add w) = true
has_home _ = false

-- the word of the home of value n: how many values with a home have a lower number
abbrev pub home_word : List Value → ℕ → ℕ
home_word values n = count_by (λ v. nat_lt v.id.0 n && has_home v.op) values

-- where a value of this op stands that has this word if any: a constant anywhere, a value with a home there; the
-- others have no word
abbrev pub place_by_op : (word : ℕ) → ValueId → ℤ → Op → Place
place_by_op word id aux (Const w) = Constant aux
place_by_op word id aux Arg = Frame word
place_by_op word id aux (Add w) = Frame word
place_by_op word id aux _ = Home id

abbrev pub place_of_value : List Value → ValueId → Option Value → Place
place_of_value values id None = Home id
place_of_value values id (Some v) = place_by_op (home_word values id.0) id v.aux v.op

-- the value of a number
abbrev pub value_named : List Value → ValueId → Option Value
value_named values id = find (λ v. v.id.0 == id.0) values

-- where the value of a number stands, among these values
abbrev pub place_of : List Value → ValueId → Place
place_of values id = place_of_value values id (value_named values id)

-- which parameter a value of this op and number is, if any
abbrev pub parameter_number : Op → ℤ → Option ℕ
parameter_number Arg (pos n) = Some n
parameter_number _ aux = None

abbrev pub is_number : ℕ → Option ℕ → Bool
is_number i None = false
is_number i (Some n) = n == i

-- the value that is parameter i, if the values have one: the first
abbrev pub parameter : List Value → ℕ → Option ValueId
parameter values i = option_map (λ v. v.id) (find (λ v. is_number i (parameter_number v.op v.aux)) values)

abbrev pub held_then : ℕ → Option ValueId → List (ℕ × ValueId) → List (ℕ × ValueId)
held_then r None held = held
held_then r (Some id) held = (r, id) ∷ held

-- the parameters from number i on that the values name, each with its register
abbrev pub parameters_from : List Value → ℕ → List Scalar → List (ℕ × ValueId)
parameters_from values i [] = []
parameters_from values i (t ∷ types) = held_then i (parameter values i) (parameters_from values (suc i) types)

-- a value goes from a register to its home
abbrev pub spill_line : (ValueId → Place) → ℕ × ValueId → Line
spill_line at (r, id) = Move (at id) (Reg r) (Spill id)

-- an operand goes to a register; a constant is made anew
abbrev pub load_line : (ValueId → Place) → ℕ → ValueId → Line
load_line at r id = Move (Reg r) (at id) (Load id)

-- the sum of the words in R0 and another register goes to R0, and from there to its home
abbrev pub sum_lines : (ValueId → Place) → ValueId → ℕ → List Line
sum_lines at id second =
    Compute Arm64ADD (pos 0) (record { dst = Some 0; a = Some 0; b = Some second }) (Computes id)
    ∷ spill_line at (0, id) ∷ []

-- a sum: its operands in order, one that is named twice once, and then the sum
abbrev pub add_lines : (ValueId → Place) → ValueId → List ValueId → List Line
add_lines at id (a ∷ b ∷ []) =
    if a.0 == b.0 then load_line at 0 a ∷ sum_lines at id
    0 else (load_line at 0 a ∷ load_line at 1 b ∷ sum_lines at id 1)
add_lines at id _ = []

-- the lines of a value; only sums have any
abbrev pub lines_by_op : (ValueId → Place) → ValueId → List ValueId → Op → List Line
lines_by_op at id args (Add w) = add_lines at id args
lines_by_op at id args _ = []

abbrev pub value_lines : (ValueId → Place) → Value → List Line
value_lines at v = lines_by_op at v.id v.args v.op

-- values go to the registers from number i on
abbrev pub result_lines : (ValueId → Place) → ℕ → List ValueId → List Line
result_lines at i [] = []
result_lines at i (id ∷ ids) = Move (Reg i) (at id) Results ∷ result_lines at (suc i) ids

-- the results of a MakeResult go to their registers; its last argument is the memory
abbrev pub results_of : (ValueId → Place) → Option Value → List Line
results_of at None = []
results_of at (Some v) = result_lines at 0 (take (length v.args - 1) v.args)

abbrev pub returned_value : List Value → Option ValueId → Option Value
returned_value values None = None
returned_value values (Some id) = value_named values id

-- how a block ends; only a return has lines yet
abbrev pub end_lines : (ValueId → Place) → List Value → Option ValueId → Kind → List Line
end_lines at values control Ret = results_of at (returned_value values control) ++ Return ∷ []
end_lines at values control _ = []

-- a block that begins with these parameters in registers, with its values in this order
abbrev pub lines_in_order : (ValueId → Place) → List (ℕ × ValueId) → List Value → Block → List Line
lines_in_order at held values b =
    Label b.id held ∷ (map (spill_line at) held
    ++ (flat_map (value_lines at) values ++ end_lines at b.values b.control b.kind))

-- a block that begins with these parameters in registers, with its values in first order
abbrev pub block_lines : (ValueId → Place) → List (ℕ × ValueId) → Block → List Line
block_lines at held b = lines_in_order at held (first_order b.values) b

-- the lines of a function of one block
abbrev pub plain_lines : List Scalar → List Block → List Line
plain_lines params [] = []
plain_lines params (b ∷ blocks) = block_lines (place_of b.values) (parameters_from b.values 0 params) b

-- how many values have a home
abbrev pub home_count : List Block → ℕ
home_count [] = 0
home_count (b ∷ blocks) = count_by (λ v. has_home v.op) b.values

-- the listing of a function of one block by the plain allocation, for this number of registers
abbrev pub plain_listing : ℕ → Func → Listing
plain_listing regs f = record {
  code =
      record { sig = f.sig; regs = regs; syms = []; lines = plain_lines f.sig.params f.blocks; out = 0; arg_words = 0 };
  ptr = 0;
  scalar = home_count f.blocks;
  maps = [];
}
