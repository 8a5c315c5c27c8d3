-- What the check of parameters notes of a function: the lowest number of an InitMem, and that of the Args of each
-- number.
use Rattle.std.specs.Prelude.{◌≡◌, ℕ, ℤ, nat_lt, Bool, false, ◌&&◌, List, Option, None, Some}
use Rattle.std.specs.List.{fold}
use Rattle.std.specs.Ordering.{int_eq}
use Rattle.indexmap.specs.IndexMap.{get}
use Rattle.ssa_ir.specs.declared.func.Value.{Value}
use Rattle.ssa_check.specs.declared.parameters.ParameterTable.{ParameterTable}
use Rattle.ssa_check.specs.tables.Lowest.{lower_where}
use Rattle.ssa_ir.specs.OpKinds.{is_arg, is_init}

-- the lowest number of the values that pass a test, and what is there
abbrev pub lowest_of : (Value → Bool) → Option ℕ → List Value → Option ℕ
lowest_of test before values = fold (λ lowest v. lower_where (test v) lowest v.id.0) before values

-- an InitMem
abbrev pub is_init_value : Value → Bool
is_init_value v = is_init v.op

-- an Arg of this number
abbrev pub is_arg_of : ℤ → Value → Bool
is_arg_of number v = is_arg v.op && int_eq v.aux number

-- there is a lowest number, and it is below this one
abbrev pub is_below : Option ℕ → ℕ → Bool
is_below None number = false
is_below (Some lowest) number = nat_lt lowest number

-- a table after these values were noted in it
pub record IsNoted (before : ParameterTable) (values : List Value) (after : ParameterTable) : Type 0 where
  pub init : after.init ≡ lowest_of is_init_value before.init values
  pub args : (number : ℤ) → get int_eq after.args number
      ≡ lowest_of (is_arg_of number) (get int_eq before.args number) values

-- the table of these values
pub record IsTableOf (values : List Value) (table : ParameterTable) : Type 0 where
  pub init : table.init ≡ lowest_of is_init_value None values
  pub args : (number : ℤ) → get int_eq table.args number ≡ lowest_of (is_arg_of number) None values
