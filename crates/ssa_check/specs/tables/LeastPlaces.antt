-- The least place of a function at which a test of values or one of blocks fails.
use Rattle.std.specs.Prelude.{Bool, Option}
use Rattle.std.specs.Option.{option_or}
use Rattle.ssa_ir.specs.declared.func.Block.{Block}
use Rattle.ssa_ir.specs.declared.func.Func.{Func}
use Rattle.ssa_ir.specs.declared.func.Value.{Value}
use Rattle.ssa_check.specs.declared.refusal.At.{At}
use Rattle.ssa_check.specs.Failing.{at_block, at_value}
use Rattle.ssa_check.specs.tables.Lowest.{lowest_block, lowest_value}

-- the lowest value that fails its test, or else the lowest block that fails its own
abbrev pub least_place : (Block → Value → Bool) → (Block → Bool) → Func → Option At
least_place value_fails block_fails f =
    option_or (at_value (lowest_value value_fails f)) (at_block (lowest_block block_fails f))
