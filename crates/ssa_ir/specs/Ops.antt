-- The row of an op: how many arguments it takes, memory and flags included; what its brackets or braces hold; and
-- whether it reads a memory or makes one. And whether it is the machine's. Both follow from the facts of the op.
use Rattle.std.specs.Prelude.{Bool, ◌&&◌, not}
use Rattle.ssa_ir.specs.declared.op.Op.{Op}
use Rattle.ssa_ir.specs.declared.op.OpRow.{OpRow}
use Rattle.ssa_ir.specs.declared.op_facts.OpFacts.{OpFacts}
use Rattle.ssa_ir.specs.OpFacts.{arity_of, facts, is_memory, takes_memory}

abbrev pub row_by : OpFacts → OpRow
row_by x =
    record {
      arity = arity_of x.takes;
      aux = x.aux;
      reads_mem = takes_memory x.takes && not (is_memory x.gives);
      makes_mem = is_memory x.gives;
    }

abbrev pub row_of : Op → OpRow
row_of op = row_by (facts op)

-- whether an op is the machine's
abbrev pub is_machine : Op → Bool
is_machine op = (facts op).machine
