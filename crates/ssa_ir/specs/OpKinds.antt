-- Kinds of op that runs, orders and checks tell apart.
use Rattle.std.specs.Prelude.{Bool, true, false, ◌||◌}
use Rattle.ssa_ir.specs.declared.op.Op.{Op}
use Rattle.ssa_ir.specs.declared.op.Op.TheVariants.{Phi, Arg, InitMem, StaticLECall, SelectN, MakeResult}
use Rattle.ssa_ir.specs.declared.op.Op.TheVariants.{Arm64CALLstatic}
use Rattle.ssa_ir.specs.Ops.{row_of}

-- ---- by name

abbrev pub is_phi : Op → Bool
is_phi Phi = true
is_phi _ = false

abbrev pub is_arg : Op → Bool
is_arg Arg = true
is_arg _ = false

abbrev pub is_init : Op → Bool
is_init InitMem = true
is_init _ = false

abbrev pub is_call : Op → Bool
is_call StaticLECall = true
is_call Arm64CALLstatic = true
is_call _ = false

-- whether a value of this op stands with another one: the selects of a call do
abbrev pub is_follower : Op → Bool
is_follower SelectN = true
is_follower _ = false

abbrev pub is_result : Op → Bool
is_result MakeResult = true
is_result _ = false

-- ---- by the table of ops

-- the ops that read a memory and make none: loads and nil checks
abbrev pub reads_memory : Op → Bool
reads_memory op = (row_of op).reads_mem

-- the ops that make a memory, and calls
abbrev pub changes_memory : Op → Bool
changes_memory op = (row_of op).makes_mem || is_call op
