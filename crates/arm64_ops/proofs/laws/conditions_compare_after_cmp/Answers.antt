use Rattle.std.proofs.Common.{arith}
use Rattle.arm64_ops.proofs.FlagLemmas.{conditions}
use Rattle.arm64_ops.proofs.laws.conditions_compare_after_cmp.Goals as goal

pub returns : goal.returns
returns c = record {
  at_64 = λ condition aux a b x flags. conditions 64 a b (omega arith) (omega arith) condition;
  at_32 = λ condition aux a b x flags. conditions 32 a b (omega arith) (omega arith) condition;
}
