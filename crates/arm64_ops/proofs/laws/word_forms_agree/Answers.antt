-- The W forms read the low halves of their operands, as the generic ops of 32 bits do.
use Rattle.arm64_ops.proofs.OpLawLemmas.{product_reads_low, quotient_reads_low, unsigned_quotient_reads_low}
use Rattle.arm64_ops.proofs.OpLawLemmas.{remainder_reads_low, unsigned_remainder_reads_low, word_extended}
use Rattle.arm64_ops.proofs.laws.word_forms_agree.Goals as goal

pub returns : goal.returns
returns c = record {
  product = product_reads_low 32;
  quotient = quotient_reads_low 32;
  unsigned_quotient = unsigned_quotient_reads_low 32;
  remainder = remainder_reads_low 32;
  unsigned_remainder = unsigned_remainder_reads_low 32;
  sign_extension = λ a b x y h g. word_extended a x h;
  zero_extension = λ a b x y h g. h;
}
