-- How much a unit may have.
use Rattle.std.specs.Prelude.{ℕ, ◌≤◌, ◌+◌, List, [], length}
use Rattle.std.specs.List.{All, sum_by}
use Rattle.ssa_ir.specs.declared.types.Scalar.{Scalar}
use Rattle.ssa_ir.specs.declared.types.Sig.{Sig}
use Rattle.ssa_ir.specs.declared.types.Ty.{Ty}
use Rattle.ssa_ir.specs.declared.types.Ty.TheVariants.{One, Mem, Tuple, Flags, Void}
use Rattle.ssa_ir.specs.declared.func.Value.{Value}
use Rattle.ssa_ir.specs.declared.func.Block.{Block}
use Rattle.ssa_ir.specs.declared.func.Func.{Func}
use Rattle.ssa_ir.specs.declared.func.SsaUnit.{SsaUnit}
use Rattle.ssa_ir.specs.declared.case.Piece.{Piece}
use Rattle.ssa_ir.specs.declared.case.Reply.{Reply}
use Rattle.ssa_ir.specs.declared.case.Case.{Case}
use Rattle.ssa_ir.specs.declared.limits.TheConstants.{MAX_ARGS, MAX_BLOCKS, MAX_BOUND, MAX_CASE_BYTES, MAX_CASES}
use Rattle.ssa_ir.specs.declared.limits.TheConstants.{MAX_FUNCTIONS, MAX_JUNK_WORDS, MAX_PARAMS, MAX_PIECE_BYTES}
use Rattle.ssa_ir.specs.declared.limits.TheConstants.{MAX_REPLIES, MAX_RESULTS, MAX_SIGS, MAX_VALUES}
use Rattle.ssa_ir.specs.Lookups.{signatures, values_of}

-- the types that a tuple has before its memory
abbrev pub tuple_words : Ty → List Scalar
tuple_words (Tuple types) = types
tuple_words (One t) = []
tuple_words Mem = []
tuple_words Flags = []
tuple_words Void = []

pub record SigWithinLimits (s : Sig) : Type 0 where
  pub params : length s.params ≤ MAX_PARAMS
  pub results : length s.results ≤ MAX_RESULTS

pub record ValueWithinLimits (v : Value) : Type 0 where
  pub args : length v.args ≤ MAX_ARGS
  pub results : length (tuple_words v.ty) ≤ MAX_RESULTS

pub record FuncWithinLimits (f : Func) : Type 0 where
  pub values : length (values_of f) ≤ MAX_VALUES
  pub blocks : length f.blocks ≤ MAX_BLOCKS
  pub each_value : All ValueWithinLimits (values_of f)
  pub preds : All (λ (b : Block). length b.preds ≤ MAX_ARGS) f.blocks

-- how many bytes pieces of memory have
abbrev pub bytes_in : List Piece → ℕ
bytes_in pieces = sum_by (λ p. length p.bytes) pieces

-- each piece stands on one line
abbrev pub OnLines : List Piece → Type 0
OnLines pieces = All (λ p. length p.bytes ≤ MAX_PIECE_BYTES) pieces

pub record ReplyWithinLimits (r : Reply) : Type 0 where
  pub junk : length r.junk.words ≤ MAX_JUNK_WORDS
  pub writes : OnLines r.writes

pub record CaseWithinLimits (c : Case) : Type 0 where
  pub bound : c.bound ≤ MAX_BOUND
  pub junk : length c.junk.words ≤ MAX_JUNK_WORDS
  pub mem : OnLines c.mem
  pub bytes : bytes_in c.mem + sum_by (λ (r : Reply). bytes_in r.writes) c.replies ≤ MAX_CASE_BYTES
  pub replies : length c.replies ≤ MAX_REPLIES
  pub each_reply : All ReplyWithinLimits c.replies

pub record WithinLimits (u : SsaUnit) : Type 0 where
  pub functions : length u.funcs ≤ MAX_FUNCTIONS
  pub sigs : length u.sigs ≤ MAX_SIGS
  pub cases : length u.cases ≤ MAX_CASES
  pub each_signature : All SigWithinLimits (signatures u)
  pub each_function : All FuncWithinLimits u.funcs
  pub each_case : All CaseWithinLimits u.cases
