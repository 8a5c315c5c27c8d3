-- The lines that tell why a text is refused.
use Rattle.std.specs.Prelude.{ℕ, List, ◌++◌, codes, decimal}
use Rattle.ssa_lines.specs.declared.refusal.LimitKind.{LimitKind}
use Rattle.ssa_lines.specs.declared.refusal.LimitKind.TheVariants.{LineBytes, Functions, Sigs, Values, Blocks, Params}
use Rattle.ssa_lines.specs.declared.refusal.LimitKind.TheVariants.{Results, Args, Cases, Bound, Replies, MemBytes}
use Rattle.ssa_lines.specs.declared.refusal.LimitKind.TheVariants.{JunkWords}
use Rattle.ssa_lines.specs.declared.refusal.TextFault.{TextFault}
use Rattle.ssa_lines.specs.declared.refusal.TextFault.TheVariants.{BadByte, BadLine, UnknownOp, NumberTooLarge}
use Rattle.ssa_lines.specs.declared.refusal.TextFault.TheVariants.{Duplicate, UnknownRef, Limit}

-- what is wrong where a limit is passed
abbrev pub limit_text : LimitKind → List ℕ
limit_text LineBytes = codes "limit LineBytes"
limit_text Functions = codes "limit Functions"
limit_text Sigs = codes "limit Sigs"
limit_text Values = codes "limit Values"
limit_text Blocks = codes "limit Blocks"
limit_text Params = codes "limit Params"
limit_text Results = codes "limit Results"
limit_text Args = codes "limit Args"
limit_text Cases = codes "limit Cases"
limit_text Bound = codes "limit Bound"
limit_text Replies = codes "limit Replies"
limit_text MemBytes = codes "limit MemBytes"
limit_text JunkWords = codes "limit JunkWords"

-- the line of what is wrong with a line of the input, by the number of that line
abbrev pub fault_line : (line : ℕ) → (fault : List ℕ) → List ℕ
fault_line line fault = codes "gossa: line " ++ (decimal line ++ (codes ": " ++ (fault ++ codes "\n")))

-- the line of each fault of a text
abbrev pub refusal_line : TextFault → List ℕ
refusal_line (BadByte line) = fault_line line (codes "bad byte")
refusal_line (BadLine line) = fault_line line (codes "bad line")
refusal_line (UnknownOp line) = fault_line line (codes "unknown op")
refusal_line (NumberTooLarge line) = fault_line line (codes "number too large")
refusal_line (Duplicate line) = fault_line line (codes "defined twice")
refusal_line (UnknownRef line) = fault_line line (codes "unknown reference")
refusal_line (Limit kind line) = fault_line line (limit_text kind)
