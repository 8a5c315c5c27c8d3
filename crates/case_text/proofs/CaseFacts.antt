-- What is known of cases that were read.
use Rattle.std.specs.Prelude.{◌≡◌, ℕ, ◌≤◌, ◌<◌, ◌+◌, ◌^◌, false, List, length, Some}
use Rattle.std.specs.List.{All, AllPairs, sum_by}
use Rattle.ssa_ir.specs.declared.limits.TheConstants.{MAX_BOUND, MAX_CASES, MAX_CASE_BYTES, MAX_JUNK_WORDS}
use Rattle.ssa_ir.specs.declared.limits.TheConstants.{MAX_PIECE_BYTES, MAX_REPLIES, MAX_WORDS}
use Rattle.ssa_ir.specs.Limits.{bytes_in}
use Rattle.ssa_ir.specs.Names.{IsName}
use Rattle.ssa_ir.specs.declared.case.Piece.{Piece}
use Rattle.ssa_ir.specs.declared.case.Junk.{Junk}
use Rattle.ssa_ir.specs.declared.case.Reply.{Reply}
use Rattle.ssa_ir.specs.declared.case.Case.{Case}
use Rattle.ssa_lines.specs.Words.{is_same}
use Rattle.case_text.specs.CaseReading.{function_of}
use Rattle.case_text.specs.CaseText.{name_at}

abbrev pub IsWord : ℕ → Type 0
IsWord w = w < 2 ^ 64

pub record PieceFacts (p : Piece) : Type 0 where
  pub addr : IsWord p.addr
  pub some : 0 < length p.bytes
  pub few : length p.bytes ≤ MAX_PIECE_BYTES
  pub bytes : All (λ b. b < 256) p.bytes

pub record JunkFacts (j : Junk) : Type 0 where
  pub words : All IsWord j.words
  pub few : length j.words ≤ MAX_JUNK_WORDS
  pub fill : IsWord j.fill

pub record ReplyFacts (r : Reply) : Type 0 where
  pub words : All IsWord r.words
  pub few : length r.words ≤ MAX_WORDS
  pub writes : All PieceFacts r.writes
  pub junk : JunkFacts r.junk
  pub clobber : IsWord r.clobber

pub record SymFacts (s : List ℕ × ℕ) : Type 0 where
  pub name : IsName s.0
  pub address : IsWord s.1

-- a case among functions of these names
pub record CaseFacts (names : List (List ℕ)) (c : Case) : Type 0 where
  pub func : c.func < length names
  pub found : function_of names (name_at names c.func) ≡ Some c.func
  pub name : IsName (name_at names c.func)
  pub bound : c.bound ≤ MAX_BOUND
  pub args : All IsWord c.args
  pub few_args : length c.args ≤ MAX_WORDS
  pub syms : All SymFacts c.syms
  pub syms_differ : AllPairs (λ (s t : List ℕ × ℕ). is_same s.0 t.0 ≡ false) c.syms
  pub mem : All PieceFacts c.mem
  pub junk : JunkFacts c.junk
  pub replies : All ReplyFacts c.replies
  pub few_replies : length c.replies ≤ MAX_REPLIES
  pub few_bytes : bytes_in c.mem + sum_by (λ (r : Reply). bytes_in r.writes) c.replies ≤ MAX_CASE_BYTES

pub record CasesFacts (names : List (List ℕ)) (cases : List Case) : Type 0 where
  pub few : length cases ≤ MAX_CASES
  pub each : All (CaseFacts names) cases
