-- What holds of the cases that were read so far, where no line had a fault and each function was found.
use Rattle.std.proofs.Common.{◌≡◌, ℕ, ◌+◌, ◌<◌, ◌≤◌, false, List, [], ◌∷◌, ◌++◌, length, All, Option, None, Some}
use Rattle.std.proofs.Common.{IfSome, arith, refl}
use Rattle.std.specs.List.{AllPairs, sum_by}
use Rattle.std.proofs.lemmas.List.{length-append}
use Rattle.std.proofs.lemmas.List.Elements.{All-nil, All-push}
use Rattle.ssa_ir.specs.declared.limits.TheConstants.{MAX_BOUND, MAX_CASES, MAX_CASE_BYTES, MAX_REPLIES}
use Rattle.ssa_ir.specs.Limits.{bytes_in}
use Rattle.ssa_ir.specs.Names.{IsName}
use Rattle.ssa_ir.specs.declared.case.Piece.{Piece}
use Rattle.ssa_ir.specs.declared.case.Reply.{Reply}
use Rattle.ssa_ir.specs.declared.case.Case.{Case}
use Rattle.ssa_lines.specs.Words.{is_same}
use Rattle.case_text.specs.CaseReading.{function_of, with_reply, whole_case, with_case, change_case}
use Rattle.case_text.specs.CaseText.{name_at}
use Rattle.case_text.specs.declared.partial.OpenCase.{OpenCase}
use Rattle.case_text.proofs.CaseFacts.{PieceFacts, JunkFacts, ReplyFacts, SymFacts, CaseFacts, CasesFacts}
use Rattle.case_text.proofs.CaseFormFacts.{FewWords}

-- the function that a head names is there, and its bound is within its limit
pub record HeadKept (names : List (List ℕ)) (func bound : ℕ) : Type 0 where
  pub there : func < length names
  pub found : function_of names (name_at names func) ≡ Some func
  pub named : IsName (name_at names func)
  pub few_turns : bound ≤ MAX_BOUND

pub record SymsKept (syms : List (List ℕ × ℕ)) : Type 0 where
  pub each : All SymFacts syms
  pub differ : AllPairs (λ (s t : List ℕ × ℕ). is_same s.0 t.0 ≡ false) syms

-- how many bytes memory has, with what replies write
abbrev pub bytes_of : List Piece → List Reply → ℕ
bytes_of mem replies = bytes_in mem + sum_by (λ (r : Reply). bytes_in r.writes) replies

pub record MemoryKept (mem : List Piece) (replies : List Reply) : Type 0 where
  pub pieces : All PieceFacts mem
  pub each : All ReplyFacts replies
  pub few : length replies ≤ MAX_REPLIES
  pub few_bytes : bytes_of mem replies ≤ MAX_CASE_BYTES

-- the case that goes on
pub record OpenKept (names : List (List ℕ)) (c : OpenCase) : Type 0 where
  pub head : HeadKept names c.func c.bound
  pub args : FewWords c.args
  pub syms : SymsKept c.syms
  pub junk : JunkFacts c.junk
  pub memory : MemoryKept c.mem (with_reply c.replies c.reply)

-- the whole cases, and the one that goes on
pub record CasesKept (names : List (List ℕ)) (cases : List Case) (current : Option OpenCase) : Type 0 where
  pub few : length (with_case cases current) ≤ MAX_CASES
  pub whole : All (CaseFacts names) cases
  pub goes_on : IfSome current (OpenKept names)

-- a case that ends has the facts of a whole one
whole_facts : (names : List (List ℕ)) (c : OpenCase) → OpenKept names c → CaseFacts names (whole_case c)
whole_facts names c h = record {
  func = h.head.there;
  found = h.head.found;
  name = h.head.named;
  bound = h.head.few_turns;
  args = h.args.each;
  few_args = h.args.few;
  syms = h.syms.each;
  syms_differ = h.syms.differ;
  mem = h.memory.pieces;
  junk = h.junk;
  replies = h.memory.each;
  few_replies = h.memory.few;
  few_bytes = h.memory.few_bytes;
}

-- all cases have them, with the one that goes on
pub each_facts : (names : List (List ℕ)) (cases : List Case) (current : Option OpenCase)
    → CasesKept names cases current → All (CaseFacts names) (with_case cases current)
each_facts names cases None kept = kept.whole
each_facts names cases (Some c) kept =
    All-push (CaseFacts names) cases (whole_case c) kept.whole (whole_facts names c kept.goes_on)

pub facts_kept : (names : List (List ℕ)) (cases : List Case) (current : Option OpenCase)
    → CasesKept names cases current → CasesFacts names (with_case cases current)
facts_kept names cases current kept = record { few = kept.few; each = each_facts names cases current kept }

-- before all lines
pub none_kept : (names : List (List ℕ)) → CasesKept names [] None
none_kept names = record { few = omega arith; whole = All-nil (CaseFacts names); goes_on = tt }

-- a change that keeps what holds of the case that goes on keeps what holds of all
pub change_kept : (names : List (List ℕ)) (cases : List Case) (current : Option OpenCase) (by : OpenCase → OpenCase)
    → ((c : OpenCase) → current ≡ Some c → OpenKept names c → OpenKept names (by c))
    → CasesKept names cases current → CasesKept names cases (change_case by current)
change_kept names cases None by keeps kept = kept
change_kept names cases (Some c) by keeps kept =
    let few : length (cases ++ whole_case c ∷ []) ≤ MAX_CASES = kept.few in
    let before = length-append cases (whole_case c ∷ []) in
    let after = length-append cases (whole_case (by c) ∷ []) in
    record { few = omega arith; whole = kept.whole; goes_on = keeps c refl kept.goes_on }
