-- What a line without a fault leaves of the case that goes on.
use Rattle.std.proofs.Common.{◌≡◌, ℕ, ◌+◌, ◌<◌, ◌≤◌, false, List, [], ◌∷◌, ◌++◌, length, unwrap_or, All, Option, None}
use Rattle.std.proofs.Common.{Some, refl, sym, ap, ◌∙◌, subst, arith}
use Rattle.std.specs.List.{list_any}
use Rattle.std.specs.Cmp.Lexicographic.{same_text}
use Rattle.std.proofs.lemmas.Bool.{or_parts}
use Rattle.std.proofs.lemmas.List.{length-append}
use Rattle.std.proofs.lemmas.List.Elements.{All-nil, All-cons, All-append, All-push, All-pop}
use Rattle.std.proofs.lemmas.List.Quantifiers.{all_pairs_push, position-Some}
use Rattle.std.proofs.lemmas.List.Sums.{sum_by_push}
use Rattle.ssa_ir.specs.declared.limits.TheConstants.{MAX_BOUND, MAX_CASE_BYTES, MAX_JUNK_WORDS, MAX_REPLIES}
use Rattle.ssa_ir.specs.Limits.{bytes_in}
use Rattle.ssa_ir.specs.Names.{IsName}
use Rattle.ssa_ir.specs.declared.case.Piece.{Piece}
use Rattle.ssa_ir.specs.declared.case.Junk.{Junk}
use Rattle.ssa_ir.specs.declared.case.Reply.{Reply}
use Rattle.ssa_lines.specs.Words.{is_same}
use Rattle.case_text.specs.CaseReading.{function_of, absent_at, no_junk, more_junk, filled, begin_case, begun_reply}
use Rattle.case_text.specs.CaseReading.{whole_reply, with_reply, reply_junk_given, change_reply, give_write}
use Rattle.case_text.specs.CaseReading.{give_reply_junk, give_reply_fill, give_clobber}
use Rattle.case_text.specs.CaseText.{name_at}
use Rattle.case_text.specs.declared.forms.CaseHead.{CaseHead}
use Rattle.case_text.specs.declared.forms.SymLine.{SymLine}
use Rattle.case_text.specs.declared.partial.OpenReply.{OpenReply}
use Rattle.case_text.proofs.CaseFacts.{IsWord, PieceFacts, JunkFacts, ReplyFacts, SymFacts}
use Rattle.case_text.proofs.CaseFormFacts.{FewWords, SymForm}
use Rattle.case_text.proofs.CasesKept.{HeadKept, SymsKept, bytes_of, MemoryKept, OpenKept}

-- ---- a case that begins

-- a function that was found is there, and has the name that was looked for
pub head_found : (names : List (List ℕ)) (name : List ℕ) (bound line : ℕ) (func : Option ℕ)
    → function_of names name ≡ func → absent_at line func ≡ None → IsName name → bound ≤ MAX_BOUND
    → HeadKept names (unwrap_or func 0) bound
head_found names name bound line None e absent named few = cc
head_found names name bound line (Some i) e absent named few =
    let parts = position-Some (λ n. is_same n name) names i [] e in
    let same : name_at names i ≡ name = same_text (name_at names i) name (sym parts.1) in record {
      there = parts.0;
      found = ap (function_of names) same ∙ e;
      named = subst IsName (sym same) named;
      few_turns = few;
    }

no_junk_facts : JunkFacts no_junk
no_junk_facts = record { words = All-nil IsWord; few = omega arith; fill = omega arith }

-- a case at its beginning
pub begun_kept : (names : List (List ℕ)) (func : Option ℕ) (h : CaseHead) → HeadKept names (unwrap_or func 0) h.bound
    → OpenKept names (begin_case func h)
begun_kept names func h head = record {
  head = head;
  args = record { each = All-nil IsWord; few = omega arith };
  syms = record { each = All-nil SymFacts; differ = λ i j d lt inside. absurd (omega arith) };
  junk = no_junk_facts;
  memory = record {
    pieces = All-nil PieceFacts;
    each = All-nil ReplyFacts;
    few = omega arith;
    few_bytes = omega arith;
  };
}

-- ---- symbols

-- where no symbol has this name, it differs from each
none_named : (name : List ℕ) (syms : List (List ℕ × ℕ)) → list_any (λ (t : List ℕ × ℕ). is_same t.0 name) syms ≡ false
    → All (λ (t : List ℕ × ℕ). is_same t.0 name ≡ false) syms
none_named name [] h = All-nil _
none_named name (t ∷ syms) h =
    let parts = or_parts (is_same t.0 name) (list_any (λ (u : List ℕ × ℕ). is_same u.0 name) syms) h in
    All-cons (λ (u : List ℕ × ℕ). is_same u.0 name ≡ false) t syms parts.0 (none_named name syms parts.1)

-- one more symbol, whose name no other has
pub sym_more : (s : SymLine) (syms : List (List ℕ × ℕ)) → SymForm s
    → list_any (λ (t : List ℕ × ℕ). is_same t.0 s.name) syms ≡ false → SymsKept syms
    → SymsKept (syms ++ (s.name, s.address) ∷ [])
sym_more s syms form new kept = record {
  each = All-push SymFacts syms (s.name, s.address) kept.each (record { name = form.named; address = form.word });
  differ = all_pairs_push (λ (s t : List ℕ × ℕ). is_same s.0 t.0 ≡ false) syms (s.name, s.address) kept.differ
      (none_named s.name syms new);
}

-- ---- junk

-- more words of junk, and another fill
pub junk_more : (words : List ℕ) (j : Junk) → All IsWord words → length j.words + length words ≤ MAX_JUNK_WORDS
    → JunkFacts j
    → JunkFacts (more_junk words j)
junk_more words j each few facts = record {
  words = All-append IsWord j.words words facts.words each;
  few = omega (arith, length-append j.words words);
  fill = facts.fill;
}

pub junk_filled : (w : ℕ) (j : Junk) → IsWord w → JunkFacts j → JunkFacts (filled w j)
junk_filled w j word facts = record { words = facts.words; few = facts.few; fill = word }

-- ---- memory and replies

one_more_piece : (pieces : List Piece) (p : Piece) → bytes_in (pieces ++ p ∷ []) ≡ bytes_in pieces + length p.bytes
one_more_piece pieces p = sum_by_push (λ (q : Piece). length q.bytes) pieces p

one_more_reply : (mem : List Piece) (replies : List Reply) (r : Reply)
    → bytes_of mem (replies ++ r ∷ []) ≡ bytes_of mem replies + bytes_in r.writes
one_more_reply mem replies r = omega (arith, sum_by_push (λ (q : Reply). bytes_in q.writes) replies r)

-- one more piece of memory
pub piece_more : (mem : List Piece) (replies : List Reply) (p : Piece) → PieceFacts p
    → bytes_of mem replies + length p.bytes ≤ MAX_CASE_BYTES → MemoryKept mem replies
    → MemoryKept (mem ++ p ∷ []) replies
piece_more mem replies p facts room kept = record {
  pieces = All-push PieceFacts mem p kept.pieces facts;
  each = kept.each;
  few = kept.few;
  few_bytes = omega (arith, one_more_piece mem p);
}

-- a reply that begins
pub reply_more : (mem : List Piece) (replies : List Reply) (words : List ℕ) → FewWords words
    → length replies < MAX_REPLIES
    → MemoryKept mem replies → MemoryKept mem (replies ++ whole_reply (begun_reply words) ∷ [])
reply_more mem replies words form room kept =
    let r : Reply = whole_reply (begun_reply words) in
    let few : bytes_of mem replies ≤ MAX_CASE_BYTES = kept.few_bytes in
    let facts : ReplyFacts r = record {
      words = form.each;
      few = form.few;
      writes = All-nil PieceFacts;
      junk = no_junk_facts;
      clobber = omega arith;
    } in record {
      pieces = kept.pieces;
      each = All-push ReplyFacts replies r kept.each facts;
      few = omega (arith, length-append replies (r ∷ []));
      few_bytes = omega (arith, one_more_reply mem replies r);
    }

-- the last reply is changed, and has n more bytes then
reply_changed : (mem : List Piece) (replies : List Reply) (r s : Reply) (n : ℕ) → (ReplyFacts r → ReplyFacts s)
    → bytes_in s.writes ≡ bytes_in r.writes + n → bytes_of mem (replies ++ r ∷ []) + n ≤ MAX_CASE_BYTES
    → MemoryKept mem (replies ++ r ∷ []) → MemoryKept mem (replies ++ s ∷ [])
reply_changed mem replies r s n keeps more room kept =
    let parts = All-pop ReplyFacts (replies ++ r ∷ []) replies (Some r) refl kept.each in
    let few : length (replies ++ r ∷ []) ≤ MAX_REPLIES = kept.few in record {
      pieces = kept.pieces;
      each = All-push ReplyFacts replies s parts.0 (keeps parts.1);
      few = omega (arith, length-append replies (r ∷ []), length-append replies (s ∷ []));
      few_bytes = omega (arith, one_more_reply mem replies r, one_more_reply mem replies s);
    }

-- the same where its bytes stay
reply_kept : (mem : List Piece) (replies : List Reply) (r s : Reply) → (ReplyFacts r → ReplyFacts s)
    → bytes_in s.writes ≡ bytes_in r.writes → MemoryKept mem (replies ++ r ∷ []) → MemoryKept mem (replies ++ s ∷ [])
reply_kept mem replies r s keeps same kept =
    let few : bytes_of mem (replies ++ r ∷ []) ≤ MAX_CASE_BYTES = kept.few_bytes in
    reply_changed mem replies r s 0 keeps (omega arith) (omega arith) kept

-- one more piece that the reply writes
pub write_more : (mem : List Piece) (replies : List Reply) (o : Option OpenReply) (p : Piece) → PieceFacts p
    → bytes_of mem (with_reply replies o) + length p.bytes ≤ MAX_CASE_BYTES → MemoryKept mem (with_reply replies o)
    → MemoryKept mem (with_reply replies (change_reply (give_write p) o))
write_more mem replies None p facts room kept = kept
write_more mem replies (Some r) p facts room kept =
    reply_changed mem replies (whole_reply r) (whole_reply (give_write p r)) (length p.bytes)
    (λ h. record {
      words = h.words;
      few = h.few;
      writes = All-push PieceFacts r.writes p h.writes facts;
      junk = h.junk;
      clobber = h.clobber;
    })
    (one_more_piece r.writes p) room kept

-- what the reply leaves
pub reply_junk_more : (mem : List Piece) (replies : List Reply) (o : Option OpenReply) (words : List ℕ)
    → All IsWord words → length (reply_junk_given o) + length words ≤ MAX_JUNK_WORDS
    → MemoryKept mem (with_reply replies o)
    → MemoryKept mem (with_reply replies (change_reply (give_reply_junk words) o))
reply_junk_more mem replies None words each few kept = kept
reply_junk_more mem replies (Some r) words each few kept =
    reply_kept mem replies (whole_reply r) (whole_reply (give_reply_junk words r))
    (λ h. record {
      words = h.words;
      few = h.few;
      writes = h.writes;
      junk = junk_more words r.junk each few h.junk;
      clobber = h.clobber;
    })
    refl kept

pub reply_filled : (mem : List Piece) (replies : List Reply) (o : Option OpenReply) (w : ℕ) → IsWord w
    → MemoryKept mem (with_reply replies o)
    → MemoryKept mem (with_reply replies (change_reply (give_reply_fill w) o))
reply_filled mem replies None w word kept = kept
reply_filled mem replies (Some r) w word kept =
    reply_kept mem replies (whole_reply r) (whole_reply (give_reply_fill w r))
    (λ h. record {
      words = h.words;
      few = h.few;
      writes = h.writes;
      junk = junk_filled w r.junk word h.junk;
      clobber = h.clobber;
    })
    refl kept

pub reply_clobbered : (mem : List Piece) (replies : List Reply) (o : Option OpenReply) (w : ℕ) → IsWord w
    → MemoryKept mem (with_reply replies o) → MemoryKept mem (with_reply replies (change_reply (give_clobber w) o))
reply_clobbered mem replies None w word kept = kept
reply_clobbered mem replies (Some r) w word kept =
    reply_kept mem replies (whole_reply r) (whole_reply (give_clobber w r))
    (λ h. record { words = h.words; few = h.few; writes = h.writes; junk = h.junk; clobber = word })
    refl kept
