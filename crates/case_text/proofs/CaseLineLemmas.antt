-- A line without a fault keeps what holds of the cases that were read.
use Rattle.std.proofs.Common.{◌≡◌, ℕ, ◌+◌, ◌<◌, ◌≤◌, false, List, [], ◌∷◌, length, All, Option, None, Some, refl, subst}
use Rattle.std.proofs.Common.{arith}
use Rattle.std.specs.List.{list_any}
use Rattle.std.proofs.lemmas.List.{length-append}
use Rattle.ssa_ir.specs.declared.limits.TheConstants.{MAX_BOUND, MAX_CASES, MAX_CASE_BYTES, MAX_JUNK_WORDS}
use Rattle.ssa_ir.specs.declared.limits.TheConstants.{MAX_PIECE_BYTES, MAX_REPLIES}
use Rattle.ssa_ir.specs.Names.{IsName}
use Rattle.ssa_ir.specs.declared.case.Piece.{Piece}
use Rattle.ssa_lines.specs.Limits.{over, full}
use Rattle.ssa_lines.specs.Words.{is_same}
use Rattle.ssa_lines.specs.declared.forms.Spelled.TheVariants.{Fits}
use Rattle.ssa_lines.specs.declared.refusal.LimitKind.TheVariants.{Cases, Bound, Replies, MemBytes, JunkWords}
use Rattle.case_text.specs.CaseReading.{CasesRead, symbols, reply_of, replies_of, bytes_given, junk_given}
use Rattle.case_text.specs.CaseReading.{reply_junk_given, whole_case, with_reply, with_case, memory_limit}
use Rattle.case_text.specs.CaseReading.{fault_of_form, function_of, absent_at, begin_case, give_args, give_sym}
use Rattle.case_text.specs.CaseReading.{give_mem, give_junk, give_fill, begin_reply, change_reply, changed, give_write}
use Rattle.case_text.specs.CaseReading.{give_reply_junk, give_reply_fill, give_clobber, in_reply, behind}
use Rattle.case_text.specs.declared.forms.CaseHead.{CaseHead}
use Rattle.case_text.specs.declared.forms.SymLine.{SymLine}
use Rattle.case_text.specs.declared.forms.CaseForm.{CaseForm}
use Rattle.case_text.specs.declared.forms.CaseForm.TheVariants.{Head, Args, Sym, Mem, Junk as JunkForm, Fill}
use Rattle.case_text.specs.declared.forms.CaseForm.TheVariants.{Reply as ReplyForm, Write, ReplyJunk, ReplyFill}
use Rattle.case_text.specs.declared.forms.CaseForm.TheVariants.{Clobber}
use Rattle.case_text.specs.declared.partial.OpenCase.{OpenCase}
use Rattle.case_text.specs.declared.partial.OpenReply.{OpenReply}
use Rattle.case_text.proofs.CaseFacts.{IsWord, PieceFacts}
use Rattle.case_text.proofs.CaseFormFacts.{FewWords, PieceForm, SymForm, CaseFormFacts}
use Rattle.case_text.proofs.CasesKept.{bytes_of, MemoryKept, CasesKept, each_facts, change_kept}
use Rattle.case_text.proofs.CaseChanges.{head_found, begun_kept, sym_more, junk_more, junk_filled, piece_more}
use Rattle.case_text.proofs.CaseChanges.{reply_more, write_more, reply_junk_more, reply_filled, reply_clobbered}
use Rattle.ssa_lines.proofs.LimitLemmas.{not_over, not_full, neither}
use Rattle.case_text.proofs.CaseTests.{Passes, passes}

-- where all functions were found, what was read is kept
abbrev pub ReadKept : (names : List (List ℕ)) → CasesRead → Type 0
ReadKept names r = r.unknown ≡ None → CasesKept names r.cases r.current

-- a line of this form keeps it
abbrev Keeps : (names : List (List ℕ)) → CasesRead → (line : ℕ) → CaseForm → Type 0
Keeps names r line form = ReadKept names r → ReadKept names (behind names r line form)

-- a piece within the limits, with room for its bytes
record PieceFits (r : CasesRead) (p : Piece) : Type 0 where
  facts : PieceFacts p
  room : bytes_given r.current + length p.bytes ≤ MAX_CASE_BYTES

piece_fits : (r : CasesRead) (p : Piece) → PieceForm p → memory_limit r p ≡ None → PieceFits r p
piece_fits r p form limit =
    let long = length p.bytes in
    let both =
    neither (over MAX_PIECE_BYTES long MemBytes) (over MAX_CASE_BYTES (bytes_given r.current + long) MemBytes)
    limit in record {
      facts = record {
        addr = form.addr;
        some = form.given.some;
        few = not_over MAX_PIECE_BYTES long MemBytes both.0;
        bytes = form.given.each;
      };
      room = not_over MAX_CASE_BYTES (bytes_given r.current + long) MemBytes both.1;
    }

-- a case begins behind fewer than `MAX_CASES`
head_kept : (names : List (List ℕ)) (r : CasesRead) (line : ℕ) (h : CaseHead) → Passes r (Head (Fits h))
    → IsName h.name → Keeps names r line (Head (Fits h))
head_kept names r line h passed named kept known =
    let before = with_case r.cases r.current in
    let func = function_of names h.name in
    let known_parts = neither r.unknown (absent_at line func) known in
    let limits = neither (full MAX_CASES (length before) Cases) (over MAX_BOUND h.bound Bound) passed.is_within in
    let room = not_full MAX_CASES (length before) Cases limits.0 in
    let few = not_over MAX_BOUND h.bound Bound limits.1 in
    let head = head_found names h.name h.bound line func refl known_parts.1 named few in record {
      few = omega (arith, length-append before (whole_case (begin_case func h) ∷ []));
      whole = each_facts names r.cases r.current (kept known_parts.0);
      goes_on = begun_kept names func h head;
    }

-- the room in the case that goes on
room_in : (r : CasesRead) (p : Piece) (c : OpenCase) → PieceFits r p → r.current ≡ Some c
    → bytes_of c.mem (with_reply c.replies c.reply) + length p.bytes ≤ MAX_CASE_BYTES
room_in r p c fits e = subst (λ o. bytes_given o + length p.bytes ≤ MAX_CASE_BYTES) e fits.room

-- ---- the lines of a case

args_kept : (names : List (List ℕ)) (r : CasesRead) (line : ℕ) (words : List ℕ) → FewWords words
    → Keeps names r line (Args (Fits words))
args_kept names r line words few kept known =
    change_kept names r.cases r.current (give_args words)
    (λ c e h. record { head = h.head; args = few; syms = h.syms; junk = h.junk; memory = h.memory })
    (kept known)

sym_kept : (names : List (List ℕ)) (r : CasesRead) (line : ℕ) (s : SymLine) → SymForm s
    → list_any (λ (t : List ℕ × ℕ). is_same t.0 s.name) (symbols r.current) ≡ false
    → Keeps names r line (Sym (Fits s))
sym_kept names r line s form new kept known =
    let differs = λ (o : Option OpenCase). list_any (λ (t : List ℕ × ℕ). is_same t.0 s.name) (symbols o) ≡ false in
    change_kept names r.cases r.current (give_sym s)
    (λ c e h. record {
      head = h.head;
      args = h.args;
      syms = sym_more s c.syms form (subst differs e new) h.syms;
      junk = h.junk;
      memory = h.memory;
    })
    (kept known)

mem_kept : (names : List (List ℕ)) (r : CasesRead) (line : ℕ) (p : Piece) → PieceFits r p
    → Keeps names r line (Mem (Fits p))
mem_kept names r line p fits kept known =
    change_kept names r.cases r.current (give_mem p)
    (λ c e h. record {
      head = h.head;
      args = h.args;
      syms = h.syms;
      junk = h.junk;
      memory = piece_more c.mem (with_reply c.replies c.reply) p fits.facts (room_in r p c fits e) h.memory;
    })
    (kept known)

junk_kept : (names : List (List ℕ)) (r : CasesRead) (line : ℕ) (words : List ℕ) → All IsWord words
    → length (junk_given r.current) + length words ≤ MAX_JUNK_WORDS → Keeps names r line (JunkForm (Fits words))
junk_kept names r line words each few kept known =
    let short = λ (o : Option OpenCase). length (junk_given o) + length words ≤ MAX_JUNK_WORDS in
    change_kept names r.cases r.current (give_junk words)
    (λ c e h. record {
      head = h.head;
      args = h.args;
      syms = h.syms;
      junk = junk_more words c.junk each (subst short e few) h.junk;
      memory = h.memory;
    })
    (kept known)

fill_kept : (names : List (List ℕ)) (r : CasesRead) (line w : ℕ) → IsWord w → Keeps names r line (Fill (Fits w))
fill_kept names r line w word kept known =
    change_kept names r.cases r.current (give_fill w)
    (λ c e h. record {
      head = h.head;
      args = h.args;
      syms = h.syms;
      junk = junk_filled w c.junk word h.junk;
      memory = h.memory;
    })
    (kept known)

-- ---- the lines of a reply

reply_kept : (names : List (List ℕ)) (r : CasesRead) (line : ℕ) (words : List ℕ) → FewWords words
    → length (replies_of r.current) < MAX_REPLIES → Keeps names r line (ReplyForm (Fits words))
reply_kept names r line words few room kept known =
    let has_room = λ (o : Option OpenCase). length (replies_of o) < MAX_REPLIES in
    change_kept names r.cases r.current (begin_reply words)
    (λ c e h. record {
      head = h.head;
      args = h.args;
      syms = h.syms;
      junk = h.junk;
      memory = reply_more c.mem (with_reply c.replies c.reply) words few (subst has_room e room) h.memory;
    })
    (kept known)

-- a change of the reply that goes on, by what it leaves of memory and replies
in_reply_kept : (names : List (List ℕ)) (r : CasesRead) (by : OpenReply → OpenReply)
    → ((c : OpenCase) → r.current ≡ Some c → MemoryKept c.mem (with_reply c.replies c.reply)
    → MemoryKept c.mem (with_reply c.replies (change_reply by c.reply)))
    → ReadKept names r → ReadKept names (changed r (in_reply by))
in_reply_kept names r by keeps kept known =
    change_kept names r.cases r.current (in_reply by)
    (λ c e h. record {
      head = h.head;
      args = h.args;
      syms = h.syms;
      junk = h.junk;
      memory = keeps c e h.memory;
    })
    (kept known)

write_kept : (names : List (List ℕ)) (r : CasesRead) (line : ℕ) (p : Piece) → PieceFits r p
    → Keeps names r line (Write (Fits p))
write_kept names r line p fits =
    in_reply_kept names r (give_write p)
    (λ c e. write_more c.mem c.replies c.reply p fits.facts (room_in r p c fits e))

reply_junk_kept : (names : List (List ℕ)) (r : CasesRead) (line : ℕ) (words : List ℕ) → All IsWord words
    → length (reply_junk_given (reply_of r.current)) + length words ≤ MAX_JUNK_WORDS
    → Keeps names r line (ReplyJunk (Fits words))
reply_junk_kept names r line words each few =
    let short = λ (o : Option OpenCase). length (reply_junk_given (reply_of o)) + length words ≤ MAX_JUNK_WORDS in
    in_reply_kept names r (give_reply_junk words)
    (λ c e. reply_junk_more c.mem c.replies c.reply words each (subst short e few))

reply_fill_kept : (names : List (List ℕ)) (r : CasesRead) (line w : ℕ) → IsWord w
    → Keeps names r line (ReplyFill (Fits w))
reply_fill_kept names r line w word =
    in_reply_kept names r (give_reply_fill w) (λ c e. reply_filled c.mem c.replies c.reply w word)

clobber_kept : (names : List (List ℕ)) (r : CasesRead) (line w : ℕ) → IsWord w
    → Keeps names r line (Clobber (Fits w))
clobber_kept names r line w word =
    in_reply_kept names r (give_clobber w) (λ c e. reply_clobbered c.mem c.replies c.reply w word)

-- ---- any line

-- each form keeps what was read
taken_kept : (names : List (List ℕ)) (r : CasesRead) (line : ℕ) (form : CaseForm) → Passes r form
    → CaseFormFacts form → Keeps names r line form
taken_kept names r line (Head (Fits h)) t facts kept = head_kept names r line h t facts kept
taken_kept names r line (Args (Fits words)) t facts kept = args_kept names r line words facts kept
taken_kept names r line (Sym (Fits s)) t facts kept = sym_kept names r line s facts t.is_new kept
taken_kept names r line (Mem (Fits p)) t facts kept =
    mem_kept names r line p (piece_fits r p facts t.is_within) kept
taken_kept names r line (JunkForm (Fits words)) t facts kept =
    let count = length (junk_given r.current) + length words in
    junk_kept names r line words facts (not_over MAX_JUNK_WORDS count JunkWords t.is_within) kept
taken_kept names r line (Fill (Fits w)) t facts kept = fill_kept names r line w facts kept
taken_kept names r line (ReplyForm (Fits words)) t facts kept =
    reply_kept names r line words facts (not_full MAX_REPLIES (length (replies_of r.current)) Replies t.is_within) kept
taken_kept names r line (Write (Fits p)) t facts kept =
    write_kept names r line p (piece_fits r p facts t.is_within) kept
taken_kept names r line (ReplyJunk (Fits words)) t facts kept =
    let count = length (reply_junk_given (reply_of r.current)) + length words in
    reply_junk_kept names r line words facts (not_over MAX_JUNK_WORDS count JunkWords t.is_within) kept
taken_kept names r line (ReplyFill (Fits w)) t facts kept = reply_fill_kept names r line w facts kept
taken_kept names r line (Clobber (Fits w)) t facts kept = clobber_kept names r line w facts kept
taken_kept names r line _ t facts kept = kept

-- a line without a fault keeps it
pub read_kept_behind : (names : List (List ℕ)) (r : CasesRead) (line : ℕ) (form : CaseForm) → ReadKept names r
    → fault_of_form r line form ≡ None → CaseFormFacts form → ReadKept names (behind names r line form)
read_kept_behind names r line form kept fault facts =
    taken_kept names r line form (passes r line form fault) facts kept
