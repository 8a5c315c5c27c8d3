-- What cases a text is read as: its lines one by one, with what was read before them.
use Rattle.std.specs.Prelude.{ℕ, ◌+◌, nat_lt, Bool, true, false, not, if◌then◌else◌, List, [], ◌∷◌, ◌++◌, length}
use Rattle.std.specs.Prelude.{is_some, position, unwrap_or, Option, None, Some, Result, Ok, Err}
use Rattle.std.specs.List.{list_any, sum_by}
use Rattle.std.specs.Option.{option_or}
use Rattle.ssa_ir.specs.declared.limits.TheConstants.{MAX_BOUND, MAX_CASES, MAX_CASE_BYTES, MAX_JUNK_WORDS}
use Rattle.ssa_ir.specs.declared.limits.TheConstants.{MAX_LINE_BYTES, MAX_PIECE_BYTES, MAX_REPLIES}
use Rattle.ssa_ir.specs.Limits.{bytes_in}
use Rattle.ssa_ir.specs.declared.case.Piece.{Piece}
use Rattle.ssa_ir.specs.declared.case.Junk.{Junk}
use Rattle.ssa_ir.specs.declared.case.Reply.{Reply}
use Rattle.ssa_ir.specs.declared.case.Case.{Case}
use Rattle.ssa_lines.specs.Limits.{over, full, limit_of}
use Rattle.ssa_lines.specs.Lines.{lines_of, is_allowed}
use Rattle.ssa_lines.specs.Words.{is_same, words_of}
use Rattle.ssa_lines.specs.declared.forms.Spelled.{Spelled}
use Rattle.ssa_lines.specs.declared.forms.Spelled.TheVariants.{Fits, TooLarge}
use Rattle.ssa_lines.specs.declared.refusal.LimitKind.{LimitKind}
use Rattle.ssa_lines.specs.declared.refusal.LimitKind.TheVariants.{LineBytes, Cases, Bound, Replies, MemBytes}
use Rattle.ssa_lines.specs.declared.refusal.LimitKind.TheVariants.{JunkWords}
use Rattle.ssa_lines.specs.declared.refusal.TextFault.{TextFault}
use Rattle.ssa_lines.specs.declared.refusal.TextFault.TheVariants.{BadByte, BadLine, NumberTooLarge, Duplicate}
use Rattle.ssa_lines.specs.declared.refusal.TextFault.TheVariants.{UnknownRef, Limit}
use Rattle.case_text.specs.CaseForms.{case_form_of}
use Rattle.case_text.specs.declared.forms.CaseHead.{CaseHead}
use Rattle.case_text.specs.declared.forms.SymLine.{SymLine}
use Rattle.case_text.specs.declared.forms.CaseForm.{CaseForm}
use Rattle.case_text.specs.declared.forms.CaseForm.TheVariants.{Blank, Head, Args, Sym, Mem, Junk as JunkForm, Fill}
use Rattle.case_text.specs.declared.forms.CaseForm.TheVariants.{Reply as ReplyForm, Write, ReplyJunk, ReplyFill}
use Rattle.case_text.specs.declared.forms.CaseForm.TheVariants.{Clobber, Bad}
use Rattle.case_text.specs.declared.partial.OpenReply.{OpenReply}
use Rattle.case_text.specs.declared.partial.OpenCase.{OpenCase}
use Rattle.case_text.specs.declared.read.CasePart.{CasePart}

-- what was read: whole cases, the one that goes on, and the first line that names a function that isn't there
pub record CasesRead : Type 0 where
  pub cases : List Case
  pub current : Option OpenCase
  pub unknown : Option ℕ

abbrev pub cases_read : List Case → Option OpenCase → Option ℕ → CasesRead
cases_read cases current unknown = record { cases = cases; current = current; unknown = unknown }

abbrev pub no_cases : CasesRead
no_cases = cases_read [] None None

abbrev pub has_reply : Option OpenCase → Bool
has_reply None = false
has_reply (Some c) = is_some c.reply

-- a line of this form may stand here: a case begins anywhere, its lines stand behind that, and those of a reply behind
-- its beginning
abbrev pub in_place : CasesRead → CaseForm → Bool
in_place r Blank = true
in_place r (Head h) = true
in_place r (Args words) = is_some r.current
in_place r (Sym s) = is_some r.current
in_place r (Mem p) = is_some r.current
in_place r (JunkForm words) = is_some r.current
in_place r (Fill w) = is_some r.current
in_place r (ReplyForm words) = is_some r.current
in_place r (Write p) = has_reply r.current
in_place r (ReplyJunk words) = has_reply r.current
in_place r (ReplyFill w) = has_reply r.current
in_place r (Clobber w) = has_reply r.current
in_place r Bad = false

abbrev pub is_too_large_in : {X : Type 0} → Spelled X → Bool
is_too_large_in (Fits x) = false
is_too_large_in TooLarge = true

-- an integer of the line is too large
abbrev pub is_too_large : CaseForm → Bool
is_too_large Blank = false
is_too_large (Head h) = is_too_large_in h
is_too_large (Args words) = is_too_large_in words
is_too_large (Sym s) = is_too_large_in s
is_too_large (Mem p) = is_too_large_in p
is_too_large (JunkForm words) = is_too_large_in words
is_too_large (Fill w) = is_too_large_in w
is_too_large (ReplyForm words) = is_too_large_in words
is_too_large (Write p) = is_too_large_in p
is_too_large (ReplyJunk words) = is_too_large_in words
is_too_large (ReplyFill w) = is_too_large_in w
is_too_large (Clobber w) = is_too_large_in w
is_too_large Bad = false

abbrev pub has_args : Option OpenCase → Bool
has_args None = false
has_args (Some c) = c.has_args

abbrev pub has_fill : Option OpenCase → Bool
has_fill None = false
has_fill (Some c) = c.is_filled

abbrev pub symbols : Option OpenCase → List (List ℕ × ℕ)
symbols None = []
symbols (Some c) = c.syms

abbrev pub reply_of : Option OpenCase → Option OpenReply
reply_of None = None
reply_of (Some c) = c.reply

abbrev pub has_reply_fill : Option OpenReply → Bool
has_reply_fill None = false
has_reply_fill (Some p) = p.is_filled

abbrev pub has_clobber : Option OpenReply → Bool
has_clobber None = false
has_clobber (Some p) = p.is_clobbered

-- the line is one that stands once, and stood already
abbrev pub is_twice : CasesRead → CaseForm → Bool
is_twice r (Args words) = has_args r.current
is_twice r (Sym (Fits s)) = list_any (λ t. is_same t.0 s.name) (symbols r.current)
is_twice r (Fill w) = has_fill r.current
is_twice r (ReplyFill w) = has_reply_fill (reply_of r.current)
is_twice r (Clobber w) = has_clobber (reply_of r.current)
is_twice r _ = false

abbrev pub whole_reply : OpenReply → Reply
whole_reply p = record { words = p.words; writes = p.writes; junk = p.junk; clobber = p.clobber }

-- the replies, with the one that goes on
abbrev pub with_reply : List Reply → Option OpenReply → List Reply
with_reply replies None = replies
with_reply replies (Some p) = replies ++ whole_reply p ∷ []

abbrev pub replies_of : Option OpenCase → List Reply
replies_of None = []
replies_of (Some c) = with_reply c.replies c.reply

-- how many bytes of memory a case gives so far, with what its replies write
abbrev pub bytes_given : Option OpenCase → ℕ
bytes_given None = 0
bytes_given (Some c) = bytes_in c.mem + sum_by (λ (p : Reply). bytes_in p.writes) (with_reply c.replies c.reply)

abbrev pub junk_given : Option OpenCase → List ℕ
junk_given None = []
junk_given (Some c) = c.junk.words

abbrev pub reply_junk_given : Option OpenReply → List ℕ
reply_junk_given None = []
reply_junk_given (Some p) = p.junk.words

abbrev pub whole_case : OpenCase → Case
whole_case c = record {
  func = c.func;
  bound = c.bound;
  args = c.args;
  syms = c.syms;
  mem = c.mem;
  junk = c.junk;
  replies = with_reply c.replies c.reply;
}

-- the cases, with the one that goes on
abbrev pub with_case : List Case → Option OpenCase → List Case
with_case cases None = cases
with_case cases (Some c) = cases ++ whole_case c ∷ []

-- the first limit that bytes of memory pass: that of one line, and that of a case
abbrev pub memory_limit : CasesRead → Piece → Option LimitKind
memory_limit r p =
    option_or (over MAX_PIECE_BYTES (length p.bytes) MemBytes)
    (over MAX_CASE_BYTES (bytes_given r.current + length p.bytes) MemBytes)

-- the first limit that a line of this form passes, in the order of the table
abbrev pub limit_passed : CasesRead → CaseForm → Option LimitKind
limit_passed r (Head (Fits h)) =
    option_or (full MAX_CASES (length (with_case r.cases r.current)) Cases) (over MAX_BOUND h.bound Bound)
limit_passed r (ReplyForm (Fits words)) = full MAX_REPLIES (length (replies_of r.current)) Replies
limit_passed r (Mem (Fits p)) = memory_limit r p
limit_passed r (Write (Fits p)) = memory_limit r p
limit_passed r (JunkForm (Fits words)) = over MAX_JUNK_WORDS (length (junk_given r.current) + length words) JunkWords
limit_passed r (ReplyJunk (Fits words)) =
    over MAX_JUNK_WORDS (length (reply_junk_given (reply_of r.current)) + length words) JunkWords
limit_passed r _ = None

-- what is wrong with a line of this form, the first of all that is
abbrev pub fault_of_form : CasesRead → (line : ℕ) → CaseForm → Option TextFault
fault_of_form r line form =
    if not (in_place r form) then Some (BadLine line)
    else if is_too_large form then Some (NumberTooLarge line)
    else if is_twice r form then Some (Duplicate line)
    else limit_of line (limit_passed r form)

-- what is wrong with a line
abbrev pub fault_of : CasesRead → (line : ℕ) → List ℕ → Option TextFault
fault_of r line bytes =
    if nat_lt MAX_LINE_BYTES (length bytes) then Some (Limit LineBytes line)
    else if not (is_allowed bytes) then Some (BadByte line)
    else fault_of_form r line (case_form_of (words_of bytes))

abbrev pub no_junk : Junk
no_junk = record { words = []; fill = 0 }

-- the number of the function of this name
abbrev pub function_of : (names : List (List ℕ)) → List ℕ → Option ℕ
function_of names name = position (λ n. is_same n name) names

abbrev pub begin_case : (func : Option ℕ) → CaseHead → OpenCase
begin_case func h = record {
  func = unwrap_or func 0;
  bound = h.bound;
  args = [];
  syms = [];
  mem = [];
  junk = no_junk;
  replies = [];
  reply = None;
  has_args = false;
  is_filled = false;
}

-- this line, where no function was found
abbrev pub absent_at : (line : ℕ) → Option ℕ → Option ℕ
absent_at line None = Some line
absent_at line (Some func) = None

abbrev pub head_behind : (names : List (List ℕ)) → CasesRead → (line : ℕ) → CaseHead → CasesRead
head_behind names r line h =
    cases_read (with_case r.cases r.current) (Some (begin_case (function_of names h.name) h))
    (option_or r.unknown (absent_at line (function_of names h.name)))

abbrev pub give_args : List ℕ → OpenCase → OpenCase
give_args words c = record c { args = words; has_args = true }

abbrev pub give_sym : SymLine → OpenCase → OpenCase
give_sym s c = record c { syms = c.syms ++ (s.name, s.address) ∷ [] }

abbrev pub give_mem : Piece → OpenCase → OpenCase
give_mem p c = record c { mem = c.mem ++ p ∷ [] }

abbrev pub more_junk : List ℕ → Junk → Junk
more_junk words j = record { words = j.words ++ words; fill = j.fill }

abbrev pub filled : ℕ → Junk → Junk
filled w j = record { words = j.words; fill = w }

abbrev pub give_junk : List ℕ → OpenCase → OpenCase
give_junk words c = record c { junk = more_junk words c.junk }

abbrev pub give_fill : ℕ → OpenCase → OpenCase
give_fill w c = record c { junk = filled w c.junk; is_filled = true }

abbrev pub begun_reply : List ℕ → OpenReply
begun_reply words =
    record { words = words; writes = []; junk = no_junk; clobber = 0; is_filled = false; is_clobbered = false }

abbrev pub begin_reply : List ℕ → OpenCase → OpenCase
begin_reply words c = record c { replies = with_reply c.replies c.reply; reply = Some (begun_reply words) }

abbrev pub give_write : Piece → OpenReply → OpenReply
give_write p reply = record reply { writes = reply.writes ++ p ∷ [] }

abbrev pub give_reply_junk : List ℕ → OpenReply → OpenReply
give_reply_junk words reply = record reply { junk = more_junk words reply.junk }

abbrev pub give_reply_fill : ℕ → OpenReply → OpenReply
give_reply_fill w reply = record reply { junk = filled w reply.junk; is_filled = true }

abbrev pub give_clobber : ℕ → OpenReply → OpenReply
give_clobber w reply = record reply { clobber = w; is_clobbered = true }

abbrev pub change_reply : (OpenReply → OpenReply) → Option OpenReply → Option OpenReply
change_reply by None = None
change_reply by (Some p) = Some (by p)

abbrev pub in_reply : (OpenReply → OpenReply) → OpenCase → OpenCase
in_reply by c = record c { reply = change_reply by c.reply }

abbrev pub change_case : (OpenCase → OpenCase) → Option OpenCase → Option OpenCase
change_case by None = None
change_case by (Some c) = Some (by c)

abbrev pub changed : CasesRead → (OpenCase → OpenCase) → CasesRead
changed r by = record r { current = change_case by r.current }

-- what is read behind a line of this form that has no fault, among functions of these names
abbrev pub behind : (names : List (List ℕ)) → CasesRead → (line : ℕ) → CaseForm → CasesRead
behind names r line (Head (Fits h)) = head_behind names r line h
behind names r line (Args (Fits words)) = changed r (give_args words)
behind names r line (Sym (Fits s)) = changed r (give_sym s)
behind names r line (Mem (Fits p)) = changed r (give_mem p)
behind names r line (JunkForm (Fits words)) = changed r (give_junk words)
behind names r line (Fill (Fits w)) = changed r (give_fill w)
behind names r line (ReplyForm (Fits words)) = changed r (begin_reply words)
behind names r line (Write (Fits p)) = changed r (in_reply (give_write p))
behind names r line (ReplyJunk (Fits words)) = changed r (in_reply (give_reply_junk words))
behind names r line (ReplyFill (Fits w)) = changed r (in_reply (give_reply_fill w))
behind names r line (Clobber (Fits w)) = changed r (in_reply (give_clobber w))
behind names r line _ = r

abbrev pub then_read : Option TextFault → CasesRead → (CasesRead → Result CasesRead TextFault)
    → Result CasesRead TextFault
then_read (Some fault) r go = Err fault
then_read None r go = go r

-- the lines from this number on, behind what was read: all of them, or the first fault
abbrev pub read_from : (names : List (List ℕ)) → CasesRead → (line : ℕ) → List (List ℕ) → Result CasesRead TextFault
read_from names r line [] = Ok r
read_from names r line (bytes ∷ lines) =
    then_read (fault_of r line bytes) (behind names r line (case_form_of (words_of bytes)))
    (λ next. read_from names next (line + 1) lines)

abbrev pub cases_or_unknown : List Case → Option ℕ → Result (List Case) TextFault
cases_or_unknown cases None = Ok cases
cases_or_unknown cases (Some line) = Err (UnknownRef line)

-- the cases that were read, where all their functions are there
abbrev pub finish : CasesRead → Result (List Case) TextFault
finish r = cases_or_unknown (with_case r.cases r.current) r.unknown

abbrev pub finished : Result CasesRead TextFault → Result (List Case) TextFault
finished (Ok r) = finish r
finished (Err fault) = Err fault

-- the cases that a text spells, among functions of these names, with lines numbered from `first`; or the first fault
abbrev pub read_cases : (names : List (List ℕ)) → (first : ℕ) → List ℕ → Result (List Case) TextFault
read_cases names first text = finished (read_from names no_cases first (lines_of text))

-- ---- what a reader's own calls answer

-- the form of a line without a fault, or its fault
abbrev pub form_or_fault : Option TextFault → CaseForm → Result CaseForm TextFault
form_or_fault (Some fault) form = Err fault
form_or_fault None form = Ok form

abbrev pub checked_form : CasesRead → (line : ℕ) → List ℕ → Result CaseForm TextFault
checked_form r line bytes = form_or_fault (fault_of r line bytes) (case_form_of (words_of bytes))

-- one line behind what was read: what is read with it, or its fault
abbrev pub read_line : (names : List (List ℕ)) → CasesRead → (line : ℕ) → List ℕ → Result CasesRead TextFault
read_line names r line bytes =
    then_read (fault_of r line bytes) (behind names r line (case_form_of (words_of bytes))) Ok

abbrev pub part_of : CasesRead → CasePart
part_of r = record { cases = with_case r.cases r.current; unknown = r.unknown }

-- the cases that were read, whether all their functions are there or not; or the first fault
abbrev pub case_part : Result CasesRead TextFault → Result CasePart TextFault
case_part (Ok r) = Ok (part_of r)
case_part (Err fault) = Err fault
