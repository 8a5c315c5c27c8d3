-- What a line changes of the symbols and of the bytes that a case gives.
use Rattle.std.proofs.Common.{◌≡◌, ℕ, ◌+◌, ◌≤◌, true, List, [], ◌∷◌, ◌++◌, length, map, is_some, Option, None, Some}
use Rattle.std.proofs.Common.{refl, sym, ap, ◌∙◌, arith}
use Rattle.std.specs.List.{sum_by}
use Rattle.std.proofs.lemmas.List.{map-append}
use Rattle.std.proofs.lemmas.List.Sums.{sum_by_push}
use Rattle.ssa_ir.specs.declared.limits.TheConstants.{MAX_CASE_BYTES, MAX_PIECE_BYTES}
use Rattle.ssa_ir.specs.Limits.{bytes_in}
use Rattle.ssa_ir.specs.declared.case.Piece.{Piece}
use Rattle.ssa_ir.specs.declared.case.Reply.{Reply}
use Rattle.ssa_lines.specs.Limits.{over}
use Rattle.ssa_lines.specs.declared.refusal.LimitKind.TheVariants.{MemBytes}
use Rattle.case_text.specs.declared.forms.SymLine.{SymLine}
use Rattle.case_text.specs.declared.partial.OpenReply.{OpenReply}
use Rattle.case_text.specs.declared.partial.OpenCase.{OpenCase}
use Rattle.case_text.specs.CaseReading.{CasesRead, has_reply, symbols, bytes_given, memory_limit, whole_reply}
use Rattle.case_text.specs.CaseReading.{with_reply, change_case, change_reply, in_reply, give_sym, give_mem, give_write}
use Rattle.case_text.specs.CaseReading.{begin_reply, begun_reply}
use Rattle.ssa_lines.proofs.LimitLemmas.{not_over, neither}

-- the tables of a reader are those of the case that goes on
abbrev pub Tables : Option OpenCase → (names : List (List ℕ)) → (bytes : ℕ) → Type 0
Tables current names bytes =
    (names ≡ map (λ s. s.0) (symbols current)) × (bytes ≡ bytes_given current) × (bytes ≤ MAX_CASE_BYTES)

-- a line that gives neither symbols nor bytes keeps them
module _ (by : OpenCase → OpenCase) (same_syms : (c : OpenCase) → (by c).syms ≡ c.syms)
    (same_bytes : (c : OpenCase) → bytes_given (Some (by c)) ≡ bytes_given (Some c)) where
  kept_syms : (current : Option OpenCase) → symbols (change_case by current) ≡ symbols current
  kept_syms None = refl
  kept_syms (Some c) = same_syms c

  kept_bytes : (current : Option OpenCase) → bytes_given (change_case by current) ≡ bytes_given current
  kept_bytes None = refl
  kept_bytes (Some c) = same_bytes c

  pub tables_kept : (current after : Option OpenCase) (names : List (List ℕ)) (bytes : ℕ)
      → after ≡ change_case by current → Tables current names bytes → Tables after names bytes
  tables_kept current after names bytes changed before = (
    before.0 ∙ ap (map (λ (s : List ℕ × ℕ). s.0)) (sym (kept_syms current) ∙ ap symbols (sym changed)),
    before.1 ∙ sym (kept_bytes current) ∙ ap bytes_given (sym changed),
    before.2,
  )

-- how many bytes replies write
abbrev written : List Reply → ℕ
written replies = sum_by (λ (p : Reply). bytes_in p.writes) replies

abbrev open_written : Option OpenReply → ℕ
open_written None = 0
open_written (Some p) = bytes_in p.writes

written_with : (replies : List Reply) (reply : Option OpenReply)
    → written (with_reply replies reply) ≡ written replies + open_written reply
written_with replies None = omega arith
written_with replies (Some p) = sum_by_push (λ (q : Reply). bytes_in q.writes) replies (whole_reply p)

same_written : (by : OpenReply → OpenReply) → ((p : OpenReply) → (by p).writes ≡ p.writes) → (reply : Option OpenReply)
    → open_written (change_reply by reply) ≡ open_written reply
same_written by same None = refl
same_written by same (Some p) = ap bytes_in (same p)

-- a line of a reply that writes nothing keeps the bytes
pub bytes_kept_in_reply : (by : OpenReply → OpenReply) → ((p : OpenReply) → (by p).writes ≡ p.writes) → (c : OpenCase)
    → bytes_given (Some (in_reply by c)) ≡ bytes_given (Some c)
bytes_kept_in_reply by same c =
    omega (
      arith,
      written_with c.replies (change_reply by c.reply),
      same_written by same c.reply,
      written_with c.replies c.reply,
    )

-- the beginning of a reply too
pub bytes_kept_by_reply : (words : List ℕ) (c : OpenCase)
    → bytes_given (Some (begin_reply words c)) ≡ bytes_given (Some c)
bytes_kept_by_reply words c = omega (arith, written_with (with_reply c.replies c.reply) (Some (begun_reply words)))

-- a symbol that is given
pub symbol_taken : (s : SymLine) (current after : Option OpenCase) (names more : List (List ℕ)) (bytes : ℕ)
    → is_some current ≡ true → after ≡ change_case (give_sym s) current → more ≡ names ++ s.name ∷ []
    → Tables current names bytes → Tables after more bytes
symbol_taken s None after names more bytes place changed put before = cc
symbol_taken s (Some c) after names more bytes place changed put before = (
  put ∙ ap (λ l. l ++ s.name ∷ []) before.0
      ∙ sym (map-append (λ (t : List ℕ × ℕ). t.0) c.syms ((s.name, s.address) ∷ []))
      ∙ ap (λ o. map (λ (t : List ℕ × ℕ). t.0) (symbols o)) (sym changed),
  before.1 ∙ ap bytes_given (sym changed),
  before.2,
)

-- bytes that pass no limit
bytes_within : (r : CasesRead) (p : Piece) → memory_limit r p ≡ None
    → bytes_given r.current + length p.bytes ≤ MAX_CASE_BYTES
bytes_within r p h =
    not_over MAX_CASE_BYTES (bytes_given r.current + length p.bytes) MemBytes
    (neither (over MAX_PIECE_BYTES (length p.bytes) MemBytes)
    (over MAX_CASE_BYTES (bytes_given r.current + length p.bytes) MemBytes) h).1

more_mem : (p : Piece) (current : Option OpenCase) → is_some current ≡ true
    → bytes_given (change_case (give_mem p) current) ≡ bytes_given current + length p.bytes
more_mem p None place = cc
more_mem p (Some c) place = omega (arith, sum_by_push (λ (q : Piece). length q.bytes) c.mem p)

more_written : (p : Piece) (reply : Option OpenReply) → is_some reply ≡ true
    → open_written (change_reply (give_write p) reply) ≡ open_written reply + length p.bytes
more_written p None place = cc
more_written p (Some reply) place = sum_by_push (λ (q : Piece). length q.bytes) reply.writes p

more_write : (p : Piece) (current : Option OpenCase) → has_reply current ≡ true
    → bytes_given (change_case (in_reply (give_write p)) current) ≡ bytes_given current + length p.bytes
more_write p None place = cc
more_write p (Some c) place =
    omega (
      arith,
      written_with c.replies (change_reply (give_write p) c.reply),
      more_written p c.reply place,
      written_with c.replies c.reply,
    )

same_symbols_mem : (p : Piece) (current : Option OpenCase)
    → symbols (change_case (give_mem p) current) ≡ symbols current
same_symbols_mem p None = refl
same_symbols_mem p (Some c) = refl

same_symbols_write : (p : Piece) (current : Option OpenCase)
    → symbols (change_case (in_reply (give_write p)) current) ≡ symbols current
same_symbols_write p None = refl
same_symbols_write p (Some c) = refl

-- bytes of memory that are given, as many as there is room for
module _ (p : Piece) (r : CasesRead) (after : Option OpenCase) (names : List (List ℕ)) (bytes : ℕ)
    (within : memory_limit r p ≡ None) (before : Tables r.current names bytes) where
  grown : (by : OpenCase → OpenCase) → symbols (change_case by r.current) ≡ symbols r.current
      → bytes_given (change_case by r.current) ≡ bytes_given r.current + length p.bytes
      → after ≡ change_case by r.current → Tables after names (bytes + length p.bytes)
  grown by same more changed = (
    before.0 ∙ ap (map (λ (s : List ℕ × ℕ). s.0)) (sym same ∙ ap symbols (sym changed)),
    ap (λ n. n + length p.bytes) before.1 ∙ sym more ∙ ap bytes_given (sym changed),
    omega (arith, before.1, bytes_within r p within),
  )

  pub mem_taken : is_some r.current ≡ true → after ≡ change_case (give_mem p) r.current
      → Tables after names (bytes + length p.bytes)
  mem_taken place = grown (give_mem p) (same_symbols_mem p r.current) (more_mem p r.current place)

  pub write_taken : has_reply r.current ≡ true → after ≡ change_case (in_reply (give_write p)) r.current
      → Tables after names (bytes + length p.bytes)
  write_taken place = grown (in_reply (give_write p)) (same_symbols_write p r.current) (more_write p r.current place)
