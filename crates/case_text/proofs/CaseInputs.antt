-- The lines of what a case gives beside replies lead from its first line on to the case that has all that.
use Rattle.std.proofs.Common.{◌≡◌, ◌==◌, ℕ, suc, ◌+◌, ◌≤◌, ◌<◌, false, not, cond, List, [], ◌∷◌, ◌++◌, length}
use Rattle.std.proofs.Common.{length-append, codes, Bool, None, Some, All, refl, sym, ap, subst, arith, append_assoc}
use Rattle.std.proofs.Common.{append-nil}
use Rattle.std.specs.List.{AllPairs, flat_map, list_any, sum_by}
use Rattle.std.specs.Option.{option_or}
use Rattle.std.proofs.Math.Seq.{get_or-append_seam}
use Rattle.std.proofs.lemmas.Bool.{le-ltb, lt-leb, or_from}
use Rattle.std.proofs.lemmas.List.Elements.{All-head, All-tail}
use Rattle.std.proofs.lemmas.List.Sums.{sum_by_push}
use Rattle.gossa_base.specs.Texts.{hex_text}
use Rattle.ssa_ir.specs.declared.limits.TheConstants.{MAX_CASE_BYTES, MAX_JUNK_WORDS, MAX_PIECE_BYTES, MAX_WORDS}
use Rattle.ssa_ir.specs.Limits.{bytes_in}
use Rattle.ssa_ir.specs.declared.case.Case.{Case}
use Rattle.ssa_ir.specs.declared.case.Junk.{Junk}
use Rattle.ssa_ir.specs.declared.case.Piece.{Piece}
use Rattle.ssa_ir.specs.declared.case.Reply.{Reply}
use Rattle.ssa_lines.specs.Limits.{over, full}
use Rattle.ssa_lines.specs.Words.{is_same, has_bytes}
use Rattle.ssa_lines.specs.declared.forms.Spelled.TheVariants.{Fits}
use Rattle.ssa_lines.specs.declared.refusal.LimitKind.{LimitKind}
use Rattle.ssa_lines.specs.declared.refusal.LimitKind.TheVariants.{MemBytes, JunkWords}
use Rattle.case_text.specs.CaseForms.{head_of, sym_of}
use Rattle.case_text.specs.CaseReading.{CasesRead, cases_read, bytes_given, with_reply, memory_limit, no_junk}
use Rattle.case_text.specs.CaseReading.{begin_case}
use Rattle.case_text.specs.CaseText.{words_text, words_line, args_text, symbol_line, piece_line, junk_text, inputs_text}
use Rattle.case_text.specs.declared.forms.CaseForm.TheVariants.{Args, Sym, Mem, Junk as JunkForm, Fill}
use Rattle.case_text.specs.declared.partial.OpenCase.{OpenCase}
use Rattle.case_text.proofs.CaseFacts.{IsWord, PieceFacts, JunkFacts, SymFacts, CaseFacts}
use Rattle.case_text.proofs.CaseLineTexts.{words_line_ended, two_words_line, two_words_ended, spells_args, spells_sym}
use Rattle.case_text.proofs.CaseLineTexts.{spells_mem, spells_junk, spells_fill}
use Rattle.case_text.proofs.CaseParts.{leads_text, leads_same, pieces_lead, junk_leads}
use Rattle.case_text.proofs.CaseSteps.{CasePasses, Leads, leads_nowhere, leads_append}

-- limits that hold
pub not_over : (limit count : ℕ) (kind : LimitKind) → count ≤ limit → over limit count kind ≡ None
not_over limit count kind few = ap (λ t. cond t (Some kind) None) (le-ltb limit count few)

pub not_full : (limit count : ℕ) (kind : LimitKind) → count < limit → full limit count kind ≡ None
not_full limit count kind few = ap (λ t. cond t (Some kind) None) (lt-leb limit count few)

pub memory_fits : (r : CasesRead) (p : Piece) → length p.bytes ≤ MAX_PIECE_BYTES →
    bytes_given r.current + length p.bytes ≤ MAX_CASE_BYTES → memory_limit r p ≡ None
memory_fits r p line all =
    λ i.
    option_or (not_over MAX_PIECE_BYTES (length p.bytes) MemBytes line i)
    (not_over MAX_CASE_BYTES (bytes_given r.current + length p.bytes) MemBytes all i)

-- symbols of different names

abbrev AllDiffer : List (List ℕ × ℕ) → Type 0
AllDiffer syms = AllPairs (λ (s t : List ℕ × ℕ). is_same s.0 t.0 ≡ false) syms

-- the symbols behind the first
fewer_differ : (s : List ℕ × ℕ) (syms : List (List ℕ × ℕ)) → AllDiffer (s ∷ syms) → AllDiffer syms
fewer_differ s syms differ = λ i j d lt within. differ (suc i) (suc j) d (omega arith) (omega arith)

-- none of those in front has the name of one
none_same : (before : List (List ℕ × ℕ)) (s : List ℕ × ℕ) (behind : List (List ℕ × ℕ)) →
    AllDiffer (before ++ s ∷ behind) →
    list_any (λ (t : List ℕ × ℕ). is_same t.0 s.0) before ≡ false
none_same [] s behind differ = refl
none_same (t ∷ before) s behind differ =
    let far : length before < length (before ++ s ∷ behind) = omega (arith, length-append before (s ∷ behind)) in
    let here : is_same t.0 s.0 ≡ false =
    subst (λ (x : List ℕ × ℕ). is_same t.0 x.0 ≡ false) (get_or-append_seam before s behind s)
    (differ 0 (suc (length before)) s (omega arith) (omega arith))
    in
    or_from (is_same t.0 s.0) (list_any (λ (u : List ℕ × ℕ). is_same u.0 s.0) before) here
    (none_same before s behind (fewer_differ t (before ++ s ∷ behind) differ))

-- whole cases, and one that goes on
abbrev pub going : List Case → OpenCase → CasesRead
going cases o = cases_read cases (Some o) None

abbrev with_args : OpenCase → List ℕ → OpenCase
with_args o words = record o { args = words; has_args = has_bytes words }

abbrev with_syms : OpenCase → List (List ℕ × ℕ) → OpenCase
with_syms o syms = record o { syms = syms }

abbrev with_mem : OpenCase → List Piece → OpenCase
with_mem o pieces = record o { mem = pieces }

abbrev with_junk : OpenCase → Junk → Bool → OpenCase
with_junk o j given = record o { junk = j; is_filled = given }

-- a case without its replies
abbrev pub open_case : Case → OpenCase
open_case c = record {
  func = c.func;
  bound = c.bound;
  args = c.args;
  syms = c.syms;
  mem = c.mem;
  junk = c.junk;
  replies = [];
  reply = None;
  has_args = has_bytes c.args;
  is_filled = not (c.junk.fill == 0);
}

module _ (names : List (List ℕ)) (cases : List Case) where
  -- the parameters' words
  args_lead : (o : OpenCase) (words : List ℕ) → All IsWord words → length words ≤ MAX_WORDS →
      Leads names (args_text words) (going cases (with_args o [])) (going cases (with_args o words))
  args_lead o [] all few = leads_nowhere names (going cases (with_args o []))
  args_lead o (w ∷ words) all few =
      leads_text names (words_line (codes "args") (w ∷ words)) (codes "args" ++ words_text (w ∷ words))
      (Args (Fits (w ∷ words))) (going cases (with_args o [])) (going cases (with_args o (w ∷ words)))
      (words_line_ended (codes "args") (w ∷ words)) (spells_args (w ∷ words) all few)
      (record { placed = refl; fits = refl; once = refl; within = refl }) (λ n. refl)

  -- the addresses of symbols, behind those that were given
  syms_lead : (o : OpenCase) (given syms : List (List ℕ × ℕ)) → All SymFacts syms → AllDiffer (given ++ syms) →
      Leads names (flat_map symbol_line syms) (going cases (with_syms o given))
      (going cases (with_syms o (given ++ syms)))
  syms_lead o given [] all differ =
      leads_same names [] (going cases (with_syms o given)) (going cases (with_syms o given))
      (going cases (with_syms o (given ++ []))) (ap (λ l. going cases (with_syms o l)) (sym (append-nil given)))
      (leads_nowhere names (going cases (with_syms o given)))
  syms_lead o given (s ∷ syms) all differ =
      let facts : SymFacts s = All-head SymFacts s syms all in
      let more : List (List ℕ × ℕ) = given ++ s ∷ [] in
      let joined : more ++ syms ≡ given ++ s ∷ syms = append_assoc given (s ∷ []) syms in
      let end : CasesRead = going cases (with_syms o (given ++ s ∷ syms)) in
      let pass : CasePasses (going cases (with_syms o given)) (Sym (Fits (sym_of s.0 s.1))) =
      record { placed = refl; fits = refl; once = none_same given s syms differ; within = refl }
      in
      let here =
      leads_text names (symbol_line s) (two_words_line (codes "sym") s.0 (hex_text s.1)) (Sym (Fits (sym_of s.0 s.1)))
      (going cases (with_syms o given)) (going cases (with_syms o more))
      (two_words_ended (codes "sym") s.0 (hex_text s.1)) (spells_sym s.0 s.1 facts.name facts.address) pass (λ n. refl)
      in
      let later =
      syms_lead o more syms (All-tail SymFacts s syms all) (subst (λ l. AllDiffer l) (sym joined) differ)
      in
      leads_append names (symbol_line s) (flat_map symbol_line syms) (going cases (with_syms o given))
      (going cases (with_syms o more)) end here
      (leads_same names (flat_map symbol_line syms) (going cases (with_syms o more))
      (going cases (with_syms o (more ++ syms))) end (ap (λ l. going cases (with_syms o l)) joined) later)

  -- memory, where no reply was given
  mem_leads : (o : OpenCase) (pieces : List Piece) → All PieceFacts pieces → o.replies ≡ [] → o.reply ≡ None →
      bytes_in pieces ≤ MAX_CASE_BYTES →
      Leads names (flat_map (piece_line (codes "mem")) pieces) (going cases (with_mem o []))
      (going cases (with_mem o pieces))
  mem_leads o pieces all no_replies no_reply few =
      pieces_lead names (codes "mem") (λ p. Mem (Fits p)) (λ l. going cases (with_mem o l)) 0 spells_mem pass
      (λ given p n. refl) [] pieces all (omega arith)
    where
      pass : (given : List Piece) (p : Piece) → PieceFacts p → 0 + bytes_in (given ++ p ∷ []) ≤ MAX_CASE_BYTES →
          CasePasses (going cases (with_mem o given)) (Mem (Fits p))
      pass given p h room =
          let others : ℕ = sum_by (λ (r : Reply). bytes_in r.writes) (with_reply o.replies o.reply) in
          let none : others ≡ 0 =
          λ i. sum_by (λ (r : Reply). bytes_in r.writes) (with_reply (no_replies i) (no_reply i))
          in
          let total = sum_by_push (λ (x : Piece). length x.bytes) given p in
          record {
            placed = refl;
            fits = refl;
            once = refl;
            within = memory_fits (going cases (with_mem o given)) p h.few (omega (arith, none, total, room));
          }

  -- what stands in all else
  junk_is_given : (o : OpenCase) (j : Junk) → JunkFacts j →
      Leads names (junk_text (codes "junk") (codes "fill") j) (going cases (with_junk o no_junk false))
      (going cases (with_junk o j (not (j.fill == 0))))
  junk_is_given o j h =
      junk_leads names (codes "junk") (codes "fill") (λ row. JunkForm (Fits row)) (λ w. Fill (Fits w))
      (λ i given. going cases (with_junk o i given)) spells_junk pass (λ i row n. refl) spells_fill
      (λ i w. record { placed = refl; fits = refl; once = refl; within = refl }) (λ i w n. refl) j h
    where
      pass : (i : Junk) (row : List ℕ) → length i.words + length row ≤ MAX_JUNK_WORDS →
          CasePasses (going cases (with_junk o i false)) (JunkForm (Fits row))
      pass i row few = record {
        placed = refl;
        fits = refl;
        once = refl;
        within = not_over MAX_JUNK_WORDS (length i.words + length row) JunkWords few;
      }

  -- all that a case gives beside replies
  pub inputs_lead : (name : List ℕ) (c : Case) → CaseFacts names c →
      Leads names (inputs_text c) (going cases (begin_case (Some c.func) (head_of name c.bound)))
      (going cases (open_case c))
  inputs_lead name c h =
      let begun : OpenCase = begin_case (Some c.func) (head_of name c.bound) in
      let one : OpenCase = with_args begun c.args in
      let two : OpenCase = with_syms one c.syms in
      let three : OpenCase = with_mem two c.mem in
      let args = args_lead begun c.args h.args h.few_args in
      let syms = syms_lead one [] c.syms h.syms h.syms_differ in
      let mem = mem_leads two c.mem h.mem refl refl (omega (arith, h.few_bytes)) in
      let junk = junk_is_given three c.junk h.junk in
      let mem_text : List ℕ = flat_map (piece_line (codes "mem")) c.mem in
      let rest : List ℕ = junk_text (codes "junk") (codes "fill") c.junk in
      leads_append names (args_text c.args) (flat_map symbol_line c.syms ++ (mem_text ++ rest)) (going cases begun)
      (going cases one) (going cases (open_case c)) args
      (leads_append names (flat_map symbol_line c.syms) (mem_text ++ rest) (going cases one) (going cases two)
      (going cases (open_case c)) syms
      (leads_append names mem_text rest (going cases two) (going cases three) (going cases (open_case c)) mem junk))
