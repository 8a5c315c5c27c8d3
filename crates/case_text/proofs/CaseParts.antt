-- The parts that a case and its replies have alike lead on: pieces of memory, rows of junk words, and a word that may
-- be absent. They lead from the state with what was given before to the state with all that was given.
use Rattle.std.proofs.Common.{◌≡◌, ◌==◌, ℕ, ◌+◌, ◌≤◌, Bool, true, false, not, cond, List, [], ◌∷◌, ◌++◌, length, codes}
use Rattle.std.proofs.Common.{All, refl, sym, ap, subst, arith, append_assoc, append-nil, length-append}
use Rattle.std.specs.List.{flat_map, concat}
use Rattle.std.proofs.lemmas.Bool.{eqb-true}
use Rattle.std.proofs.lemmas.List.Elements.{All-head, All-tail}
use Rattle.std.proofs.lemmas.List.Sums.{sum_by-append}
use Rattle.gossa_base.specs.Texts.{hex_text, hex_bytes_text}
use Rattle.ssa_ir.specs.declared.limits.TheConstants.{MAX_CASE_BYTES, MAX_JUNK_WORDS, MAX_WORDS}
use Rattle.ssa_ir.specs.Limits.{bytes_in}
use Rattle.ssa_ir.specs.Texts.{newline}
use Rattle.ssa_ir.specs.declared.case.Junk.{Junk}
use Rattle.ssa_ir.specs.declared.case.Piece.{Piece}
use Rattle.case_text.specs.CaseReading.{CasesRead, behind, no_junk, more_junk, filled}
use Rattle.case_text.specs.CaseText.{words_text, words_line, piece_line, rows_of, word_text, junk_text}
use Rattle.case_text.specs.declared.forms.CaseForm.{CaseForm}
use Rattle.case_text.proofs.CaseFacts.{IsWord, PieceFacts, JunkFacts}
use Rattle.case_text.proofs.CaseLineTexts.{SpellsCase, piece_words, one_word_line, words_line_ended, one_word_ended}
use Rattle.case_text.proofs.CaseLineTexts.{two_words_ended}
use Rattle.case_text.proofs.CaseRows.{RowFacts, row_facts, concat-rows_of}
use Rattle.case_text.proofs.CaseSteps.{CasePasses, Leads, leads_nowhere, leads_append, leads_line}

-- junk with these words in the place of its own
abbrev with_words : List ℕ → Junk → Junk
with_words words j = record { words = words; fill = j.fill }

module _ (names : List (List ℕ)) where
  -- a text that is a line with its LF
  pub leads_text : (text line : List ℕ) (form : CaseForm) (r s : CasesRead) → text ≡ line ++ newline →
      SpellsCase line form → CasePasses r form → ((n : ℕ) → behind names r n form ≡ s) → Leads names text r s
  leads_text text line form r s e spelled h same =
      subst (λ t. Leads names t r s) (sym e) (leads_line names line form r s spelled h same)

  -- where the end is another spelling of a state
  pub leads_same : (text : List ℕ) (r s end : CasesRead) → s ≡ end → Leads names text r s → Leads names text r end
  leads_same text r s end e h = subst (λ x. Leads names text r x) e h

  -- pieces of memory: `put` gives the state with these pieces, beside so many bytes
  module _ (keyword : List ℕ) (form : Piece → CaseForm) (put : List Piece → CasesRead) (beside : ℕ)
      (spells : (p : Piece) → PieceFacts p → SpellsCase (piece_words keyword p) (form p))
      (pass : (pieces : List Piece) (p : Piece) → PieceFacts p → beside + bytes_in (pieces ++ p ∷ []) ≤ MAX_CASE_BYTES →
      CasePasses (put pieces) (form p))
      (gives : (pieces : List Piece) (p : Piece) (n : ℕ) →
      behind names (put pieces) n (form p) ≡ put (pieces ++ p ∷ [])) where
    pub pieces_lead : (given pieces : List Piece) → All PieceFacts pieces →
        beside + bytes_in (given ++ pieces) ≤ MAX_CASE_BYTES →
        Leads names (flat_map (piece_line keyword) pieces) (put given) (put (given ++ pieces))
    pieces_lead given [] all few =
        leads_same [] (put given) (put given) (put (given ++ [])) (ap put (sym (append-nil given)))
        (leads_nowhere names (put given))
    pieces_lead given (p ∷ pieces) all few =
        let facts : PieceFacts p = All-head PieceFacts p pieces all in
        let line : List ℕ = piece_words keyword p in
        let more : List Piece = given ++ p ∷ [] in
        let joined : more ++ pieces ≡ given ++ p ∷ pieces = append_assoc given (p ∷ []) pieces in
        let all_few : beside + bytes_in (more ++ pieces) ≤ MAX_CASE_BYTES =
        subst (λ l. beside + bytes_in l ≤ MAX_CASE_BYTES) (sym joined) few
        in
        let here_few : beside + bytes_in more ≤ MAX_CASE_BYTES =
        omega (arith, all_few, sum_by-append (λ (x : Piece). length x.bytes) more pieces)
        in
        let here =
        leads_text (piece_line keyword p) line (form p) (put given) (put more)
        (two_words_ended keyword (hex_text p.addr) (hex_bytes_text p.bytes)) (spells p facts)
        (pass given p facts here_few) (gives given p)
        in
        let later = pieces_lead more pieces (All-tail PieceFacts p pieces all) all_few in
        leads_append names (piece_line keyword p) (flat_map (piece_line keyword) pieces) (put given) (put more)
        (put (given ++ p ∷ pieces)) here
        (leads_same (flat_map (piece_line keyword) pieces) (put more) (put (more ++ pieces))
        (put (given ++ p ∷ pieces)) (ap put joined) later)

  -- a word that is absent where it is 0: `put` gives the state with this word, given or not
  module _ (keyword : List ℕ) (form : ℕ → CaseForm) (put : ℕ → Bool → CasesRead) where
    word_by_test : (w : ℕ) (test : Bool) → (w == 0) ≡ test →
        SpellsCase (one_word_line keyword (hex_text w)) (form w) → CasePasses (put 0 false) (form w) →
        ((n : ℕ) → behind names (put 0 false) n (form w) ≡ put w true) →
        Leads names (cond test [] (keyword ++ (codes " " ++ (hex_text w ++ newline)))) (put 0 false) (put w (not test))
    word_by_test w true e spelled pass gives =
        leads_same [] (put 0 false) (put 0 false) (put w false) (ap (λ v. put v false) (sym (eqb-true w 0 e)))
        (leads_nowhere names (put 0 false))
    word_by_test w false e spelled pass gives =
        leads_text (keyword ++ (codes " " ++ (hex_text w ++ newline))) (one_word_line keyword (hex_text w)) (form w)
        (put 0 false) (put w true) (one_word_ended keyword (hex_text w)) spelled pass gives

    pub word_leads : (w : ℕ) → SpellsCase (one_word_line keyword (hex_text w)) (form w) →
        CasePasses (put 0 false) (form w) → ((n : ℕ) → behind names (put 0 false) n (form w) ≡ put w true) →
        Leads names (word_text keyword w) (put 0 false) (put w (not (w == 0)))
    word_leads w spelled pass gives = word_by_test w (w == 0) refl spelled pass gives

  -- rows of words: `put` gives the state with this junk
  module _ (keyword : List ℕ) (form : List ℕ → CaseForm) (put : Junk → CasesRead)
      (spells : (row : List ℕ) → All IsWord row → length row ≤ MAX_WORDS
      → SpellsCase (keyword ++ words_text row) (form row))
      (pass : (j : Junk) (row : List ℕ) → length j.words + length row ≤ MAX_JUNK_WORDS → CasePasses (put j) (form row))
      (gives : (j : Junk) (row : List ℕ) (n : ℕ) → behind names (put j) n (form row) ≡ put (more_junk row j)) where
    pub rows_lead : (j : Junk) (rows : List (List ℕ)) → All RowFacts rows →
        length j.words + length (concat rows) ≤ MAX_JUNK_WORDS →
        Leads names (flat_map (words_line keyword) rows) (put j) (put (more_junk (concat rows) j))
    rows_lead j [] all few =
        leads_same [] (put j) (put j) (put (more_junk [] j)) (λ i. put (with_words (sym (append-nil j.words) i) j))
        (leads_nowhere names (put j))
    rows_lead j (row ∷ rows) all few =
        let facts : RowFacts row = All-head RowFacts row rows all in
        let more : Junk = more_junk row j in
        let end : Junk = more_junk (concat (row ∷ rows)) j in
        let total = length-append row (concat rows) in
        let so_far = length-append j.words row in
        let here =
        leads_text (words_line keyword row) (keyword ++ words_text row) (form row) (put j) (put more)
        (words_line_ended keyword row) (spells row facts.words (omega (arith, facts.few)))
        (pass j row (omega (arith, few, total))) (gives j row)
        in
        let later = rows_lead more rows (All-tail RowFacts row rows all) (omega (arith, few, total, so_far)) in
        leads_append names (words_line keyword row) (flat_map (words_line keyword) rows) (put j) (put more) (put end)
        here
        (leads_same (flat_map (words_line keyword) rows) (put more) (put (more_junk (concat rows) more)) (put end)
        (λ i. put (with_words (append_assoc j.words row (concat rows) i) j)) later)

  -- junk: rows of words, and what they go on with; `put` gives the state with this junk, its fill given or not
  module _ (keyword fill : List ℕ) (form : List ℕ → CaseForm) (fill_form : ℕ → CaseForm)
      (put : Junk → Bool → CasesRead)
      (spells : (row : List ℕ) → All IsWord row → length row ≤ MAX_WORDS
      → SpellsCase (keyword ++ words_text row) (form row))
      (pass : (j : Junk) (row : List ℕ) → length j.words + length row ≤ MAX_JUNK_WORDS
      → CasePasses (put j false) (form row))
      (gives : (j : Junk) (row : List ℕ) (n : ℕ) →
      behind names (put j false) n (form row) ≡ put (more_junk row j) false)
      (spells_fill : (w : ℕ) → IsWord w → SpellsCase (one_word_line fill (hex_text w)) (fill_form w))
      (fill_passes : (j : Junk) (w : ℕ) → CasePasses (put j false) (fill_form w))
      (gives_fill : (j : Junk) (w n : ℕ) → behind names (put j false) n (fill_form w) ≡ put (filled w j) true) where
    pub junk_leads : (j : Junk) → JunkFacts j →
        Leads names (junk_text keyword fill j) (put no_junk false) (put j (not (j.fill == 0)))
    junk_leads j h =
        let rows : List (List ℕ) = rows_of j.words in
        let whole : concat rows ≡ j.words = concat-rows_of j.words in
        let some : Junk = with_words j.words no_junk in
        let end : CasesRead = put j (not (j.fill == 0)) in
        let few : length (concat rows) ≤ MAX_JUNK_WORDS =
        subst (λ words. length words ≤ MAX_JUNK_WORDS) (sym whole) h.few in
        let first =
        rows_lead keyword form (λ i. put i false) spells pass gives no_junk rows (row_facts j.words h.words)
        (omega arith)
        in
        let second =
        word_leads fill fill_form (λ w given. put (filled w some) given) j.fill (spells_fill j.fill h.fill)
        (fill_passes some j.fill) (gives_fill some j.fill)
        in
        leads_append names (flat_map (words_line keyword) rows) (word_text fill j.fill) (put no_junk false)
        (put some false) end
        (leads_same (flat_map (words_line keyword) rows) (put no_junk false)
        (put (more_junk (concat rows) no_junk) false) (put some false)
        (ap (λ words. put (with_words words no_junk) false) whole) first)
        second
