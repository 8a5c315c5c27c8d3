-- The lines of replies lead from a case to the case that has those replies, the last of them still open.
use Rattle.std.proofs.Common.{◌≡◌, ◌==◌, ℕ, ◌+◌, ◌≤◌, ◌<◌, Bool, false, not, List, [], ◌∷◌, ◌++◌, length, length-append}
use Rattle.std.proofs.Common.{codes, Some, All, refl, sym, ap, ◌∙◌, arith, append_assoc, append-nil}
use Rattle.std.specs.List.{flat_map, sum_by}
use Rattle.std.proofs.lemmas.List.Elements.{All-head, All-tail}
use Rattle.std.proofs.lemmas.List.Sums.{sum_by-cons, sum_by_push}
use Rattle.ssa_ir.specs.declared.limits.TheConstants.{MAX_CASE_BYTES, MAX_JUNK_WORDS, MAX_REPLIES}
use Rattle.ssa_ir.specs.Limits.{bytes_in}
use Rattle.ssa_ir.specs.declared.case.Case.{Case}
use Rattle.ssa_ir.specs.declared.case.Junk.{Junk}
use Rattle.ssa_ir.specs.declared.case.Piece.{Piece}
use Rattle.ssa_ir.specs.declared.case.Reply.{Reply}
use Rattle.ssa_lines.specs.declared.forms.Spelled.TheVariants.{Fits}
use Rattle.ssa_lines.specs.declared.refusal.LimitKind.TheVariants.{JunkWords, Replies}
use Rattle.case_text.specs.CaseReading.{CasesRead, with_reply, whole_case, no_junk, begun_reply, begin_reply}
use Rattle.case_text.specs.CaseText.{words_text, words_line, piece_line, word_text, junk_text, reply_text}
use Rattle.case_text.specs.declared.forms.CaseForm.TheVariants.{Reply as ReplyForm, Write, ReplyJunk, ReplyFill}
use Rattle.case_text.specs.declared.forms.CaseForm.TheVariants.{Clobber}
use Rattle.case_text.specs.declared.partial.OpenReply.{OpenReply}
use Rattle.case_text.specs.declared.partial.OpenCase.{OpenCase}
use Rattle.case_text.proofs.CaseFacts.{PieceFacts, JunkFacts, ReplyFacts}
use Rattle.case_text.proofs.CaseInputs.{going, not_over, not_full, memory_fits}
use Rattle.case_text.proofs.CaseLineTexts.{words_line_ended, spells_reply, spells_write, spells_reply_junk}
use Rattle.case_text.proofs.CaseLineTexts.{spells_reply_fill, spells_clobber}
use Rattle.case_text.proofs.CaseParts.{leads_text, pieces_lead, word_leads, junk_leads}
use Rattle.case_text.proofs.CaseSteps.{CasePasses, Leads, leads_nowhere, leads_append}

-- how many bytes replies write
abbrev pub bytes_written : List Reply → ℕ
bytes_written replies = sum_by (λ (r : Reply). bytes_in r.writes) replies

-- a case with this reply open
abbrev with_open : OpenCase → OpenReply → OpenCase
with_open o p = record o { reply = Some p }

abbrev with_writes : OpenReply → List Piece → OpenReply
with_writes p pieces = record p { writes = pieces }

abbrev with_junk : OpenReply → Junk → Bool → OpenReply
with_junk p j given = record p { junk = j; is_filled = given }

abbrev with_clobber : OpenReply → ℕ → Bool → OpenReply
with_clobber p w given = record p { clobber = w; is_clobbered = given }

-- a reply as it was given
abbrev open_reply : Reply → OpenReply
open_reply r = record {
  words = r.words;
  writes = r.writes;
  junk = r.junk;
  clobber = r.clobber;
  is_filled = not (r.junk.fill == 0);
  is_clobbered = not (r.clobber == 0);
}

-- one reply more, which is open
abbrev one_more : OpenCase → Reply → OpenCase
one_more o r = record o { replies = with_reply o.replies o.reply; reply = Some (open_reply r) }

-- all these replies more
abbrev pub all_more : OpenCase → List Reply → OpenCase
all_more o [] = o
all_more o (r ∷ replies) = all_more (one_more o r) replies

-- a case with these replies
abbrev pub with_replies : Case → List Reply → Case
with_replies c replies = record c { replies = replies }

-- the case has them behind its own
pub whole_case-all_more : (o : OpenCase) (replies : List Reply) →
    whole_case (all_more o replies) ≡ with_replies (whole_case o) (with_reply o.replies o.reply ++ replies)
whole_case-all_more o [] = ap (with_replies (whole_case o)) (sym (append-nil (with_reply o.replies o.reply)))
whole_case-all_more o (r ∷ replies) =
    whole_case-all_more (one_more o r) replies
    ∙ ap (with_replies (whole_case o)) (append_assoc (with_reply o.replies o.reply) (r ∷ []) replies)

module _ (names : List (List ℕ)) (cases : List Case) where
  -- what the callee wrote
  writes_lead : (o : OpenCase) (p : OpenReply) (pieces : List Piece) → All PieceFacts pieces →
      bytes_in o.mem + bytes_written o.replies + bytes_in pieces ≤ MAX_CASE_BYTES →
      Leads names (flat_map (piece_line (codes "write")) pieces) (going cases (with_open o (with_writes p [])))
      (going cases (with_open o (with_writes p pieces)))
  writes_lead o p pieces all few =
      pieces_lead names (codes "write") (λ x. Write (Fits x)) (λ l. going cases (with_open o (with_writes p l)))
      (bytes_in o.mem + bytes_written o.replies) spells_write pass (λ given x n. refl) [] pieces all few
    where
      pass : (given : List Piece) (x : Piece) → PieceFacts x →
          bytes_in o.mem + bytes_written o.replies + bytes_in (given ++ x ∷ []) ≤ MAX_CASE_BYTES →
          CasePasses (going cases (with_open o (with_writes p given))) (Write (Fits x))
      pass given x h room =
          let so_far : Reply = record { words = p.words; writes = given; junk = p.junk; clobber = p.clobber } in
          let written : bytes_written (o.replies ++ so_far ∷ []) ≡ bytes_written o.replies + bytes_in given =
          sum_by_push (λ (r : Reply). bytes_in r.writes) o.replies so_far
          in
          let total = sum_by_push (λ (y : Piece). length y.bytes) given x in
          record {
            placed = refl;
            fits = refl;
            once = refl;
            within =
                memory_fits (going cases (with_open o (with_writes p given))) x h.few
                (omega (arith, written, total, room));
          }

  -- what it left in all else
  junk_is_left : (o : OpenCase) (p : OpenReply) (j : Junk) → JunkFacts j →
      Leads names (junk_text (codes "rjunk") (codes "rfill") j) (going cases (with_open o (with_junk p no_junk false)))
      (going cases (with_open o (with_junk p j (not (j.fill == 0)))))
  junk_is_left o p j h =
      junk_leads names (codes "rjunk") (codes "rfill") (λ row. ReplyJunk (Fits row)) (λ w. ReplyFill (Fits w))
      (λ i given. going cases (with_open o (with_junk p i given))) spells_reply_junk pass (λ i row n. refl)
      spells_reply_fill (λ i w. record { placed = refl; fits = refl; once = refl; within = refl }) (λ i w n. refl) j h
    where
      pass : (i : Junk) (row : List ℕ) → length i.words + length row ≤ MAX_JUNK_WORDS →
          CasePasses (going cases (with_open o (with_junk p i false))) (ReplyJunk (Fits row))
      pass i row few = record {
        placed = refl;
        fits = refl;
        once = refl;
        within = not_over MAX_JUNK_WORDS (length i.words + length row) JunkWords few;
      }

  -- a reply, behind those that the case has
  reply_leads : (o : OpenCase) (r : Reply) → ReplyFacts r → length (with_reply o.replies o.reply) < MAX_REPLIES →
      bytes_in o.mem + bytes_written (with_reply o.replies o.reply) + bytes_in r.writes ≤ MAX_CASE_BYTES →
      Leads names (reply_text r) (going cases o) (going cases (one_more o r))
  reply_leads o r h few room =
      let more : OpenCase = begin_reply r.words o in
      let one : OpenReply = begun_reply r.words in
      let two : OpenReply = with_writes one r.writes in
      let three : OpenReply = with_junk two r.junk (not (r.junk.fill == 0)) in
      let end : CasesRead = going cases (one_more o r) in
      let begins : CasePasses (going cases o) (ReplyForm (Fits r.words)) = record {
        placed = refl;
        fits = refl;
        once = refl;
        within = not_full MAX_REPLIES (length (with_reply o.replies o.reply)) Replies few;
      } in
      let head =
      leads_text names (words_line (codes "reply") r.words) (codes "reply" ++ words_text r.words)
      (ReplyForm (Fits r.words)) (going cases o) (going cases more) (words_line_ended (codes "reply") r.words)
      (spells_reply r.words h.words h.few) begins (λ n. refl)
      in
      let writes = writes_lead more one r.writes h.writes room in
      let junk = junk_is_left more two r.junk h.junk in
      let clobber =
      word_leads names (codes "clobber") (λ w. Clobber (Fits w))
      (λ w given. going cases (with_open more (with_clobber three w given))) r.clobber
      (spells_clobber r.clobber h.clobber) (record { placed = refl; fits = refl; once = refl; within = refl })
      (λ n. refl)
      in
      let writes_text : List ℕ = flat_map (piece_line (codes "write")) r.writes in
      let left : List ℕ = junk_text (codes "rjunk") (codes "rfill") r.junk in
      let last : List ℕ = word_text (codes "clobber") r.clobber in
      leads_append names (words_line (codes "reply") r.words) (writes_text ++ (left ++ last)) (going cases o)
      (going cases more) end head
      (leads_append names writes_text (left ++ last) (going cases more) (going cases (with_open more two)) end writes
      (leads_append names left last (going cases (with_open more two)) (going cases (with_open more three)) end junk
      clobber))

  -- all replies
  pub replies_lead : (o : OpenCase) (replies : List Reply) → All ReplyFacts replies →
      length (with_reply o.replies o.reply) + length replies ≤ MAX_REPLIES →
      bytes_in o.mem + (bytes_written (with_reply o.replies o.reply) + bytes_written replies) ≤ MAX_CASE_BYTES →
      Leads names (flat_map reply_text replies) (going cases o) (going cases (all_more o replies))
  replies_lead o [] all few room = leads_nowhere names (going cases o)
  replies_lead o (r ∷ replies) all few room =
      let given : List Reply = with_reply o.replies o.reply in
      let more : OpenCase = one_more o r in
      let all_bytes : bytes_written (r ∷ replies) ≡ bytes_in r.writes + bytes_written replies =
      sum_by-cons (λ (x : Reply). bytes_in x.writes) r replies
      in
      let so_far : bytes_written (given ++ r ∷ []) ≡ bytes_written given + bytes_in r.writes =
      sum_by_push (λ (x : Reply). bytes_in x.writes) given r
      in
      let facts : ReplyFacts r = All-head ReplyFacts r replies all in
      let here = reply_leads o r facts (omega (arith, few)) (omega (arith, room, all_bytes)) in
      let later =
      replies_lead more replies (All-tail ReplyFacts r replies all) (omega (arith, few, length-append given (r ∷ [])))
      (omega (arith, room, all_bytes, so_far))
      in
      leads_append names (reply_text r) (flat_map reply_text replies) (going cases o) (going cases more)
      (going cases (all_more more replies)) here later
