use Rattle.std.proofs.Common.{◌≡◌, ◌≢◌, ℕ, ◌+◌, ◌<◌, false, List, [], ◌∷◌, ◌++◌, length, take, drop, get_or, None, Some}
use Rattle.std.proofs.Common.{sym, ap, subst, ◌∙◌, arith, take-append-drop, get_or-take, length-take}
use Rattle.std.proofs.lemmas.Bool.{eqb-true, eqb-false, false_from_ne_true}
use Rattle.std.proofs.lemmas.List.{drop_more, take_rest}
use Rattle.std.proofs.lemmas.List.Elements.{All-from_get_or}
use Rattle.memchr.specs.Find.{IsFirstByte, is_byte}
use Rattle.ssa_lines.specs.Lines.{lines_of, is_newline}
use Rattle.ssa_lines.proofs.LineLemmas.{HasNoNewline, line_in_front, only_line}
use Rattle.ssa_lines.proofs.lines.TextLines.next.Goals as goal

-- what stands before the first LF is a line
first_line : (text : List ℕ) (end : ℕ) → IsFirstByte (is_byte 10) text (Some end) →
    lines_of text ≡ take end text ∷ lines_of (drop (end + 1) text)
first_line text end found =
    let newline : get_or text end 0 ≡ 10 = eqb-true (get_or text end 0) 10 found.1 in
    let cut : drop end text ≡ 10 ∷ drop (end + 1) text =
    drop_more text end 0 found.0.high ∙ ap (λ b. b ∷ drop (end + 1) text) newline
    in
    let none : HasNoNewline (take end text) = All-from_get_or (λ b. is_newline b ≡ false) (take end text) 0
    (λ i lt.
    let before : i < end = omega (arith, length-take end text) in
    ap is_newline (get_or-take end text i 0 before)
    ∙ false_from_ne_true (is_newline (get_or text i 0)) (found.0.before i (omega arith) before))
    in
    ap lines_of (sym (take-append-drop end text) ∙ ap (λ back. take end text ++ back) cut)
    ∙ line_in_front (take end text) (drop (end + 1) text) none

-- a text with no LF is a line
whole_line : (text : List ℕ) → length text ≢ 0 → IsFirstByte (is_byte 10) text None → lines_of text ≡ text ∷ []
whole_line text some found =
    only_line text (omega (arith, some)) (All-from_get_or (λ b. is_newline b ≡ false) text 0
    (λ i lt. false_from_ne_true (is_newline (get_or text i 0)) (found i (omega arith) lt)))

pub returns-in-Some : goal.returns-in-Some
returns-in-Some c =
    let text = c.self.inside.rest.now in
    let end = c.in-Some.end in
    sym c.self.view_is
    ∙ first_line text end (subst (λ r. IsFirstByte (is_byte 10) text r) c.in-Some.is c.memchr.ensures)
    ∙ ap (λ rest. take end text ∷ lines_of rest) (sym (take_rest text (end + 1)))

pub returns-in-None-2 : goal.returns-in-None-2
returns-in-None-2 c =
    let text = c.self.inside.rest.now in
    sym c.self.view_is
    ∙ whole_line text (eqb-false (length text) 0 (sym c.is_empty.ensures ∙ c.if-is_empty.false)) c.in-None.ensures
