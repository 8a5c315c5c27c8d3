-- What is known of a line among cases by its form: its integers are words of 64 bits, and its names have their form.
use Rattle.std.proofs.Common.{ℕ, ◌<◌, ◌≤◌, List, length, All}
use Rattle.ssa_ir.specs.declared.limits.TheConstants.{MAX_WORDS}
use Rattle.ssa_ir.specs.Names.{IsName}
use Rattle.ssa_ir.specs.declared.case.Piece.{Piece}
use Rattle.ssa_lines.proofs.NumberFactsLemmas.{IfFits}
use Rattle.case_text.specs.declared.forms.CaseHead.{CaseHead}
use Rattle.case_text.specs.declared.forms.SymLine.{SymLine}
use Rattle.case_text.specs.declared.forms.CaseForm.{CaseForm}
use Rattle.case_text.specs.declared.forms.CaseForm.TheVariants.{Blank, Head, Args, Sym, Mem, Junk, Fill, Reply, Write}
use Rattle.case_text.specs.declared.forms.CaseForm.TheVariants.{ReplyJunk, ReplyFill, Clobber, Bad}
use Rattle.case_text.proofs.CaseFacts.{IsWord}

-- words of which no more are kept
pub record FewWords (words : List ℕ) : Type 0 where
  pub each : All IsWord words
  pub few : length words ≤ MAX_WORDS

-- one or more bytes
pub record SomeBytes (bytes : List ℕ) : Type 0 where
  pub some : 0 < length bytes
  pub each : All (λ b. b < 256) bytes

pub record PieceForm (p : Piece) : Type 0 where
  pub addr : IsWord p.addr
  pub given : SomeBytes p.bytes

abbrev pub HeadForm : CaseHead → Type 0
HeadForm h = IsName h.name

pub record SymForm (s : SymLine) : Type 0 where
  pub named : IsName s.name
  pub word : IsWord s.address

-- what is known of a form, where its integers are words
abbrev pub CaseFormFacts : CaseForm → Type 0
CaseFormFacts Blank = Unit {0}
CaseFormFacts (Head h) = IfFits h HeadForm
CaseFormFacts (Args words) = IfFits words FewWords
CaseFormFacts (Sym s) = IfFits s SymForm
CaseFormFacts (Mem p) = IfFits p PieceForm
CaseFormFacts (Junk words) = IfFits words (All IsWord)
CaseFormFacts (Fill w) = IfFits w IsWord
CaseFormFacts (Reply words) = IfFits words FewWords
CaseFormFacts (Write p) = IfFits p PieceForm
CaseFormFacts (ReplyJunk words) = IfFits words (All IsWord)
CaseFormFacts (ReplyFill w) = IfFits w IsWord
CaseFormFacts (Clobber w) = IfFits w IsWord
CaseFormFacts Bad = Unit {0}
