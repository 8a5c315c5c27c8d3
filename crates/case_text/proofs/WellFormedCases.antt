-- Cases that were read are well formed.
use Rattle.std.proofs.Common.{ℕ, ◌<◌, ◌≤◌, List, length, All}
use Rattle.std.proofs.lemmas.List.Elements.{All-weaker}
use Rattle.ssa_ir.specs.declared.limits.TheConstants.{MAX_CASES, MAX_PIECE_BYTES}
use Rattle.ssa_ir.specs.Limits.{ReplyWithinLimits, CaseWithinLimits}
use Rattle.ssa_ir.specs.Names.{IsName}
use Rattle.ssa_ir.specs.declared.case.Piece.{Piece}
use Rattle.ssa_ir.specs.declared.case.Reply.{Reply}
use Rattle.ssa_ir.specs.declared.case.Case.{Case}
use Rattle.case_text.proofs.CaseFacts.{PieceFacts, ReplyFacts, SymFacts, CaseFacts, CasesFacts}

reply_limits : (r : Reply) → ReplyFacts r → ReplyWithinLimits r
reply_limits r h = record {
  junk = h.junk.few;
  writes = All-weaker PieceFacts (λ (p : Piece). length p.bytes ≤ MAX_PIECE_BYTES) (λ p q. q.few) r.writes h.writes;
}

case_limits : (names : List (List ℕ)) (c : Case) → CaseFacts names c → CaseWithinLimits c
case_limits names c h = record {
  bound = h.bound;
  junk = h.junk.few;
  mem = All-weaker PieceFacts (λ (p : Piece). length p.bytes ≤ MAX_PIECE_BYTES) (λ p q. q.few) c.mem h.mem;
  bytes = h.few_bytes;
  replies = h.few_replies;
  each_reply = All-weaker ReplyFacts ReplyWithinLimits reply_limits c.replies h.replies;
}

-- a function that is there, and names of symbols
abbrev pub NamesThere : (names : List (List ℕ)) → Case → Type 0
NamesThere names c = (c.func < length names) × All (λ (s : List ℕ × ℕ). IsName s.0) c.syms

names_there : (names : List (List ℕ)) (c : Case) → CaseFacts names c → NamesThere names c
names_there names c h = (h.func, All-weaker SymFacts (λ (s : List ℕ × ℕ). IsName s.0) (λ s q. q.name) c.syms h.syms)

-- the limits and names of cases with these facts are those of well-formed ones
pub well_formed_cases : (names : List (List ℕ)) (cases : List Case) → CasesFacts names cases
    → All CaseWithinLimits cases × (length cases ≤ MAX_CASES) × All (NamesThere names) cases
well_formed_cases names cases h = (
  All-weaker (CaseFacts names) CaseWithinLimits (case_limits names) cases h.each,
  h.few,
  All-weaker (CaseFacts names) (NamesThere names) (names_there names) cases h.each,
)
