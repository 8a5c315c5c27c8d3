-- A first block without predecessors meets the check Entry: no other block has its number.
use Rattle.std.proofs.Common.{◌≡◌, zero, suc, ◌==◌, true, false, not, ◌||◌, List, [], ◌∷◌, length, map, Some, slice_get}
use Rattle.std.proofs.Common.{subst, sym, ap, ◌∙◌, arith}
use Rattle.std.specs.List.{Any}
use Rattle.std.proofs.Math.Dec.{eqb-suc-zero}
use Rattle.std.proofs.lemmas.Bool.{and_parts, or_parts, not-false, not_from_false, eqb-true}
use Rattle.std.proofs.lemmas.List.{get_or-map, length-map}
use Rattle.gossa_base.specs.declared.ids.BlockId.{BlockId}
use Rattle.ssa_ir.specs.declared.func.Block.{Block}
use Rattle.ssa_ir.specs.declared.func.Func.{Func}
use Rattle.ssa_ir.specs.declared.func.SsaUnit.{SsaUnit}
use Rattle.ssa_ir.specs.Edges.{same_block, is_first_of}
use Rattle.ssa_ir.specs.WellFormed.{Differ, WellFormedFunc}
use Rattle.ssa_check.specs.declared.refusal.At.TheVariants.{Func as AtFunc, Value as AtValue, Block as AtBlock}
use Rattle.ssa_check.specs.declared.refusal.Check.TheVariants.{Entry}
use Rattle.ssa_check.specs.Failing.{Meets}
use Rattle.graphs.proofs.AnyLemmas.{any_none}

-- a block is the first of these, and has predecessors
abbrev IsTakenEntry : List Block → Block → Type 0
IsTakenEntry blocks b = (not (is_first_of blocks b) || length b.preds == 0) ≡ false

-- where the first block has no predecessors, no block is one that is the first and has some
none_is_taken : (blocks : List Block) (entry : Block) → Some entry ≡ slice_get blocks 0
    → (length entry.preds == 0) ≡ true
    → Differ (map (λ b. b.id.n) blocks) → (id : BlockId)
    → Any (λ (b : Block). (b.id ≡ id) × IsTakenEntry blocks b) blocks → ⊥
none_is_taken [] entry is_first free differ id some = any_none some
none_is_taken (first ∷ blocks) entry is_first free differ id (zero, b, within, is, taken) =
    let same : entry ≡ b = cc in
    let has_none : (length b.preds == 0) ≡ true = subst (λ (x : Block). (length x.preds == 0) ≡ true) same free in
    let has_some = (or_parts (not (same_block first.id b.id)) (length b.preds == 0) taken.1).1 in cc
none_is_taken (first ∷ blocks) entry is_first free differ id (suc k, b, within, is, taken) =
    let named =
    not-false (same_block first.id b.id) (or_parts (not (same_block first.id b.id)) (length b.preds == 0) taken.1).0 in
    let numbered : first.id.n ≡ b.id.n = eqb-true first.id.n b.id.n (and_parts (first.id.n == b.id.n) _ named).0 in
    let later =
    get_or-map (λ (x : Block). x.id.n) blocks k b 0 (omega (arith, within)) ∙ ap (λ (x : Block). x.id.n) is in
    differ 0 (suc k) 0 (omega arith) (omega (arith, within, length-map blocks (λ (x : Block). x.id.n)))
    (numbered ∙ sym later)

has_first : (blocks : List Block) (entry : Block) → Some entry ≡ slice_get blocks 0 → not (length blocks == 0) ≡ true
has_first [] entry is_first = cc
has_first (first ∷ blocks) entry is_first = not_from_false (length (first ∷ blocks) == 0) (eqb-suc-zero (length blocks))

-- a first block without predecessors meets the check
pub free_entry : (u : SsaUnit) (f : Func) (entry : Block) → WellFormedFunc f → Some entry ≡ slice_get f.blocks 0
    → (length entry.preds == 0) ≡ true → Meets Entry u f
free_entry u f entry whole is_first free AtFunc fails = let some = has_first f.blocks entry is_first in cc
free_entry u f entry whole is_first free (AtValue id) (k, b, within, is, (j, v, within_b, is_v, fails)) = fails.1
free_entry u f entry whole is_first free (AtBlock id) fails =
    none_is_taken f.blocks entry is_first free whole.blocks_differ id fails
