-- The blocks of a function, and of the one that its tables hand out.
use Rattle.std.proofs.Common.{◌≡◌, ◌<◌, ap, cond, subst, sym, arith, ◌∙◌, ℕ, zero, suc, Bool, true, false, List, []}
use Rattle.std.proofs.Common.{◌∷◌, length, get_or}
use Rattle.std.specs.List.{All, Contains}
use Rattle.std.proofs.lemmas.List.Elements.{Contains-get_or}
use Rattle.ssa_ir.specs.declared.func.Block.{Block}
use Rattle.ssa_ir.specs.declared.func.Func.{Func}
use Rattle.ssa_ir.specs.Edges.{same_block}
use Rattle.ssa_tables.specs.Blocks.{index_in}
use Rattle.ssa_tables.proofs.BlockLemmas.{same_itself}

pub same_blocks : (f g : Func) → g ≡ f → g.blocks ≡ f.blocks
same_blocks f g same = ap (λ (x : Func). x.blocks) same

-- each block of the one stands in the other
pub all_there : (f g : Func) → g ≡ f → All (Contains f.blocks) g.blocks
all_there f g same =
    subst (λ (x : Func). All (Contains f.blocks) x.blocks) (sym same)
    (λ k d within. Contains-get_or f.blocks k d within)

index_before : (blocks : List Block) (k : ℕ) (b : Block) → k < length blocks → get_or blocks k b ≡ b
    → index_in blocks b.id < length blocks
index_before [] k b within is = absurd (omega (arith, within))
index_before (x ∷ blocks) zero b within is =
    subst (λ (t : Bool). cond t 0 (suc (index_in blocks b.id)) < suc (length blocks))
    (sym (ap (λ (y : Block). same_block y.id b.id) is ∙ same_itself b.id)) (omega arith)
index_before (x ∷ blocks) (suc k) b within is =
    go (same_block x.id b.id) (index_before blocks k b (omega (arith, within)) is)
  where
    go : (t : Bool) → index_in blocks b.id < length blocks
        → cond t 0 (suc (index_in blocks b.id)) < suc (length blocks)
    go true later = omega arith
    go false later = omega (arith, later)

-- a block that is there has an index below their number
pub index_inside : (f : Func) (b : Block) → Contains f.blocks b → index_in f.blocks b.id < length f.blocks
index_inside f b there = index_before f.blocks there.0 b there.1 there.2
