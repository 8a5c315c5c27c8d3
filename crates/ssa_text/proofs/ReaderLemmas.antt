-- What tables of numbers say of the values and blocks that have them.
use Rattle.std.proofs.Common.{◌≡◌, ◌==◌, ℕ, false, List, ◌++◌, map, is_some, Option, None, Some, refl, ap, ◌∙◌}
use Rattle.std.specs.List.{list_any}
use Rattle.std.proofs.lemmas.List.{append-nil}
use Rattle.gossa_base.specs.declared.ids.BlockId.{BlockId}
use Rattle.ssa_ir.specs.declared.func.Block.{Block}
use Rattle.ssa_text.specs.declared.partial.OpenBlock.{OpenBlock}
use Rattle.ssa_text.specs.declared.partial.OpenFunc.{OpenFunc}
use Rattle.ssa_text.specs.declared.partial.Named.TheVariants.{OfBlock}
use Rattle.ssa_lines.proofs.TableLemmas.{list_any_map}
use Rattle.ssa_text.specs.Reading.{has_open_block, open_block_id, block_ids, has_named}

whole_blocks : (n : ℕ) (blocks : List Block) (b : Option OpenBlock) → is_some b ≡ false
    → list_any (λ (id : BlockId). id.n == n) (map (λ c. c.id) blocks ++ open_block_id b)
    ≡ list_any (λ c. c.id.n == n) blocks
whole_blocks n blocks (Some b) h = cc
whole_blocks n blocks None h =
    ap (list_any (λ (id : BlockId). id.n == n)) (append-nil (map (λ c. c.id) blocks))
    ∙ list_any_map (λ (c : Block). c.id) (λ id. id.n == n) blocks

-- where no block goes on, the blocks so far are those that are named by
pub named_block : (func : Option OpenFunc) (id : BlockId) → has_open_block func ≡ false
    → list_any (λ (b : BlockId). b.n == id.n) (block_ids func) ≡ has_named func (OfBlock id)
named_block None id h = refl
named_block (Some f) id h = whole_blocks id.n f.blocks f.block h
