use Rattle.std.proofs.Common.{◌==◌, ℕ, ap, ◌∙◌}
use Rattle.std.specs.List.{list_any}
use Rattle.gossa_base.specs.declared.ids.BlockId.{BlockId}
use Rattle.ssa_text.specs.Reading.{block_ids}
use Rattle.ssa_lines.proofs.TableLemmas.{list_any_map}
use Rattle.ssa_text.proofs.gathered.Gathered.has_block.Goals as goal

-- the table has the numbers of the blocks
pub returns : goal.returns
returns c =
    let number : BlockId → ℕ = λ id. id.n in
    c.contains.ensures
    ∙ ap (list_any (λ m. m == c.args.n)) c.requires.tables.2
    ∙ list_any_map number (λ m. m == c.args.n) (block_ids c.args.self.now.func)
