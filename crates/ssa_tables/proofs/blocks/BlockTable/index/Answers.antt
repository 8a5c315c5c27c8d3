use Rattle.std.proofs.Common.{◌∙◌, ap, sym}
use Rattle.ssa_tables.specs.Blocks.{place_of}
use Rattle.ssa_tables.proofs.BlockTableLemmas.{place_of_none, same_either}
use Rattle.ssa_tables.proofs.blocks.BlockTable.index.Goals as goal

pub returns-in-None : goal.returns-in-None
returns-in-None c =
    c.len.ensures.len
    ∙ place_of_none _ _ c.self.inside.names.keys (same_either c.args.id)
    (sym c.get_index_of.ensures.index ∙ c.in-None.is)
    ∙ ap (λ names. place_of names c.args.id) c.self.view_is
