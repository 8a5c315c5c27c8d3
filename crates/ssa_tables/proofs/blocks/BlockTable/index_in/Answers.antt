use Rattle.std.proofs.Common.{◌∙◌, ap}
use Rattle.ssa_tables.specs.Blocks.{place_of}
use Rattle.ssa_tables.proofs.BlockTableLemmas.{place_is}
use Rattle.ssa_tables.proofs.blocks.BlockTable.index_in.Goals as goal

pub returns : goal.returns
returns c =
    c.index.ensures ∙ ap (λ names. place_of names c.args.id) c.requires ∙ place_is c.args.func.now.blocks c.args.id
