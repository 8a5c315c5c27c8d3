use Rattle.std.proofs.Common.{◌∙◌, arith}
use Rattle.sum_compile.proofs.NumberedLemmas.{unnamed_zero, named_get}
use Rattle.gossa_base.proofs.ListPlaces.{item_copied}
use Rattle.sum_compile.proofs.plain.value_named.Goals as goal

pub returns-then-id-eq0 : goal.returns-then-id-eq0
returns-then-id-eq0 c = unnamed_zero c.args.values.now c.args.id c.requires c.if-id-eq0.true

pub returns-else-id-eq0 : goal.returns-else-id-eq0
returns-else-id-eq0 c =
    item_copied c.args.values.now _ c.get.result c.get.ensures.lookup
    ∙ named_get 1 c.args.values.now c.args.id _ c.requires (omega arith)
