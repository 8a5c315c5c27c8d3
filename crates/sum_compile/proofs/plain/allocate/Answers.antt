use Rattle.sum_compile.proofs.CodeFactsLemmas.{block_code_facts}
use Rattle.sum_compile.proofs.NarrowLemmas.{narrow_block, block_numbered, block_few, block_few_results}
use Rattle.sum_compile.proofs.NarrowRun.{block_in_order}
use Rattle.sum_compile.proofs.plain.allocate.Goals as goal

pub allocate_block-requires-clause-numbered : goal.allocate_block-requires-clause-numbered
allocate_block-requires-clause-numbered c =
    block_numbered _ _ _ (narrow_block c.args.func.now c.requires.narrow _ _ c.as_slice.ensures c.block-item.is)

pub allocate_block-requires-clause-few : goal.allocate_block-requires-clause-few
allocate_block-requires-clause-few c =
    block_few _ _ _ (narrow_block c.args.func.now c.requires.narrow _ _ c.as_slice.ensures c.block-item.is)
    c.requires.narrow.few_values

pub allocate_block-requires-clause-few_results : goal.allocate_block-requires-clause-few_results
allocate_block-requires-clause-few_results c =
    block_few_results _ _ _ (narrow_block c.args.func.now c.requires.narrow _ _ c.as_slice.ensures c.block-item.is)

pub allocate_block-requires-clause-in_order : goal.allocate_block-requires-clause-in_order
allocate_block-requires-clause-in_order c =
    block_in_order c.args.func.now c.requires.narrow _
    (narrow_block c.args.func.now c.requires.narrow _ _ c.as_slice.ensures c.block-item.is)

pub allocate_block-requires-clause-facts : goal.allocate_block-requires-clause-facts
allocate_block-requires-clause-facts c =
    block_code_facts c.args.func.now c.requires.narrow c.args.regs _
    (narrow_block c.args.func.now c.requires.narrow _ _ c.as_slice.ensures c.block-item.is) c.requires.many
    c.requires.most
