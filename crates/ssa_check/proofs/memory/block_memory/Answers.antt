use Rattle.std.proofs.Common.{◌≡◌, ℕ, ◌<◌, List, length, get_or, sym, ap, subst, ◌∙◌, arith}
use Rattle.std.specs.List.{Contains}
use Rattle.std.proofs.lemmas.Option.{slice_get_within, slice_get-get_or}
use Rattle.ssa_ir.specs.declared.func.Block.{Block}
use Rattle.ssa_ir.specs.declared.func.Func.{Func}
use Rattle.ssa_ir.specs.WellFormed.{WellFormedFunc}
use Rattle.ssa_check.specs.declared.memories.Leaves.{Leaves}
use Rattle.ssa_check.specs.declared.memories.Leaves.TheVariants.{Through}
use Rattle.ssa_check.specs.declared.memories.Passed.{Passed}
use Rattle.ssa_tables.specs.Blocks.{index_in, preds_of}
use Rattle.ssa_check.specs.tables.MemoryTables.{incoming_of}
use Rattle.ssa_check.specs.tables.PassedMemories.{ArePassedMemories, SaysBefore}
use Rattle.ssa_tables.proofs.BlockLemmas.{block_index, block_there}
use Rattle.ssa_check.proofs.MemoryPathLemmas.{says_paths}
use Rattle.ssa_check.proofs.memory.block_memory.Goals as goal

pub returns : goal.returns
returns c =
    let f : Func = c.args.tables.now in
    let well : WellFormedFunc f = subst WellFormedFunc c.func.ensures.func c.func.ensures.well_formed in
    let b : Block = c.args.block.now in
    let i : ℕ = c.args.index in
    let leaves : List Leaves = c.args.leaves.now in
    let before : Passed = c.passed_before-before.result in
    let there : Contains f.blocks b = block_there f i b c.requires.of_block in
    let same : index_in f.blocks b.id ≡ i = block_index f well i b c.requires.of_block in
    let passed : ArePassedMemories c.flow.result.now leaves c.args.passed.now =
    subst (λ (preds : List (List ℕ)). ArePassedMemories preds leaves c.args.passed.now) (sym c.flow.ensures)
    c.requires.passed in
    let of_func : SaysBefore (preds_of f) leaves i before =
    subst (λ (preds : List (List ℕ)). SaysBefore preds leaves i before) c.flow.ensures
    (c.passed_before-before.ensures leaves passed) in
    let of_block : SaysBefore (preds_of f) leaves (index_in f.blocks b.id) before =
    subst (λ (k : ℕ). SaysBefore (preds_of f) leaves k before) (sym same) of_func in
    let within : i < length leaves =
    omega (arith, slice_get_within f.blocks i b c.requires.of_block, c.requires.leaves.0) in
    record {
      says = says_paths f well c.requires.edges leaves c.requires.leaves b there before of_block;
      leaves = c.requires.leaves.1 i b (get_or leaves i Through) c.requires.of_block
          (slice_get-get_or leaves i Through within);
      uses = c.uses_memory.ensures;
      incoming = c.incoming.ensures ∙ ap (λ (x : Func). incoming_of x b before) c.func.ensures.func;
    }
