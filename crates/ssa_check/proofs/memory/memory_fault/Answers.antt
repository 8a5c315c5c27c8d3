use Rattle.std.proofs.Common.{◌≡◌, ℕ, Bool, List, length, Option, MatchOption, refl, sym, ap, subst, ◌∙◌}
use Rattle.ssa_ir.specs.declared.func.Block.{Block}
use Rattle.ssa_ir.specs.declared.func.Func.{Func}
use Rattle.ssa_ir.specs.declared.func.Value.{Value}
use Rattle.ssa_ir.specs.WellFormed.{WellFormedFunc}
use Rattle.ssa_check.specs.declared.memories.Leaves.{Leaves}
use Rattle.ssa_check.specs.declared.memories.Passed.{Passed}
use Rattle.ssa_check.specs.declared.refusal.At.{At}
use Rattle.ssa_check.specs.declared.refusal.Check.TheVariants.{Memory}
use Rattle.ssa_check.specs.Failing.{Meets, LeastPlace}
use Rattle.ssa_tables.specs.Blocks.{preds_of}
use Rattle.ssa_check.specs.tables.MemoryTables.{AreMemories, block_fails, memory_in, value_fails}
use Rattle.ssa_check.specs.tables.PassedMemories.{ArePassedMemories}
use Rattle.ssa_check.specs.tables.LeastPlaces.{least_place}
use Rattle.ssa_check.specs.tables.Lowest.{lowest_block, lowest_value}
use Rattle.ssa_check.proofs.MemoryLemmas.{memory_place}
use Rattle.ssa_check.proofs.TableLemmas.{all_there}
use Rattle.ssa_check.proofs.memory.memory_fault.Goals as goal

pub least_place-requires-clause-values : goal.least_place-requires-clause-values
least_place-requires-clause-values c = λ k d within. λ j e inside. (
  ap length c.as_slice-4.ensures.value ∙ c.in_ok-passed.ensures.one_each ∙ ap length c.flow.ensures,
  ap length c.as_slice-5.ensures.value ∙ c.in_ok-memories.ensures.0,
  all_there c.args.tables.now c.func.result.now c.func.ensures.func k d within,
)

pub least_place-requires-clause-blocks : goal.least_place-requires-clause-blocks
least_place-requires-clause-blocks c = λ k d within. (
  ap length c.as_slice-4.ensures.value ∙ c.in_ok-passed.ensures.one_each ∙ ap length c.flow.ensures,
  ap length c.as_slice-5.ensures.value ∙ c.in_ok-memories.ensures.0,
  all_there c.args.tables.now c.func.result.now c.func.ensures.func k d within,
)

pub returns : goal.returns
returns c = λ u.
    let f : Func = c.args.tables.now in
    let well : WellFormedFunc f = subst WellFormedFunc c.func.ensures.func c.func.ensures.well_formed in
    let leaves : List Leaves = c.in_ok-leaves.leaves.items in
    let passed : List Passed = c.in_ok-passed.passed.items in
    let of_func : ArePassedMemories (preds_of f) c.as_slice.result.now passed =
    subst (λ (preds : List (List ℕ)). ArePassedMemories preds c.as_slice.result.now passed) c.flow.ensures
    c.in_ok-passed.ensures in
    let of_leaves : ArePassedMemories (preds_of f) leaves passed =
    subst (λ (l : List Leaves). ArePassedMemories (preds_of f) l passed) c.as_slice.ensures.value of_func in
    let says : ArePassedMemories (preds_of f) leaves c.as_slice-4.result.now =
    subst (ArePassedMemories (preds_of f) leaves) (sym c.as_slice-4.ensures.value) of_leaves in
    let each : AreMemories f c.as_slice-5.result.now =
    subst (AreMemories f) (sym c.as_slice-5.ensures.value) c.in_ok-memories.ensures in
    let value_test : Block → Value → Bool =
    λ b v. value_fails f c.as_slice-4.result.now (memory_in f c.as_slice-5.result.now b) b v in
    let block_test : Block → Bool = λ b. block_fails b (memory_in f c.as_slice-5.result.now b) in
    let place : c.least_place.result ≡ least_place value_test block_test f =
    c.least_place.ensures ∙ ap (least_place value_test block_test) c.func.ensures.func in
    subst (λ (o : Option At). MatchOption o (Meets Memory u f) (LeastPlace Memory u f)) (sym place)
    (memory_place u f well c.requires.edges leaves c.in_ok-leaves.ensures c.as_slice-4.result.now says
    c.as_slice-5.result.now each (lowest_value value_test f) (lowest_block block_test f) refl refl)
