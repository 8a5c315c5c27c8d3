use Rattle.std.proofs.Common.{◌≡◌, ℕ, ◌+◌, ◌<◌, ◌≤◌, List, [], ◌∷◌, ◌++◌, length, get_or, take, Some, sym, subst}
use Rattle.std.proofs.Common.{ap, ◌∙◌, arith}
use Rattle.std.proofs.lemmas.List.{take_all, take_more}
use Rattle.std.proofs.lemmas.Option.{slice_get-get_or}
use Rattle.ssa_ir.specs.declared.func.Block.{Block}
use Rattle.ssa_ir.specs.declared.func.Func.{Func}
use Rattle.ssa_ir.specs.declared.func.SsaUnit.{SsaUnit}
use Rattle.ssa_ir.specs.declared.func.Value.{Value}
use Rattle.ssa_ir.specs.WellFormed.{WellFormedFunc}
use Rattle.block_order.specs.LowestOnCycle.{HasItems, IsLeast, IsOnCycle}
use Rattle.ssa_check.specs.tables.Lowest.{lower_of}
use Rattle.ssa_check.proofs.CyclePlaces.{OnCycleOf, has_items, one_more_block}
use Rattle.ssa_check.proofs.TableLemmas.{same_blocks}
use Rattle.gossa_base.proofs.ListPlaces.{At}
use Rattle.ssa_check.proofs.cycles.lowest_of_blocks.Goals as goal

-- a unit without functions
abbrev no_unit : SsaUnit
no_unit = record { sigs = []; funcs = []; cases = [] }

-- the block of an iteration stands among the function's blocks
at_item : (items blocks : List Block) (i : ℕ) (b : Block) → items ≡ blocks → i < length items → b ≡ get_or items i b
    → At blocks i b
at_item items blocks i b same within is =
    subst (λ bs. At bs i b) same (slice_get-get_or items i b within ∙ ap Some (sym is))

more_blocks : (items : List Block) (i : ℕ) (b : Block) → i < length items → b ≡ get_or items i b
    → take (i + 1) items ≡ take i items ++ b ∷ []
more_blocks items i b within is = take_more items i b within ∙ ap (λ c. take i items ++ c ∷ []) (sym is)

pub lowest_on_cycle-requires-clause-has_items : goal.lowest_on_cycle-requires-clause-has_items
lowest_on_cycle-requires-clause-has_items c =
    let f : Func = c.args.tables.now in
    let well : WellFormedFunc f = subst WellFormedFunc c.func-func.ensures.func c.func-func.ensures.well_formed in
    let same = c.as_slice-block-items.ensures ∙ same_blocks f c.func-func.result.now c.func-func.ensures.func in
    let b : Block = c.block-item.result in
    let at : At f.blocks c.loop-block.block-index b =
    at_item c.as_slice-block-items.result.now f.blocks c.loop-block.block-index b same c.loop-block-test.true
    c.block-item.is in
    subst HasItems (sym c.as_slice.ensures)
    (has_items no_unit f well (c.requires.arity no_unit) c.loop-block.block-index b at)

pub loop-block-preserved : goal.loop-block-preserved
loop-block-preserved c =
    let items = c.as_slice-block-items.result.now in
    let b : Block = c.block-item.result in
    let front : List Block = take c.loop-block.block-index items in
    let found = c.in_ok-lowest_on_cycle.field-0 in
    let here : IsLeast found (IsOnCycle b.values) =
    subst (λ (values : List Value). IsLeast found (IsOnCycle values)) c.as_slice.ensures
    c.in_ok-lowest_on_cycle.ensures in
    let lower : IsLeast (lower_of c.loop-block.lowest found) (OnCycleOf (front ++ b ∷ [])) =
    one_more_block front b c.loop-block.lowest found c.loop-block.invariant here in
    subst (λ lowest. IsLeast lowest (OnCycleOf (take (c.loop-block.block-index + 1) items)))
    (sym c.lower_of-lowest.ensures)
    (subst (λ blocks. IsLeast (lower_of c.loop-block.lowest found) (OnCycleOf blocks))
    (sym (more_blocks items c.loop-block.block-index b c.loop-block-test.true c.block-item.is)) lower)

pub returns : goal.returns
returns c =
    let f : Func = c.args.tables.now in
    let items = c.as_slice-block-items.result.now in
    let same : items ≡ f.blocks =
    c.as_slice-block-items.ensures ∙ same_blocks f c.func-func.result.now c.func-func.ensures.func in
    let past : length items ≤ c.loop-block.block-index = omega (arith, c.loop-block-test.false) in
    subst (λ blocks. IsLeast c.loop-block.lowest (OnCycleOf blocks))
    (take_all c.loop-block.block-index items past ∙ same) c.loop-block.invariant
