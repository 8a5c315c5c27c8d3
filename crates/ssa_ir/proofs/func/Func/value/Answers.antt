use Rattle.std.proofs.Common.{◌≡◌, ◌+◌, ◌<◌, ℕ, List, length, drop, get_or, find, ap, sym, ◌∙◌, subst}
use Rattle.ssa_ir.specs.declared.func.Value.{Value}
use Rattle.ssa_ir.specs.declared.func.Block.{Block}
use Rattle.ssa_ir.specs.Lookups.{is_numbered}
use Rattle.ssa_ir.proofs.LookupLemmas.{found_in_front, found_behind, all_values, values_from}
use Rattle.ssa_ir.proofs.func.Func.value.Goals as goal

-- the values that are left are those of this block and those behind it
pub returns-in-Some : goal.returns-in-Some
returns-in-Some c =
    let blocks : List Block = c.args.self.now.blocks in
    let i : ℕ = c.loop-block.block-index in
    let behind : List Value = all_values (drop (i + 1) blocks) in
    let here : c.block-item.result ≡ get_or blocks i c.block-item.result = cc in
    let inside : i < length blocks = subst (λ l. i < length l) c.as_slice-block-items.ensures c.loop-block-test.true in
    let values = c.as_slice.ensures ∙ ap (λ b. b.values) here in
    let found = c.in-Some.ensures ∙ ap (find (is_numbered c.args.id)) values in
    found_in_front (is_numbered c.args.id) (get_or blocks i c.block-item.result).values behind c.in-Some.value.now found
    ∙ ap (find (is_numbered c.args.id)) (sym (values_from blocks i c.block-item.result inside))
    ∙ sym c.loop-block.invariant

pub loop-block-preserved : goal.loop-block-preserved
loop-block-preserved c =
    let blocks : List Block = c.args.self.now.blocks in
    let i : ℕ = c.loop-block.block-index in
    let behind : List Value = all_values (drop (i + 1) blocks) in
    let here : c.block-item.result ≡ get_or blocks i c.block-item.result = cc in
    let inside : i < length blocks = subst (λ l. i < length l) c.as_slice-block-items.ensures c.loop-block-test.true in
    let values = c.as_slice.ensures ∙ ap (λ b. b.values) here in
    let none = c.in_default.ensures ∙ ap (find (is_numbered c.args.id)) values in
    c.loop-block.invariant
    ∙ ap (find (is_numbered c.args.id)) (values_from blocks i c.block-item.result inside)
    ∙ sym (found_behind (is_numbered c.args.id) (get_or blocks i c.block-item.result).values behind none)
