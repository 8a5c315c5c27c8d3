use Rattle.std.proofs.Common.{◌≡◌, ◌∙◌, Bor, Option, None, Some, MatchOption, sym, subst}
use Rattle.gossa_base.specs.declared.ids.ValueId.{ValueId}
use Rattle.ssa_ir.specs.declared.func.Block.{Block}
use Rattle.ssa_ir.specs.Edges.{same_block}
use Rattle.ssa_ir.specs.FirstOrder.{has_value}
use Rattle.ssa_ir.specs.WellFormed.{WellFormedFunc}
use Rattle.ssa_tables.specs.Places.{place_in, places_of}
use Rattle.ssa_check.proofs.CalleeBlockLemmas.{not_placed, placed, same_parts}
use Rattle.ssa_check.proofs.TableLemmas.{same_blocks}
use Rattle.ssa_check.proofs.callees.stands_in.Goals as goal

pub returns-in_default : goal.returns-in_default
returns-in_default c =
    let f = c.args.tables.now in
    let well : WellFormedFunc f = subst WellFormedFunc c.func-func.ensures.func c.func-func.ensures.well_formed in
    let id = c.args.id in
    let none : place_in (places_of f) id ≡ None
    = sym c.place.ensures ∙ c.in_default.is in
    sym (not_placed f well c.args.block.now c.requires.of_block id none)

-- what the block at the place of a value says of another block
abbrev Says : Block → ValueId → Option (Bor Block) → Type 0
Says b id o = MatchOption o ⊥ (λ h. has_value b.values id ≡ same_block h.now.id b.id)

pub returns-in-Some-get : goal.returns-in-Some-get
returns-in-Some-get c =
    let f = c.args.tables.now in
    let well : WellFormedFunc f = subst WellFormedFunc c.func-func.ensures.func c.func-func.ensures.well_formed in
    let items = c.as_slice.ensures ∙ same_blocks f c.func-func.result.now c.func-func.ensures.func in
    let says : Says c.args.block.now c.args.id (Some c.in-Some-get.home) =
    subst (Says c.args.block.now c.args.id) c.in-Some-get.is
    (placed f well c.args.block.now c.requires.of_block c.args.id c.in-Some.place
    (sym c.place.ensures ∙ c.in-Some.is) c.as_slice.result.now items c.get.result c.get.ensures.lookup) in
    c.eq.ensures ∙ same_parts c.in-Some-get.home.now c.args.block.now ∙ sym says

pub returns-in-None : goal.returns-in-None
returns-in-None c =
    let f = c.args.tables.now in
    let well : WellFormedFunc f = subst WellFormedFunc c.func-func.ensures.func c.func-func.ensures.well_formed in
    let items = c.as_slice.ensures ∙ same_blocks f c.func-func.result.now c.func-func.ensures.func in
    let says : Says c.args.block.now c.args.id None =
    subst (Says c.args.block.now c.args.id) c.in-None.is
    (placed f well c.args.block.now c.requires.of_block c.args.id c.in-Some.place
    (sym c.place.ensures ∙ c.in-Some.is) c.as_slice.result.now items c.get.result c.get.ensures.lookup) in
    absurd says
