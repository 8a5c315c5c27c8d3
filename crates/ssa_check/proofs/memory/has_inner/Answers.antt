use Rattle.std.proofs.Common.{◌≡◌, Bool, true, false, ◌&&◌, sym, ap, subst, ◌∙◌}
use Rattle.std.specs.Option.{option_copied}
use Rattle.ssa_ir.specs.FirstOrder.{has_value}
use Rattle.ssa_ir.specs.MemoryChains.{is_inner}
use Rattle.ssa_ir.specs.WellFormed.{WellFormedFunc}
use Rattle.ssa_check.proofs.MemoryTableLemmas.{inner_here, no_inner}
use Rattle.ssa_check.proofs.memory.has_inner.Goals as goal

pub returns-then-is_inner : goal.returns-then-is_inner
returns-then-is_inner c =
    let f = c.args.tables.now in
    let well : WellFormedFunc f =
    subst WellFormedFunc c.func-well_formed.ensures.func c.func-well_formed.ensures.well_formed in
    let b = c.args.block.now in
    let id = c.args.id in
    let maker = c.in-Some.maker.now in
    let inner : is_inner maker ≡ true = sym c.is_inner.ensures ∙ c.if-is_inner.true in
    c.stands_in.ensures ∙ ap (λ (t : Bool). t && has_value b.values id) (sym inner)
    ∙ inner_here f well b c.requires.of_block id maker
    (sym (ap option_copied c.in-Some.is) ∙ c.value.ensures)

pub returns-else-is_inner : goal.returns-else-is_inner
returns-else-is_inner c =
    let f = c.args.tables.now in
    let well : WellFormedFunc f =
    subst WellFormedFunc c.func-well_formed.ensures.func c.func-well_formed.ensures.well_formed in
    let b = c.args.block.now in
    let id = c.args.id in
    let maker = c.in-Some.maker.now in
    let inner : is_inner maker ≡ false = sym c.is_inner.ensures ∙ c.if-is_inner.false in
    c.if-is_inner.false ∙ ap (λ (t : Bool). t && has_value b.values id) (sym inner)
    ∙ inner_here f well b c.requires.of_block id maker
    (sym (ap option_copied c.in-Some.is) ∙ c.value.ensures)

pub returns-in-None : goal.returns-in-None
returns-in-None c =
    let f = c.args.tables.now in
    let well : WellFormedFunc f =
    subst WellFormedFunc c.func-well_formed.ensures.func c.func-well_formed.ensures.well_formed in
    no_inner f well c.args.block.now c.requires.of_block c.args.id
    (sym (ap option_copied c.in-None.is) ∙ c.value.ensures)
