use Rattle.std.proofs.Common.{◌≡◌, ◌∙◌, ◌||◌, cond, true, ap, refl, sym}
use Rattle.std.proofs.lemmas.Bool.{not-false, not-true}
use Rattle.gossa_base.specs.declared.ids.ValueId.{ValueId}
use Rattle.ssa_ir.specs.FirstOrder.{same_value}
use Rattle.ssa_check.specs.tables.Uses.{is_noted, is_taken}
use Rattle.ssa_check.proofs.ControlLemmas.{without_control, first_control, shared_control}
use Rattle.ssa_check.proofs.controls.UseTable.note.Goals as goal

pub returns-in_default : goal.returns-in_default
returns-in_default c = λ blocks h.
    without_control blocks c.args.block.now c.args.self.now
    (record { used = c.note_values.new.used; ends = c.args.self.now.ends }) h
    c.in_default.is
    (λ id. c.in_ok-note_values.ensures id
    ∙ ap (λ values. is_noted id c.args.self.now.used.keys || is_taken id values) c.as_slice.ensures)
    refl

pub returns-then-branch : goal.returns-then-branch
returns-then-branch c = λ blocks h.
    first_control blocks c.args.block.now c.in-Some.id c.args.self.now
    (record { used = c.note_values.new.used; ends = c.insert.new.self }) h c.in-Some.is
    (not-true (is_noted c.in-Some.id c.args.self.now.ends.keys) (sym c.in_ok-insert.ensures.added ∙ c.if-branch.true))
    (λ id. c.in_ok-note_values.ensures id
    ∙ ap (λ values. is_noted id c.args.self.now.used.keys || is_taken id values) c.as_slice.ensures)
    (λ id. c.in_ok-insert.ensures.updates.0 id.0)

pub returns : goal.returns
returns c = λ blocks h.
    let a = c.in-Some.id in
    let noted : (id : ValueId) → is_noted id c.note_values.new.used.keys
    ≡ (is_noted id c.args.self.now.used.keys || is_taken id c.args.block.now.values) =
    λ id. c.in_ok-note_values.ensures id
    ∙ ap (λ values. is_noted id c.args.self.now.used.keys || is_taken id values) c.as_slice.ensures in
    shared_control blocks c.args.block.now a c.args.self.now
    (record { used = c.insert-2.new.self; ends = c.insert.new.self }) h
    c.in-Some.is
    (not-false (is_noted a c.args.self.now.ends.keys) (sym c.in_ok-insert.ensures.added ∙ c.if-branch.false))
    (λ id. c.in_ok-insert-2.ensures.updates.0 id.0 ∙ ap (λ t. cond (same_value a id) true t) (noted id))
    (λ id. c.in_ok-insert.ensures.updates.0 id.0)
