use Rattle.std.proofs.Common.{◌≡◌, ◌∙◌, MatchOption, not, ap, subst, sym}
use Rattle.std.specs.List.{All, Contains}
use Rattle.std.proofs.lemmas.Bool.{not-true, not_from_false}
use Rattle.std.proofs.lemmas.List.Elements.{Contains-get_or}
use Rattle.ssa_ir.specs.declared.func.Func.{Func}
use Rattle.ssa_ir.specs.WellFormed.{WellFormedFunc}
use Rattle.ssa_check.specs.declared.refusal.Check.TheVariants.{Control}
use Rattle.ssa_check.specs.BlockChecks.{control_holds}
use Rattle.ssa_check.specs.Failing.{Meets, LeastPlace}
use Rattle.ssa_check.specs.tables.Lowest.{lowest_block}
use Rattle.ssa_check.specs.tables.Uses.{TellsOf}
use Rattle.ssa_check.proofs.PlaceLemmas.{block_place}
use Rattle.ssa_check.proofs.controls.control_fault.Goals as goal

pub lowest_block-requires : goal.lowest_block-requires
lowest_block-requires c =
    let f = c.args.tables.now in
    let uses : TellsOf f.blocks c.in_ok-uses.uses
    = subst (λ (x : Func). TellsOf x.blocks c.in_ok-uses.uses) c.func-func.ensures.func c.in_ok-uses.ensures in
    subst (λ (x : Func). All (λ b. TellsOf f.blocks c.in_ok-uses.uses × Contains f.blocks b) x.blocks)
    (sym c.func-func.ensures.func) (λ k d within. (uses, Contains-get_or f.blocks k d within))

pub returns : goal.returns
returns c = λ u.
    let f = c.args.tables.now in
    let well : WellFormedFunc f = subst WellFormedFunc c.func-func.ensures.func c.func-func.ensures.well_formed in
    let lowest : c.lowest_block.result ≡ lowest_block (λ b. not (control_holds f b)) f
    = c.lowest_block.ensures ∙ ap (lowest_block (λ b. not (control_holds f b))) c.func-func.ensures.func in
    let place = block_place Control u f (λ b. not (control_holds f b)) well (λ none. none) (λ b v none. none)
    (λ b. not-true (control_holds f b)) (λ b. not_from_false (control_holds f b)) in
    subst (λ o. MatchOption o (Meets Control u f) (LeastPlace Control u f)) (sym c.place_of_block.ensures)
    (place c.lowest_block.result lowest)
