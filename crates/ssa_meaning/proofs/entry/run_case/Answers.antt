use Rattle.std.proofs.Common.{◌≡◌, ℕ, Some, IfOk, length, get_or, slice_get, refl, sym, ap, subst, ◌∙◌}
use Rattle.std.proofs.lemmas.Option.{slice_get_read}
use Rattle.ssa_ir.specs.declared.case.Case.{Case}
use Rattle.ssa_ir.specs.declared.case.Shown.{Shown}
use Rattle.ssa_ir.specs.declared.func.Func.{Func}
use Rattle.ssa_ir.specs.declared.func.SsaUnit.{SsaUnit}
use Rattle.ssa_ir.specs.WellFormed.{WellFormedFunc}
use Rattle.ssa_meaning.specs.CaseRun.{shown_of_function}
use Rattle.ssa_meaning.proofs.TurnLemmas.{all_at}
use Rattle.ssa_meaning.proofs.entry.run_case.Goals as goal

pub run_given-requires-clause-well_formed : goal.run_given-requires-clause-well_formed
run_given-requires-clause-well_formed c =
    let u : SsaUnit = c.args.unit.now in
    let k : ℕ = c.args.case.now.func in
    let f : Func = c.index-as_slice-case.result in
    all_at WellFormedFunc u.funcs k f c.requires.well_formed.each_function
    (slice_get_read u.funcs (length u.funcs) k f refl c.requires.func
    (c.index-as_slice-case.is ∙ ap (λ l. get_or l k f) c.as_slice.ensures))

pub returns : goal.returns
returns c =
    let u : SsaUnit = c.args.unit.now in
    let case : Case = c.args.case.now in
    let f : Func = c.index-as_slice-case.result in
    let there : slice_get u.funcs case.func ≡ Some f
    = slice_get_read u.funcs (length u.funcs) case.func f refl c.requires.func
    (c.index-as_slice-case.is ∙ ap (λ l. get_or l case.func f) c.as_slice.ensures) in
    subst (λ (all : Shown). IfOk c.run_given.result (λ shown. shown ≡ all)) (sym (ap (shown_of_function u case) there))
    c.run_given.ensures
