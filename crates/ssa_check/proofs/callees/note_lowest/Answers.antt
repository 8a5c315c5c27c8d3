use Rattle.std.proofs.Common.{◌<◌, Bor, Option, sym, subst, MatchOption, option_copied, to_z-of_z, w64, SFits, rules, ℕ}
use Rattle.ssa_check.proofs.CalleeSelectLemmas.{lowest_put}
use Rattle.ssa_check.proofs.callees.note_lowest.Goals as goal
use Rattle.ssa_check.proofs.callees.note_lowest.Goals.{in-Some+else-number-select, in_default}

pub returns : goal.returns
returns c =
    let s = c.args.select.now in
    let fits : SFits w64 s.aux = search rules in
    let Higher : Option (Bor ℕ) → Type 0 = λ r. MatchOption (option_copied r) (Unit {0}) (λ m. s.id.0 < m) in
    let higher : Higher c.get.result
    = elim c.match-get.branch [
      | in-Some+else-number-select w ↦ subst Higher (sym w.in-Some.is) w.if-number-select.false
      | in_default w ↦ subst Higher (sym w.in_default.is) tt
    ] in
    lowest_put c.args.id s _ (to_z-of_z fits) _ _ _ c.get.ensures.value higher c.in_ok-insert.ensures.updates.0
