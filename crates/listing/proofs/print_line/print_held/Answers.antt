use Rattle.std.proofs.Common.{◌++◌, codes, arith}
use Rattle.std.proofs.lemmas.Grind.{common_steps}
use Rattle.gossa_base.proofs.PrefixLemmas.{in_item, failed}
use Rattle.listing.specs.Text.{held_text}
use Rattle.listing.proofs.print_line.print_held.Goals as goal

pub returns-in_err-print_held_value-clause-prefix : goal.returns-in_err-print_held_value-clause-prefix
returns-in_err-print_held_value-clause-prefix c =
    failed _ _ (in_item (λ held. codes " " ++ held_text held) _ _ _ _ _ _
    c.loop-register-test.true (grind (arith, common_steps)) c.loop-register.invariant
    c.in_err-print_held_value.ensures.prefix)
