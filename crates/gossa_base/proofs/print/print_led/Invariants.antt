use Rattle.std.proofs.Common.{◌≡◌, ◌++◌, take}
use Rattle.gossa_base.specs.Texts.{led}
use Rattle.gossa_base.proofs.print.print_led.Given as goal

-- the texts of the items so far are appended, each behind the lead
abbrev pub invariant-loop-item : goal.invariant-loop-item
invariant-loop-item g l = l.out.items ≡ l.fn.out.items ++ led l.lead g.T.Print.text (take l.item-index l.items)
