use Rattle.std.proofs.Common.{◌≡◌, ◌++◌, take, codes}
use Rattle.gossa_base.specs.Texts.{led}
use Rattle.listing.specs.Text.{held_text}
use Rattle.listing.proofs.print_line.print_held.Given as goal

-- the registers so far are appended
abbrev pub invariant-loop-register : goal.invariant-loop-register
invariant-loop-register l = l.text.items ≡ l.fn.text.items ++ led (codes " ") held_text (take l.register-index l.held)
