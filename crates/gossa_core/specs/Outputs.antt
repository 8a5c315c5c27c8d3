-- What each command makes of a text, and of which units.
use Rattle.std.specs.Prelude.{ℕ, List}
use Rattle.std.specs.List.{All}
use Rattle.ssa_ir.specs.declared.func.SsaUnit.{SsaUnit}
use Rattle.ssa_check.specs.Failing.{Accepted}
use Rattle.gossa_core.specs.declared.words.Command.{Command}
use Rattle.gossa_core.specs.declared.words.Command.TheVariants.{Compile, Run}
use Rattle.gossa_core.specs.CaseText.{Runs}
use Rattle.gossa_core.specs.Compiled.{Compiles}
use Rattle.sum_compile.specs.Narrow.{Narrow}

-- the output that a command makes of a text
abbrev pub Makes : Command → (text output : List ℕ) → Type 0
Makes (Compile regs) text output = Compiles regs text output
Makes Run text output = Runs text output

-- the units of which a command makes an output: `compile` those of narrow functions, `run` all that are accepted
abbrev pub Takes : Command → SsaUnit → Type 0
Takes (Compile regs) u = All Narrow u.funcs
Takes Run u = Accepted u
