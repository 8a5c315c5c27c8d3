use Rattle.std.proofs.Common.{◌≡◌, ◌++◌, map, drop}
use Rattle.ssa_ir.specs.Showing.{words_at}
use Rattle.ssa_meaning.specs.tables.Running.{words_of}
use Rattle.ssa_meaning.proofs.running.Running.words_shown.Given as goal

-- the words so far, and then those of the arguments that are left
abbrev pub invariant-loop-i : goal.invariant-loop-i
invariant-loop-i l =
    l.words ++ words_at (drop l.i l.types) (map (λ id. words_of l.self.words id.0) (drop l.i l.shown))
    ≡ words_at l.types (map (λ id. words_of l.self.words id.0) l.shown)
