use Rattle.std.proofs.Common.{◌≡◌, not, find, drop}
use Rattle.ssa_text.specs.Reading.{has_named}
use Rattle.ssa_text.proofs.gathered.Gathered.unknown_here.Given as goal

-- all that was named so far is there
abbrev pub invariant-loop-mention : goal.invariant-loop-mention
invariant-loop-mention l =
    find (λ m. not (has_named l.self.func m.named)) l.self.mentions
    ≡ find (λ m. not (has_named l.self.func m.named)) (drop l.mention-index l.self.mentions)
