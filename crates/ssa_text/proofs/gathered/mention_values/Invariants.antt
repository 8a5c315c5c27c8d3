use Rattle.std.proofs.Common.{◌≡◌, ◌++◌, map, take}
use Rattle.ssa_text.specs.declared.partial.Named.TheVariants.{OfValue}
use Rattle.ssa_text.specs.Reading.{mention}
use Rattle.ssa_text.proofs.gathered.mention_values.Given as goal

-- the mentions so far are appended
abbrev pub invariant-loop-value : goal.invariant-loop-value
invariant-loop-value l = l.mentions ≡ l.fn.mentions ++ map (mention l.line) (map OfValue (take l.value-index l.values))
