use Rattle.std.proofs.Common.{◌≡◌, map, filter, take}
use Rattle.ssa_ir.specs.OpKinds.{is_phi}
use Rattle.ssa_meaning.specs.tables.Puts.{phi_pair}
use Rattle.ssa_meaning.specs.tables.Running.{words_of}
use Rattle.ssa_meaning.proofs.words.WordTable.take_sources.Given as goal

-- the words of the phis so far were noted
abbrev pub invariant-loop-value : goal.invariant-loop-value
invariant-loop-value l =
    (l.self.entering.items ≡ map (phi_pair l.edge (words_of l.fn.self))
    (filter (λ v. is_phi v.op) (take l.value-index l.values)))
    × (l.self.words.items ≡ l.fn.self.words.items)
