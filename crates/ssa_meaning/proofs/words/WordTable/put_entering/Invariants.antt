use Rattle.std.proofs.Common.{◌≡◌, ℕ, drop}
use Rattle.ssa_meaning.specs.tables.Puts.{put_all}
use Rattle.ssa_meaning.specs.tables.Running.{words_of, room_of}
use Rattle.ssa_meaning.proofs.words.WordTable.put_entering.Given as goal

-- with the pairs that are left put, all are
abbrev pub invariant-loop-index : goal.invariant-loop-index
invariant-loop-index l =
    ((n : ℕ) → put_all (drop l.index l.fn.self.entering.items) (words_of l.self) n
    ≡ put_all l.fn.self.entering.items (words_of l.fn.self) n)
    × (room_of l.self ≡ room_of l.fn.self) × (l.self.entering ≡ l.fn.self.entering)
