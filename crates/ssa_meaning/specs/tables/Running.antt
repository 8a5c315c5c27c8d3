-- A run at one moment, as the definition of runs sees it.
use Rattle.std.specs.Prelude.{ℕ, drop, map, slice_index_or, length}
use Rattle.ssa_ir.specs.declared.case.Case.{Case}
use Rattle.ssa_ir.specs.Inputs.{answer_of}
use Rattle.ssa_ir.specs.Run.{State}
use Rattle.ssa_meaning.specs.declared.words.WordTable.{WordTable}
use Rattle.ssa_meaning.specs.declared.running.Running.{Running}
use Rattle.ssa_meaning.specs.tables.MemoryChanges.{memory_of, since_of}

-- the word of each value number; past the table's end it is 0
abbrev pub words_of : WordTable → ℕ → ℕ
words_of t n = slice_index_or t.words.items n 0

-- how many value numbers the table has
abbrev pub room_of : WordTable → ℕ
room_of t = length t.words.items

-- the state of a run of a case
abbrev pub state_of : Case → Running → State
state_of c r = record {
  words = words_of r.words;
  memory = memory_of r.memory;
  since = since_of r.memory;
  answers = drop r.taken (map answer_of c.replies);
}
