use Rattle.std.proofs.Common.{◌≡◌, ℕ, drop}
use Rattle.ssa_ir.specs.Inputs.{answer_of}
use Rattle.block_order.specs.Items.{values_at}
use Rattle.ssa_meaning.specs.tables.Puts.{puts, select_word_of}
use Rattle.ssa_meaning.specs.tables.Running.{words_of, room_of}
use Rattle.ssa_meaning.proofs.words.WordTable.answer.Given as goal

-- with the words of the selects that are left put, all are
abbrev pub invariant-loop-index : goal.invariant-loop-index
invariant-loop-index l =
    ((n : ℕ) → puts (select_word_of (answer_of l.reply)) (values_at l.values (drop l.index-index l.indexes))
    (words_of l.self) n
    ≡ puts (select_word_of (answer_of l.reply)) (values_at l.values l.indexes) (words_of l.fn.self) n)
    × (room_of l.self ≡ room_of l.fn.self)
