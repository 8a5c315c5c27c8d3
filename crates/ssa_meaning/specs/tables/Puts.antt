-- Words put one after the other.
use Rattle.std.specs.Prelude.{ℕ, false, List, [], ◌∷◌, slice_index_or}
use Rattle.gossa_base.specs.declared.ids.ValueId.{ValueId}
use Rattle.ssa_ir.specs.declared.func.Value.{Value}
use Rattle.ssa_ir.specs.Inputs.{Answer, result_word}
use Rattle.ssa_ir.specs.Run.{put}
use Rattle.ssa_ir.specs.Widths.{kept}

-- the words with these put for these numbers, in order
abbrev pub put_all : List (ValueId × ℕ) → (ℕ → ℕ) → ℕ → ℕ
put_all [] words = words
put_all ((id, word) ∷ pairs) words = put_all pairs (put words id.0 word)

-- the words with a word for each of these values
abbrev pub puts : (Value → ℕ) → List Value → (ℕ → ℕ) → ℕ → ℕ
puts word [] words = words
puts word (v ∷ values) words = puts word values (put words v.id.0 (word v))

-- the word that a select has of an answer
abbrev pub select_word_of : Answer → Value → ℕ
select_word_of answer v = kept false v.ty (result_word answer v.aux)

-- the word that a phi takes from the words before, by edge k
abbrev pub phi_word : ℕ → (ℕ → ℕ) → Value → ℕ
phi_word k before v = before (slice_index_or v.args k v.id).0

-- a phi with the word that it takes
abbrev pub phi_pair : ℕ → (ℕ → ℕ) → Value → ValueId × ℕ
phi_pair k before v = (v.id, phi_word k before v)
