-- Words that are numbers of values or blocks, and lists of them.
use Rattle.std.specs.Prelude.{ℕ, false, List, [], ◌∷◌, Option, None, Some}
use Rattle.std.specs.Option.{option_map}
use Rattle.gossa_base.specs.declared.ids.ValueId.{ValueId}
use Rattle.gossa_base.specs.declared.ids.BlockId.{BlockId}
use Rattle.ssa_lines.specs.declared.numbers.Number.{Number}
use Rattle.ssa_lines.specs.declared.numbers.Number.TheVariants.{Fits as NumberFits, TooLarge as NumberTooLarge}
use Rattle.ssa_lines.specs.declared.forms.Spelled.{Spelled}
use Rattle.ssa_lines.specs.declared.forms.Spelled.TheVariants.{Fits, TooLarge}
use Rattle.ssa_lines.specs.Numbers.{number_behind, in_limits}

abbrev pub vid : ℕ → ValueId
vid n = record { 0 = n }

abbrev pub bid : ℕ → BlockId
bid n = record { split = false; n = n }

-- the number of a value, behind v (118), or of a block, behind b (98)
abbrev pub number_word : ℕ → List ℕ → Option Number
number_word letter word = option_map in_limits (number_behind letter word)

abbrev pub number_or_end : Option Number → List ℕ → List (List ℕ) → List Number × List (List ℕ)
    → List Number × List (List ℕ)
number_or_end None word words ahead = ([], word ∷ words)
number_or_end (Some n) word words (numbers, behind) = (n ∷ numbers, behind)

-- the numbers that the first words are, and the words behind them
abbrev pub numbers_ahead : ℕ → List (List ℕ) → List Number × List (List ℕ)
numbers_ahead letter [] = ([], [])
numbers_ahead letter (word ∷ words) = number_or_end (number_word letter word) word words (numbers_ahead letter words)

-- a number that is in its range
abbrev pub fit : Number → Option ℕ
fit (NumberFits n) = Some n
fit NumberTooLarge = None

abbrev pub before_numbers : Option ℕ → Option (List ℕ) → Option (List ℕ)
before_numbers None numbers = None
before_numbers (Some n) None = None
before_numbers (Some n) (Some numbers) = Some (n ∷ numbers)

-- numbers that all are in their range
abbrev pub fitting : List Number → Option (List ℕ)
fitting [] = Some []
fitting (n ∷ numbers) = before_numbers (fit n) (fitting numbers)

-- what a line spells where all its numbers are in their range
abbrev pub spelled : {X : Type 0} → Option X → Spelled X
spelled None = TooLarge
spelled (Some x) = Fits x
