-- Blocks that words name, one after the other.
use Rattle.std.proofs.Common.{ℕ, ◌<◌, Bool, true, false, List, [], ◌∷◌, ◌++◌, length, map, Option, None, Some}
use Rattle.std.proofs.Common.{◌≡◌, refl, sym, ap, ◌∙◌, arith}
use Rattle.std.specs.Option.{option_map}
use Rattle.gossa_base.specs.declared.ids.BlockId.{BlockId}
use Rattle.ssa_lines.specs.declared.numbers.Number.{Number}
use Rattle.ssa_lines.specs.declared.forms.Spelled.{Spelled}
use Rattle.ssa_lines.specs.declared.forms.Spelled.TheVariants.{TooLarge}
use Rattle.ssa_lines.specs.Forms.{some_blocks, blocks_of}
use Rattle.ssa_lines.specs.NumberWords.{bid, number_word, number_or_end, numbers_ahead, fitting, spelled}

-- blocks, and those of the numbers behind them
abbrev pub onto_blocks : List BlockId → List Number → Spelled (List BlockId)
onto_blocks blocks numbers = spelled (option_map (λ more. blocks ++ map bid more) (fitting numbers))

-- the same, or that a number before those was too large
abbrev pub blocks_behind : Bool → List BlockId → List Number → Spelled (List BlockId)
blocks_behind true blocks numbers = TooLarge
blocks_behind false blocks numbers = onto_blocks blocks numbers

abbrev pub number_before : Option Number → Option (List Number) → Option (List Number)
number_before None numbers = None
number_before (Some n) None = None
number_before (Some n) (Some numbers) = Some (n ∷ numbers)

-- the numbers that these words are, where all are numbers of blocks
abbrev pub numbers_in : List (List ℕ) → Option (List Number)
numbers_in [] = Some []
numbers_in (word ∷ words) = number_before (number_word 98 word) (numbers_in words)

-- the numbers ahead, where nothing stands behind them
abbrev alone : List Number × List (List ℕ) → Option (List Number)
alone (numbers, []) = Some numbers
alone (numbers, word ∷ words) = None

alone_or_end : (number : Option Number) (word : List ℕ) (words : List (List ℕ)) (ahead : List Number × List (List ℕ)) →
    alone (number_or_end number word words ahead) ≡ number_before number (alone ahead)
alone_or_end None word words ahead = refl
alone_or_end (Some n) word words (numbers, []) = refl
alone_or_end (Some n) word words (numbers, other ∷ behind) = refl

all_ahead : (words : List (List ℕ)) → alone (numbers_ahead 98 words) ≡ numbers_in words
all_ahead [] = refl
all_ahead (word ∷ words) =
    alone_or_end (number_word 98 word) word words (numbers_ahead 98 words)
    ∙ ap (number_before (number_word 98 word)) (all_ahead words)

some_or_end : (number : Option Number) (word : List ℕ) (words : List (List ℕ)) (ahead : List Number × List (List ℕ)) →
    some_blocks (number_or_end number word words ahead) ≡ alone (number_or_end number word words ahead)
some_or_end None word words ahead = refl
some_or_end (Some n) word words (numbers, []) = refl
some_or_end (Some n) word words (numbers, other ∷ behind) = refl

-- of one or more words, the numbers that stand ahead and have nothing behind them are all of them
pub some_numbers : (words : List (List ℕ)) → 0 < length words → some_blocks (numbers_ahead 98 words) ≡ numbers_in words
some_numbers [] some = absurd (omega arith)
some_numbers (word ∷ words) some =
    some_or_end (number_word 98 word) word words (numbers_ahead 98 words) ∙ all_ahead (word ∷ words)

-- the blocks of one or more words, behind none
pub begun_blocks : (words : List (List ℕ)) → 0 < length words →
    option_map (blocks_behind false []) (numbers_in words)
    ≡ option_map blocks_of (some_blocks (numbers_ahead 98 words))
begun_blocks words some = go (numbers_in words) ∙ sym (ap (option_map blocks_of) (some_numbers words some))
  where
    go : (numbers : Option (List Number)) → option_map (blocks_behind false []) numbers ≡ option_map blocks_of numbers
    go None = refl
    go (Some numbers) = refl
