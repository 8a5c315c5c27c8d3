-- Arguments, one after the other.
use Rattle.std.proofs.Common.{◌≡◌, ℕ, List, [], ◌∷◌, ◌++◌, map, Option, None, Some, cond, refl, sym, ap, ◌∙◌}
use Rattle.std.specs.Option.{option_map}
use Rattle.std.proofs.lemmas.List.{append_assoc, append-nil}
use Rattle.gossa_base.specs.declared.ids.ValueId.{ValueId}
use Rattle.ssa_lines.specs.declared.numbers.Number.{Number}
use Rattle.ssa_lines.specs.declared.numbers.Number.TheVariants.{Fits as NumberFits, TooLarge as NumberTooLarge}
use Rattle.ssa_lines.specs.declared.forms.Spelled.{Spelled}
use Rattle.ssa_lines.specs.declared.forms.Spelled.TheVariants.{Fits, TooLarge}
use Rattle.ssa_lines.specs.NumberWords.{number_word, number_or_end, numbers_ahead, fit, before_numbers, fitting}
use Rattle.ssa_lines.specs.NumberWords.{spelled, vid}
use Rattle.ssa_lines.specs.ValueForms.{is_end, all_args, with_arg}

abbrev pub arg_or_end : Spelled (List ValueId) → Option Number → List ℕ → List (List ℕ)
    → (Spelled (List ValueId) → Option (Spelled (List ValueId))) → Option (Spelled (List ValueId))
arg_or_end args None word words go = cond (is_end (word ∷ words)) (Some args) None
arg_or_end args (Some n) word words go = go (with_arg args n)

-- the arguments so far, and those of the words that are left
abbrev pub args_from : Spelled (List ValueId) → List (List ℕ) → Option (Spelled (List ValueId))
args_from args [] = Some args
args_from args (word ∷ words) = arg_or_end args (number_word 118 word) word words (λ more. args_from more words)

-- these arguments, and then those of these numbers
abbrev joined : Spelled (List ValueId) → Option (List ℕ) → Spelled (List ValueId)
joined (Fits args) (Some numbers) = Fits (args ++ map vid numbers)
joined (Fits args) None = TooLarge
joined TooLarge numbers = TooLarge

joined_more : (args : Spelled (List ValueId)) (n : Number) (numbers : Option (List ℕ))
    → joined (with_arg args n) numbers ≡ joined args (before_numbers (fit n) numbers)
joined_more (Fits args) (NumberFits n) (Some numbers) = ap Fits (append_assoc args (vid n ∷ []) (map vid numbers))
joined_more (Fits args) (NumberFits n) None = refl
joined_more (Fits args) NumberTooLarge numbers = refl
joined_more TooLarge n numbers = refl

joined_none : (args : Spelled (List ValueId)) → joined args (Some []) ≡ args
joined_none (Fits args) = ap Fits (append-nil args)
joined_none TooLarge = refl

abbrev end_with : Spelled (List ValueId) → List Number × List (List ℕ) → Option (Spelled (List ValueId))
end_with args ahead = cond (is_end ahead.1) (Some (joined args (fitting ahead.0))) None

from_by_number : (args : Spelled (List ValueId)) (n : Option Number) (word : List ℕ) (words : List (List ℕ))
    → ((more : Spelled (List ValueId)) → args_from more words ≡ end_with more (numbers_ahead 118 words))
    → arg_or_end args n word words (λ more. args_from more words)
    ≡ end_with args (number_or_end n word words (numbers_ahead 118 words))
from_by_number args None word words later =
    ap (λ a. cond (is_end (word ∷ words)) (Some a) None) (sym (joined_none args))
from_by_number args (Some n) word words later =
    let ahead = numbers_ahead 118 words in
    later (with_arg args n)
    ∙ ap (λ a. cond (is_end ahead.1) (Some a) None) (joined_more args n (fitting ahead.0))

from_is_end : (args : Spelled (List ValueId)) (words : List (List ℕ))
    → args_from args words ≡ end_with args (numbers_ahead 118 words)
from_is_end args [] = ap Some (sym (joined_none args))
from_is_end args (word ∷ words) = from_by_number args (number_word 118 word) word words (λ more. from_is_end more words)

joined_first : (numbers : Option (List ℕ)) → joined (Fits []) numbers ≡ spelled (option_map (map vid) numbers)
joined_first None = refl
joined_first (Some numbers) = refl

-- from no arguments on, they are those of all words
pub from_first : (words : List (List ℕ)) → args_from (Fits []) words ≡ all_args words
from_first words =
    let ahead = numbers_ahead 118 words in
    from_is_end (Fits []) words ∙ ap (λ a. cond (is_end ahead.1) (Some a) None) (joined_first (fitting ahead.0))
