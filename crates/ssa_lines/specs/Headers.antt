-- The signatures that the words behind `sig` and `func` spell.
use Rattle.std.specs.Prelude.{ℕ, ◌==◌, nat_le, Bool, ◌&&◌, if◌then◌else◌, List, [], ◌∷◌, codes, length, Option, None}
use Rattle.std.specs.Prelude.{Some}
use Rattle.std.specs.List.{before_first, after_first, list_any}
use Rattle.ssa_ir.specs.declared.types.Scalar.{Scalar}
use Rattle.ssa_ir.specs.declared.types.Sig.{Sig}
use Rattle.ssa_ir.specs.Names.{has_name_bytes}
use Rattle.ssa_lines.specs.Steps.{◌>>=◌, only_where}
use Rattle.ssa_lines.specs.Types.{scalar_of}
use Rattle.ssa_lines.specs.Words.{is_same, without_first, without_last}

abbrev pub is_name : List ℕ → Bool
is_name word = has_name_bytes word && nat_le (length word) 100

abbrev pub is_open : ℕ → Bool
is_open b = b == 40

-- a type without the comma or parenthesis behind it
abbrev pub type_before : ℕ → List ℕ → Option Scalar
type_before last word = do
  front ← without_last last word
  scalar_of front

abbrev pub last_or_more : Option Scalar → Option Scalar → List (List ℕ) → Option (List Scalar × List (List ℕ))
    → Option (List Scalar × List (List ℕ))
last_or_more (Some t) more words rest = Some (t ∷ [], words)
last_or_more None None words rest = None
last_or_more None (Some t) words None = None
last_or_more None (Some t) words (Some (types, behind)) = Some (t ∷ types, behind)

-- the types of a group from inside its parenthesis on, each followed by a comma or, the last, by a parenthesis; and the
-- words behind them
abbrev pub types_ahead : List (List ℕ) → Option (List Scalar × List (List ℕ))
types_ahead [] = None
types_ahead (word ∷ words) = last_or_more (type_before 41 word) (type_before 44 word) words (types_ahead words)

-- a group from inside its parenthesis on: no types, or some
abbrev pub group_ahead : List (List ℕ) → Option (List Scalar × List (List ℕ))
group_ahead [] = None
group_ahead (word ∷ words) = if is_same word (codes ")") then Some ([], words) else types_ahead (word ∷ words)

abbrev pub nothing_behind : List (List ℕ) → List Scalar → Option (List Scalar)
nothing_behind [] types = Some types
nothing_behind (word ∷ words) types = None

abbrev pub group_or_type : Option (List ℕ) → List ℕ → List (List ℕ) → Option (List Scalar)
group_or_type (Some inside) word words = do
  group ← group_ahead (inside ∷ words)
  nothing_behind group.1 group.0
group_or_type None word words = do
  t ← scalar_of word
  nothing_behind words (t ∷ [])

-- the group of results, which may be absent, or one type without parentheses; nothing stands behind it
abbrev pub results_of : List (List ℕ) → Option (List Scalar)
results_of [] = Some []
results_of (word ∷ words) = group_or_type (without_first 40 word) word words

-- the name before the parenthesis of a word
abbrev pub name_before : List ℕ → Option (List ℕ)
name_before word = do
  found ← only_where (list_any is_open word && is_name (before_first is_open word))
  Some (before_first is_open word)

-- a signature: its name, its parameters, its results
abbrev pub signature_of : List (List ℕ) → Option Sig
signature_of [] = None
signature_of (word ∷ words) = do
  name ← name_before word
  params ← group_ahead (after_first is_open word ∷ words)
  results ← results_of params.1
  Some (record { name = name; params = params.0; results = results })
