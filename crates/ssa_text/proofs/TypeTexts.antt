-- The texts of types are words, and are read as those types; so are groups of types.
use Rattle.std.proofs.Common.{◌≡◌, ℕ, ◌+◌, ◌*◌, ◌<◌, ◌≤◌, nat_eq, Bool, false, cond, List, [], ◌∷◌, ◌++◌, append_assoc}
use Rattle.std.proofs.Common.{append-nil, length-append, length, codes, Option, None, Some, refl, sym, ap, subst, ◌∙◌}
use Rattle.std.proofs.Common.{arith}
use Rattle.std.specs.Cmp.Lexicographic.{unequal}
use Rattle.std.specs.List.{slice_split, join_by}
use Rattle.std.specs.Option.{option_map}
use Rattle.std.proofs.lemmas.List.Elements.{All-nil, All-append}
use Rattle.ssa_ir.specs.declared.limits.TheConstants.{MAX_RESULTS}
use Rattle.ssa_ir.specs.declared.types.Scalar.{Scalar}
use Rattle.ssa_ir.specs.declared.types.Scalar.TheVariants.{I8, I16, I32, I64, U8, U16, U32, U64, Uintptr}
use Rattle.ssa_ir.specs.declared.types.Scalar.TheVariants.{Bool as TrueOrFalse, Ptr}
use Rattle.ssa_ir.specs.declared.types.Ty.{Ty}
use Rattle.ssa_ir.specs.declared.types.Ty.TheVariants.{One, Mem, Tuple, Flags, Void}
use Rattle.ssa_ir.specs.declared.op.Op.{Op}
use Rattle.ssa_ir.specs.Limits.{tuple_words}
use Rattle.ssa_ir.specs.Texts.{scalar_name}
use Rattle.ssa_ir.specs.WellFormed.{makes_tuple, CanBeWritten}
use Rattle.ssa_lines.specs.Headers.{type_before, last_or_more, types_ahead, group_ahead}
use Rattle.ssa_lines.specs.Lines.{is_space}
use Rattle.ssa_lines.specs.Steps.{◌>>=◌}
use Rattle.ssa_lines.specs.Types.{scalar_of, is_comma, before_type, tuple_of, type_of_parts, type_of}
use Rattle.ssa_lines.specs.Words.{words_of, is_same}
use Rattle.ssa_lines.proofs.WordLemmas.{HasNoSpace, EndsWord, word_and_space, word_in_front, without_last_of}
use Rattle.ssa_text.specs.Text.{before_commas, type_name}
use Rattle.ssa_lines.proofs.LineBytes.{IsPlainWord, plain_word_append}
use Rattle.ssa_lines.proofs.WordTexts.{short_word, longer_word, between_is_word}

-- the name of a type of one word is read as that type
pub scalar_read : (t : Scalar) → scalar_of (scalar_name t) ≡ Some t
scalar_read I8 = refl
scalar_read I16 = refl
scalar_read I32 = refl
scalar_read I64 = refl
scalar_read U8 = refl
scalar_read U16 = refl
scalar_read U32 = refl
scalar_read U64 = refl
scalar_read Uintptr = refl
scalar_read TrueOrFalse = refl
scalar_read Ptr = refl

-- so is it in angle brackets
one_read : (tuple : Bool) (t : Scalar) → type_of tuple (scalar_name t) ≡ Some (One t)
one_read tuple I8 = refl
one_read tuple I16 = refl
one_read tuple I32 = refl
one_read tuple I64 = refl
one_read tuple U8 = refl
one_read tuple U16 = refl
one_read tuple U32 = refl
one_read tuple U64 = refl
one_read tuple Uintptr = refl
one_read tuple TrueOrFalse = refl
one_read tuple Ptr = refl

-- a type and its comma are the first part
cut_comma : (t : Scalar) (rest : List ℕ) →
    slice_split is_comma (scalar_name t ++ 44 ∷ rest) ≡ scalar_name t ∷ slice_split is_comma rest
cut_comma I8 rest = refl
cut_comma I16 rest = refl
cut_comma I32 rest = refl
cut_comma I64 rest = refl
cut_comma U8 rest = refl
cut_comma U16 rest = refl
cut_comma U32 rest = refl
cut_comma U64 rest = refl
cut_comma Uintptr rest = refl
cut_comma TrueOrFalse rest = refl
cut_comma Ptr rest = refl

-- the parts of a tuple's name
abbrev tuple_parts : List Scalar → List (List ℕ)
tuple_parts [] = codes "mem" ∷ []
tuple_parts (t ∷ types) = scalar_name t ∷ tuple_parts types

cut_tuple : (types : List Scalar) → slice_split is_comma (before_commas types ++ codes "mem") ≡ tuple_parts types
cut_tuple [] = refl
cut_tuple (t ∷ types) =
    ap (slice_split is_comma)
    (append_assoc (scalar_name t ++ codes ",") (before_commas types) (codes "mem")
    ∙ append_assoc (scalar_name t) (codes ",") (before_commas types ++ codes "mem"))
    ∙ cut_comma t (before_commas types ++ codes "mem")
    ∙ ap (λ parts. scalar_name t ∷ parts) (cut_tuple types)

-- the parts of a tuple are read as its types
parts_read : (types : List Scalar) → tuple_of (tuple_parts types) ≡ Some types
parts_read [] = refl
parts_read (t ∷ []) = ap (λ first. before_type first (Some [])) (scalar_read t)
parts_read (t ∷ u ∷ types) = λ i. before_type (scalar_read t i) (parts_read (u ∷ types) i)

tuple_read : (op : Op) (types : List Scalar) → CanBeWritten op (Tuple types) →
    type_of_parts (makes_tuple op) (tuple_parts types) ≡ Some (Tuple types)
tuple_read op [] h = ap (λ b. Some (cond b (Tuple []) Mem)) h
tuple_read op (t ∷ []) h = ap (option_map Tuple) (parts_read (t ∷ []))
tuple_read op (t ∷ u ∷ types) h = ap (option_map Tuple) (parts_read (t ∷ u ∷ types))

-- the name of a type that can be written on a value of this op is read as that type
pub type_read : (op : Op) (ty : Ty) → CanBeWritten op ty → type_of (makes_tuple op) (type_name ty) ≡ Some ty
type_read op (One t) h = one_read (makes_tuple op) t
type_read op Mem h = ap (λ b. Some (cond b (Tuple []) Mem)) h
type_read op (Tuple types) h = ap (type_of_parts (makes_tuple op)) (cut_tuple types) ∙ tuple_read op types h
type_read op Flags h = absurd h
type_read op Void h = absurd h

-- the name of a type of one word is a word
pub scalar_is_word : (t : Scalar) → IsPlainWord 7 (scalar_name t)
scalar_is_word I8 = short_word 7 (codes "int8") refl
scalar_is_word I16 = short_word 7 (codes "int16") refl
scalar_is_word I32 = short_word 7 (codes "int32") refl
scalar_is_word I64 = short_word 7 (codes "int64") refl
scalar_is_word U8 = short_word 7 (codes "uint8") refl
scalar_is_word U16 = short_word 7 (codes "uint16") refl
scalar_is_word U32 = short_word 7 (codes "uint32") refl
scalar_is_word U64 = short_word 7 (codes "uint64") refl
scalar_is_word Uintptr = short_word 7 (codes "uintptr") refl
scalar_is_word TrueOrFalse = short_word 7 (codes "bool") refl
scalar_is_word Ptr = short_word 7 (codes "*byte") refl

tuple_is_word : (types : List Scalar) → IsPlainWord (8 * length types + 3) (before_commas types ++ codes "mem")
tuple_is_word [] = short_word 3 (codes "mem") refl
tuple_is_word (t ∷ types) =
    let first = plain_word_append 7 1 (scalar_name t) (codes ",") (scalar_is_word t) (short_word 1 (codes ",") refl) in
    let front : List ℕ = scalar_name t ++ codes "," in
    let behind : List ℕ = before_commas types ++ codes "mem" in
    let all = plain_word_append 8 (8 * length types + 3) front behind first (tuple_is_word types) in
    subst (IsPlainWord (8 * length (t ∷ types) + 3)) (sym (append_assoc front (before_commas types) (codes "mem")))
    (longer_word (8 + (8 * length types + 3)) (8 * length (t ∷ types) + 3) (front ++ behind) (omega arith) all)

-- the name of a type that can be written is a word, of at most eight bytes for each type of a tuple, and three
pub type_is_word : (op : Op) (ty : Ty) → CanBeWritten op ty → length (tuple_words ty) ≤ MAX_RESULTS →
    IsPlainWord 515 (type_name ty)
type_is_word op (One t) h few = longer_word 7 515 (scalar_name t) (omega arith) (scalar_is_word t)
type_is_word op Mem h few = short_word 515 (codes "mem") refl
type_is_word op (Tuple types) h few =
    let name : List ℕ = before_commas types ++ codes "mem" in
    longer_word (8 * length types + 3) 515 name (omega (arith, few)) (tuple_is_word types)
type_is_word op Flags h few = absurd h
type_is_word op Void h few = absurd h

-- so is it in angle brackets
pub bracketed_type_is_word : (op : Op) (ty : Ty) → CanBeWritten op ty → length (tuple_words ty) ≤ MAX_RESULTS →
    IsPlainWord 517 (codes "<" ++ (type_name ty ++ codes ">"))
bracketed_type_is_word op ty h few = between_is_word 515 60 62 (type_name ty) refl refl (type_is_word op ty h few)

-- the words of a group from inside its parenthesis on: the first one
abbrev pub first_word : List Scalar → List ℕ
first_word [] = codes ")"
first_word (t ∷ []) = scalar_name t ++ codes ")"
first_word (t ∷ u ∷ types) = scalar_name t ++ codes ","

-- and those behind it
abbrev pub more_words : List Scalar → List (List ℕ)
more_words [] = []
more_words (t ∷ []) = []
more_words (t ∷ u ∷ types) = first_word (u ∷ types) ∷ more_words (u ∷ types)

read_last : (t : Scalar) → type_before 41 (scalar_name t ++ codes ")") ≡ Some t
read_last t = ap (λ front. front >>= scalar_of) (without_last_of 41 41 (scalar_name t)) ∙ scalar_read t

read_no_last : (t : Scalar) → type_before 41 (scalar_name t ++ codes ",") ≡ None
read_no_last t = ap (λ front. front >>= scalar_of) (without_last_of 41 44 (scalar_name t))

read_more : (t : Scalar) → type_before 44 (scalar_name t ++ codes ",") ≡ Some t
read_more t = ap (λ front. front >>= scalar_of) (without_last_of 44 44 (scalar_name t)) ∙ scalar_read t

-- these words are read as the types of the group
types_read : (t : Scalar) (types : List Scalar) (behind : List (List ℕ)) →
    types_ahead (first_word (t ∷ types) ∷ (more_words (t ∷ types) ++ behind)) ≡ Some (t ∷ types, behind)
types_read t [] behind =
    let other : Option Scalar = type_before 44 (scalar_name t ++ codes ")") in
    ap (λ last. last_or_more last other behind (types_ahead behind)) (read_last t)
types_read t (u ∷ types) behind =
    let words : List (List ℕ) = first_word (u ∷ types) ∷ (more_words (u ∷ types) ++ behind) in
    (λ i. last_or_more (read_no_last t i) (read_more t i) words (types_read u types behind i))

-- the first of these words is no parenthesis alone
no_end : (t : Scalar) (b : ℕ) → is_same (scalar_name t ++ b ∷ []) (codes ")") ≡ false
no_end t b =
    unequal nat_eq (scalar_name t ++ b ∷ []) (codes ")")
    (λ e. omega (arith, e, length-append (scalar_name t) (b ∷ []), (scalar_is_word t).some))

no_end_at : (t : Scalar) (types : List Scalar) → is_same (first_word (t ∷ types)) (codes ")") ≡ false
no_end_at t [] = no_end t 41
no_end_at t (u ∷ types) = no_end t 44

-- so are all words of a group
pub group_read : (types : List Scalar) (behind : List (List ℕ)) →
    group_ahead (first_word types ∷ (more_words types ++ behind)) ≡ Some (types, behind)
group_read [] behind = refl
group_read (t ∷ types) behind =
    let word : List ℕ = first_word (t ∷ types) in
    let words : List (List ℕ) = more_words (t ∷ types) ++ behind in
    ap (λ b. cond b (Some ([], words)) (types_ahead (word ∷ words))) (no_end_at t types) ∙ types_read t types behind

-- a group from inside its parenthesis on
abbrev pub inside_text : List Scalar → List ℕ
inside_text types = join_by scalar_name (codes ", ") types ++ codes ")"

pub last_inside : (t : Scalar) → inside_text (t ∷ []) ≡ scalar_name t ++ codes ")"
last_inside t = ap (λ bytes. bytes ++ codes ")") (append-nil (scalar_name t))

pub more_inside : (t u : Scalar) (types : List Scalar) →
    inside_text (t ∷ u ∷ types) ≡ (scalar_name t ++ codes ",") ++ 32 ∷ inside_text (u ∷ types)
more_inside t u types =
    append_assoc (scalar_name t) (codes ", " ++ join_by scalar_name (codes ", ") (u ∷ types)) (codes ")")
    ∙ sym (append_assoc (scalar_name t) (codes ",") (32 ∷ inside_text (u ∷ types)))

pub first_is_word : (types : List Scalar) → IsPlainWord 8 (first_word types)
first_is_word [] = short_word 8 (codes ")") refl
first_is_word (t ∷ []) =
    plain_word_append 7 1 (scalar_name t) (codes ")") (scalar_is_word t) (short_word 1 (codes ")") refl)
first_is_word (t ∷ u ∷ types) =
    plain_word_append 7 1 (scalar_name t) (codes ",") (scalar_is_word t) (short_word 1 (codes ",") refl)

-- a front that the first of these words goes on with
module _ (front : List ℕ) (types : List Scalar) (none : HasNoSpace front) where
  some_in_front : 0 < length (front ++ first_word types)
  some_in_front = omega (arith, length-append front (first_word types), (first_is_word types).some)

  none_in_front : HasNoSpace (front ++ first_word types)
  none_in_front = All-append (λ b. is_space b ≡ false) front (first_word types) none (first_is_word types).unspaced

  ends_in_front : (rest : List ℕ) → EndsWord rest → inside_text types ≡ first_word types →
      words_of (front ++ (inside_text types ++ rest)) ≡ (front ++ first_word types) ∷ words_of rest
  ends_in_front rest ends e =
      ap (λ inside. words_of (front ++ (inside ++ rest))) e
      ∙ ap words_of (sym (append_assoc front (first_word types) rest))
      ∙ word_in_front (front ++ first_word types) rest some_in_front none_in_front ends

  goes_on : (rest inside : List ℕ) → inside_text types ≡ first_word types ++ 32 ∷ inside →
      words_of (front ++ (inside_text types ++ rest)) ≡ (front ++ first_word types) ∷ words_of (inside ++ rest)
  goes_on rest inside e =
      ap (λ text. words_of (front ++ (text ++ rest))) e
      ∙ ap (λ text. words_of (front ++ text)) (append_assoc (first_word types) (32 ∷ inside) rest)
      ∙ ap words_of (sym (append_assoc front (first_word types) (32 ∷ (inside ++ rest))))
      ∙ word_and_space (front ++ first_word types) 32 (inside ++ rest) some_in_front none_in_front refl

-- the words of a group, of which the first goes on a front
pub group_words : (front : List ℕ) (types : List Scalar) (rest : List ℕ) → HasNoSpace front → EndsWord rest →
    words_of (front ++ (inside_text types ++ rest)) ≡ (front ++ first_word types) ∷ (more_words types ++ words_of rest)
group_words front [] rest none ends = ends_in_front front [] none rest ends refl
group_words front (t ∷ []) rest none ends = ends_in_front front (t ∷ []) none rest ends (last_inside t)
group_words front (t ∷ u ∷ types) rest none ends =
    goes_on front (t ∷ u ∷ types) none rest (inside_text (u ∷ types)) (more_inside t u types)
    ∙ ap (λ words. (front ++ first_word (t ∷ u ∷ types)) ∷ words)
    (group_words [] (u ∷ types) rest (All-nil (λ b. is_space b ≡ false)) ends)
