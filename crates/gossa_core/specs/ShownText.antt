-- The text of what a run shows: the case's line, a line for each call, the end, and behind both the bytes that
-- changed.
use Rattle.std.specs.Prelude.{ℕ, zero, suc, ◌+◌, ◌==◌, if◌then◌else◌, List, [], ◌∷◌, ◌++◌, codes, decimal}
use Rattle.std.specs.Prelude.{length, map, take, drop, find, Option, None, Some}
use Rattle.std.specs.Fmt.{signed_decimal}
use Rattle.std.specs.List.{flat_map}
use Rattle.gossa_base.specs.Texts.{hex_text, hex_bytes_text}
use Rattle.gossa_base.specs.Words.{low, signed_at}
use Rattle.ssa_ir.specs.declared.types.Scalar.{Scalar}
use Rattle.ssa_ir.specs.declared.types.Scalar.TheVariants.{I8, I16, I32, I64, U8, U16, U32, U64, Uintptr, Bool, Ptr}
use Rattle.ssa_ir.specs.declared.types.Sig.{Sig}
use Rattle.ssa_ir.specs.declared.case.CallShown.{CallShown}
use Rattle.ssa_ir.specs.declared.case.End.{End}
use Rattle.ssa_ir.specs.declared.case.End.TheVariants.{Returned, Trapped, Exited, NoReply, Going, Stuck}
use Rattle.ssa_ir.specs.declared.case.Shown.{Shown}
use Rattle.ssa_ir.specs.Lookups.{is_of}
use Rattle.ssa_ir.specs.Run.{is_set}
use Rattle.ssa_ir.specs.Texts.{newline}

-- a word as a value of its type: signed, unsigned, true or false by bit 0, or an address
abbrev pub scalar_text : Scalar → ℕ → List ℕ
scalar_text I8 w = signed_decimal (signed_at 8 w)
scalar_text I16 w = signed_decimal (signed_at 16 w)
scalar_text I32 w = signed_decimal (signed_at 32 w)
scalar_text I64 w = signed_decimal (signed_at 64 w)
scalar_text U8 w = decimal (low 8 w)
scalar_text U16 w = decimal (low 16 w)
scalar_text U32 w = decimal (low 32 w)
scalar_text U64 w = decimal w
scalar_text Uintptr w = decimal w
scalar_text Bool w = if is_set w then codes "true" else codes "false"
scalar_text Ptr w = hex_text w

-- words of these types behind others: a comma and a space before each. A word without a type has no text, nor has a
-- type without a word
abbrev pub more_words : List Scalar → List ℕ → List ℕ
more_words [] words = []
more_words (t ∷ types) [] = []
more_words (t ∷ types) (w ∷ words) = codes ", " ++ (scalar_text t w ++ more_words types words)

abbrev pub words_text : List Scalar → List ℕ → List ℕ
words_text [] words = []
words_text (t ∷ types) [] = []
words_text (t ∷ types) (w ∷ words) = scalar_text t w ++ more_words types words

-- words of these types in parentheses
abbrev pub words_group : List Scalar → List ℕ → List ℕ
words_group types words = codes "(" ++ (words_text types words ++ codes ")")

-- a byte before runs of bytes: it begins the first of them where that goes on at the next address
abbrev pub run_before : ℕ × ℕ → List (List (ℕ × ℕ)) → List (List (ℕ × ℕ))
run_before p [] = (p ∷ []) ∷ []
run_before p ([] ∷ runs) = (p ∷ []) ∷ runs
run_before p ((q ∷ run) ∷ runs) = if q.0 == p.0 + 1 then ((p ∷ q ∷ run) ∷ runs) else ((p ∷ []) ∷ (q ∷ run) ∷ runs)

-- bytes, each with its address, as the greatest runs at consecutive addresses
abbrev pub runs_of : List (ℕ × ℕ) → List (List (ℕ × ℕ))
runs_of [] = []
runs_of (p ∷ changes) = run_before p (runs_of changes)

-- a run cut every 16 bytes from its first one on, in at most n pieces
abbrev pub pieces_within : (n : ℕ) → List (ℕ × ℕ) → List (List (ℕ × ℕ))
pieces_within zero run = []
pieces_within (suc n) [] = []
pieces_within (suc n) (p ∷ run) = take 16 (p ∷ run) ∷ pieces_within n (drop 16 (p ∷ run))

-- a piece by the address of its first byte
abbrev pub mem_line : List (ℕ × ℕ) → List ℕ
mem_line [] = []
mem_line (p ∷ piece) =
    codes "mem " ++ (hex_text p.0 ++ (codes " " ++ (hex_bytes_text (map (λ q. q.1) (p ∷ piece)) ++ newline)))

abbrev pub run_text : List (ℕ × ℕ) → List ℕ
run_text run = flat_map mem_line (pieces_within (length run) run)

-- a line for each piece of each run of the bytes that changed
abbrev pub changed_text : List (ℕ × ℕ) → List ℕ
changed_text changes = flat_map run_text (runs_of changes)

abbrev pub params_of : Option Sig → List Scalar
params_of None = []
params_of (Some s) = s.params

abbrev pub results_of : Option Sig → List Scalar
results_of None = []
results_of (Some s) = s.results

-- the signature of a name among these
abbrev pub sig_among : List Sig → List ℕ → Option Sig
sig_among sigs name = find (is_of name) sigs

-- a call, by the callee's signature among these
abbrev pub call_text : List Sig → CallShown → List ℕ
call_text sigs c =
    codes "call "
    ++ (c.callee ++ (words_group (params_of (sig_among sigs c.callee)) c.args ++ (newline ++ changed_text c.changed)))

-- the end, by the types of the results
abbrev pub end_text : List Scalar → End → List ℕ
end_text results (Returned words changes) =
    codes "returned" ++ (words_group results words ++ (newline ++ changed_text changes))
end_text results (Trapped changes) = codes "trapped\n" ++ changed_text changes
end_text results (Exited changes) = codes "exited\n" ++ changed_text changes
end_text results NoReply = codes "no reply\n"
end_text results Going = codes "going\n"
end_text results Stuck = codes "stuck\n"

abbrev pub case_line : List ℕ → ℕ → List ℕ
case_line name bound = codes "case " ++ (name ++ (codes " " ++ (decimal bound ++ newline)))

-- what a function of this name showed with a bound, by these signatures, its own among them
abbrev pub shown_text : List ℕ → ℕ → List Sig → Shown → List ℕ
shown_text name bound sigs s =
    case_line name bound ++ (flat_map (call_text sigs) s.calls ++ end_text (results_of (sig_among sigs name)) s.end)
