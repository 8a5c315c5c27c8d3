-- Where arguments and results stand: parameters take the registers from R0 on while fewer are taken than the ABI uses,
-- and each later one the next argument word; results take the registers counted anew, and the words behind those.
use Rattle.std.specs.Prelude.{ℕ, ◌+◌, nat_lt, min, if◌then◌else◌, List, [], ◌∷◌}
use Rattle.ssa_ir.specs.declared.abi.AbiPlace.{AbiPlace}
use Rattle.ssa_ir.specs.declared.abi.AbiPlace.TheVariants.{Reg, Word}
use Rattle.ssa_ir.specs.declared.types.Scalar.{Scalar}
use Rattle.ssa_ir.specs.declared.types.Sig.{Sig}

-- how many registers take arguments, of this many
abbrev pub argument_registers : ℕ → ℕ
argument_registers regs = min 16 regs

-- places for these types, where so many registers are there, so many are taken, and this argument word is the next
abbrev pub places_from : (registers taken word : ℕ) → List Scalar → List AbiPlace
places_from registers taken word [] = []
places_from registers taken word (t ∷ types) =
    if nat_lt taken registers then (Reg taken ∷ places_from registers (taken + 1) word types)
    else (Word word ∷ places_from registers taken (word + 1) types)

-- the argument word behind those that these types take
abbrev pub word_behind : (registers taken word : ℕ) → List Scalar → ℕ
word_behind registers taken word [] = word
word_behind registers taken word (t ∷ types) =
    if nat_lt taken registers then word_behind registers (taken + 1) word types else word_behind registers taken
    (word + 1) types

-- the places of a signature's parameters, for this many registers
abbrev pub parameter_places : ℕ → Sig → List AbiPlace
parameter_places regs sig = places_from (argument_registers regs) 0 0 sig.params

abbrev pub parameter_words : ℕ → Sig → ℕ
parameter_words regs sig = word_behind (argument_registers regs) 0 0 sig.params

-- the places of its results
abbrev pub result_places : ℕ → Sig → List AbiPlace
result_places regs sig = places_from (argument_registers regs) 0 (parameter_words regs sig) sig.results

-- how many argument words it has
abbrev pub argument_words : ℕ → Sig → ℕ
argument_words regs sig = word_behind (argument_registers regs) 0 (parameter_words regs sig) sig.results
