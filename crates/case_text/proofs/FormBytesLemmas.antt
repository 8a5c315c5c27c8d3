-- Bytes in hexadecimal digits, one after the other.
use Rattle.std.proofs.Common.{◌≡◌, ℕ, List, [], ◌∷◌, ◌++◌, Option, None, Some, refl, sym, ap, ◌∙◌}
use Rattle.std.specs.Option.{option_map}
use Rattle.std.proofs.lemmas.List.{append_assoc}
use Rattle.ssa_lines.specs.Numbers.{digit_in}
use Rattle.case_text.specs.CaseForms.{byte_of, before_byte, bytes_in}

-- bytes, and those of the digits behind them
abbrev pub bytes_behind : List ℕ → Option (List ℕ) → Option (List ℕ)
bytes_behind bytes more = option_map (λ others. bytes ++ others) more

behind_byte : (bytes : List ℕ) (b : ℕ) (more : Option (List ℕ))
    → bytes_behind (bytes ++ b ∷ []) more ≡ bytes_behind bytes (before_byte (Some b) more)
behind_byte bytes b None = refl
behind_byte bytes b (Some more) = ap Some (append_assoc bytes (b ∷ []) more)

-- the byte of two digits is put behind those so far
pub more_bytes : (bytes more rest others behind : List ℕ) (high low b : ℕ)
    → rest ≡ high ∷ others → others ≡ low ∷ behind
    → byte_of (digit_in 16 high) (digit_in 16 low) ≡ Some b → more ≡ bytes ++ b ∷ []
    → bytes_behind more (bytes_in behind) ≡ bytes_behind bytes (bytes_in rest)
more_bytes bytes more rest others behind high low b first second byte pushed =
    ap (λ all. bytes_behind all (bytes_in behind)) pushed
    ∙ behind_byte bytes b (bytes_in behind)
    ∙ sym (ap (λ one. bytes_behind bytes (before_byte one (bytes_in behind))) byte)
    ∙ sym (ap (λ digits. bytes_behind bytes (bytes_in digits)) (first ∙ ap (λ digits. high ∷ digits) second))
