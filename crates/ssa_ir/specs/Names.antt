-- The form of names.
use Rattle.std.specs.Prelude.{ℕ, ◌≤◌, Bool, false, ◌||◌, ◌&&◌, ◌==◌, nat_le, IsTrue, List, [], ◌∷◌, length}
use Rattle.std.specs.List.{list_all}

abbrev pub is_letter : ℕ → Bool
is_letter b = (nat_le 65 b && nat_le b 90) || (nat_le 97 b && nat_le b 122)

abbrev pub is_digit : ℕ → Bool
is_digit b = nat_le 48 b && nat_le b 57

-- a letter or _
abbrev pub is_name_start : ℕ → Bool
is_name_start b = is_letter b || b == 95

-- a letter, a digit, or one of _ . / $
abbrev pub is_name_byte : ℕ → Bool
is_name_byte b = is_name_start b || is_digit b || b == 46 || b == 47 || b == 36

-- such bytes, the first a letter or _
abbrev pub has_name_bytes : List ℕ → Bool
has_name_bytes [] = false
has_name_bytes (b ∷ bytes) = is_name_start b && list_all is_name_byte bytes

-- a name: 1 to 100 such bytes
pub record IsName (bytes : List ℕ) : Type 0 where
  pub form : IsTrue (has_name_bytes bytes)
  pub few : length bytes ≤ 100
