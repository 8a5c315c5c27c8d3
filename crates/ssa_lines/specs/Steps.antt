-- Steps of a reader: each goes on only where the one before it gave something.
use Rattle.std.specs.Prelude.{Bool, true, false, Option, None, Some}

infixl 10 ◌>>=◌
abbrev pub ◌>>=◌ : {A B : Type 0} → Option A → (A → Option B) → Option B
None >>= f = None
Some x >>= f = f x

-- goes on only where a test holds
abbrev pub only_where : Bool → Option Bool
only_where true = Some true
only_where false = None
