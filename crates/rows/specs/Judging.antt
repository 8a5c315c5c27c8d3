-- What the judge of a row says: whether all that is given is equal, and else where the two first differ.
use Rattle.std.specs.Prelude.{◌≡◌, ◌≢◌, ℕ, ◌+◌, ◌==◌, if◌then◌else◌, List, [], ◌∷◌, Option, None, Some}
use Rattle.rows.specs.declared.judging.Wanted.{Wanted}
use Rattle.rows.specs.declared.judging.Came.{Came}
use Rattle.rows.specs.declared.judging.Difference.{Difference}
use Rattle.rows.specs.declared.judging.Difference.TheVariants.{Status, Output, Errors, Left}

-- what came is as wanted, where something is wanted
abbrev pub AsWanted : {T : Type 0} → Option T → T → Type 0
AsWanted None came = Unit {0}
AsWanted (Some wanted) came = came ≡ wanted

-- how many lines end with this byte
abbrev pub ends_with : ℕ → ℕ
ends_with byte = if byte == 10 then 1 else 0

-- the number of the first line in which two texts differ: one more than the LFs that both begin with
abbrev pub first_line : List ℕ → List ℕ → ℕ
first_line [] other = 1
first_line (x ∷ one) [] = 1
first_line (x ∷ one) (y ∷ other) = if x == y then ends_with x + first_line one other else 1

-- a text differs from the one that is wanted, and first so in this line
abbrev pub DiffersAt : ℕ → Option (List ℕ) → List ℕ → Type 0
DiffersAt line None came = ⊥
DiffersAt line (Some wanted) came = (came ≢ wanted) × (line ≡ first_line wanted came)

-- a status differs from the one that is wanted
abbrev pub StatusDiffers : Option ℕ → ℕ → Type 0
StatusDiffers None came = ⊥
StatusDiffers (Some wanted) came = came ≢ wanted

-- all that is given is equal
pub record Holds (wanted : Wanted) (came : Came) : Type 0 where
  pub status : AsWanted wanted.status came.status
  pub output : AsWanted wanted.output came.output
  pub errors : AsWanted wanted.errors came.errors
  pub left : AsWanted wanted.left came.left

-- this is the first part that differs, in the order status, output, errors, left
abbrev pub FirstDiffers : Wanted → Came → Difference → Type 0
FirstDiffers wanted came Status = StatusDiffers wanted.status came.status
FirstDiffers wanted came (Output line) =
    AsWanted wanted.status came.status × DiffersAt line wanted.output came.output
FirstDiffers wanted came (Errors line) =
    AsWanted wanted.status came.status × AsWanted wanted.output came.output × DiffersAt line wanted.errors came.errors
FirstDiffers wanted came (Left line) =
    AsWanted wanted.status came.status × AsWanted wanted.output came.output × AsWanted wanted.errors came.errors
    × DiffersAt line wanted.left came.left
