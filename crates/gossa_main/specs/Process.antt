-- What the process is called with, and what it ends with.
use Rattle.std.specs.Prelude.{◌≡◌, ℕ, ◌⊎◌, List, [], drop, Result, Ok, Err, String}
use Rattle.std.specs.Vec.Iter.{into_iter_items}
use Rattle.std.specs.declared.vec.IntoIter.{IntoIter}
use Rattle.gossa_core.specs.Answer.{Answers, IsComplete, Tells, line_of}
use Rattle.gossa_core.specs.Status.{number_of}
use Rattle.gossa_core.specs.Worlds.{World, Errors, NothingRead, NothingWritten}
use Rattle.gossa_core.specs.declared.status.Outcome.TheVariants.{NoMemory}
use Rattle.gossa_core.specs.declared.status.Status.{Status}
use Rattle.gossa_core.specs.declared.status.Status.TheVariants.{NoMemory as IsNoMemory}

-- the words of the command: all that the process is called with but for the first, which is its own name, in order;
-- none where one of them is no text
abbrev pub words_given : {A Z E : Type 0} → Result (IntoIter (String A) Z) E → List (String A)
words_given (Ok args) = drop 1 (into_iter_items args)
words_given (Err _) = []

-- the program did what these words say
pub record Obeys (words : List (List ℕ)) (before after : World) (quiet spoken : Errors) (status : Status) : Type 0 where
  pub answers : Answers words before after quiet spoken status
  pub complete : IsComplete words before after status

-- there was no memory for the words: nothing was read or written, and that is told
pub record LacksWords (before after : World) (quiet spoken : Errors) (status : Status) : Type 0 where
  pub answered : status ≡ IsNoMemory
  pub unread : NothingRead before after
  pub unwritten : NothingWritten before after
  pub line : Tells (line_of NoMemory) quiet spoken

-- the program did what these words say, or there was no memory for them
abbrev pub Does : (words : List (List ℕ)) → (before after : World) → (quiet spoken : Errors) → Status → Type 0
Does words before after quiet spoken status =
    Obeys words before after quiet spoken status ⊎ LacksWords before after quiet spoken status

-- the process ends with the number of the status
pub record Ends (words : List (List ℕ)) (before after : World) (quiet spoken : Errors) (number : ℕ) : Type 0 where
  pub status : Status
  pub why : Does words before after quiet spoken status
  pub told : number ≡ number_of status
