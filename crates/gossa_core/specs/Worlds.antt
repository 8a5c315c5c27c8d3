-- What stands outside, before and after a call.
use Rattle.std.specs.Prelude.{◌≡◌, ℕ, List, Option}

-- what stands outside at one moment: the bytes that the source has left and those that the sink holds, where they tell
-- them, and how many faults each has met
pub record World : Type 0 where
  pub left : Option (List ℕ)
  pub read_faults : ℕ
  pub held : Option (List ℕ)
  pub write_faults : ℕ

-- the same by what the source and the sink tell
abbrev pub world : (left : Option (List ℕ)) → (read_faults : ℕ) → (held : Option (List ℕ)) → (write_faults : ℕ) → World
world left read_faults held write_faults = record {
  left = left;
  read_faults = read_faults;
  held = held;
  write_faults = write_faults;
}

-- the error stream at one moment: the bytes that it holds, where it tells them, and how many faults it has met
pub record Errors : Type 0 where
  pub told : Option (List ℕ)
  pub tell_faults : ℕ

-- the same by what the stream tells
abbrev pub errors : (told : Option (List ℕ)) → (tell_faults : ℕ) → Errors
errors told tell_faults = record { told = told; tell_faults = tell_faults }

-- the source met no fault
abbrev pub NoReadFault : World → World → Type 0
NoReadFault before after = after.read_faults ≡ before.read_faults

-- the sink met no fault
abbrev pub NoWriteFault : World → World → Type 0
NoWriteFault before after = after.write_faults ≡ before.write_faults

-- nothing was written
pub record NothingWritten (before after : World) : Type 0 where
  pub held : after.held ≡ before.held
  pub calm : NoWriteFault before after

-- nothing was read
pub record NothingRead (before after : World) : Type 0 where
  pub left : after.left ≡ before.left
  pub calm : NoReadFault before after
