-- Sources and sinks over memory, and exactly which of their calls fail.
use Rattle.std.specs.Prelude.{◌≡◌, ℕ, ◌+◌, ◌-◌, ◌^◌, ◌↔◌, Bool, false, ◌==◌, ◌||◌, nat_lt, nat_le, if◌then◌else◌}
use Rattle.std.specs.Prelude.{IsTrue, List, ◌++◌, length, take, drop, min, Option, None, Some, Result, Ok, Err, IsErr}
use Rattle.std.specs.Prelude.{IfOk}
use Rattle.std.specs.List.{list_any}
use Rattle.gossa_base.specs.declared.outside.Failed.{Failed}
use Rattle.gossa_base.specs.Faults.{fault_after}

-- the number of the call after one of this number; no call after the last number of 64 bits has one
abbrev pub number_after : Option ℕ → Option ℕ
number_after None = None
number_after (Some n) = if nat_lt n (2 ^ 64 - 1) then Some (n + 1) else None

-- whether the call of this number is listed
abbrev pub is_listed : List ℕ → Option ℕ → Bool
is_listed calls None = false
is_listed calls (Some n) = list_any (λ k. k == n) calls

-- a source over memory: the bytes left, the most bytes that one call gives, the number of the next call,
-- the calls that fail, and the faults so far
pub record SourceState : Type 0 where
  pub left : List ℕ
  pub piece : ℕ
  pub next : Option ℕ
  pub fail_at : List ℕ
  pub faults : ℕ

-- the source after a read
abbrev pub source_after : SourceState → Result ℕ Failed → SourceState
source_after s (Ok n) = record s { left = drop n s.left; next = number_after s.next }
source_after s (Err _) = record s { next = number_after s.next; faults = fault_after s.faults }

-- a read fails exactly where its call is listed, and else gives the next bytes, as many as piece, buffer and input
-- allow
pub record ReadsMemory (old new : SourceState) (buffer : List ℕ) (answer : Result ℕ Failed) : Type 0 where
  pub fails : IsErr answer ↔ IsTrue (is_listed old.fail_at old.next)
  pub count : IfOk answer (λ n. n ≡ min old.piece (min (length buffer) (length old.left)))
  pub bytes : IfOk answer (λ n. take n buffer ≡ take n old.left)
  pub after : new ≡ source_after old answer

-- a sink over memory: the bytes held, how many it has room for, the most bytes that one call takes, the number of
-- the next call, the calls that fail, and the faults so far
pub record SinkState : Type 0 where
  pub held : List ℕ
  pub room : ℕ
  pub piece : ℕ
  pub next : Option ℕ
  pub fail_at : List ℕ
  pub faults : ℕ

-- the sink after a write of a piece
abbrev pub sink_after : SinkState → List ℕ → Result ℕ Failed → SinkState
sink_after s piece (Ok n) = record s { held = s.held ++ take n piece; next = number_after s.next }
sink_after s piece (Err _) = record s { next = number_after s.next; faults = fault_after s.faults }

-- a write fails exactly where its call is listed or no room is left, and else takes as many bytes as the most of
-- one call, the piece and the room allow
pub record WritesMemory (old new : SinkState) (piece : List ℕ) (answer : Result ℕ Failed) : Type 0 where
  pub fails : IsErr answer ↔ IsTrue (is_listed old.fail_at old.next || nat_le old.room (length old.held))
  pub count : IfOk answer (λ n. n ≡ min old.piece (min (length piece) (old.room - length old.held)))
  pub after : new ≡ sink_after old piece answer
