-- What whole reads and whole writes do.
use Rattle.std.specs.Prelude.{◌≡◌, ℕ, ◌+◌, ◌≤◌, List, ◌++◌, length, Option}
use Rattle.std.specs.Io.KnownBytes.{Consumes, Appends, IsAtEnd}

-- all bytes were read, up to the end, and there are no more than the limit
pub record ReadsWhole (limit : ℕ) (before after : Option (List ℕ)) (bytes : List ℕ) : Type 0 where
  pub all : Consumes before after bytes
  pub end : IsAtEnd after
  pub few : length bytes ≤ limit

-- bytes were read, no more than the limit
pub record ReadsWithin (limit : ℕ) (before after : Option (List ℕ)) : Type 0 where
  pub bytes : List ℕ
  pub read : Consumes before after bytes
  pub few : length bytes ≤ limit

-- byte `limit + 1` was read, and none after it
pub record ReadsPast (limit : ℕ) (before after : Option (List ℕ)) : Type 0 where
  pub bytes : List ℕ
  pub read : Consumes before after bytes
  pub past : length bytes ≡ limit + 1

-- a prefix of the text was appended
pub record AppendsPrefix (before after : Option (List ℕ)) (text : List ℕ) : Type 0 where
  pub front : List ℕ
  pub rest : List ℕ
  pub split : text ≡ front ++ rest
  pub appended : Appends before after front
