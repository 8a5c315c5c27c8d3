-- What a printer leaves in its buffer where it fails.
use Rattle.std.specs.Prelude.{◌≡◌, ℕ, List, ◌++◌}

-- a prefix of the text was added
pub record AddsPrefix (before after text : List ℕ) : Type 0 where
  pub front : List ℕ
  pub rest : List ℕ
  pub split : text ≡ front ++ rest
  pub added : after ≡ before ++ front
