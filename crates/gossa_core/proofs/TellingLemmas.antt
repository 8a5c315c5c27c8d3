-- A line that is written piece by piece.
use Rattle.std.proofs.Common.{ℕ, List, ◌++◌, Option, Result, Ok, Err, OnErr, sym, ap, ◌∙◌, append_assoc}
use Rattle.std.proofs.KnownBytes.{Appends-trans}
use Rattle.std.specs.Io.KnownBytes.{Appends}
use Rattle.gossa_base.specs.Whole.{AppendsPrefix}

-- a prefix of the first piece is one of the line
pub in_front : (a b : Option (List ℕ)) (piece rest : List ℕ) → AppendsPrefix a b piece
    → AppendsPrefix a b (piece ++ rest)
in_front a b piece rest p = record {
  front = p.front;
  rest = p.rest ++ rest;
  split = ap (λ l. l ++ rest) p.split ∙ append_assoc p.front p.rest rest;
  appended = p.appended;
}

-- a prefix of what stands behind the first piece, which was written whole
pub behind : (a b c : Option (List ℕ)) (piece rest : List ℕ) → Appends a b piece → AppendsPrefix b c rest
    → AppendsPrefix a c (piece ++ rest)
behind a b c piece rest whole p = record {
  front = piece ++ p.front;
  rest = p.rest;
  split = ap (λ l. piece ++ l) p.split ∙ sym (append_assoc piece p.front p.rest);
  appended = Appends-trans a b c piece p.front whole p.appended;
}

-- what holds, holds where a call failed
pub failed : {A E : Type 0} (answer : Result A E) (P : Type 0) → P → OnErr answer P
failed (Ok x) P h = tt
failed (Err e) P h = h
