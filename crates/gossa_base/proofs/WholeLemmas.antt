-- Reads and writes one after the other.
use Rattle.std.proofs.Common.{◌≡◌, ℕ, ◌+◌, ◌-◌, ◌<◌, ◌≤◌, min, List, [], ◌++◌, length, take, drop, Option, sym, ap, ◌∙◌}
use Rattle.std.proofs.Common.{subst, arith, length-append}
use Rattle.std.proofs.lemmas.List.{length-take-le, length-drop, drop-drop, take-append-drop, take_all, drop_all}
use Rattle.std.proofs.Math.Seq.{take-add, take-append_seam}
use Rattle.std.proofs.KnownBytes.{Consumes-trans, Appends-trans, Appends-kept}
use Rattle.std.specs.Io.KnownBytes.{Consumes, Appends, Keeps}
use Rattle.gossa_base.specs.Whole.{ReadsWithin, ReadsPast, AppendsPrefix}

-- a read past the limit, after reads within it
pub read_past : (limit n : ℕ) (a b c : Option (List ℕ)) (held piece : List ℕ) → Consumes a b held → Consumes b c piece
    → length piece ≡ n → length held + n ≡ limit + 1 → ReadsPast limit a c
read_past limit n a b c held piece p q e f = record {
  bytes = held ++ piece;
  read = Consumes-trans a b c held piece p q;
  past = length-append held piece ∙ ap (λ k. length held + k) e ∙ f;
}

-- one more read within the limit
pub read_within : (limit n : ℕ) (a b c : Option (List ℕ)) (held piece : List ℕ) → Consumes a b held → Consumes b c piece
    → length piece ≡ n → length held + n ≤ limit → ReadsWithin limit a c
read_within limit n a b c held piece p q e f = record {
  bytes = held ++ piece;
  read = Consumes-trans a b c held piece p q;
  few = omega (arith, length-append held piece, e, f);
}

-- the rest of a list from a place on, as a slice gives it
pub tail : (w : ℕ) (text : List ℕ) → take (length text - w) (drop w text) ≡ drop w text
tail w text = take_all (length text - w) (drop w text) (omega (arith, length-drop w text))

-- one more piece of the text is written
pub appended_more : (w n : ℕ) (a b c : Option (List ℕ)) (text : List ℕ) → Appends a b (take w text)
    → Appends b c (take n (take (length text - w) (drop w text))) → Appends a c (take (w + n) text)
appended_more w n a b c text p q =
    subst (Appends a c) (ap (λ l. take w text ++ take n l) (tail w text) ∙ sym (take-add w n text))
    (Appends-trans a b c _ _ p q)

-- a write that failed leaves what was written before it
pub prefix_kept : (w : ℕ) (a b c : Option (List ℕ)) (text : List ℕ) → Appends a b (take w text) → Keeps b c
    → AppendsPrefix a c text
prefix_kept w a b c text p q = record {
  front = take w text;
  rest = drop w text;
  split = sym (take-append-drop w text);
  appended = Appends-kept a b c (take w text) p q;
}

-- what a read moved, and what it left
pub moved : (n at : ℕ) (bytes buffer piece : List ℕ) → piece ≡ take n (take (length bytes - at) (drop at bytes))
    → n ≤ length bytes - at
    → drop at bytes ≡ take n (piece ++ drop n buffer) ++ drop (at + n) bytes
moved n at bytes buffer piece e h =
    let exact : piece ≡ take n (drop at bytes) = e ∙ ap (take n) (tail at bytes) in
    let long : length piece ≡ n =
    ap length exact ∙ length-take-le n (drop at bytes) (omega (arith, length-drop at bytes)) in
    let front : take n (piece ++ drop n buffer) ≡ piece =
    subst (λ k. take k (piece ++ drop n buffer) ≡ piece) long (take-append_seam piece (drop n buffer)) in
    sym (take-append-drop n (drop at bytes)) ∙ ap (λ l. l ++ drop n (drop at bytes)) (sym exact ∙ sym front)
    ∙ ap (λ l. take n (piece ++ drop n buffer) ++ l) (drop-drop n at bytes)

-- a read that moved nothing, with room for a byte, was at the end
pub at_end : (n at room piece : ℕ) (bytes : List ℕ) → n ≡ min (min piece room) (length bytes - at) → n ≡ 0 → 0 < room
    → 1 ≤ piece
    → drop (at + n) bytes ≡ []
at_end n at room piece bytes e z r p = drop_all (at + n) bytes (omega arith)
