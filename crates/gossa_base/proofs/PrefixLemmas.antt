-- A text that is added piece by piece.
use Rattle.std.proofs.Common.{◌≡◌, ℕ, ◌+◌, ◌<◌, List, [], ◌∷◌, ◌++◌, length, get_or, take, drop, Result, Ok, Err, OnErr}
use Rattle.std.proofs.Common.{refl, sym, ap, ◌∙◌, subst, append_assoc, append-nil}
use Rattle.std.specs.List.{flat_map}
use Rattle.std.proofs.lemmas.List.{take-append-drop, drop_more, append_cancel_left}
use Rattle.std.proofs.lemmas.Grind.{flat_map-append}
use Rattle.gossa_base.specs.Prefixes.{AddsPrefix}

-- nothing was added
pub nothing : (a text : List ℕ) → AddsPrefix a a text
nothing a text = record {
  front = [];
  rest = text;
  split = refl;
  added = sym (append-nil a);
}

-- a prefix of the first piece is one of the whole
pub in_front : (a b piece rest : List ℕ) → AddsPrefix a b piece → AddsPrefix a b (piece ++ rest)
in_front a b piece rest p = record {
  front = p.front;
  rest = p.rest ++ rest;
  split = ap (λ l. l ++ rest) p.split ∙ append_assoc p.front p.rest rest;
  added = p.added;
}

-- the same of a piece that begins with a known byte
pub in_front_byte : (a b : List ℕ) (x : ℕ) (piece rest : List ℕ) → AddsPrefix a b (x ∷ piece)
    → AddsPrefix a b (x ∷ (piece ++ rest))
in_front_byte a b x piece rest p = in_front a b (x ∷ piece) rest p

-- the first piece whole, and then a prefix of the rest
pub behind : (a c piece rest : List ℕ) → AddsPrefix (a ++ piece) c rest → AddsPrefix a c (piece ++ rest)
behind a c piece rest p = record {
  front = piece ++ p.front;
  rest = p.rest;
  split = ap (λ l. piece ++ l) p.split ∙ sym (append_assoc piece p.front p.rest);
  added = p.added ∙ append_assoc a piece p.front;
}

-- what a tactic follows the pieces of a text by
pub ruleset prefixes = (nothing, in_front, in_front_byte, behind)

-- nothing was added, as a call says it
pub kept : (a b text : List ℕ) → b ≡ a → AddsPrefix a b text
kept a b text e = subst (λ l. AddsPrefix a l text) (sym e) (nothing a text)

-- the first piece whole, as a call says it, and then a prefix of the rest
pub behind_piece : (a b c piece rest : List ℕ) → b ≡ a ++ piece → AddsPrefix b c rest → AddsPrefix a c (piece ++ rest)
behind_piece a b c piece rest e p = behind a c piece rest (subst (λ l. AddsPrefix l c rest) e p)

-- the texts of a list: those before an item, its own, and those behind it
pub texts_at : {T : Type 0} (text : T → List ℕ) (items : List T) (i : ℕ) (item : T) → i < length items
    → item ≡ get_or items i item
    → flat_map text items ≡ flat_map text (take i items) ++ (text item ++ flat_map text (drop (i + 1) items))
texts_at text items i item lt is =
    ap (flat_map text) (sym (take-append-drop i items))
    ∙ flat_map-append text (take i items) (drop i items)
    ∙ ap (λ l. flat_map text (take i items) ++ flat_map text l) (drop_more items i item lt)
    ∙ ap (λ x. flat_map text (take i items) ++ (text x ++ flat_map text (drop (i + 1) items))) (sym is)

-- all texts before an item, and then a prefix of its own
pub in_item : {T : Type 0} (text : T → List ℕ) (items : List T) (i : ℕ) (item : T) (a b c : List ℕ) → i < length items
    → item ≡ get_or items i item → b ≡ a ++ flat_map text (take i items) → AddsPrefix b c (text item)
    → AddsPrefix a c (flat_map text items)
in_item text items i item a b c lt is so_far p =
    subst (AddsPrefix a c) (sym (texts_at text items i item lt is))
    (behind_piece a b c (flat_map text (take i items)) _ so_far (in_front b c (text item) _ p))

-- all texts before an item, and nothing of its own
pub before_item : {T : Type 0} (text : T → List ℕ) (items : List T) (i : ℕ) (a b c : List ℕ)
    → b ≡ a ++ flat_map text (take i items) → c ≡ b → AddsPrefix a c (flat_map text items)
before_item text items i a b c so_far e =
    let parts : flat_map text items ≡ flat_map text (take i items) ++ flat_map text (drop i items)
    = ap (flat_map text) (sym (take-append-drop i items)) ∙ flat_map-append text (take i items) (drop i items) in
    subst (AddsPrefix a c) (sym parts)
    (behind_piece a b c (flat_map text (take i items)) _ so_far (kept b c _ e))

-- what is left behind a prefix, and then a prefix of that
pub onward : (a b c left whole : List ℕ) → AddsPrefix a b whole → b ++ left ≡ a ++ whole → AddsPrefix b c left
    → AddsPrefix a c whole
onward a b c left whole so_far joined p =
    let both : a ++ (so_far.front ++ left) ≡ a ++ (so_far.front ++ so_far.rest)
    = sym (append_assoc a so_far.front left) ∙ ap (λ l. l ++ left) (sym so_far.added) ∙ joined
    ∙ ap (λ l. a ++ l) so_far.split in
    let same : left ≡ so_far.rest = append_cancel_left so_far.front left so_far.rest
    (append_cancel_left a (so_far.front ++ left) (so_far.front ++ so_far.rest) both) in
    subst (AddsPrefix a c) (ap (λ l. so_far.front ++ l) same ∙ sym so_far.split)
    (behind_piece a b c so_far.front left so_far.added p)

-- one more piece of what is left
pub one_more : (a b c piece left whole : List ℕ) → AddsPrefix a b whole → b ++ (piece ++ left) ≡ a ++ whole
    → c ≡ b ++ piece → AddsPrefix a c whole
one_more a b c piece left whole so_far joined e =
    onward a b c (piece ++ left) whole so_far joined (behind_piece b c c piece left e (nothing c left))

-- what holds, holds where a call failed
pub failed : {A E : Type 0} (answer : Result A E) (P : Type 0) → P → OnErr answer P
failed (Ok x) P h = tt
failed (Err e) P h = h

-- what follows where a call failed
pub on_failure : {A E P Q : Type 0} (answer : Result A E) → OnErr answer P → (P → Q) → OnErr answer Q
on_failure (Ok x) h f = tt
on_failure (Err e) h f = f h
