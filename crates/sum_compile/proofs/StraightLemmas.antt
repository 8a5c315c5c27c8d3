-- Stretches of lines that only move and compute.
use Rattle.std.proofs.Common.{◌≡◌, ℕ, zero, suc, ◌+◌, List, [], ◌∷◌, ◌++◌, length, drop, Option, None, Some, slice_get}
use Rattle.std.proofs.Common.{refl, ap, ◌∙◌, arith}
use Rattle.ssa_ir.specs.declared.role.Role.TheVariants.{Computes}
use Rattle.ssa_ir.specs.Roles.{role}
use Rattle.ssa_ir.specs.Inputs.{Inputs}
use Rattle.ssa_ir.specs.Run.{Callees}
use Rattle.listing.specs.declared.line.Line.{Line}
use Rattle.listing.specs.declared.line.Line.TheVariants.{Label, Op as Compute, Move, Nil, Branch, BitBranch, Jump, Call}
use Rattle.listing.specs.declared.line.Line.TheVariants.{Ret, Exit}
use Rattle.listing.specs.declared.line.Place.{Place}
use Rattle.listing.specs.declared.line.Place.TheVariants.{Reg, Out, Arg, Frame, Home, Const, Addr}
use Rattle.listing.specs.declared.code.Code.{Code}
use Rattle.listing.specs.declared.code.Map.{Map}
use Rattle.listing.specs.Machine.{Machine, Onward, run_line, word_at, with_place, with_result, with_computed}
use Rattle.listing.specs.Machine.{run_computing}
use Rattle.listing.specs.ListingRun.{follow, line_at}

-- what a line does that only moves or computes
abbrev pub straight_effect : Inputs → Code → Line → Machine → Machine
straight_effect inputs code (Move to from note) m = with_place to (word_at inputs code from m) m
straight_effect inputs code (Compute op aux o note) m = with_computed op aux o m
straight_effect inputs code _ m = m

-- a line that only moves, or whose op computes a word
abbrev pub IsStraight : Line → Type 0
IsStraight (Move to from note) = Unit {0}
IsStraight (Compute op aux o note) = role op ≡ Computes
IsStraight _ = ⊥

abbrev pub AllStraight : List Line → Type 0
AllStraight [] = Unit {0}
AllStraight (line ∷ lines) = IsStraight line × AllStraight lines

-- the machine after these lines
abbrev pub after : Inputs → Code → List Line → Machine → Machine
after inputs code [] m = m
after inputs code (line ∷ lines) m = after inputs code lines (straight_effect inputs code line m)

pub straight_append : (xs ys : List Line) → AllStraight xs → AllStraight ys → AllStraight (xs ++ ys)
straight_append [] ys p q = q
straight_append (x ∷ xs) ys p q = (p.0, straight_append xs ys p.1 q)

pub after_append : (inputs : Inputs) (code : Code) (xs ys : List Line) (m : Machine)
    → after inputs code (xs ++ ys) m ≡ after inputs code ys (after inputs code xs m)
after_append inputs code [] ys m = refl
after_append inputs code (x ∷ xs) ys m = after_append inputs code xs ys (straight_effect inputs code x m)

pub drop_head : {X : Type 0} (xs : List X) (i : ℕ) (y : X) (ys : List X) → drop i xs ≡ y ∷ ys → slice_get xs i ≡ Some y
drop_head [] zero y ys e = cc
drop_head [] (suc i) y ys e = cc
drop_head (x ∷ xs) zero y ys e = let same : x ≡ y = cc in ap Some same
drop_head (x ∷ xs) (suc i) y ys e = drop_head xs i y ys e

pub drop_tail : {X : Type 0} (xs : List X) (i : ℕ) (y : X) (ys : List X) → drop i xs ≡ y ∷ ys → drop (suc i) xs ≡ ys
drop_tail [] zero y ys e = cc
drop_tail [] (suc i) y ys e = cc
drop_tail (x ∷ xs) zero y ys e = cc
drop_tail (x ∷ xs) (suc i) y ys e = drop_tail xs i y ys e

-- a straight line does its effect, and the next line follows
straight_step : (callees : Callees) (inputs : Inputs) (code : Code) (maps : Option (List Map)) (turn go : Onward)
    (line : Line) (i : ℕ) (m : Machine) → IsStraight line
    → run_line callees inputs code maps turn go line i m ≡ go (suc i) (straight_effect inputs code line m)
straight_step callees inputs code maps turn go (Label b held) i m h = absurd h
straight_step callees inputs code maps turn go (Compute op aux o note) i m h =
    ap (λ r. run_computing r op aux o (go (suc i)) m) h
straight_step callees inputs code maps turn go (Move to from note) i m h = refl
straight_step callees inputs code maps turn go (Nil r note) i m h = absurd h
straight_step callees inputs code maps turn go (Branch c b) i m h = absurd h
straight_step callees inputs code maps turn go (BitBranch set r b) i m h = absurd h
straight_step callees inputs code maps turn go (Jump b) i m h = absurd h
straight_step callees inputs code maps turn go (Call s map note) i m h = absurd h
straight_step callees inputs code maps turn go Ret i m h = absurd h
straight_step callees inputs code maps turn go Exit i m h = absurd h

-- a straight stretch is followed to its end
pub follow_straight : (callees : Callees) (inputs : Inputs) (code : Code) (maps : Option (List Map)) (turn : Onward)
    (lines rest : List Line) (k fuel i : ℕ) (m : Machine)
    → drop i code.lines ≡ lines ++ rest → AllStraight lines → fuel ≡ length lines + k
    → follow callees inputs code maps turn fuel i m
    ≡ follow callees inputs code maps turn k (i + length lines) (after inputs code lines m)
follow_straight callees inputs code maps turn [] rest k fuel i m d h e =
    ap (λ f. follow callees inputs code maps turn f i m) (omega arith)
    ∙ ap (λ j. follow callees inputs code maps turn k j m) (omega arith)
follow_straight callees inputs code maps turn (line ∷ lines) rest k zero i m d h e = absurd (omega arith)
follow_straight callees inputs code maps turn (line ∷ lines) rest k (suc fuel) i m d h e =
    let go = follow callees inputs code maps turn fuel in
    let next = straight_effect inputs code line m in
    ap (λ o. line_at callees inputs code maps turn go o i m) (drop_head code.lines i line (lines ++ rest) d)
    ∙ straight_step callees inputs code maps turn go line i m h.0
    ∙ follow_straight callees inputs code maps turn lines rest k fuel (suc i) next
    (drop_tail code.lines i line (lines ++ rest) d) h.1 (omega arith)
    ∙ ap (λ j. follow callees inputs code maps turn k j (after inputs code lines next)) (omega arith)

placed_memory : (p : Place) (w : ℕ) (m : Machine) → (with_place p w m).memory ≡ m.memory
placed_memory (Reg r) w m = refl
placed_memory (Out j) w m = refl
placed_memory (Arg j) w m = refl
placed_memory (Frame i) w m = refl
placed_memory (Home v) w m = refl
placed_memory (Const c) w m = refl
placed_memory (Addr s) w m = refl

placed_since : (p : Place) (w : ℕ) (m : Machine) → (with_place p w m).since ≡ m.since
placed_since (Reg r) w m = refl
placed_since (Out j) w m = refl
placed_since (Arg j) w m = refl
placed_since (Frame i) w m = refl
placed_since (Home v) w m = refl
placed_since (Const c) w m = refl
placed_since (Addr s) w m = refl

result_memory : (m : Machine) (dst : Option ℕ) (w : ℕ) → (with_result m dst w).memory ≡ m.memory
result_memory m None w = refl
result_memory m (Some r) w = refl

result_since : (m : Machine) (dst : Option ℕ) (w : ℕ) → (with_result m dst w).since ≡ m.since
result_since m None w = refl
result_since m (Some r) w = refl

effect_memory : (inputs : Inputs) (code : Code) (line : Line) (m : Machine) → IsStraight line
    → (straight_effect inputs code line m).memory ≡ m.memory
effect_memory inputs code (Move to from note) m h = placed_memory to _ m
effect_memory inputs code (Compute op aux o note) m h = result_memory m o.dst _
effect_memory inputs code (Label b held) m h = absurd h
effect_memory inputs code (Nil r note) m h = absurd h
effect_memory inputs code (Branch c b) m h = absurd h
effect_memory inputs code (BitBranch set r b) m h = absurd h
effect_memory inputs code (Jump b) m h = absurd h
effect_memory inputs code (Call s map note) m h = absurd h
effect_memory inputs code Ret m h = absurd h
effect_memory inputs code Exit m h = absurd h

effect_since : (inputs : Inputs) (code : Code) (line : Line) (m : Machine) → IsStraight line
    → (straight_effect inputs code line m).since ≡ m.since
effect_since inputs code (Move to from note) m h = placed_since to _ m
effect_since inputs code (Compute op aux o note) m h = result_since m o.dst _
effect_since inputs code (Label b held) m h = absurd h
effect_since inputs code (Nil r note) m h = absurd h
effect_since inputs code (Branch c b) m h = absurd h
effect_since inputs code (BitBranch set r b) m h = absurd h
effect_since inputs code (Jump b) m h = absurd h
effect_since inputs code (Call s map note) m h = absurd h
effect_since inputs code Ret m h = absurd h
effect_since inputs code Exit m h = absurd h

-- a straight stretch keeps the memory, and that from which changes are counted
pub after_memory : (inputs : Inputs) (code : Code) (lines : List Line) (m : Machine) → AllStraight lines
    → (after inputs code lines m).memory ≡ m.memory
after_memory inputs code [] m h = refl
after_memory inputs code (line ∷ lines) m h =
    after_memory inputs code lines (straight_effect inputs code line m) h.1 ∙ effect_memory inputs code line m h.0

pub after_since : (inputs : Inputs) (code : Code) (lines : List Line) (m : Machine) → AllStraight lines
    → (after inputs code lines m).since ≡ m.since
after_since inputs code [] m h = refl
after_since inputs code (line ∷ lines) m h =
    after_since inputs code lines (straight_effect inputs code line m) h.1 ∙ effect_since inputs code line m h.0
