-- Runs with a larger bound: what ended stays as it was.
use Rattle.std.proofs.Common.{◌≡◌, ℕ, ℤ, zero, suc, ◌+◌, ◌≤◌, true, false, cond, eqb, List, ◌∷◌, length, Option, None}
use Rattle.std.proofs.Common.{Some, slice_get, refl, ap, ◌∙◌, add-one, arith}
use Rattle.gossa_base.specs.declared.ids.ValueId.{ValueId}
use Rattle.gossa_base.specs.declared.ids.BlockId.{BlockId}
use Rattle.ssa_ir.specs.declared.case.End.TheVariants.{Going}
use Rattle.ssa_ir.specs.declared.case.Shown.{Shown}
use Rattle.ssa_ir.specs.declared.op.Op.{Op}
use Rattle.ssa_ir.specs.Inputs.{Inputs}
use Rattle.ssa_ir.specs.declared.role.Role.{Role}
use Rattle.ssa_ir.specs.declared.role.Role.TheVariants.{Computes, Compares, TakesParameter, TakesAddress, Loads}
use Rattle.ssa_ir.specs.declared.role.Role.TheVariants.{Stores, ChecksNil, Calls, Rests}
use Rattle.ssa_ir.specs.Roles.{role}
use Rattle.ssa_ir.specs.Run.{Callees, is_set}
use Rattle.ssa_ir.specs.Showing.{ends}
use Rattle.ssa_ir.proofs.RunLemmas.{Stays, stays_either}
use Rattle.listing.specs.declared.line.Line.{Line}
use Rattle.listing.specs.declared.line.Line.TheVariants.{Label, Op as Compute, Move, Nil, Branch, BitBranch, Jump, Call}
use Rattle.listing.specs.declared.line.Line.TheVariants.{Ret, Exit}
use Rattle.listing.specs.declared.line.Operands.{Operands}
use Rattle.listing.specs.declared.code.Code.{Code}
use Rattle.listing.specs.declared.code.Map.{Map}
use Rattle.listing.specs.declared.code.Listing.{Listing}
use Rattle.listing.specs.Frame.{frame_words}
use Rattle.listing.specs.Machine.{Machine, Onward, word_at, with_place, with_computed, with_flags, run_computing}
use Rattle.listing.specs.Machine.{label_from}
use Rattle.listing.specs.Machine.{at_place, jumps, run_line}
use Rattle.listing.specs.ListingRun.{begun, line_at, follow, turns, run_listing}

-- wherever the first way ended within its bound, the second is the same
abbrev StaysOnward : Onward → Onward → Type 0
StaysOnward go more = (i : ℕ) (m : Machine) → Stays (go i m) (more i m)

at_place_stays : (go more : Onward) (m : Machine) (i : Option ℕ) → StaysOnward go more
    → Stays (at_place go m i) (at_place more m i)
at_place_stays go more m None h = λ _. refl
at_place_stays go more m (Some i) h = h i m

jumps_stay : (code : Code) (go more : Onward) (b : BlockId) (m : Machine) → StaysOnward go more
    → Stays (jumps code go b m) (jumps code more b m)
jumps_stay code go more b m h = at_place_stays go more m (label_from 0 b code.lines) h

computing_stays : (r : Role) (op : Op) (aux : ℤ) (o : Operands) (go more : Machine → Shown) (m : Machine)
    → ((k : Machine) → Stays (go k) (more k)) → Stays (run_computing r op aux o go m) (run_computing r op aux o more m)
computing_stays Computes op aux o go more m h = h (with_computed op aux o m)
computing_stays Compares op aux o go more m h = h (with_flags op aux o m)
computing_stays TakesParameter op aux o go more m h = h m
computing_stays TakesAddress op aux o go more m h = λ _. refl
computing_stays Loads op aux o go more m h = λ _. refl
computing_stays Stores op aux o go more m h = λ _. refl
computing_stays ChecksNil op aux o go more m h = λ _. refl
computing_stays Calls op aux o go more m h = λ _. refl
computing_stays Rests op aux o go more m h = h m

line_stays : (callees : Callees) (inputs : Inputs) (code : Code) (maps : Option (List Map))
    (turn later go more : Onward) (line : Line)
    → StaysOnward turn later → StaysOnward go more
    → StaysOnward (run_line callees inputs code maps turn go line) (run_line callees inputs code maps later more line)
line_stays callees inputs code maps turn later go more (Label b held) t h i m =
    stays_either b.split _ _ _ _ (h (suc i) m) (t (suc i) m)
line_stays callees inputs code maps turn later go more (Compute op aux o note) t h i m =
    computing_stays (role op) op aux o (go (suc i)) (more (suc i)) m (h (suc i))
line_stays callees inputs code maps turn later go more (Move to from note) t h i m =
    h (suc i) (with_place to (word_at inputs code from m) m)
line_stays callees inputs code maps turn later go more (Nil r note) t h i m =
    stays_either (eqb (m.registers r) 0) _ _ _ _ (λ _. refl) (h (suc i) m)
line_stays callees inputs code maps turn later go more (Branch c b) t h i m = λ _. refl
line_stays callees inputs code maps turn later go more (BitBranch true r b) t h i m =
    stays_either (is_set (m.registers r)) _ _ _ _ (jumps_stay code go more b m h) (h (suc i) m)
line_stays callees inputs code maps turn later go more (BitBranch false r b) t h i m =
    stays_either (is_set (m.registers r)) _ _ _ _ (h (suc i) m) (jumps_stay code go more b m h)
line_stays callees inputs code maps turn later go more (Jump b) t h i m = jumps_stay code go more b m h
line_stays callees inputs code maps turn later go more (Call s map note) t h i m = λ _. refl
line_stays callees inputs code maps turn later go more Ret t h i m = λ _. refl
line_stays callees inputs code maps turn later go more Exit t h i m = λ _. refl

line_at_stays : (callees : Callees) (inputs : Inputs) (code : Code) (maps : Option (List Map))
    (turn later go more : Onward) (line : Option Line)
    → StaysOnward turn later → StaysOnward go more
    → StaysOnward (line_at callees inputs code maps turn go line) (line_at callees inputs code maps later more line)
line_at_stays callees inputs code maps turn later go more None t h i m = λ _. refl
line_at_stays callees inputs code maps turn later go more (Some line) t h i m =
    line_stays callees inputs code maps turn later go more line t h i m

follow_stays : (callees : Callees) (inputs : Inputs) (code : Code) (maps : Option (List Map)) (turn later : Onward)
    (k : ℕ) → StaysOnward turn later
    → StaysOnward (follow callees inputs code maps turn k) (follow callees inputs code maps later k)
follow_stays callees inputs code maps turn later zero t i m = λ _. refl
follow_stays callees inputs code maps turn later (suc k) t i m =
    line_at_stays callees inputs code maps turn later (follow callees inputs code maps turn k)
    (follow callees inputs code maps later k)
    (slice_get code.lines i) t (follow_stays callees inputs code maps turn later k t) i m

turns_stay : (callees : Callees) (inputs : Inputs) (code : Code) (maps : Option (List Map)) (n k : ℕ) → n ≤ k
    → StaysOnward (turns callees inputs code maps n) (turns callees inputs code maps k)
turns_stay callees inputs code maps zero k le i m = λ going. absurd (going refl)
turns_stay callees inputs code maps (suc n) zero le i m = absurd (omega arith)
turns_stay callees inputs code maps (suc n) (suc k) le i m =
    follow_stays callees inputs code maps (turns callees inputs code maps n) (turns callees inputs code maps k)
    (length code.lines + 1)
    (turns_stay callees inputs code maps n k (omega arith)) i m

pub ended_stays : (callees : Callees) (inputs : Inputs) (l : Listing) (n m : ℕ) → n ≤ m
    → Stays (run_listing callees inputs l n) (run_listing callees inputs l m)
ended_stays callees inputs l n m le =
    follow_stays callees inputs l.code (Some l.maps) (turns callees inputs l.code (Some l.maps) n)
    (turns callees inputs l.code (Some l.maps) m)
    (length l.code.lines + 1) (turns_stay callees inputs l.code (Some l.maps) n m le) 0
    (begun inputs l.code (frame_words l))

-- the label of a counted block is a turn
label_turns : (callees : Callees) (inputs : Inputs) (code : Code) (maps : Option (List Map)) (turn : Onward) (k : ℕ)
    (b : BlockId)
    (held : List (ℕ × ValueId)) (lines : List Line) (m : Machine)
    → code.lines ≡ Label b held ∷ lines → b.split ≡ false → follow callees inputs code maps turn (k + 1) 0 m ≡ turn 1 m
label_turns callees inputs code maps turn k b held lines m first counted =
    ap (λ n. follow callees inputs code maps turn n 0 m) (add-one k)
    ∙ ap (λ ls. line_at callees inputs code maps turn (follow callees inputs code maps turn k) (slice_get ls 0) 0 m)
    first
    ∙ ap (λ c. cond c (follow callees inputs code maps turn k 1 m) (turn 1 m)) counted

pub zero_goes_on : (callees : Callees) (inputs : Inputs) (l : Listing) (b : BlockId) (held : List (ℕ × ValueId))
    (lines : List Line)
    → l.code.lines ≡ Label b held ∷ lines → b.split ≡ false → run_listing callees inputs l 0 ≡ ends Going
zero_goes_on callees inputs l b held lines first counted =
    label_turns callees inputs l.code (Some l.maps) (turns callees inputs l.code (Some l.maps) 0) (length l.code.lines)
    b held lines
    (begun inputs l.code (frame_words l)) first counted
