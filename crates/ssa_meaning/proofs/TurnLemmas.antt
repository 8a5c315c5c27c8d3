-- Turns of a run, one after the other, and what a run asks of each block of a well-formed function.
use Rattle.std.proofs.Common.{◌≡◌, ◌<◌, ◌+◌, ◌-◌, ℕ, zero, suc, false, cond, IsTrue, IsSome, List, [], ◌∷◌, ◌++◌}
use Rattle.std.proofs.Common.{length, drop, slice_get, slice_index_or, Option, Some, refl, sym, ap, subst, ◌∙◌, arith}
use Rattle.std.specs.List.{All, flat_map}
use Rattle.std.proofs.lemmas.List.{append-nil}
use Rattle.std.proofs.lemmas.Option.{get_or_from_slice_get, slice_get_within}
use Rattle.ssa_ir.specs.declared.case.CallShown.{CallShown}
use Rattle.ssa_ir.specs.declared.case.End.{End}
use Rattle.ssa_ir.specs.declared.case.End.TheVariants.{Stuck}
use Rattle.ssa_ir.specs.declared.case.Shown.{Shown}
use Rattle.ssa_ir.specs.declared.func.Block.{Block}
use Rattle.ssa_ir.specs.declared.func.Func.{Func}
use Rattle.ssa_ir.specs.declared.func.Value.{Value}
use Rattle.ssa_ir.specs.declared.op.Op.{Op}
use Rattle.ssa_ir.specs.declared.op.Op.TheVariants.{Addr, Arm64CALLstatic, Arm64MOVDaddr, StaticLECall}
use Rattle.ssa_ir.specs.FirstOrder.{first_order}
use Rattle.ssa_ir.specs.Inputs.{Inputs}
use Rattle.ssa_ir.specs.Lookups.{values_of}
use Rattle.ssa_ir.specs.Ops.{row_of}
use Rattle.ssa_ir.specs.Roles.{role}
use Rattle.ssa_ir.specs.Phis.{entered}
use Rattle.ssa_ir.specs.Run.{Callees, Form, State, generic, run_values, run_control, run_block, to_counted, turns}
use Rattle.ssa_ir.specs.Showing.{ends}
use Rattle.ssa_ir.specs.WellFormed.{HasItsSymbol, WellFormedValue, WellFormedFunc}
use Rattle.ssa_meaning.specs.declared.control.Onward.{Onward}
use Rattle.ssa_meaning.specs.declared.control.Onward.TheVariants.{Enters}
use Rattle.ssa_meaning.specs.declared.ready.Way.{Way}
use Rattle.ssa_meaning.specs.tables.Onward.{onward_shown, Further, enters, Turned}
use Rattle.ssa_meaning.specs.tables.Ran.{behind, next_shown, next_of, Ran}
use Rattle.ssa_meaning.specs.tables.Runnable.{names_symbol, HasItsName, IsRunnable}
use Rattle.ssa_meaning.proofs.ApartLemmas.{are_apart, block_apart}

-- what holds of all holds of the one at a place
pub all_at : {X : Type 0} (P : X → Type 0) (xs : List X) (i : ℕ) (x : X) → All P xs → slice_get xs i ≡ Some x → P x
all_at P xs i x h at = subst P (get_or_from_slice_get xs i x x at) (h i x (slice_get_within xs i x at))

all_front : (P : Value → Type 0) (xs ys : List Value) → All P (xs ++ ys) → All P xs
all_front P [] ys h = λ k d lt. absurd (omega (arith, lt))
all_front P (x ∷ xs) ys h = go (all_front P xs ys (λ j e less. h (suc j) e (omega (arith, less))))
  where
    first : P x
    first = h 0 x (omega arith)

    go : All P xs → (k : ℕ) (d : Value) → k < length (x ∷ xs) → P (slice_index_or (x ∷ xs) k d)
    go rest zero d lt = first
    go rest (suc k) d lt = rest k d (omega (arith, lt))

all_back : (P : Value → Type 0) (xs ys : List Value) → All P (xs ++ ys) → All P ys
all_back P [] ys h = h
all_back P (x ∷ xs) ys h = all_back P xs ys (λ j e less. h (suc j) e (omega (arith, less)))

-- what holds of all values of blocks holds of those of each
pub block_all : (P : Value → Type 0) (blocks : List Block) (i : ℕ) (b : Block)
    → All P (flat_map (λ c. c.values) blocks)
    → slice_get blocks i ≡ Some b → All P b.values
block_all P [] i b h at = cc
block_all P (c ∷ blocks) zero b h at =
    let same : c ≡ b = cc in
    subst (λ x. All P x.values) same (all_front P c.values (flat_map (λ x. x.values) blocks) h)
block_all P (c ∷ blocks) (suc i) b h at = block_all P blocks i b
    (all_back P c.values (flat_map (λ x. x.values) blocks) h) at

-- calls and addresses have symbols
named_op : (op : Op) (sym : Option (List ℕ)) → HasItsSymbol (row_of op).aux sym → IsTrue (names_symbol (role op))
    → IsSome sym
named_op StaticLECall sym h t = h
named_op Addr sym h t = h
named_op Arm64CALLstatic sym h t = h
named_op Arm64MOVDaddr sym h t = h
named_op _ sym h t = absurd (cc)

has_its_name : (v : Value) → WellFormedValue v → HasItsName v
has_its_name v w = λ t. named_op v.op v.sym w.symbol t

-- each block of a well-formed function can be run where the table has room
pub runnable : (f : Func) (i room : ℕ) (b : Block) → WellFormedFunc f
    → All (λ (v : Value). v.id.0 < room) (values_of f)
    → slice_get f.blocks i ≡ Some b → IsRunnable room b
runnable f i room b wf below at = record {
  apart = block_apart f.blocks i b (are_apart (values_of f) wf.values_differ) at;
  below = block_all (λ v. v.id.0 < room) f.blocks i b below at;
  named = block_all HasItsName f.blocks i b (λ k d lt. has_its_name (slice_index_or (values_of f) k d)
      (wf.each_value k d lt)) at;
  counted = all_at (λ c. c.id.split ≡ false) f.blocks i b wf.unsplit at;
}

-- a block on no split edge takes its turn at once
counted : (form : Form) (inputs : Inputs) (f : Func) (go : Further) (k : ℕ) (b : Block) (edge : Option ℕ) (s : State)
    → b.id.split ≡ false → to_counted form inputs f go k b edge s ≡ go b edge s
counted form inputs f go zero b edge s e = ap (λ c. cond c (ends Stuck) (go b edge s)) e
counted form inputs f go (suc k) b edge s e =
    ap (λ c. cond c (run_block form inputs f (to_counted form inputs f go k) b edge s) (go b edge s)) e

-- one turn fewer is left
pub one_fewer : (n i : ℕ) → i < n → n - i ≡ suc (n - (i + 1))
one_fewer n i lt = omega (arith, lt)

-- an item that is there
pub item_there : {X : Type 0} (xs : List X) (i : ℕ) → i < length xs → (x : X) × (slice_get xs i ≡ Some x)
item_there [] i lt = absurd (omega (arith, lt))
item_there (x ∷ xs) zero lt = (x, refl)
item_there (x ∷ xs) (suc i) lt = item_there xs i (omega (arith, lt))

-- what comes behind a turn: the blocks on split edges up to the next counted block, and the turns from there
abbrev pub Later : Form → Inputs → Func → ℕ → Further
Later form inputs f n = to_counted form inputs f (turns form inputs f n) (length f.blocks)

-- a turn was taken
pub turn_taken : (form : Form) (inputs : Inputs) (f : Func) (whole : Shown) (n i k : ℕ) (edge : Option ℕ) (s t : State)
    (before after : List CallShown) (got o : Onward) → i < n → k < length f.blocks
    → ((b : Block) → slice_get f.blocks k ≡ Some b → whole ≡ behind before (turns form inputs f (n - i) b edge s))
    → ((b : Block) → slice_get f.blocks k ≡ Some b
    → Turned f (λ go. run_block form inputs f go b edge s) before after got t)
    → got ≡ o → whole ≡ behind after (onward_shown f o (Later form inputs f (n - (i + 1))) t)
turn_taken form inputs f whole n i k edge s t before after got o fewer within ran turned same =
    let here : (b : Block) × (slice_get f.blocks k ≡ Some b) = item_there f.blocks k within in
    ran here.0 here.1 ∙ ap (λ m. behind before (turns form inputs f m here.0 edge s)) (one_fewer n i fewer)
    ∙ subst (λ x. Turned f (λ go. run_block form inputs f go here.0 edge s) before after x t) same
    (turned here.0 here.1) (Later form inputs f (n - (i + 1)))

-- behind a turn that enters a counted block come the turns from there
pub enters_next : (form : Form) (inputs : Inputs) (f : Func) (n : ℕ) (next : Block) (w : Way) (t : State)
    (after : List CallShown) → WellFormedFunc f → slice_get f.blocks w.block ≡ Some next
    → behind after (onward_shown f (Enters w) (Later form inputs f n) t)
    ≡ behind after (turns form inputs f n next (Some w.edge) t)
enters_next form inputs f n next w t after wf at =
    ap (λ o. behind after (enters (Later form inputs f n) w.edge t o)) at
    ∙ ap (behind after)
    (counted form inputs f (turns form inputs f n) (length f.blocks) next (Some w.edge) t
    (all_at (λ c. c.id.split ≡ false) f.blocks w.block next wf.unsplit at))

-- the calls that were shown, and then an end
pub shown_end : (calls : List CallShown) (e : End) → (let s : Shown = record { calls = calls; end = e } in s)
    ≡ behind calls (ends e)
shown_end calls e = ap (λ l. record { calls = l; end = e }) (sym (append-nil calls))

-- a block was entered and its values were run: its control comes next, or the run is over
pub block_ran : (callees : Callees) (inputs : Inputs) (f : Func) (b : Block) (edge : Option ℕ) (s m t : State)
    (before middle after : List CallShown) (over : Option End) (go : Further)
    → m ≡ record s { words = entered b.values edge s.words } → middle ≡ before
    → Ran (run_values (generic callees) inputs b.values (first_order b.values) m) middle after (next_of over) t
    → behind before (run_block (generic callees) inputs f go b edge s)
    ≡ behind after (next_shown (next_of over) t (run_control (generic callees) f go b b.kind))
block_ran callees inputs f b edge s m t before middle after over go same quiet ran =
    let control : State → Shown = run_control (generic callees) f go b b.kind in
    ap (λ l. behind l (run_block (generic callees) inputs f go b edge s)) (sym quiet)
    ∙ ap (λ x. behind middle (run_values (generic callees) inputs b.values (first_order b.values) x control))
    (sym same)
    ∙ ran control

pub none_dropped : {X : Type 0} (xs : List X) → drop 0 xs ≡ xs
none_dropped [] = refl
none_dropped (x ∷ xs) = refl
