-- No values of a narrow function wait for each other: an item stands before those of higher numbers alone.
use Rattle.std.proofs.Common.{◌≡◌, ℕ, suc, ◌+◌, ◌<◌, Bool, true, false, true≢false, not, ◌&&◌, ◌||◌, eqb, List}
use Rattle.std.proofs.Common.{[], ◌∷◌, length, All, None, refl, sym, ap, subst, ◌∙◌, arith}
use Rattle.std.specs.List.{Contains}
use Rattle.std.proofs.lemmas.Bool.{eqb-true}
use Rattle.std.proofs.lemmas.List.Elements.{All-contains, All-filter}
use Rattle.ssa_ir.specs.declared.func.SsaUnit.{SsaUnit}
use Rattle.ssa_ir.specs.declared.func.Value.{Value}
use Rattle.ssa_ir.specs.FirstOrder.{has_value, item, memory_taken, readers_before, same_memory}
use Rattle.ssa_ir.specs.OpKinds.{is_phi, reads_memory}
use Rattle.ssa_check.specs.declared.refusal.Check.TheVariants.{Cycle}
use Rattle.ssa_ir.specs.Cycles.{IsWalk, OnCycle, follows_a_call, leaders, stands_before}
use Rattle.ssa_check.specs.Failing.{Meets}
use Rattle.sum_compile.specs.Narrow.{Step, TakeArg, MakeConst, AddTwo, vid, step_value, init_value, result_value}
use Rattle.sum_compile.specs.Narrow.{block_of, func_of, IsAbove, StepFits, StepsFit}
use Rattle.sum_compile.proofs.NarrowChecks.{each_value, narrow_meets}
use Rattle.sum_compile.proofs.NarrowLemmas.{none_kept, takes_other}

-- a value is an item by itself, and those that stand before it have lower numbers
record Rises (block : List Value) (v : Value) : Type 0 where
  alone : item block v ≡ v ∷ []
  behind : (w : Value) → item block w ≡ w ∷ [] → stands_before block w v ≡ true → w.id.0 < v.id.0

-- nothing stands before the first value: it takes no value, and no memory that another one could read
init_rises : (block : List Value) → Rises block init_value
init_rises block = record { alone = refl; behind = none }
  where
    readers : readers_before block init_value ≡ []
    readers =
        none_kept (λ r. reads_memory r.op && same_memory (memory_taken r.op r.args) None)
        (λ r. takes_other (reads_memory r.op) (memory_taken r.op r.args)) block

    none : (w : Value) → item block w ≡ w ∷ [] → stands_before block w init_value ≡ true → w.id.0 < 1
    none w alone stands = absurd (true≢false (sym stands ∙ ap (λ l. has_value l w.id) readers))

-- whether a value that takes two others takes one of these
abbrev takes_one_of : List Value → (a b : ℕ) → Bool
takes_one_of item a b = (has_value item (vid a) && true) || ((has_value item (vid b) && true) || false)

-- a value that one of two arguments takes has a lower number than it
taken_below : (w : Value) (a b n : ℕ) (p q : Bool) → eqb w.id.0 a ≡ p → eqb w.id.0 b ≡ q → a < n → b < n
    → (((((p || false) && true) || (((q || false) && true) || false)) || false) || false) ≡ true → w.id.0 < n
taken_below w a b n true q at bt low lower h = omega (arith, low, eqb-true w.id.0 a at)
taken_below w a b n false true at bt low lower h = omega (arith, lower, eqb-true w.id.0 b bt)
taken_below w a b n false false at bt low lower h = cc

-- so has each one that stands before it
two_behind : (w : Value) (item : List Value) (a b n : ℕ) → a < n → b < n → item ≡ w ∷ []
    → ((takes_one_of item a b || false) || false) ≡ true → w.id.0 < n
two_behind w item a b n low lower alone h =
    taken_below w a b n (eqb w.id.0 a) (eqb w.id.0 b) refl refl low lower
    (subst (λ l. ((takes_one_of l a b || false) || false) ≡ true) alone h)

step_rises : (block : List Value) (params n : ℕ) (s : Step) → StepFits params n s → Rises block (step_value n s)
step_rises block params n (TakeArg i) fits =
    record { alone = refl; behind = λ w alone stands. absurd (true≢false (sym stands)) }
step_rises block params n (MakeConst c) fits =
    record { alone = refl; behind = λ w alone stands. absurd (true≢false (sym stands)) }
step_rises block params n (AddTwo a b) fits =
    let low = fits.0.above in
    let lower = fits.1.above in
    record { alone = refl; behind = λ w alone stands. two_behind w (item block w) a b n low lower alone stands }

result_rises : (block : List Value) (n r : ℕ) → 1 < n → r < n → Rises block (result_value n r)
result_rises block n r two above =
    record { alone = refl; behind = λ w alone stands. two_behind w (item block w) r 1 n above two alone stands }

-- each value of a narrow function is so
all_rise : (params : ℕ) (steps : List Step) (r : ℕ) → StepsFit params 2 steps → IsAbove (length steps + 2) r
    → All (Rises (block_of steps r).values) (block_of steps r).values
all_rise params steps r fit above =
    let block = (block_of steps r).values in
    each_value (Rises block) params steps r fit (init_rises block)
    (λ i s at fits. step_rises block params (2 + i) s fits)
    (result_rises block (length steps + 2) r (omega arith) above.above)

-- so numbers rise along a walk
walk_rises : (block : List Value) → All (Rises block) (leaders block)
    → (x : Value) (rest : List Value) (last : Value)
    → All (Contains (leaders block)) (x ∷ rest) → Rises block last → IsWalk block x rest last → x.id.0 < last.id.0
walk_rises block all x [] last items rises walk =
    rises.behind x (All-contains (Rises block) (leaders block) x all (items 0 x (omega arith))).alone walk
walk_rises block all x (y ∷ rest) last items rises walk =
    let this = All-contains (Rises block) (leaders block) x all (items 0 x (omega arith)) in
    let next = All-contains (Rises block) (leaders block) y all (items 1 y (omega arith)) in
    let one : x.id.0 < y.id.0 = next.behind x this.alone walk.0 in
    let more = walk_rises block all y rest last (λ k d lt. items (suc k) d (omega (arith, lt))) rises walk.1 in
    omega (arith, one, more)

-- and none comes back to its first
no_cycle : (block : List Value) → All (Rises block) block → (v : Value) → OnCycle block v → ⊥
no_cycle block all v on =
    let items = All-filter (λ w. not (is_phi w.op) && not (follows_a_call block w)) (Rises block) block all in
    let first =
    All-contains (Rises block) (leaders block) on.leader items (on.cycle.are_items 0 on.leader (omega arith)) in
    let up = walk_rises block items on.leader on.cycle.rest on.leader on.cycle.are_items first on.cycle.is_walk in
    omega (arith, up)

pub cycle_met : (u : SsaUnit) (name : List ℕ) (params : ℕ) (steps : List Step) (r : ℕ) → StepsFit params 2 steps
    → IsAbove (length steps + 2) r → Meets Cycle u (func_of name params steps r)
cycle_met u name params steps r fit above =
    let block = (block_of steps r).values in
    let all = all_rise params steps r fit above in
    narrow_meets Cycle u name params steps r (λ fails. fails) (λ fails. fails) (λ k d lt on. no_cycle block all _ on)
