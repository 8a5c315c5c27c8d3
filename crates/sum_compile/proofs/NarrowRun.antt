-- What the run of a narrow function shows.
use Rattle.std.proofs.Common.{◌≡◌, ℕ, zero, suc, ◌+◌, ◌<◌, Bool, true, false, not, ◌&&◌, ◌||◌, cond, eqb, List, [], ◌∷◌}
use Rattle.std.proofs.Common.{◌++◌, length, slice_get, None, Some, refl, sym, ap, ◌∙◌, subst, arith}
use Rattle.std.proofs.Math.Bool.{or-true}
use Rattle.std.specs.List.{filter, list_all}
use Rattle.std.proofs.lemmas.Bool.{eqb-false}
use Rattle.std.proofs.lemmas.List.Folds.{list_any-append}
use Rattle.gossa_base.specs.Memory.{changed}
use Rattle.gossa_base.specs.Words.{low, word_of}
use Rattle.gossa_base.specs.declared.ids.ValueId.{ValueId}
use Rattle.ssa_ir.specs.declared.types.Scalar.TheVariants.{I64}
use Rattle.ssa_ir.specs.declared.func.Value.{Value}
use Rattle.ssa_ir.specs.declared.func.Block.{Block}
use Rattle.ssa_ir.specs.declared.func.Func.{Func}
use Rattle.ssa_ir.specs.declared.case.End.TheVariants.{Returned, Going}
use Rattle.ssa_ir.specs.declared.case.Shown.{Shown}
use Rattle.ssa_ir.specs.FirstOrder.{memory_taken, same_memory, same_value, has_value, is_placed, readers_before}
use Rattle.ssa_ir.specs.FirstOrder.{is_ready, ready_or_later, split_ready, item, next_then, placed_next, first_order}
use Rattle.ssa_ir.specs.OpKinds.{is_phi, is_follower, reads_memory}
use Rattle.ssa_ir.specs.Inputs.{Inputs, argument}
use Rattle.ssa_ir.specs.Lookups.{value_named}
use Rattle.ssa_ir.specs.Run.{Callees, State, put, with_word, generic, result_words, run_values, begun, run}
use Rattle.ssa_ir.specs.Showing.{ends, words_at}
use Rattle.sum_compile.specs.Narrow.{Step, TakeArg, MakeConst, AddTwo, vid, step_value, init_value, result_value}
use Rattle.sum_compile.specs.Narrow.{values_from, block_of, func_of, IsAbove, StepFits, StepsFit, Narrow}
use Rattle.sum_compile.proofs.NarrowLemmas.{none_kept, result_named, step_number, takes_other}
use Rattle.sum_compile.proofs.NumberedLemmas.{same_number, other_number}

-- a value that may come next, at its place in text order and alone
pub record ComesNext (block placed : List Value) (v : Value) : Type 0 where
  pub ready : is_ready block placed v ≡ true
  pub no_phi : is_phi v.op ≡ false
  pub no_follower : is_follower v.op ≡ false
  pub alone : item block v ≡ v ∷ []

-- each value may come next where it stands
abbrev InOrder : (block placed rest : List Value) → Type 0
InOrder block placed [] = Unit {0}
InOrder block placed (v ∷ rest) = ComesNext block placed v × InOrder block (placed ++ v ∷ []) rest

-- so no value goes to the front
no_phis : (block placed values : List Value) → InOrder block placed values → filter (λ v. is_phi v.op) values ≡ []
no_phis block placed [] h = refl
no_phis block placed (v ∷ values) h =
    let rest = filter (λ (u : Value). is_phi u.op) values in
    ap (λ b. cond b (v ∷ rest) rest) h.0.no_phi ∙ no_phis block (placed ++ v ∷ []) values h.1

-- and all values are placed one by one
all_others : (block placed values : List Value) → InOrder block placed values
    → filter (λ v. not (is_follower v.op) && not (is_phi v.op)) values ≡ values
all_others block placed [] h = refl
all_others block placed (v ∷ values) h =
    let rest = filter (λ (u : Value). not (is_follower u.op) && not (is_phi u.op)) values in
    ap (λ b. cond (not b && not (is_phi v.op)) (v ∷ rest) rest) h.0.no_follower
    ∙ ap (λ b. cond (not b) (v ∷ rest) rest) h.0.no_phi
    ∙ ap (λ l. v ∷ l) (all_others block (placed ++ v ∷ []) values h.1)

-- values in order are placed in that order
placed_in_order : (block placed rest : List Value) → InOrder block placed rest
    → placed_next (length rest) block placed rest ≡ rest
placed_in_order block placed [] h = refl
placed_in_order block placed (v ∷ rest) h =
    let go : Value → List Value → List Value =
    λ u others. placed_next (length rest) block (placed ++ item block u) others in
    ap (λ b. next_then block go (ready_or_later v rest b (split_ready block placed rest))) h.0.ready
    ∙ ap (λ l. l ++ placed_next (length rest) block (placed ++ l) rest) h.0.alone
    ∙ ap (λ l. v ∷ l) (placed_in_order block (placed ++ v ∷ []) rest h.1)

-- the first order of values in order is that order
kept_in_order : (values : List Value) → InOrder values [] values → first_order values ≡ values
kept_in_order values h =
    let rest = filter (λ (v : Value). not (is_follower v.op) && not (is_phi v.op)) values in
    ap (λ phis. phis ++ placed_next (length rest) values phis rest) (no_phis values [] values h)
    ∙ ap (λ others. placed_next (length others) values [] others) (all_others values [] values h)
    ∙ placed_in_order values [] values h

-- the values placed have all numbers from 1 on below n
abbrev HasBelow : List Value → ℕ → Type 0
HasBelow placed n = (k : ℕ) → 0 < k → k < n → has_value placed (vid k) ≡ true

-- one more value
one_more : (placed : List Value) (n : ℕ) (v : Value) → v.id.0 ≡ n → HasBelow placed n
    → HasBelow (placed ++ v ∷ []) (suc n)
one_more placed n v e h k positive lt =
    list_any-append (λ u. same_value u.id (vid k)) placed (v ∷ []) ∙ go (eqb v.id.0 k) refl
  where
    go : (b : Bool) → eqb v.id.0 k ≡ b → (has_value placed (vid k) || (b || false)) ≡ true
    go true t = or-true (has_value placed (vid k))
    go false t =
        let other : v.id.0 ≡ k → ⊥ = eqb-false v.id.0 k t in
        ap (λ c. c || false) (h k positive (omega arith))

-- an argument that is placed
placed_arg : (block placed : List Value) (n k : ℕ) → HasBelow placed n → 0 < k → k < n
    → is_placed block placed (vid k) ≡ true
placed_arg block placed n k h positive lt =
    ap (λ c. not (has_value block (vid k)) || c) (h k positive lt) ∙ or-true (not (has_value block (vid k)))

-- two arguments that are placed
placed_two : (block placed : List Value) (n a b : ℕ) → HasBelow placed n → 0 < a → a < n → 0 < b → b < n
    → list_all (is_placed block placed) (vid a ∷ vid b ∷ []) ≡ true
placed_two block placed n a b h la lta lb ltb =
    ap (λ x. x && (is_placed block placed (vid b) && true)) (placed_arg block placed n a h la lta)
    ∙ ap (λ x. x && true) (placed_arg block placed n b h lb ltb)

-- the value of a step that fits comes next
step_next : (block placed : List Value) (params n : ℕ) (s : Step) → StepFits params n s → HasBelow placed n
    → ComesNext block placed (step_value n s)
step_next block placed params n (TakeArg i) fits h =
    record { ready = refl; no_phi = refl; no_follower = refl; alone = refl }
step_next block placed params n (MakeConst c) fits h =
    record { ready = refl; no_phi = refl; no_follower = refl; alone = refl }
step_next block placed params n (AddTwo a b) fits h = record {
  ready = ap (λ x. x && true) (placed_two block placed n a b h (omega arith) fits.0.above (omega arith) fits.1.above);
  no_phi = refl;
  no_follower = refl;
  alone = refl;
}

-- the last value comes next where its result is placed
result_next : (block placed : List Value) (n r : ℕ) → 1 < n → 0 < r → r < n → HasBelow placed n
    → ComesNext block placed (result_value n r)
result_next block placed n r two positive lt h = record {
  ready = ap (λ x. x && true) (placed_two block placed n r 1 h positive lt (omega arith) two);
  no_phi = refl;
  no_follower = refl;
  alone = refl;
}

-- the first value makes a memory, and takes none
init_next : (block : List Value) → ComesNext block [] init_value
init_next block =
    let readers : readers_before block init_value ≡ [] =
    none_kept (λ r. reads_memory r.op && same_memory (memory_taken r.op r.args) None)
    (λ r. takes_other (reads_memory r.op) (memory_taken r.op r.args)) block in
    record { ready = ap (list_all (λ r. has_value [] r.id)) readers; no_phi = refl; no_follower = refl; alone = refl }

-- the values of steps that fit are in order
steps_in_order : (block placed : List Value) (params n : ℕ) (steps : List Step) (r : ℕ) → 1 < n
    → StepsFit params n steps → 0 < r → r < n + length steps → HasBelow placed n
    → InOrder block placed (values_from n steps r)
steps_in_order block placed params n [] r two fit positive lt h =
    (result_next block placed n r two positive (omega arith) h, tt)
steps_in_order block placed params n (s ∷ steps) r two fit positive lt h =
    let v : Value = step_value n s in
    let more : HasBelow (placed ++ v ∷ []) (suc n) = one_more placed n v (step_number n s) h in
    let inside : r < suc n + length steps = omega arith in (
      step_next block placed params n s fit.0 h,
      steps_in_order block (placed ++ v ∷ []) params (suc n) steps r (omega arith) fit.1 positive inside more,
    )

-- the values of a narrow function run in the order of their text
pub narrow_order : (params : ℕ) (steps : List Step) (r : ℕ) → StepsFit params 2 steps → IsAbove (length steps + 2) r
    → first_order (init_value ∷ values_from 2 steps r) ≡ init_value ∷ values_from 2 steps r
narrow_order params steps r fit above =
    let block : List Value = init_value ∷ values_from 2 steps r in
    let first : HasBelow (init_value ∷ []) 2 = one_more [] 1 init_value refl (λ k positive lt. absurd (omega arith)) in
    let inside : r < 2 + length steps = omega arith in
    let later = steps_in_order block (init_value ∷ []) params 2 steps r (omega arith) fit (omega arith) inside first in
    kept_in_order block (init_next block, later)

-- the word of a step, by the words before it
abbrev pub step_word : Inputs → (ℕ → ℕ) → Step → ℕ
step_word inputs w (TakeArg i) = low 64 (argument inputs i)
step_word inputs w (MakeConst c) = low 64 (word_of c)
step_word inputs w (AddTwo a b) = low 64 (w a + w b)

-- the words after the steps from number n on
abbrev pub words_after : Inputs → (ℕ → ℕ) → ℕ → List Step → ℕ → ℕ
words_after inputs w n [] = w
words_after inputs w n (s ∷ steps) = words_after inputs (put w n (step_word inputs w s)) (suc n) steps

-- the values of a narrow function's block stand in first order
pub block_in_order : (f : Func) (h : Narrow f) (b : Block) → b ≡ block_of h.steps h.returned
    → first_order b.values ≡ b.values
block_in_order f h b e =
    subst (λ x. first_order x.values ≡ x.values) (sym e) (narrow_order h.params h.steps h.returned h.fit h.result)

-- what a narrow function shows
abbrev pub narrow_shown : Inputs → List Step → ℕ → ℕ → Shown
narrow_shown inputs steps r zero = ends Going
narrow_shown inputs steps r (suc n) =
    ends (Returned (low 64 (words_after inputs (λ k. 0) 2 steps r) ∷ []) (changed inputs.memory inputs.memory))

-- the run of the steps
run_steps : (callees : Callees) (inputs : Inputs) (block : List Value) (n : ℕ) (steps : List Step) (r : ℕ) (s : State)
    (go : State → Shown)
    → run_values (generic callees) inputs block (values_from n steps r) s go
    ≡ go (record s { words = words_after inputs s.words n steps })
run_steps callees inputs block n [] r s go = refl
run_steps callees inputs block n (TakeArg i ∷ steps) r s go =
    run_steps callees inputs block (suc n) steps r (with_word s n (low 64 (argument inputs i))) go
run_steps callees inputs block n (MakeConst c ∷ steps) r s go =
    run_steps callees inputs block (suc n) steps r (with_word s n (low 64 (word_of c))) go
run_steps callees inputs block n (AddTwo a b ∷ steps) r s go =
    run_steps callees inputs block (suc n) steps r (with_word s n (low 64 (s.words a + s.words b))) go

-- the end of a narrow function, from the value that its control names
abbrev returns : List Value → ValueId → State → Shown
returns values id s =
    ends (Returned (words_at (I64 ∷ []) (result_words s.words (value_named values id))) (changed s.since s.memory))

-- the run of the function that steps make
steps_run : (callees : Callees) (name : List ℕ) (params : ℕ) (steps : List Step) (r : ℕ) (inputs : Inputs) (n : ℕ)
    → StepsFit params 2 steps → IsAbove (length steps + 2) r
    → run (generic callees) inputs (func_of name params steps r) n ≡ narrow_shown inputs steps r n
steps_run callees name params steps r inputs zero fit above = refl
steps_run callees name params steps r inputs (suc n) fit above =
    let values : List Value = init_value ∷ values_from 2 steps r in
    let go : State → Shown = returns values (vid (length steps + 2)) in
    let memory = inputs.memory in
    let w : ℕ → ℕ = words_after inputs (λ k. 0) 2 steps in
    ap (λ l. run_values (generic callees) inputs values l (begun inputs) go) (narrow_order params steps r fit above)
    ∙ run_steps callees inputs values 2 steps r (begun inputs) go
    ∙ ap (λ o. ends (Returned (words_at (I64 ∷ []) (result_words w o)) (changed memory memory))) (result_named steps r)

-- the run of a narrow function
pub narrow_run : (callees : Callees) (f : Func) (h : Narrow f) (inputs : Inputs) (n : ℕ)
    → run (generic callees) inputs f n ≡ narrow_shown inputs h.steps h.returned n
narrow_run callees f h inputs n =
    subst (λ g. run (generic callees) inputs g n ≡ narrow_shown inputs h.steps h.returned n) (sym h.made)
    (steps_run callees f.sig.name h.params h.steps h.returned inputs n h.fit h.result)

-- the steps from number n on leave the words of lower numbers
pub words_before : (inputs : Inputs) (w : ℕ → ℕ) (n : ℕ) (steps : List Step) (k : ℕ) → k < n
    → words_after inputs w n steps k ≡ w k
words_before inputs w n [] k lt = refl
words_before inputs w n (s ∷ steps) k lt =
    let word : ℕ = step_word inputs w s in
    words_before inputs (put w n word) (suc n) steps k (omega arith)
    ∙ ap (λ b. cond b word (w k)) (other_number k n lt)

-- the word of a step goes by the words of lower numbers
step_same : (inputs : Inputs) (params n : ℕ) (w u : ℕ → ℕ) (s : Step) → StepFits params n s
    → ((k : ℕ) → k < n → w k ≡ u k) → step_word inputs w s ≡ step_word inputs u s
step_same inputs params n w u (TakeArg i) fits h = refl
step_same inputs params n w u (MakeConst c) fits h = refl
step_same inputs params n w u (AddTwo a b) fits h =
    ap (λ x. low 64 (x + w b)) (h a fits.0.above) ∙ ap (λ x. low 64 (u a + x)) (h b fits.1.above)

-- the word of a step's number is its word, by the words after all steps
pub words_at_step : (inputs : Inputs) (params : ℕ) (w : ℕ → ℕ) (n : ℕ) (steps : List Step) (i : ℕ) (s : Step)
    → StepsFit params n steps → slice_get steps i ≡ Some s
    → words_after inputs w n steps (n + i) ≡ step_word inputs (words_after inputs w n steps) s
words_at_step inputs params w n [] i s fit at = cc
words_at_step inputs params w n (t ∷ steps) zero s fit at =
    let word : ℕ = step_word inputs w t in
    let after : ℕ → ℕ = words_after inputs (put w n word) (suc n) steps in
    let same : t ≡ s = cc in
    ap after (omega arith) ∙ words_before inputs (put w n word) (suc n) steps n (omega arith)
    ∙ ap (λ b. cond b word (w n)) (same_number n n refl)
    ∙ step_same inputs params n w after t fit.0 (λ k lt. sym (words_before inputs w n (t ∷ steps) k lt))
    ∙ ap (step_word inputs after) same
words_at_step inputs params w n (t ∷ steps) (suc i) s fit at =
    let word : ℕ = step_word inputs w t in
    ap (words_after inputs (put w n word) (suc n) steps) (omega arith)
    ∙ words_at_step inputs params (put w n word) (suc n) steps i s fit.1 at
