-- The plain allocation of a narrow function shows what the function shows.
use Rattle.std.proofs.Common.{◌≡◌, ℕ, zero, suc, ◌+◌, ◌<◌, ◌≤◌, false, List, [], ◌∷◌, ◌++◌, length, drop, map}
use Rattle.std.proofs.Common.{replicate, Option, Some, slice_get, refl, sym, ap, subst, ◌∙◌, inl, inr, IsTrue, arith}
use Rattle.std.specs.List.{flat_map}
use Rattle.std.proofs.lemmas.List.{length-append, length-replicate, append_assoc}
use Rattle.std.proofs.Math.Seq.{drop-append_seam}
use Rattle.gossa_base.specs.Memory.{changed}
use Rattle.gossa_base.specs.Words.{low, word_of}
use Rattle.gossa_base.specs.declared.ids.ValueId.{ValueId}
use Rattle.ssa_ir.specs.declared.abi.AbiPlace.TheVariants.{Reg as InRegister}
use Rattle.ssa_ir.specs.declared.types.Scalar.{Scalar}
use Rattle.ssa_ir.specs.declared.types.Scalar.TheVariants.{I64}
use Rattle.ssa_ir.specs.declared.case.End.TheVariants.{Returned}
use Rattle.ssa_ir.specs.declared.func.Func.{Func}
use Rattle.ssa_ir.specs.FirstOrder.{first_order}
use Rattle.ssa_ir.specs.ArgumentPlaces.{argument_registers, places_from, parameter_words}
use Rattle.ssa_ir.specs.Inputs.{Inputs, argument, junk_word}
use Rattle.ssa_ir.specs.Run.{Callees}
use Rattle.ssa_ir.specs.Showing.{ends, words_at}
use Rattle.listing.specs.declared.line.Line.{Line}
use Rattle.listing.specs.declared.line.Line.TheVariants.{Label, Move, Ret}
use Rattle.listing.specs.declared.line.Note.TheVariants.{Results}
use Rattle.listing.specs.declared.line.Place.TheVariants.{Reg}
use Rattle.listing.specs.declared.code.Code.{Code}
use Rattle.listing.specs.declared.code.Map.{Map}
use Rattle.listing.specs.Frame.{frame_words}
use Rattle.listing.specs.SameShow.{ShowsAs}
use Rattle.listing.specs.Machine.{Machine, Onward, word_at, own_place, results}
use Rattle.listing.specs.ListingRun.{begun, follow, line_at, turns, run_listing, argument_or, parameter_at}
use Rattle.sum_compile.specs.Narrow.{Step, TakeArg, MakeConst, AddTwo, vid, block_of, func_of, StepsFit, StepFits}
use Rattle.sum_compile.specs.Narrow.{IsAbove, takes_once, Narrow}
use Rattle.sum_compile.specs.Plain.{place_of, parameters_from, spill_line, value_lines, returned_value, results_of}
use Rattle.sum_compile.specs.Plain.{plain_lines, plain_listing, home_word}
use Rattle.sum_compile.proofs.NarrowLemmas.{result_named}
use Rattle.sum_compile.proofs.NarrowRun.{words_after, words_at_step, narrow_order, narrow_shown, narrow_run}
use Rattle.sum_compile.proofs.StraightLemmas.{after, after_append, after_memory, after_since, AllStraight}
use Rattle.sum_compile.proofs.StraightLemmas.{straight_append, follow_straight, drop_head}
use Rattle.sum_compile.proofs.MachineLemmas.{spills_frame, spills_straight}
use Rattle.sum_compile.proofs.PlacedLemmas.{values_of, place_of_step}
use Rattle.sum_compile.proofs.SpillFacts.{each_spills, some_spills, parameter_register}
use Rattle.sum_compile.proofs.SumsRun.{Good, IsWorded, low_low, operand_word, sums_run, sums_straight}

-- the lines between the label and the return
abbrev pub inner_lines : List Scalar → List Step → ℕ → List Line
inner_lines params steps r =
    let at = place_of (values_of steps r) in
    map (spill_line at) (parameters_from (values_of steps r) 0 params)
    ++ (flat_map (value_lines at) (values_of steps r) ++ Move (Reg 0) (at (vid r)) Results ∷ [])

-- the lines of a narrow function
abbrev pub all_lines : List Scalar → List Step → ℕ → List Line
all_lines params steps r =
    Label (block_of steps r).id (parameters_from (values_of steps r) 0 params)
    ∷ (inner_lines params steps r ++ Ret ∷ [])

-- the plain allocation has these lines
pub lines_are : (params : List Scalar) (steps : List Step) (r : ℕ) → first_order (values_of steps r) ≡ values_of steps r
    → plain_lines params (block_of steps r ∷ []) ≡ all_lines params steps r
lines_are params steps r order =
    let at = place_of (values_of steps r) in
    let held = parameters_from (values_of steps r) 0 params in
    let spills = map (spill_line at) held in
    let sums = flat_map (value_lines at) (values_of steps r) in
    let last : List Line = Move (Reg 0) (at (vid r)) Results ∷ [] in
    let end : List Line =
    results_of at (returned_value (values_of steps r) (Some (vid (length steps + 2)))) ++ Ret ∷ [] in
    ap (λ vs. Label (block_of steps r).id held ∷ (spills ++ (flat_map (value_lines at) vs ++ end))) order
    ∙ ap (λ o. Label (block_of steps r).id held ∷ (spills ++ (sums ++ (results_of at o ++ Ret ∷ []))))
    (result_named steps r)
    ∙ ap (λ l. Label (block_of steps r).id held ∷ l)
    (sym (append_assoc spills (sums ++ last) (Ret ∷ []) ∙ ap (λ l. spills ++ l) (append_assoc sums last (Ret ∷ []))))

-- the code of a narrow function
abbrev pub narrow_code : List ℕ → (params regs : ℕ) → List Step → ℕ → Code
narrow_code name params regs steps r = (plain_listing regs (func_of name params steps r)).code

-- the machine before the first line
abbrev pub start : Inputs → List ℕ → (params regs : ℕ) → List Step → (r w : ℕ) → Machine
start inputs name params regs steps r w = begun inputs (narrow_code name params regs steps r) w

pub all_registers : (regs : ℕ) → 16 ≤ regs → argument_registers regs ≡ 16
all_registers regs h = omega arith

-- a parameter's register holds its word at the start
parameter_word : (inputs : Inputs) (name : List ℕ) (params regs : ℕ) (steps : List Step) (r w q : ℕ) → 16 ≤ regs
    → params ≤ 16 → q < params
    → (start inputs name params regs steps r w).registers q ≡ argument inputs q
parameter_word inputs name params regs steps r w q many few lt =
    ap (argument_or inputs (junk_word inputs q))
    (ap (λ a. parameter_at 0 (InRegister q) (places_from a 0 0 (replicate params I64))) (all_registers regs many)
    ∙ ap (λ k. parameter_at 0 (InRegister k) (places_from 16 0 0 (replicate params I64))) (omega arith)
    ∙ parameter_register 16 0 0 params 0 q (omega arith) lt ∙ ap Some (omega arith))

-- each parameter that is taken is there
taken_below : (params n : ℕ) (steps : List Step) (i q : ℕ) → StepsFit params n steps
    → slice_get steps i ≡ Some (TakeArg q) → q < params
taken_below params n [] i q fits e = cc
taken_below params n (s ∷ steps) zero q fits e = let same : s ≡ TakeArg q = cc in subst (StepFits params n) same fits.0
taken_below params n (s ∷ steps) (suc i) q fits e = taken_below params (suc n) steps i q fits.1 e

-- behind the spills, the values that stand from the beginning have their words at their places
spilled : (inputs : Inputs) (name : List ℕ) (params regs : ℕ) (steps : List Step) (r w : ℕ) (words : ℕ → ℕ) → 16 ≤ regs
    → params ≤ 16
    → StepsFit params 2 steps → IsTrue (takes_once steps) → IsWorded inputs words steps
    → Good inputs (narrow_code name params regs steps r) words steps r 2
    (after inputs (narrow_code name params regs steps r)
    (map (spill_line (place_of (values_of steps r))) (parameters_from (values_of steps r) 0 (replicate params I64)))
    (start inputs name params regs steps r w))
spilled inputs name params regs steps r w words many few fits once worded i (TakeArg q) here which =
    let code = narrow_code name params regs steps r in
    let m = start inputs name params regs steps r w in
    let at = place_of (values_of steps r) in
    let h = home_word (values_of steps r) (2 + i) in
    let held = parameters_from (values_of steps r) 0 (replicate params I64) in
    let lt = taken_below params 2 steps i q fits here in
    let word = parameter_word inputs name params regs steps r w q many few lt in
    let each =
    each_spills steps r i q (argument inputs q) m.registers 0 (replicate params I64) here
    (λ k e. ap m.registers e ∙ word) in
    let some =
    some_spills steps r i q 0 (replicate params I64) once here (omega arith)
    (omega (arith, length-replicate {A = Scalar} params I64)) in
    ap (λ p. low 64 (word_at inputs code p (after inputs code (map (spill_line at) held) m)))
    (place_of_step steps r i (TakeArg q) here)
    ∙ ap (low 64) (spills_frame inputs code at held h (argument inputs q) m each (inr some))
    ∙ sym (low_low (argument inputs q)) ∙ sym (worded i (TakeArg q) here)
spilled inputs name params regs steps r w words many few fits once worded i (MakeConst c) here which =
    let code = narrow_code name params regs steps r in
    let at = place_of (values_of steps r) in
    let held = parameters_from (values_of steps r) 0 (replicate params I64) in
    ap (λ p. low 64 (word_at inputs code p
    (after inputs code (map (spill_line at) held) (start inputs name params regs steps r w))))
    (place_of_step steps r i (MakeConst c) here)
    ∙ sym (low_low (word_of c)) ∙ sym (worded i (MakeConst c) here)
spilled inputs name params regs steps r w words many few fits once worded i (AddTwo a b) here (inl lt) =
    absurd (omega arith)
spilled inputs name params regs steps r w words many few fits once worded i (AddTwo a b) here (inr early) = absurd early

-- the words of a narrow function are those of its steps
worded : (inputs : Inputs) (params : ℕ) (steps : List Step) → StepsFit params 2 steps
    → IsWorded inputs (words_after inputs (λ k. 0) 2 steps) steps
worded inputs params steps fits i s here = ap (low 64) (words_at_step inputs params (λ k. 0) 2 steps i s fits here)

inner_straight : (params : List Scalar) (steps : List Step) (r : ℕ) → AllStraight (inner_lines params steps r)
inner_straight params steps r =
    let at = place_of (values_of steps r) in
    straight_append (map (spill_line at) (parameters_from (values_of steps r) 0 params))
    (flat_map (value_lines at) (values_of steps r) ++ Move (Reg 0) (at (vid r)) Results ∷ [])
    (spills_straight at (parameters_from (values_of steps r) 0 params))
    (straight_append (flat_map (value_lines at) (values_of steps r)) (Move (Reg 0) (at (vid r)) Results ∷ [])
    (sums_straight at 2 steps r) (tt, tt))

-- behind all lines but the return, R0 has the result's word
result_word : (inputs : Inputs) (name : List ℕ) (params regs : ℕ) (steps : List Step) (r w : ℕ) → 16 ≤ regs
    → params ≤ 16
    → StepsFit params 2 steps → IsTrue (takes_once steps) → IsAbove (length steps + 2) r
    → low 64 ((after inputs (narrow_code name params regs steps r) (inner_lines (replicate params I64) steps r)
    (start inputs name params regs steps r w)).registers 0)
    ≡ low 64 (words_after inputs (λ k. 0) 2 steps r)
result_word inputs name params regs steps r w many few fits once above =
    let code = narrow_code name params regs steps r in
    let at = place_of (values_of steps r) in
    let spills = map (spill_line at) (parameters_from (values_of steps r) 0 (replicate params I64)) in
    let sums = flat_map (value_lines at) (values_of steps r) in
    let last : List Line = Move (Reg 0) (at (vid r)) Results ∷ [] in
    let words = words_after inputs (λ k. 0) 2 steps in
    let m = start inputs name params regs steps r w in
    let m1 = after inputs code spills m in
    let m2 = after inputs code sums m1 in
    let first = spilled inputs name params regs steps r w words many few fits once (worded inputs params steps fits) in
    let then =
    sums_run inputs code words steps params r 2 0 steps m1 (worded inputs params steps fits) (omega arith) refl fits
    first in
    let split : after inputs code (spills ++ (sums ++ last)) m ≡ after inputs code last m2 =
    after_append inputs code spills (sums ++ last) m ∙ after_append inputs code sums last m1 in
    ap (λ k. low 64 (k.registers 0)) split
    ∙ operand_word inputs code words steps r (2 + length steps) r m2 (subst (λ k. IsAbove k r) (omega arith) above)
    (omega arith) then

-- a label of a counted block begins a turn
follow_label : (callees : Callees) (inputs : Inputs) (code : Code) (maps : Option (List Map)) (turn : Onward)
    (fuel k : ℕ) (m : Machine) (held : List (ℕ × ValueId)) (n : ℕ)
    → fuel ≡ suc k → slice_get code.lines 0 ≡ Some (Label (record { split = false; n = n }) held)
    → follow callees inputs code maps turn fuel 0 m ≡ turn 1 m
follow_label callees inputs code maps turn fuel k m held n e here =
    ap (λ f. follow callees inputs code maps turn f 0 m) e
    ∙ ap (λ o. line_at callees inputs code maps turn (follow callees inputs code maps turn k) o 0 m) here

-- a return ends the run
follow_return : (callees : Callees) (inputs : Inputs) (code : Code) (maps : Option (List Map)) (turn : Onward) (i k : ℕ)
    (m : Machine)
    → slice_get code.lines i ≡ Some Ret
    → follow callees inputs code maps turn (suc k) i m
    ≡ ends (Returned (results inputs code m) (changed m.since m.memory))
follow_return callees inputs code maps turn i k m here =
    ap (λ o. line_at callees inputs code maps turn (follow callees inputs code maps turn k) o i m) here

-- the result of a narrow function stands in R0
result_place : (inputs : Inputs) (name : List ℕ) (params regs : ℕ) (steps : List Step) (r : ℕ) (m : Machine) → 16 ≤ regs
    → results inputs (narrow_code name params regs steps r) m ≡ low 64 (m.registers 0) ∷ []
result_place inputs name params regs steps r m many =
    let code = narrow_code name params regs steps r in
    ap (λ a. words_at (I64 ∷ [])
    (map (λ p. word_at inputs code (own_place p) m) (places_from a 0 (parameter_words regs code.sig) (I64 ∷ []))))
    (all_registers regs many)

-- one turn of the listing
one_turn : (callees : Callees) (inputs : Inputs) (name : List ℕ) (params regs : ℕ) (steps : List Step) (r w n : ℕ)
    → 16 ≤ regs → params ≤ 16
    → StepsFit params 2 steps → IsTrue (takes_once steps) → IsAbove (length steps + 2) r
    → turns callees inputs (narrow_code name params regs steps r) (Some []) n 1
    (start inputs name params regs steps r w) ≡ narrow_shown inputs steps r n
one_turn callees inputs name params regs steps r w zero many few fits once above = refl
one_turn callees inputs name params regs steps r w (suc n) many few fits once above =
    let code = narrow_code name params regs steps r in
    let turn = turns callees inputs code (Some []) n in
    let inner = inner_lines (replicate params I64) steps r in
    let m = start inputs name params regs steps r w in
    let m' = after inputs code inner m in
    let are = lines_are (replicate params I64) steps r (narrow_order params steps r fits above) in
    let long : length code.lines + 1 ≡ length inner + 3 =
    omega (arith, ap length are, length-append inner (Ret ∷ [])) in
    let straight = inner_straight (replicate params I64) steps r in
    let here : slice_get code.lines (1 + length inner) ≡ Some Ret =
    ap (λ l. slice_get l (1 + length inner)) are ∙ ap (slice_get (all_lines (replicate params I64) steps r)) one_more
    ∙ drop_head (inner ++ Ret ∷ []) (length inner) Ret [] (drop-append_seam inner (Ret ∷ [])) in
    follow_straight callees inputs code (Some []) turn inner (Ret ∷ []) 3 (length code.lines + 1) 1 m (ap (drop 1) are)
    straight long
    ∙ follow_return callees inputs code (Some []) turn (1 + length inner) 2 m' here
    ∙ ap (λ ws. ends (Returned ws (changed m'.since m'.memory))) (result_place inputs name params regs steps r m' many)
    ∙ ap (λ x. ends (Returned (x ∷ []) (changed m'.since m'.memory)))
    (result_word inputs name params regs steps r w many few fits once above)
    ∙ ap (λ s. ends (Returned (low 64 (words_after inputs (λ k. 0) 2 steps r) ∷ []) (changed s m'.memory)))
    (after_since inputs code inner m straight)
    ∙ ap (λ s. ends (Returned (low 64 (words_after inputs (λ k. 0) 2 steps r) ∷ []) (changed inputs.memory s)))
    (after_memory inputs code inner m straight)
  where
    one_more : {k : ℕ} → 1 + k ≡ suc k
    one_more = omega arith

-- what the plain allocation of a narrow function shows
listing_run : (callees : Callees) (inputs : Inputs) (name : List ℕ) (params regs : ℕ) (steps : List Step) (r n : ℕ)
    → 16 ≤ regs → params ≤ 16
    → StepsFit params 2 steps → IsTrue (takes_once steps) → IsAbove (length steps + 2) r
    → run_listing callees inputs (plain_listing regs (func_of name params steps r)) n ≡ narrow_shown inputs steps r n
listing_run callees inputs name params regs steps r n many few fits once above =
    let l = plain_listing regs (func_of name params steps r) in
    follow_label callees inputs l.code (Some []) (turns callees inputs l.code (Some []) n) (length l.code.lines + 1)
    (length l.code.lines)
    (begun inputs l.code (frame_words l)) (parameters_from (values_of steps r) 0 (replicate params I64)) 1 (omega arith)
    refl
    ∙ one_turn callees inputs name params regs steps r (frame_words l) n many few fits once above

-- the plain allocation of a narrow function shows what the function shows
pub plain_shows : (callees : Callees) (f : Func) (regs : ℕ) → Narrow f → 16 ≤ regs
    → ShowsAs callees f (plain_listing regs f)
plain_shows callees f regs h many n inputs =
    ap (λ g. run_listing callees inputs (plain_listing regs g) n) h.made
    ∙ listing_run callees inputs f.sig.name h.params regs h.steps h.returned n many h.few_params h.fit h.once h.result
    ∙ sym (narrow_run callees f h inputs n)
