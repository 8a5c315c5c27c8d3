-- The words that a value reads, and what comes behind a value of each role.
use Rattle.std.proofs.Common.{◌≡◌, ◌≤◌, ◌-◌, ℕ, zero, suc, List, [], ◌∷◌, ◌++◌, length, map, take, drop, slice_get}
use Rattle.std.proofs.Common.{Option, None, Some, Bor, refl, sym, ap, subst, ◌∙◌, ◌+◌, arith}
use Rattle.std.specs.Slice.{IsItemAt}
use Rattle.std.specs.Option.{option_map}
use Rattle.std.specs.declared.result.Result.{Result}
use Rattle.std.specs.declared.result.Result.TheVariants.{Ok, Err}
use Rattle.std.specs.Result.{IfOk}
use Rattle.std.proofs.lemmas.Option.{slice_get-map}
use Rattle.std.proofs.lemmas.List.{append-nil, drop_all}
use Rattle.gossa_base.specs.declared.ids.ValueId.{ValueId}
use Rattle.ssa_ir.specs.declared.case.CallShown.{CallShown}
use Rattle.ssa_ir.specs.declared.case.Shown.{Shown}
use Rattle.ssa_ir.specs.declared.func.Value.{Value}
use Rattle.ssa_ir.specs.declared.role.Role.{Role}
use Rattle.ssa_ir.specs.declared.role.Role.TheVariants.{Calls}
use Rattle.ssa_ir.specs.declared.types.Scalar.{Scalar}
use Rattle.ssa_ir.specs.Roles.{role}
use Rattle.ssa_ir.specs.Inputs.{Inputs, Answer}
use Rattle.ssa_ir.specs.Run.{Form, State, operand, run_role, shown_of, with_answer, takes_answer}
use Rattle.ssa_ir.specs.Showing.{words_at}
use Rattle.ssa_meaning.specs.tables.Ran.{behind, Next, GoesOn, Ran}
use Rattle.ssa_meaning.proofs.RanLemmas.{behind_call}

-- an argument that is there has its word, and an absent one 0
abbrev pub word_of_argument : (ℕ → ℕ) → Option ValueId → ℕ
word_of_argument words None = 0
word_of_argument words (Some id) = words id.0

pub operand_at : (words : ℕ → ℕ) (args : List ValueId) (i : ℕ) → operand words args i
    ≡ word_of_argument words (slice_get args i)
operand_at words [] zero = refl
operand_at words [] (suc i) = refl
operand_at words (a ∷ args) zero = refl
operand_at words (a ∷ args) (suc i) = operand_at words args i

no_words : (types : List Scalar) → words_at types [] ≡ []
no_words [] = refl
no_words (t ∷ types) = refl

-- where the arguments are at their end, the words so far are all that are shown
pub shown_to_end : (words : List ℕ) (f : ValueId → ℕ) (types : List Scalar) (ids args : List ValueId) (i : ℕ)
    → length ids ≤ i
    → ids ≡ take (length args - 1) args → words ++ words_at (drop i types) (map f (drop i ids))
    ≡ words_at types (map f ids)
    → words ≡ words_at types (map f (take (length args - 1) args))
shown_to_end words f types ids args i past same whole =
    sym (append-nil words) ∙ ap (λ l. words ++ l) (sym (no_words (drop i types)))
    ∙ ap (λ l. words ++ words_at (drop i types) (map f l)) (sym (drop_all i ids past))
    ∙ whole ∙ ap (λ l. words_at types (map f l)) same

pub past_end : {X : Type 0} (xs : List X) (i : ℕ) (r : Option (Bor X)) → IsItemAt xs i r → r ≡ None → length xs ≤ i
past_end xs i None h e = h.3
past_end xs i (Some x) h e = cc

-- from an item on
pub drop_at_item : {X : Type 0} (xs : List X) (i : ℕ) (x : X) → slice_get xs i ≡ Some x → drop i xs
    ≡ x ∷ drop (suc i) xs
drop_at_item [] i x e = cc
drop_at_item (y ∷ xs) zero x e = let same : y ≡ x = cc in ap (λ z. z ∷ xs) same
drop_at_item (y ∷ xs) (suc i) x e = drop_at_item xs i x e

-- behind an item that was taken
pub taken_from : {X Y : Type 0} (f : X → Y) (xs : List X) (i : ℕ) (x : X) → slice_get xs i ≡ Some x
    → drop i (map f xs) ≡ f x ∷ drop (i + 1) (map f xs)
taken_from f xs i x e =
    let next : suc i ≡ i + 1 = omega arith in
    drop_at_item (map f xs) i (f x) (slice_get-map f xs i ∙ ap (option_map f) e)
    ∙ ap (λ n. f x ∷ drop n (map f xs)) next

-- a value from which the run goes on
pub ran_on : (form : Form) (inputs : Inputs) (block : List Value) (v : Value) (r : Role) (s t u : State)
    (before after : List CallShown)
    → ((go : State → Shown) → run_role form inputs block v r s go ≡ go u) → r ≡ role v.op → t ≡ u → after ≡ before
    → Ran (run_role form inputs block v (role v.op) s) before after GoesOn t
ran_on form inputs block v r s t u before after step is same quiet go =
    ap (λ x. behind before (run_role form inputs block v x s go)) (sym is) ∙ ap (behind before) (step go)
    ∙ ap (λ x. behind before (go x)) (sym same) ∙ ap (λ l. behind l (go t)) (sym quiet)

-- a value of a role whose part of the run is known
pub ran_as : (form : Form) (inputs : Inputs) (block : List Value) (v : Value) (r : Role) (s t : State)
    (before after : List CallShown) (next : Next)
    → r ≡ role v.op → Ran (run_role form inputs block v r s) before after next t
    → Ran (run_role form inputs block v (role v.op) s) before after next t
ran_as form inputs block v r s t before after next is part =
    subst (λ x. Ran (run_role form inputs block v x s) before after next t) is part

-- a call that takes an answer
pub call_goes_on : (form : Form) (inputs : Inputs) (block : List Value) (v : Value) (s t : State)
    (before after : List CallShown) (a : Answer) (rest : List Answer)
    → s.answers ≡ a ∷ rest → after ≡ before ++ shown_of form v s ∷ [] → t ≡ with_answer form block v s a rest
    → Ran (run_role form inputs block v Calls s) before after GoesOn t
call_goes_on form inputs block v s t before after a rest taken shown same go =
    behind_call before (shown_of form v s) (takes_answer form block v s s.answers go)
    ∙ ap (λ l. behind (before ++ shown_of form v s ∷ []) (takes_answer form block v s l go)) taken
    ∙ ap (λ x. behind (before ++ shown_of form v s ∷ []) (go x)) (sym same)
    ∙ ap (λ l. behind l (go t)) (sym shown)

-- what an answer's value has, it has in other words
pub ok_as : {A E : Type 0} (r : Result A E) (P Q : A → Type 0) → ((o : A) → P o → Q o) → IfOk r P → IfOk r Q
ok_as (Ok o) P Q f h = f o h
ok_as (Err e) P Q f h = h
