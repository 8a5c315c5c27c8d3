-- The functions of a unit one after the other: those so far meet all checks, or one is the first that doesn't.
use Rattle.std.proofs.Common.{◌≡◌, ℕ, zero, suc, ◌+◌, ◌<◌, Bool, true, false, List, [], ◌∷◌, length, ◌≤◌, get_or}
use Rattle.std.proofs.Common.{slice_get, Option, None, Some, MatchOption, eqb, refl, sym, ap, subst, ◌∙◌, arith}
use Rattle.std.proofs.lemmas.Bool.{eqb-true, eqb-false}
use Rattle.ssa_ir.specs.declared.func.Func.{Func}
use Rattle.ssa_ir.specs.declared.func.SsaUnit.{SsaUnit}
use Rattle.ssa_ir.specs.WellFormed.{WellFormed, WellFormedFunc}
use Rattle.ssa_check.specs.declared.faults.Found.{Found}
use Rattle.ssa_check.specs.Failing.{Accepted, FirstFault, FirstFaultOf, MeetsAll}

item_there : {X : Type 0} (xs : List X) (k : ℕ) (d : X) → k < length xs → slice_get xs k ≡ Some (get_or xs k d)
item_there [] k d within = absurd (omega (arith, within))
item_there (x ∷ xs) zero d within = refl
item_there (x ∷ xs) (suc k) d within = item_there xs k d (omega (arith, within))

abbrev IsFirst : SsaUnit → Func → Found → Type 0
IsFirst u f x = FirstFaultOf u f x.check x.at

-- the functions below a number meet all checks
abbrev pub MetSoFar : SsaUnit → ℕ → Type 0
MetSoFar u n = (i : ℕ) (f : Func) → i < n → slice_get u.funcs i ≡ Some f → MeetsAll u f

module _ (u : SsaUnit) (items : List Func) (n : ℕ) (func : Func) (whole : items ≡ u.funcs) (within : n < length items)
    (is : func ≡ get_or items n func) where
  inside : n < length u.funcs
  inside = subst (λ l. n < length l) whole within

  is_item : func ≡ get_or u.funcs n func
  is_item = is ∙ ap (λ l. get_or l n func) whole

  func_there : slice_get u.funcs n ≡ Some func
  func_there = item_there u.funcs n func inside ∙ ap Some (sym is_item)

  pub well_formed_item : WellFormed u → WellFormedFunc func
  well_formed_item h = subst WellFormedFunc (sym is_item) (h.each_function n func inside)

  pub first_of_unit : MetSoFar u n → (o : Option Found) (x : Found) → MatchOption o (MeetsAll u func) (IsFirst u func)
      → o ≡ Some x
      → FirstFault u (record { func = n; check = x.check; at = x.at })
  first_of_unit so_far None x h e = cc
  first_of_unit so_far (Some y) x h e =
      let same : y ≡ x = cc in
      record { func = func; is_its = func_there; earlier = so_far; fault_of = subst (IsFirst u func) same h }

  meets : (o : Option Found) → MatchOption o (MeetsAll u func) (IsFirst u func) → o ≡ None → MeetsAll u func
  meets None h e = h
  meets (Some x) h e = cc

  pub one_more_func : MetSoFar u n → (o : Option Found) → MatchOption o (MeetsAll u func) (IsFirst u func) → o ≡ None
      → MetSoFar u (n + 1)
  one_more_func so_far o h e i f lt there = go (eqb i n) refl
    where
      same : (g : Func) → Some g ≡ Some f → g ≡ f
      same g p = cc

      go : (b : Bool) → eqb i n ≡ b → MeetsAll u f
      go true at =
          subst (MeetsAll u)
          (same func (sym func_there ∙ ap (slice_get u.funcs) (sym (eqb-true i n at)) ∙ there)) (meets o h e)
      go false apart = so_far i f (omega (arith, lt, eqb-false i n apart)) there

-- all functions meet all checks
pub all_accepted : (u : SsaUnit) (items : List Func) (n : ℕ) → items ≡ u.funcs → length items ≤ n → MetSoFar u n
    → Accepted u
all_accepted u items n whole past so_far k d within =
    so_far k (get_or u.funcs k d) (omega (arith, within, ap length whole, past)) (item_there u.funcs k d within)
