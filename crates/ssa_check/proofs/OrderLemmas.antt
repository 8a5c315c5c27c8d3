-- The checks one after the other, by their numbers.
use Rattle.std.proofs.Common.{◌≡◌, ℕ, suc, ◌==◌, Bool, true, false, Option, None, Some, MatchOption, if◌then◌else◌, eqb}
use Rattle.std.proofs.Common.{refl, sym, ap, subst, ◌∙◌, arith}
use Rattle.std.proofs.lemmas.Bool.{eqb-true, eqb-false}
use Rattle.ssa_ir.specs.declared.func.Func.{Func}
use Rattle.ssa_ir.specs.declared.func.SsaUnit.{SsaUnit}
use Rattle.ssa_check.specs.declared.faults.Found.{Found}
use Rattle.ssa_check.specs.declared.refusal.At.{At}
use Rattle.ssa_check.specs.declared.refusal.At.TheVariants.{Func as AtFunc, Value as AtValue, Block as AtBlock}
use Rattle.ssa_check.specs.declared.refusal.Check.{Check}
use Rattle.ssa_check.specs.declared.refusal.Check.TheVariants.{Entry, Edges, PhiArity, Arity, Types, ArgOrInit, Callee}
use Rattle.ssa_check.specs.declared.refusal.Check.TheVariants.{Memory, Cycle, Undefined, Control}
use Rattle.ssa_check.specs.Failing.{FirstFaultOf, LeastPlace, Meets, MeetsAll, MetBelow, number_of}

-- the check of a number
abbrev check_of : ℕ → Option Check
check_of n =
    if n == 1 then Some Entry
    else if n == 2 then Some Edges
    else if n == 3 then Some PhiArity
    else if n == 4 then Some Arity
    else if n == 5 then Some Types
    else if n == 6 then Some ArgOrInit
    else if n == 7 then Some Callee
    else if n == 8 then Some Memory
    else if n == 9 then Some Cycle
    else if n == 10 then Some Undefined
    else if n == 11 then Some Control
    else None

back : (c : Check) → check_of (number_of c) ≡ Some c
back Entry = refl
back Edges = refl
back PhiArity = refl
back Arity = refl
back Types = refl
back ArgOrInit = refl
back Callee = refl
back Memory = refl
back Cycle = refl
back Undefined = refl
back Control = refl

same_check : (c d : Check) → Some c ≡ Some d → c ≡ d
same_check c d e = cc

-- no two checks have one number
one_number : (c d : Check) → number_of c ≡ number_of d → c ≡ d
one_number c d e = same_check c d (sym (back c) ∙ ap check_of e ∙ back d)

pub none_below : (u : SsaUnit) (f : Func) → MetBelow 1 u f
none_below u f Entry lt = absurd (omega (arith, lt))
none_below u f Edges lt = absurd (omega (arith, lt))
none_below u f PhiArity lt = absurd (omega (arith, lt))
none_below u f Arity lt = absurd (omega (arith, lt))
none_below u f Types lt = absurd (omega (arith, lt))
none_below u f ArgOrInit lt = absurd (omega (arith, lt))
none_below u f Callee lt = absurd (omega (arith, lt))
none_below u f Memory lt = absurd (omega (arith, lt))
none_below u f Cycle lt = absurd (omega (arith, lt))
none_below u f Undefined lt = absurd (omega (arith, lt))
none_below u f Control lt = absurd (omega (arith, lt))

-- one more check is met
pub one_more : (n : ℕ) (c : Check) (u : SsaUnit) (f : Func) → number_of c ≡ n → MetBelow n u f → Meets c u f
    → MetBelow (suc n) u f
one_more n c u f is below met d lt = go (eqb (number_of d) n) refl
  where
    go : (b : Bool) → eqb (number_of d) n ≡ b → Meets d u f
    go true e = subst (λ x. Meets x u f) (one_number c d (is ∙ sym (eqb-true (number_of d) n e))) met
    go false e = below d (omega (arith, lt, eqb-false (number_of d) n e))

-- all are met
pub all_met : (u : SsaUnit) (f : Func) → MetBelow 12 u f → MeetsAll u f
all_met u f below Entry = below Entry (omega arith)
all_met u f below Edges = below Edges (omega arith)
all_met u f below PhiArity = below PhiArity (omega arith)
all_met u f below Arity = below Arity (omega arith)
all_met u f below Types = below Types (omega arith)
all_met u f below ArgOrInit = below ArgOrInit (omega arith)
all_met u f below Callee = below Callee (omega arith)
all_met u f below Memory = below Memory (omega arith)
all_met u f below Cycle = below Cycle (omega arith)
all_met u f below Undefined = below Undefined (omega arith)
all_met u f below Control = below Control (omega arith)

-- ---- what the checks so far are met below

module _ (u : SsaUnit) (f : Func) where
  pub below_edges : Meets Entry u f → MetBelow 2 u f
  below_edges entry = one_more 1 Entry u f refl (none_below u f) entry

  pub below_phis : Meets Entry u f → Meets Edges u f → MetBelow 3 u f
  below_phis entry edges = one_more 2 Edges u f refl (below_edges entry) edges

  pub below_arity : Meets Entry u f → Meets Edges u f → Meets PhiArity u f → MetBelow 4 u f
  below_arity entry edges phis = one_more 3 PhiArity u f refl (below_phis entry edges) phis

  pub below_types : Meets Entry u f → Meets Edges u f → Meets PhiArity u f → Meets Arity u f → MetBelow 5 u f
  below_types entry edges phis arity = one_more 4 Arity u f refl (below_arity entry edges phis) arity

-- ---- what was found, by what it is

pub when_none : (c : Check) (u : SsaUnit) (f : Func) (o : Option At) → MatchOption o (Meets c u f) (LeastPlace c u f)
    → o ≡ None
    → Meets c u f
when_none c u f None h e = h
when_none c u f (Some at) h e = cc

pub when_some : (c : Check) (u : SsaUnit) (f : Func) (o : Option At) (at : At)
    → MatchOption o (Meets c u f) (LeastPlace c u f)
    → o ≡ Some at → LeastPlace c u f at
when_some c u f None at h e = cc
when_some c u f (Some found) at h e = let same : found ≡ at = cc in subst (LeastPlace c u f) same h

-- a check of number n that found nothing is met, and so are those before it
pub goes_on : (n : ℕ) (c : Check) (u : SsaUnit) (f : Func) (o : Option At) → number_of c ≡ n → MetBelow n u f
    → MatchOption o (Meets c u f) (LeastPlace c u f) → o ≡ None → MetBelow (suc n) u f
goes_on n c u f o is below h e = one_more n c u f is below (when_none c u f o h e)

-- one that found a place is the first that fails
pub fails_first : (c : Check) (u : SsaUnit) (f : Func) (o : Option At) (at : At) → MetBelow (number_of c) u f
    → MatchOption o (Meets c u f) (LeastPlace c u f) → o ≡ Some at → FirstFaultOf u f c at
fails_first c u f o at below h e = record { earlier = below; place = when_some c u f o at h e }

abbrev pub IsFirst : SsaUnit → Func → Found → Type 0
IsFirst u f x = FirstFaultOf u f x.check x.at

pub unless_found : (n : ℕ) (u : SsaUnit) (f : Func) (o : Option Found) → MatchOption o (MetBelow n u f) (IsFirst u f)
    → o ≡ None → MetBelow n u f
unless_found n u f None h e = h
unless_found n u f (Some x) h e = cc

pub when_found : (n : ℕ) (u : SsaUnit) (f : Func) (o : Option Found) (x : Found)
    → MatchOption o (MetBelow n u f) (IsFirst u f) → o ≡ Some x → IsFirst u f x
when_found n u f None x h e = cc
when_found n u f (Some y) x h e = let same : y ≡ x = cc in subst (IsFirst u f) same h

-- the number of arguments is asked in every unit alike
pub arity_alike : (u w : SsaUnit) (f : Func) → Meets Arity u f → Meets Arity w f
arity_alike u w f h AtFunc fails = h AtFunc fails
arity_alike u w f h (AtValue id) fails = h (AtValue id) fails
arity_alike u w f h (AtBlock id) fails = h (AtBlock id) fails

-- and so are edges
pub edges_alike : (u w : SsaUnit) (f : Func) → Meets Edges u f → Meets Edges w f
edges_alike u w f h AtFunc fails = h AtFunc fails
edges_alike u w f h (AtValue id) fails = h (AtValue id) fails
edges_alike u w f h (AtBlock id) fails = h (AtBlock id) fails
