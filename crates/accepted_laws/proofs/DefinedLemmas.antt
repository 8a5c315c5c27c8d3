-- In an accepted function no place fails the check of definedness: each use stands behind the definition on every path;
-- and a value stands in one block.
use Rattle.std.proofs.Common.{◌≡◌, ℕ, ◌==◌, inl, inr, Bool, true, false, if◌then◌else◌, List, ◌∷◌, Option, None, Some}
use Rattle.std.proofs.Common.{slice_get, refl, subst, sym, ap, ◌∙◌}
use Rattle.std.specs.List.{Any, Contains}
use Rattle.std.proofs.lemmas.Bool.{eqb-true, true_from_ne_false}
use Rattle.std.proofs.lemmas.List.Elements.{All-contains}
use Rattle.gossa_base.specs.declared.ids.ValueId.{ValueId}
use Rattle.ssa_ir.specs.declared.func.Block.{Block}
use Rattle.ssa_ir.specs.declared.func.Func.{Func}
use Rattle.ssa_ir.specs.declared.func.SsaUnit.{SsaUnit}
use Rattle.ssa_ir.specs.declared.func.Value.{Value}
use Rattle.ssa_ir.specs.FirstOrder.{has_value, same_value}
use Rattle.ssa_ir.specs.OpKinds.{is_phi}
use Rattle.ssa_ir.specs.WellFormed.{WellFormedFunc}
use Rattle.ssa_check.specs.declared.refusal.At.TheVariants.{Value as AtValue, Block as AtBlock}
use Rattle.ssa_check.specs.declared.refusal.Check.TheVariants.{Undefined}
use Rattle.ssa_ir.specs.Definedness.{ControlMisses, Misses, ValueMisses, is_passed}
use Rattle.ssa_check.specs.Failing.{Meets, MeetsAll}
use Rattle.accepted_laws.specs.PathLaws.{AcceptedFunc, DefinedBeforeUse, DefinitionsComeFirst, IsDefined}
use Rattle.ssa_ir.specs.Paths.{IsPath}
use Rattle.ssa_check.proofs.CyclePlaces.{one_standing}
use Rattle.gossa_base.proofs.ListPlaces.{At, Found, contains_at, find_any}

pub well_formed_func : (u : SsaUnit) (f : Func) → AcceptedFunc u f → WellFormedFunc f
well_formed_func u f accepted = All-contains WellFormedFunc u.funcs f accepted.well_formed.each_function accepted.is_of

pub meets_all : (u : SsaUnit) (f : Func) → AcceptedFunc u f → MeetsAll u f
meets_all u f accepted = All-contains (MeetsAll u) u.funcs f accepted.accepted accepted.is_of

-- an element of a list that is so
pub some_of : {X : Type 0} (P : X → Type 0) (xs : List X) (x : X) → Contains xs x → P x → Any P xs
some_of P xs x (k, within, is) p = (k, x, within, is, p)

-- ---- no place fails

module _ (u : SsaUnit) (f : Func) (meets : Meets Undefined u f) where
  no_value_misses : (b : Block) (v : Value) → Contains f.blocks b → Contains b.values v → ValueMisses f b v → ⊥
  no_value_misses b v there stands misses =
      meets (AtValue v.id)
      (some_of (λ (c : Block). Any (λ (w : Value). (w.id ≡ v.id) × ValueMisses f c w) c.values) f.blocks b there
      (some_of (λ (w : Value). (w.id ≡ v.id) × ValueMisses f b w) b.values v stands (refl, misses)))

  no_control_misses : (b : Block) → Contains f.blocks b → ControlMisses f b b.control → ⊥
  no_control_misses b there misses =
      meets (AtBlock b.id)
      (some_of (λ (c : Block). (c.id ≡ b.id) × ControlMisses f c c.control) f.blocks b there (refl, misses))

  argument_defined : (b : Block) (v : Value) (id : ValueId) → Contains f.blocks b → Contains b.values v
      → is_phi v.op ≡ false → Contains v.args id → IsDefined f b id
  argument_defined b v id there stands no_phi takes before path =
      true_from_ne_false (is_passed (b ∷ before) id) (λ missed. no_value_misses b v there stands
      (inr (
        no_phi,
        some_of (Misses f b) v.args id takes
            (record { before = before; is_path = path; missed = missed }),
      )))

  phi_argument_defined : (b source : Block) (v : Value) (k : ℕ) (id : ValueId) (before : List Block)
      → Contains f.blocks b → Contains b.values v → is_phi v.op ≡ true → slice_get v.args k ≡ Some id
      → slice_get b.preds k ≡ Some source.id → IsPath f (b ∷ source ∷ before) → is_passed (source ∷ before) id ≡ true
  phi_argument_defined b source v k id before there stands phi is_arg is_source path =
      true_from_ne_false (is_passed (source ∷ before) id) (λ missed. no_value_misses b v there stands
      (inl (
        phi,
        record {
          k = k;
          arg = id;
          is_arg = is_arg;
          source = source;
          is_source = is_source;
          before = before;
          is_path = path;
          missed = missed;
        },
      )))

  control_defined : (b : Block) (id : ValueId) → Contains f.blocks b → b.control ≡ Some id → IsDefined f b id
  control_defined b id there is before path =
      true_from_ne_false (is_passed (b ∷ before) id) (λ missed. no_control_misses b there
      (subst (ControlMisses f b) (sym is) (record { before = before; is_path = path; missed = missed })))

-- ---- a value stands in one block

pub one_block : (f : Func) → WellFormedFunc f → (b c : Block) (id : ValueId) → Contains f.blocks b → Contains f.blocks c
    → has_value b.values id ≡ true → has_value c.values id ≡ true → b ≡ c
one_block f well b c id is_b is_c in_b in_c =
    let i : (k : ℕ) × At f.blocks k b = contains_at f.blocks b is_b in
    let j : (k : ℕ) × At f.blocks k c = contains_at f.blocks c is_c in
    let x : Found (λ v. same_value v.id id) b.values = find_any (λ v. same_value v.id id) b.values in_b in
    let y : Found (λ v. same_value v.id id) c.values = find_any (λ v. same_value v.id id) c.values in_c in
    one_standing f well i.0 j.0 b c i.1 j.1 x.0 y.0 x.1 y.1 x.2 y.2
    (eqb-true x.1.id.0 id.0 x.3 ∙ sym (eqb-true y.1.id.0 id.0 y.3))

-- ---- the law

pub defined_before_use : (u : SsaUnit) (f : Func) → WellFormedFunc f → Meets Undefined u f → DefinedBeforeUse f
defined_before_use u f well meets = record {
  argument = argument_defined u f meets;
  phi_argument = phi_argument_defined u f meets;
  control = control_defined u f meets;
  once = one_block f well;
}

pub definitions_come_first : DefinitionsComeFirst
definitions_come_first u f accepted =
    defined_before_use u f (well_formed_func u f accepted) (meets_all u f accepted Undefined)
