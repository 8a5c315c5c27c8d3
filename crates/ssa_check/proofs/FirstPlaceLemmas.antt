-- From the lowest failing numbers to the least place that fails a check, where values and blocks can fail it: a value
-- goes before all blocks.
use Rattle.std.proofs.Common.{◌≡◌, ℕ, Bool, true, false, List, Option, None, Some, MatchOption, subst, sym, ap, arith}
use Rattle.std.specs.List.{Any, Contains}
use Rattle.std.proofs.lemmas.List.Elements.{All-contains}
use Rattle.std.proofs.lemmas.Option.{same_Some}
use Rattle.gossa_base.specs.declared.ids.BlockId.{BlockId}
use Rattle.gossa_base.specs.declared.ids.ValueId.{ValueId}
use Rattle.ssa_ir.specs.declared.func.Block.{Block}
use Rattle.ssa_ir.specs.declared.func.Func.{Func}
use Rattle.ssa_ir.specs.declared.func.SsaUnit.{SsaUnit}
use Rattle.ssa_ir.specs.declared.func.Value.{Value}
use Rattle.ssa_ir.specs.WellFormed.{WellFormedFunc}
use Rattle.ssa_check.specs.declared.refusal.At.{At}
use Rattle.ssa_check.specs.declared.refusal.At.TheVariants.{Func as AtFunc, Value as AtValue, Block as AtBlock}
use Rattle.ssa_check.specs.declared.refusal.Check.{Check}
use Rattle.ssa_check.specs.Failing.{FuncFails, ValueFails, BlockFails, FailsAt, at_value, at_block, IsBefore, Meets}
use Rattle.ssa_check.specs.Failing.{LeastPlace}
use Rattle.ssa_check.specs.tables.Lowest.{lowest_value, lowest_block}
use Rattle.ssa_check.proofs.LowestLemmas.{IsLowest}
use Rattle.ssa_check.proofs.PlaceLemmas.{BlockCounts, ValueCounts, blocks_lowest, values_lowest}

any_map : {X : Type 0} {P Q : X → Type 0} (xs : List X) → ((x : X) → Contains xs x → P x → Q x) → Any P xs → Any Q xs
any_map xs each (k, x, within, is, p) = (k, x, within, is, each x (k, within, is) p)

named_by_number : (id : BlockId) (k : ℕ) → id.split ≡ false → k ≡ id.n → id ≡ record { split = false; n = k }
named_by_number id k unsplit is = λ i. record { split = unsplit i; n = sym is i }

-- of the function's values and blocks those fail the check that two tests name, and the function itself doesn't
module _ (c : Check) (u : SsaUnit) (f : Func) (well : WellFormedFunc f)
    (value_test : Block → Value → Bool) (block_test : Block → Bool) (no_func : FuncFails c u f → ⊥)
    (found_value : (b : Block) → Contains f.blocks b → (v : Value) → Contains b.values v → value_test b v ≡ true
    → ValueFails c u f b v)
    (named_value : (b : Block) → Contains f.blocks b → (v : Value) → Contains b.values v → ValueFails c u f b v
    → value_test b v ≡ true)
    (found_block : (b : Block) → Contains f.blocks b → block_test b ≡ true → BlockFails c u f b)
    (named_block : (b : Block) → Contains f.blocks b → BlockFails c u f b → block_test b ≡ true) where
  value_fails : (k : ℕ) → ValueCounts value_test f.blocks k → FailsAt c u f (AtValue (record { 0 = k }))
  value_fails k some =
      any_map f.blocks (λ b of_func. any_map b.values
      (λ v of_block fails. ((λ i. record { 0 = sym fails.1 i }), found_value b of_func v of_block fails.0))) some

  value_counts : (id : ValueId) → FailsAt c u f (AtValue id) → ValueCounts value_test f.blocks id.0
  value_counts id some =
      any_map f.blocks (λ b of_func. any_map b.values
      (λ v of_block fails. (named_value b of_func v of_block fails.1, ap (λ (w : ValueId). w.0) (sym fails.0)))) some

  block_fails : (k : ℕ) → BlockCounts block_test f.blocks k → FailsAt c u f (AtBlock (record { split = false; n = k }))
  block_fails k some =
      any_map f.blocks
      (λ b of_func fails. (
        named_by_number b.id k
            (All-contains (λ (x : Block). x.id.split ≡ false) f.blocks b well.unsplit of_func) fails.1,
        found_block b of_func fails.0,
      ))
      some

  block_counts : (id : BlockId) → FailsAt c u f (AtBlock id) → BlockCounts block_test f.blocks id.n
  block_counts id some =
      any_map f.blocks
      (λ b of_func fails. (named_block b of_func fails.1, ap (λ (i : BlockId). i.n) (sym fails.0))) some

  -- ---- a value

  least_value : (m : ℕ) → IsLowest (Some m) (ValueCounts value_test f.blocks) → (other : At)
      → IsBefore other (AtValue (record { 0 = m })) → FailsAt c u f other → ⊥
  least_value m h AtFunc before fails = no_func fails
  least_value m h (AtValue id) before fails = omega (arith, before, h.1 id.0 (value_counts id fails))
  least_value m h (AtBlock id) before fails = absurd before

  value_is : (r : Option ℕ) → IsLowest r (ValueCounts value_test f.blocks) → (at : At) → at_value r ≡ Some at
      → LeastPlace c u f at
  value_is None h at e = cc
  value_is (Some m) h at e =
      subst (LeastPlace c u f) (same_Some (AtValue (record { 0 = m })) at e)
      (record { fails = value_fails m h.0; least = least_value m h })

  -- the lowest value that fails is the least place
  pub value_first : (r : Option ℕ) → r ≡ lowest_value value_test f → (at : At) → at_value r ≡ Some at
      → LeastPlace c u f at
  value_first r is =
      value_is r (subst (λ o. IsLowest o (ValueCounts value_test f.blocks)) (sym is) (values_lowest value_test f))

  -- ---- a block

  module _ (none : IsLowest None (ValueCounts value_test f.blocks)) where
    all_meet : IsLowest None (BlockCounts block_test f.blocks) → Meets c u f
    all_meet no_block AtFunc fails = no_func fails
    all_meet no_block (AtValue id) fails = none id.0 (value_counts id fails)
    all_meet no_block (AtBlock id) fails = no_block id.n (block_counts id fails)

    least_block : (m : ℕ) → IsLowest (Some m) (BlockCounts block_test f.blocks) → (other : At)
        → IsBefore other (AtBlock (record { split = false; n = m })) → FailsAt c u f other → ⊥
    least_block m h AtFunc before fails = no_func fails
    least_block m h (AtValue id) before fails = none id.0 (value_counts id fails)
    least_block m h (AtBlock id) before fails = omega (arith, before, h.1 id.n (block_counts id fails))

    block_is : (s : Option ℕ) → IsLowest s (BlockCounts block_test f.blocks)
        → MatchOption (at_block s) (Meets c u f) (LeastPlace c u f)
    block_is None h = all_meet h
    block_is (Some m) h = record { fails = block_fails m h.0; least = least_block m h }

  no_value : (r : Option ℕ) → IsLowest r (ValueCounts value_test f.blocks) → at_value r ≡ None
      → IsLowest None (ValueCounts value_test f.blocks)
  no_value None h e = h
  no_value (Some m) h e = cc

  -- where no value fails, the lowest block that does is the least place
  pub then_block : (r : Option ℕ) → r ≡ lowest_value value_test f → at_value r ≡ None
      → (s : Option ℕ) → s ≡ lowest_block block_test f → MatchOption (at_block s) (Meets c u f) (LeastPlace c u f)
  then_block r is e s is_block =
      block_is
      (no_value r (subst (λ o. IsLowest o (ValueCounts value_test f.blocks)) (sym is) (values_lowest value_test f)) e)
      s
      (subst (λ o. IsLowest o (BlockCounts block_test f.blocks)) (sym is_block) (blocks_lowest block_test f))
