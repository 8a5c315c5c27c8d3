-- From the lowest failing number to the least place that fails a check, where only values or only blocks can fail it.
use Rattle.std.proofs.Common.{◌≡◌, ℕ, ◌⊎◌, inl, inr, Bool, true, false, List, [], ◌∷◌, Option, None, Some, MatchOption}
use Rattle.std.proofs.Common.{subst, sym, ap, arith}
use Rattle.std.specs.List.{Any, Contains, fold}
use Rattle.gossa_base.specs.declared.ids.BlockId.{BlockId}
use Rattle.gossa_base.specs.declared.ids.ValueId.{ValueId}
use Rattle.ssa_ir.specs.declared.func.Block.{Block}
use Rattle.ssa_ir.specs.declared.func.Func.{Func}
use Rattle.ssa_ir.specs.declared.func.SsaUnit.{SsaUnit}
use Rattle.ssa_ir.specs.declared.func.Value.{Value}
use Rattle.ssa_check.specs.declared.refusal.At.{At}
use Rattle.ssa_check.specs.declared.refusal.At.TheVariants.{Func as AtFunc, Value as AtValue, Block as AtBlock}
use Rattle.ssa_check.specs.declared.refusal.Check.{Check}
use Rattle.ssa_ir.specs.WellFormed.{WellFormedFunc}
use Rattle.ssa_check.specs.Failing.{FuncFails, ValueFails, BlockFails, FailsAt, at_value, at_block, IsBefore, Meets}
use Rattle.ssa_check.specs.Failing.{LeastPlace}
use Rattle.ssa_check.specs.tables.Lowest.{lowest_in, lowest_value, lowest_block}
use Rattle.graphs.proofs.AnyLemmas.{any_none, any_here, any_later, any_cases}
use Rattle.ssa_check.proofs.LowestLemmas.{IsLowest, same_lowest, Counts, fold_lowest}

-- the numbers of the values that fail a test
abbrev pub ValueCounts : (Block → Value → Bool) → List Block → ℕ → Type 0
ValueCounts test blocks k = Any (λ b. Counts (test b) (λ v. v.id.0) b.values k) blocks

fold_blocks : (test : Block → Value → Bool) (blocks : List Block) (r : Option ℕ) (Is : ℕ → Type 0) → IsLowest r Is
    → IsLowest (fold (lowest_in test) r blocks) (λ k. Is k ⊎ ValueCounts test blocks k)
fold_blocks test [] r Is h = same_lowest r Is (λ k. Is k ⊎ ValueCounts test [] k) (λ k so. inl so) back h
  where
    back : (k : ℕ) → Is k ⊎ ValueCounts test [] k → Is k
    back k (inl so) = so
    back k (inr some) = absurd (any_none some)
fold_blocks test (b ∷ blocks) r Is h =
    same_lowest (fold (lowest_in test) (lowest_in test r b) blocks)
    (λ k. (Is k ⊎ Counts (test b) (λ v. v.id.0) b.values k) ⊎ ValueCounts test blocks k)
    (λ k. Is k ⊎ ValueCounts test (b ∷ blocks) k) there back
    (fold_blocks test blocks (lowest_in test r b) (λ k. Is k ⊎ Counts (test b) (λ v. v.id.0) b.values k)
    (fold_lowest (test b) (λ v. v.id.0) b.values r Is h))
  where
    there : (k : ℕ) → (Is k ⊎ Counts (test b) (λ v. v.id.0) b.values k) ⊎ ValueCounts test blocks k
        → Is k ⊎ ValueCounts test (b ∷ blocks) k
    there k (inl (inl so)) = inl so
    there k (inl (inr here)) = inr (any_here b blocks here)
    there k (inr later) = inr (any_later b blocks later)

    back : (k : ℕ) → Is k ⊎ ValueCounts test (b ∷ blocks) k
        → (Is k ⊎ Counts (test b) (λ v. v.id.0) b.values k) ⊎ ValueCounts test blocks k
    back k (inl so) = inl (inl so)
    back k (inr some) = from_cases (any_cases b blocks some)
      where
        from_cases : Counts (test b) (λ v. v.id.0) b.values k ⊎ ValueCounts test blocks k
            → (Is k ⊎ Counts (test b) (λ v. v.id.0) b.values k) ⊎ ValueCounts test blocks k
        from_cases (inl here) = inl (inr here)
        from_cases (inr later) = inr later

-- the lowest value is the lowest of those that fail
pub values_lowest : (test : Block → Value → Bool) (f : Func)
    → IsLowest (lowest_value test f) (ValueCounts test f.blocks)
values_lowest test f =
    same_lowest (lowest_value test f) (λ k. ⊥ ⊎ ValueCounts test f.blocks k) (ValueCounts test f.blocks) there
    (λ k some. inr some)
    (fold_blocks test f.blocks None (λ k. ⊥) (λ k so. so))
  where
    there : (k : ℕ) → ⊥ ⊎ ValueCounts test f.blocks k → ValueCounts test f.blocks k
    there k (inl so) = absurd so
    there k (inr some) = some

-- what some item of a list is
any_map : {X : Type 0} {P Q : X → Type 0} (xs : List X) → ((x : X) → Contains xs x → P x → Q x) → Any P xs → Any Q xs
any_map xs each (k, x, within, is, p) = (k, x, within, is, each x (k, within, is) p)

-- where the function itself fails, it is the least place
pub func_place : (c : Check) (u : SsaUnit) (f : Func) → FuncFails c u f → LeastPlace c u f AtFunc
func_place c u f fails = record { fails = fails; least = none_before }
  where
    none_before : (other : At) → IsBefore other AtFunc → FailsAt c u f other → ⊥
    none_before AtFunc before some = before
    none_before (AtValue id) before some = before
    none_before (AtBlock id) before some = before

-- only values fail the check, and of the function's values those that a test names
module _ (c : Check) (u : SsaUnit) (f : Func) (test : Block → Value → Bool)
    (no_func : FuncFails c u f → ⊥) (no_block : (b : Block) → BlockFails c u f b → ⊥)
    (found : (b : Block) → Contains f.blocks b → (v : Value) → Contains b.values v → test b v ≡ true
    → ValueFails c u f b v)
    (named : (b : Block) → Contains f.blocks b → (v : Value) → Contains b.values v → ValueFails c u f b v
    → test b v ≡ true) where
  -- a value of a failing number fails
  value_fails : (k : ℕ) → ValueCounts test f.blocks k → FailsAt c u f (AtValue (record { 0 = k }))
  value_fails k some =
      any_map f.blocks (λ b of_func. any_map b.values
      (λ v of_block fails. ((λ i. record { 0 = sym fails.1 i }), found b of_func v of_block fails.0))) some

  value_counts : (id : ValueId) → FailsAt c u f (AtValue id) → ValueCounts test f.blocks id.0
  value_counts id some =
      any_map f.blocks (λ b of_func. any_map b.values
      (λ v of_block fails. (named b of_func v of_block fails.1, ap (λ (w : ValueId). w.0) (sym fails.0)))) some

  met : IsLowest None (ValueCounts test f.blocks) → Meets c u f
  met none AtFunc fails = no_func fails
  met none (AtValue id) fails = none id.0 (value_counts id fails)
  met none (AtBlock id) (k, b, within, is, p) = no_block b p.1

  least : (m : ℕ) → IsLowest (Some m) (ValueCounts test f.blocks) → (other : At)
      → IsBefore other (AtValue (record { 0 = m })) → FailsAt c u f other → ⊥
  least m h AtFunc before fails = no_func fails
  least m h (AtValue id) before fails = omega (arith, before, h.1 id.0 (value_counts id fails))
  least m h (AtBlock id) before fails = absurd before

  place_of : (r : Option ℕ) → IsLowest r (ValueCounts test f.blocks)
      → MatchOption (at_value r) (Meets c u f) (LeastPlace c u f)
  place_of None h = met h
  place_of (Some m) h = record { fails = value_fails m h.0; least = least m h }

  pub value_place_of : (r : Option ℕ) → r ≡ lowest_value test f
      → MatchOption (at_value r) (Meets c u f) (LeastPlace c u f)
  value_place_of r is = place_of r (subst (λ o. IsLowest o (ValueCounts test f.blocks)) (sym is) (values_lowest test f))

-- the same where the test names those of all values
pub value_place : (c : Check) (u : SsaUnit) (f : Func) (test : Block → Value → Bool) → (FuncFails c u f → ⊥)
    → ((b : Block) → BlockFails c u f b → ⊥) → ((b : Block) (v : Value) → test b v ≡ true → ValueFails c u f b v)
    → ((b : Block) (v : Value) → ValueFails c u f b v → test b v ≡ true)
    → (r : Option ℕ) → r ≡ lowest_value test f → MatchOption (at_value r) (Meets c u f) (LeastPlace c u f)
value_place c u f test no_func no_block found named =
    value_place_of c u f test no_func no_block (λ b of_func v of_block. found b v) (λ b of_func v of_block. named b v)

-- the numbers of the blocks that fail a test
abbrev pub BlockCounts : (Block → Bool) → List Block → ℕ → Type 0
BlockCounts test blocks k = Counts test (λ b. b.id.n) blocks k

-- the lowest block is the lowest of those that fail
pub blocks_lowest : (test : Block → Bool) (f : Func) → IsLowest (lowest_block test f) (BlockCounts test f.blocks)
blocks_lowest test f =
    same_lowest (lowest_block test f) (λ k. ⊥ ⊎ BlockCounts test f.blocks k) (BlockCounts test f.blocks) there
    (λ k some. inr some)
    (fold_lowest test (λ b. b.id.n) f.blocks None (λ k. ⊥) (λ k so. so))
  where
    there : (k : ℕ) → ⊥ ⊎ BlockCounts test f.blocks k → BlockCounts test f.blocks k
    there k (inl so) = absurd so
    there k (inr some) = some

-- a block of a well-formed function is unsplit
is_unsplit : (f : Func) → WellFormedFunc f → (b : Block) → Contains f.blocks b → b.id.split ≡ false
is_unsplit f whole b (k, within, is) = subst (λ (x : Block). x.id.split ≡ false) is (whole.unsplit k b within)

-- the name of an unsplit block is its number
named_by_number : (id : BlockId) (k : ℕ) → id.split ≡ false → k ≡ id.n → id ≡ record { split = false; n = k }
named_by_number id k unsplit is = λ i. record { split = unsplit i; n = sym is i }

-- only blocks fail the check, and of the function's blocks those that a test names
module _ (c : Check) (u : SsaUnit) (f : Func) (test : Block → Bool) (whole : WellFormedFunc f)
    (no_func : FuncFails c u f → ⊥) (no_value : (b : Block) (v : Value) → ValueFails c u f b v → ⊥)
    (found : (b : Block) → Contains f.blocks b → test b ≡ true → BlockFails c u f b)
    (named : (b : Block) → Contains f.blocks b → BlockFails c u f b → test b ≡ true) where
  -- a block of a failing number fails
  block_fails : (k : ℕ) → BlockCounts test f.blocks k → FailsAt c u f (AtBlock (record { split = false; n = k }))
  block_fails k some =
      any_map f.blocks
      (λ b of_func fails. (named_by_number b.id k (is_unsplit f whole b of_func) fails.1, found b of_func fails.0))
      some

  block_counts : (id : BlockId) → FailsAt c u f (AtBlock id) → BlockCounts test f.blocks id.n
  block_counts id some =
      any_map f.blocks (λ b of_func fails. (named b of_func fails.1, ap (λ (i : BlockId). i.n) (sym fails.0))) some

  no_value_fails : (id : ValueId) → FailsAt c u f (AtValue id) → ⊥
  no_value_fails id (k, b, within, is, (j, v, within_b, is_v, fails)) = no_value b v fails.1

  no_block_fails : IsLowest None (BlockCounts test f.blocks) → Meets c u f
  no_block_fails none AtFunc fails = no_func fails
  no_block_fails none (AtValue id) fails = no_value_fails id fails
  no_block_fails none (AtBlock id) fails = none id.n (block_counts id fails)

  least_block : (m : ℕ) → IsLowest (Some m) (BlockCounts test f.blocks) → (other : At)
      → IsBefore other (AtBlock (record { split = false; n = m })) → FailsAt c u f other → ⊥
  least_block m h AtFunc before fails = no_func fails
  least_block m h (AtValue id) before fails = no_value_fails id fails
  least_block m h (AtBlock id) before fails = omega (arith, before, h.1 id.n (block_counts id fails))

  place_of_lowest : (r : Option ℕ) → IsLowest r (BlockCounts test f.blocks)
      → MatchOption (at_block r) (Meets c u f) (LeastPlace c u f)
  place_of_lowest None h = no_block_fails h
  place_of_lowest (Some m) h = record { fails = block_fails m h.0; least = least_block m h }

  pub block_place_of : (r : Option ℕ) → r ≡ lowest_block test f
      → MatchOption (at_block r) (Meets c u f) (LeastPlace c u f)
  block_place_of r is =
      place_of_lowest r (subst (λ o. IsLowest o (BlockCounts test f.blocks)) (sym is) (blocks_lowest test f))

-- the same where the test names those of all blocks
pub block_place : (c : Check) (u : SsaUnit) (f : Func) (test : Block → Bool) → WellFormedFunc f → (FuncFails c u f → ⊥)
    → ((b : Block) (v : Value) → ValueFails c u f b v → ⊥) → ((b : Block) → test b ≡ true → BlockFails c u f b)
    → ((b : Block) → BlockFails c u f b → test b ≡ true)
    → (r : Option ℕ) → r ≡ lowest_block test f → MatchOption (at_block r) (Meets c u f) (LeastPlace c u f)
block_place c u f test whole no_func no_value found named =
    block_place_of c u f test whole no_func no_value (λ b of_func. found b) (λ b of_func. named b)
