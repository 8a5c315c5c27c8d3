-- In accepted functions the memory that is named is the last definer passed, on every path.
use Rattle.std.proofs.Common.{◌≡◌, ◌⊎◌, inl, inr, Bool, true, false, ◌||◌, List, ◌∷◌, find, Option, None, Some, eqb}
use Rattle.std.proofs.Common.{refl, sym, subst, ap, ◌∙◌}
use Rattle.std.specs.List.{Contains, last_or}
use Rattle.std.proofs.lemmas.Bool.{both_ways, eqb-true, eqb-false, or_left, or_right}
use Rattle.gossa_base.specs.declared.ids.ValueId.{ValueId}
use Rattle.ssa_ir.specs.declared.func.Block.{Block}
use Rattle.ssa_ir.specs.declared.func.Func.{Func}
use Rattle.ssa_ir.specs.declared.func.SsaUnit.{SsaUnit}
use Rattle.ssa_ir.specs.declared.func.Value.{Value}
use Rattle.ssa_ir.specs.FirstOrder.{same_memory}
use Rattle.ssa_ir.specs.OpKinds.{reads_memory, is_result}
use Rattle.ssa_ir.specs.WellFormed.{WellFormedFunc}
use Rattle.ssa_check.specs.declared.refusal.At.TheVariants.{Value as AtValue, Block as AtBlock}
use Rattle.ssa_check.specs.declared.refusal.Check.{Check}
use Rattle.ssa_check.specs.declared.refusal.Check.TheVariants.{Memory}
use Rattle.ssa_check.specs.declared.memories.Leaves.TheVariants.{Through, Known, Unknown}
use Rattle.ssa_check.specs.Failing.{BlockFails, ValueFails}
use Rattle.ssa_ir.specs.MemoryChains.{Chained, has_definer, inner_of, is_inner, is_memory_phi, taken_by, takes}
use Rattle.ssa_ir.specs.MemoryChains.{takes_inner}
use Rattle.accepted_laws.specs.MemoryLaws.{Begins, BeginsBy, Ends, MemoryIsPassed, PhiIsPassed, Starts, TakesEnd}
use Rattle.accepted_laws.specs.MemoryLaws.{TakesPassed}
use Rattle.ssa_ir.specs.MemoryPaths.{Asked, ComesIn, IsIncoming, IsIncomingBy, IsOutgoing, Passes, TakesOther, is_exit}
use Rattle.ssa_ir.specs.MemoryPaths.{uses_memory}
use Rattle.accepted_laws.specs.PathLaws.{AcceptedFunc}
use Rattle.ssa_ir.specs.Paths.{IsPath, Reached}
use Rattle.ssa_ir.specs.Edges.{is_entry}
use Rattle.ssa_check.proofs.ChainLemmas.{one_last}
use Rattle.accepted_laws.proofs.DefinedLemmas.{meets_all, well_formed_func}
use Rattle.accepted_laws.proofs.FirstOrderLemmas.{id_equal}
use Rattle.gossa_base.proofs.ListPlaces.{any_at, any_from_at, contains_at, find_any}
use Rattle.block_order.proofs.ItemStands.{same_memories}
use Rattle.accepted_laws.proofs.PassedMemory.{Leaving, PassesNone, PassesSome, chained_or_not, decide_passes}
use Rattle.accepted_laws.proofs.PassedMemory.{incoming_there, leaves_of, path_within, same_incoming, same_passes}

-- ---- what an accepted function has

pub no_value_fails : (u : SsaUnit) (f : Func) → AcceptedFunc u f → (c : Check) (b : Block) → Contains f.blocks b
    → (v : Value)
    → Contains b.values v → ValueFails c u f b v → ⊥
no_value_fails u f h c b there v stands fails =
    let block = contains_at f.blocks b there in
    let value = contains_at b.values v stands in
    meets_all u f h c (AtValue v.id)
    (any_from_at _ f.blocks block.0 b block.1 (any_from_at _ b.values value.0 v value.1 (refl, fails)))

pub no_block_fails : (u : SsaUnit) (f : Func) → AcceptedFunc u f → (c : Check) (b : Block) → Contains f.blocks b
    → BlockFails c u f b → ⊥
no_block_fails u f h c b there fails =
    let block = contains_at f.blocks b there in
    meets_all u f h c (AtBlock b.id) (any_from_at _ f.blocks block.0 b block.1 (refl, fails))

-- ---- along one path to a block

-- the memory that is taken is the one that it is compared with
pub taken_is : (taken : Option ValueId) (memory : ValueId) → same_memory taken (Some memory) ≡ true
    → taken ≡ Some memory
taken_is taken memory same =
    let both : (m : ValueId) × (n : ValueId) × (taken ≡ Some m) × (Some memory ≡ Some n) × (m.0 ≡ n.0)
    = same_memories taken (Some memory) same in
    let is_memory : memory ≡ both.1 = let e : Some memory ≡ Some both.1 = both.3 in cc in
    both.2 ∙ ap Some (id_equal both.0 both.1 both.4 ∙ sym is_memory)

one_of_three : (a b c : Bool) → (a ≡ true) ⊎ ((b ≡ true) ⊎ (c ≡ true)) → (a || b || c) ≡ true
one_of_three true b c h = refl
one_of_three false true c h = refl
one_of_three false false true h = refl
one_of_three false false false (inl e) = cc
one_of_three false false false (inr (inl e)) = cc
one_of_three false false false (inr (inr e)) = cc

module _ (u : SsaUnit) (f : Func) (h : AcceptedFunc u f) (b : Block) (there : Contains f.blocks b)
    (before : List Block) (is_path : IsPath f (b ∷ before)) where
  well : WellFormedFunc f
  well = well_formed_func u f h

  reached : Reached f b
  reached = record { before = before; is_path = is_path }

  chained : Chained f b
  chained = by_cases (chained_or_not f well b there)
    where
      by_cases : Chained f b ⊎ (Chained f b → ⊥) → Chained f b
      by_cases (inl is) = is
      by_cases (inr not) = absurd (no_block_fails u f h Memory b there (inl (reached, not)))

  -- a block that uses memory has an incoming one
  asked : uses_memory b ≡ true → (memory : ValueId) × Asked f b memory
  asked uses =
      let comes : (memory : ValueId) × IsIncoming f b memory
      = incoming_there f well b before is_path
      (λ none. no_block_fails u f h Memory b there (inr (inl (reached, uses, none)))) in
      (comes.0, record { reached = reached; uses = uses; chained = chained; comes = comes.1 })

  -- and begins with it on this path
  starts_by : (e : Bool) (memory : ValueId) → ComesIn e f b memory → Starts e f b before memory
  starts_by true memory comes = comes
  starts_by false memory comes = comes before is_path

  begins_by : (o : Option Value) (memory : ValueId) → IsIncomingBy o f b memory → BeginsBy o f b before memory
  begins_by None memory comes = starts_by (is_entry f b) memory comes
  begins_by (Some phi) memory comes = comes

  begins : (memory : ValueId) → IsIncoming f b memory → Begins f b before memory
  begins memory comes = begins_by (find is_memory_phi b.values) memory comes

  value_uses : (v : Value) → Contains b.values v
      → (is_inner v ≡ true) ⊎ ((reads_memory v.op ≡ true) ⊎ (is_result v.op ≡ true)) → uses_memory b ≡ true
  value_uses v stands which =
      let place = contains_at b.values v stands in
      or_left _ (is_exit b.kind)
      (any_at (λ w. is_inner w || reads_memory w.op || is_result w.op) b.values place.0 v place.1
      (one_of_three (is_inner v) (reads_memory v.op) (is_result v.op) which))

  -- what takes memory takes what was passed, unless it fails
  passed_by : (v : Value) (incoming : ValueId) → IsIncoming f b incoming
      → (takes_inner f b v ≡ false → takes f v incoming ≡ false → ⊥) → TakesPassed f b before v
  passed_by v incoming comes not = by_inner (takes_inner f b v) refl
    where
      by_incoming : (t : Bool) → takes_inner f b v ≡ false → takes f v incoming ≡ t → TakesPassed f b before v
      by_incoming true none is = record {
        memory = incoming;
        taken = taken_is (taken_by f v) incoming is;
        passed = inr (begins incoming comes);
      }
      by_incoming false none is = absurd (not none is)

      by_inner : (t : Bool) → takes_inner f b v ≡ t → TakesPassed f b before v
      by_inner true is =
          let found = find_any (λ d. takes f v d.id) (inner_of b) is in
          record { memory = found.1.id; taken = taken_is (taken_by f v) found.1.id found.3; passed = inl is }
      by_inner false is = by_incoming (takes f v incoming) is refl

  -- ---- the end of the block

  abbrev Out : Type 0
  Out = (memory : ValueId) × IsOutgoing f b memory × Ends f b before memory

  out : (incoming : ValueId) → IsIncoming f b incoming → Out
  out incoming comes = by_leaves (leaves_of f well b there)
    where
      by_leaves : Leaving f b → Out
      by_leaves (Through, none) = (incoming, inr (none, comes), inr (none, begins incoming comes))
      by_leaves (Known id, last) = (id, inl last, inl last)
      by_leaves (Unknown, not) = absurd (not.1 chained)

  same_outgoing : (x y : ValueId) → IsOutgoing f b x → IsOutgoing f b y → x ≡ y
  same_outgoing x y (inl one) (inl other) = one_last f well b there x y one.1 other.1
  same_outgoing x y (inl one) (inr other) = absurd (both_ways (has_definer b) other.0 one.0)
  same_outgoing x y (inr one) (inl other) = absurd (both_ways (has_definer b) one.0 other.0)
  same_outgoing x y (inr one) (inr other) = same_incoming f well b before is_path x y one.1 other.1

  end_by : (taken : Option ValueId) → Out → (TakesOther f b taken → ⊥) → TakesEnd f b before taken
  end_by taken o not = by_same (same_memory taken (Some o.0)) refl
    where
      by_same : (t : Bool) → same_memory taken (Some o.0) ≡ t → TakesEnd f b before taken
      by_same true is = record { memory = o.0; is_taken = taken_is taken o.0 is; at_end = o.2 }
      by_same false is =
          absurd (not (λ memory other.
          subst (λ x. same_memory taken (Some x) ≡ false) (same_outgoing o.0 memory o.1 other) is))

  -- ---- the law

  reader : (v : Value) → Contains b.values v → reads_memory v.op ≡ true → TakesPassed f b before v
  reader v stands reads =
      let a = asked (value_uses v stands (inr (inl reads))) in
      passed_by v a.0 a.1.comes (λ none other.
      no_value_fails u f h Memory b there v stands
      (inr (inl (record { incoming = a.0; asked = a.1; reads = reads; not_inner = none; other = other }))))

  inner : (v : Value) → Contains b.values v → is_inner v ≡ true → TakesPassed f b before v
  inner v stands is =
      let a = asked (value_uses v stands (inl is)) in
      passed_by v a.0 a.1.comes (λ none other.
      no_value_fails u f h Memory b there v stands
      (inl (record { incoming = a.0; asked = a.1; inner = is; first = none; other = other })))

  result : (v : Value) → Contains b.values v → is_result v.op ≡ true → TakesEnd f b before (last_or None v.args)
  result v stands is =
      let a = asked (value_uses v stands (inr (inr is))) in
      end_by (last_or None v.args) (out a.0 a.1.comes) (λ other.
      no_value_fails u f h Memory b there v stands
      (inr (inr (inl (record { incoming = a.0; asked = a.1; result = is; other = other })))))

  exit : is_exit b.kind ≡ true → TakesEnd f b before b.control
  exit is =
      let a = asked (or_right _ (is_exit b.kind) is) in
      end_by b.control (out a.0 a.1.comes) (λ other.
      no_block_fails u f h Memory b there
      (inr (inr (record { incoming = a.0; asked = a.1; exits = is; other = other }))))

  pub memory_is_passed : MemoryIsPassed f b before
  memory_is_passed = record { chained = chained; reader = reader; inner = inner; result = result; exit = exit }

-- a memory phi takes what was passed on the way that came
pub phi_is_passed : (u : SsaUnit) (f : Func) → AcceptedFunc u f → (b : Block) → Contains f.blocks b → PhiIsPassed f b
phi_is_passed u f h b there v k arg source before stands phi is_arg is_source is_path =
    by_passed (decide_passes f (well_formed_func u f h) (source ∷ before)
    (path_within f (b ∷ source ∷ before) is_path).1)
  where
    fails : (Passes f (source ∷ before) arg → ⊥) → ⊥
    fails other =
        no_value_fails u f h Memory b there v stands
        (inr (inr (inr (record {
          phi = phi;
          k = k;
          arg = arg;
          is_arg = is_arg;
          source = source;
          is_source = is_source;
          before = before;
          is_path = is_path;
          other = other;
        }))))

    by_passed : PassesSome f (source ∷ before) ⊎ PassesNone f (source ∷ before) → Passes f (source ∷ before) arg
    by_passed (inr none) = absurd (fails (none arg))
    by_passed (inl some) = by_number (eqb some.0.0 arg.0) refl
      where
        by_number : (t : Bool) → eqb some.0.0 arg.0 ≡ t → Passes f (source ∷ before) arg
        by_number true e = subst (Passes f (source ∷ before)) (id_equal some.0 arg (eqb-true some.0.0 arg.0 e)) some.1
        by_number false e =
            absurd (fails (λ passed.
            eqb-false some.0.0 arg.0 e
            (ap (λ (x : ValueId). x.0)
            (same_passes f (well_formed_func u f h) (source ∷ before) (path_within f (b ∷ source ∷ before) is_path).1
            some.0 arg some.1
            passed))))
