-- What paths pass: a block leaves one memory or none, and so does a path; which, can be told.
use Rattle.std.proofs.Common.{◌≡◌, ℕ, zero, suc, ◌<◌, ◌≤◌, ◌⊎◌, inl, inr, Bool, true, false, ◌||◌, if◌then◌else◌, List}
use Rattle.std.proofs.Common.{[], ◌∷◌, filter, find, length, Option, None, Some, eqb, refl, sym, subst, ap, ◌∙◌, arith}
use Rattle.std.specs.List.{All, Contains, list_any}
use Rattle.std.specs.Option.{option_map}
use Rattle.std.proofs.lemmas.Bool.{both_ways, eqb-true, eqb-false, or_left, or_right}
use Rattle.gossa_base.specs.declared.ids.ValueId.{ValueId}
use Rattle.ssa_ir.specs.declared.func.Block.{Block}
use Rattle.ssa_ir.specs.declared.func.Func.{Func}
use Rattle.ssa_ir.specs.declared.func.Value.{Value}
use Rattle.ssa_ir.specs.WellFormed.{WellFormedFunc}
use Rattle.ssa_check.specs.declared.memories.Leaves.{Leaves}
use Rattle.ssa_check.specs.declared.memories.Leaves.TheVariants.{Through, Known, Unknown}
use Rattle.ssa_check.specs.tables.ChainLinks.{chain_end, leaves_by, links_of}
use Rattle.ssa_check.specs.tables.ChainTables.{LeavesOf}
use Rattle.ssa_ir.specs.MemoryChains.{Chained, begins_memory, has_definer, inner_of, is_definer, is_inner}
use Rattle.ssa_ir.specs.MemoryChains.{is_memory_phi}
use Rattle.ssa_ir.specs.MemoryPaths.{AllPass, ComesIn, IsIncoming, IsIncomingBy, IsInit, Passes}
use Rattle.ssa_ir.specs.Paths.{IsPath}
use Rattle.ssa_ir.specs.Edges.{is_entry}
use Rattle.ssa_ir.specs.OpKinds.{is_init}
use Rattle.ssa_check.proofs.ChainLemmas.{one_last}
use Rattle.ssa_check.proofs.ChainWalkLemmas.{leaves_chain, leaves_first, leaves_none}
use Rattle.accepted_laws.proofs.FirstOrderLemmas.{id_equal}

zero_or_more : (n : ℕ) → (n ≡ 0) ⊎ (0 < n)
zero_or_more zero = inl refl
zero_or_more (suc n) = inr (omega arith)

few_or_more : (n : ℕ) → (n ≤ 1) ⊎ (1 < n)
few_or_more zero = inl (omega arith)
few_or_more (suc zero) = inl (omega arith)
few_or_more (suc (suc n)) = inr (omega arith)

-- ---- what a block leaves

abbrev pub Leaving : Func → Block → Type 0
Leaving f b = (l : Leaves) × LeavesOf f b l

pub leaves_of : (f : Func) → WellFormedFunc f → (b : Block) → Contains f.blocks b → Leaving f b
leaves_of f well b there = by_definer (has_definer b) refl
  where
    by_links : has_definer b ≡ true → length (filter is_memory_phi b.values) ≤ 1
        → (length (links_of f b.values) ≡ 0) ⊎ (0 < length (links_of f b.values)) → Leaving f b
    by_links has few (inl none) =
        (leaves_by (option_map (λ (v : Value). v.id) (find begins_memory b.values)), leaves_first f b has few none)
    by_links has few (inr some) =
        (leaves_by (chain_end (links_of f b.values)), leaves_chain f well b there has few some)

    by_phis : has_definer b ≡ true
        → (length (filter is_memory_phi b.values) ≤ 1) ⊎ (1 < length (filter is_memory_phi b.values)) → Leaving f b
    by_phis has (inl few) = by_links has few (zero_or_more (length (links_of f b.values)))
    by_phis has (inr more) = (Unknown, leaves_none f b has more)

    by_definer : (d : Bool) → has_definer b ≡ d → Leaving f b
    by_definer true has = by_phis has (few_or_more (length (filter is_memory_phi b.values)))
    by_definer false none = (Through, none)

filter_none : (kept wide : Value → Bool) → ((v : Value) → kept v ≡ true → wide v ≡ true) → (xs : List Value)
    → list_any wide xs ≡ false → filter kept xs ≡ []
filter_none kept wide implies [] none = refl
filter_none kept wide implies (x ∷ xs) none =
    by_tests (kept x) (wide x) (implies x) (filter_none kept wide implies xs) none
  where
    by_tests : (k w : Bool) → (k ≡ true → w ≡ true) → (list_any wide xs ≡ false → filter kept xs ≡ [])
        → (w || list_any wide xs) ≡ false → (if k then x ∷ filter kept xs else filter kept xs) ≡ []
    by_tests k true imp again h = cc
    by_tests true false imp again h = let e : false ≡ true = imp refl in cc
    by_tests false false imp again h = again h

phi_defines : (v : Value) → is_memory_phi v ≡ true → is_definer v ≡ true
phi_defines v phi =
    or_left (begins_memory v) (is_inner v) (or_right (is_init v.op) (is_memory_phi v) phi)

pub inner_defines : (v : Value) → is_inner v ≡ true → is_definer v ≡ true
inner_defines v inner = or_right (begins_memory v) (is_inner v) inner

-- a block without definers is chained
chained_empty : (f : Func) (b : Block) → has_definer b ≡ false → Chained f b
chained_empty f b none =
    let no_phi : filter is_memory_phi b.values ≡ [] = filter_none is_memory_phi is_definer phi_defines b.values none in
    let no_inner : inner_of b ≡ [] = filter_none is_inner is_definer inner_defines b.values none in
    record {
      one_phi = omega (arith, ap length no_phi);
      chain = [];
      within = λ k d lt. absurd (omega (arith, lt));
      whole = subst (λ (xs : List Value). All (Contains []) xs) (sym no_inner) (λ k d lt. absurd (omega (arith, lt)));
      in_order = tt;
    }

pub chained_or_not : (f : Func) → WellFormedFunc f → (b : Block) → Contains f.blocks b → Chained f b ⊎ (Chained f b → ⊥)
chained_or_not f well b there = by_leaves (leaves_of f well b there)
  where
    by_leaves : Leaving f b → Chained f b ⊎ (Chained f b → ⊥)
    by_leaves (Through, none) = inl (chained_empty f b none)
    by_leaves (Known id, last) = inl last.1.chained
    by_leaves (Unknown, not) = inr not.1

-- ---- what a path passes

abbrev pub Within : Func → List Block → Type 0
Within f [] = Unit {0}
Within f (b ∷ path) = Contains f.blocks b × Within f path

pub path_within : (f : Func) (path : List Block) → IsPath f path → Within f path
path_within f [] is = absurd is
path_within f (b ∷ []) is = (is.0, tt)
path_within f (b ∷ a ∷ before) is = (is.0, path_within f (a ∷ before) is.2)

abbrev pub PassesSome : Func → List Block → Type 0
PassesSome f path = (memory : ValueId) × Passes f path memory

abbrev pub PassesNone : Func → List Block → Type 0
PassesNone f path = (memory : ValueId) → Passes f path memory → ⊥

through_none : (f : Func) (b : Block) (before : List Block) → has_definer b ≡ false → PassesNone f before
    → PassesNone f (b ∷ before)
through_none f b before none not memory (inl last) = both_ways (has_definer b) none last.0
through_none f b before none not memory (inr passed) = not memory passed.1

unknown_none : (f : Func) (b : Block) (before : List Block) → has_definer b ≡ true → (Chained f b → ⊥)
    → PassesNone f (b ∷ before)
unknown_none f b before has not memory (inl last) = not last.1.chained
unknown_none f b before has not memory (inr passed) = both_ways (has_definer b) passed.0 has

pub decide_passes : (f : Func) → WellFormedFunc f → (path : List Block) → Within f path
    → PassesSome f path ⊎ PassesNone f path
decide_passes f well [] within = inr (λ memory p. p)
decide_passes f well (b ∷ before) within =
    by_leaves (leaves_of f well b within.0) (decide_passes f well before within.1)
  where
    by_leaves : Leaving f b → PassesSome f before ⊎ PassesNone f before
        → PassesSome f (b ∷ before) ⊎ PassesNone f (b ∷ before)
    by_leaves (Through, none) (inl some) = inl (some.0, inr (none, some.1))
    by_leaves (Through, none) (inr not) = inr (through_none f b before none not)
    by_leaves (Known id, last) rest = inl (id, inl last)
    by_leaves (Unknown, not) rest = inr (unknown_none f b before not.0 not.1)

pub same_passes : (f : Func) → WellFormedFunc f → (path : List Block) → Within f path → (x y : ValueId)
    → Passes f path x
    → Passes f path y → x ≡ y
same_passes f well [] within x y one other = absurd one
same_passes f well (b ∷ before) within x y (inl one) (inl other) = one_last f well b within.0 x y one.1 other.1
same_passes f well (b ∷ before) within x y (inl one) (inr other) = absurd (both_ways (has_definer b) other.0 one.0)
same_passes f well (b ∷ before) within x y (inr one) (inl other) = absurd (both_ways (has_definer b) one.0 other.0)
same_passes f well (b ∷ before) within x y (inr one) (inr other) = same_passes f well before within.1 x y one.1 other.1

-- ---- the incoming memory of a block, by one path to it

module _ (f : Func) (well : WellFormedFunc f) (b : Block) (before : List Block) (is_path : IsPath f (b ∷ before)) where
  within_before : (other : List Block) → IsPath f (b ∷ other) → Within f other
  within_before other path = (path_within f (b ∷ other) path).1

  init_one : (o : Option Value) (x y : ValueId) → IsInit o x → IsInit o y → x ≡ y
  init_one None x y h k = absurd h
  init_one (Some v) x y h k = sym h ∙ k

  comes_one : (e : Bool) (x y : ValueId) → ComesIn e f b x → ComesIn e f b y → x ≡ y
  comes_one true x y h k = init_one (find (λ v. is_init v.op) b.values) x y h k
  comes_one false x y h k =
      same_passes f well before (within_before before is_path) x y (h before is_path) (k before is_path)

  incoming_one : (o : Option Value) (x y : ValueId) → IsIncomingBy o f b x → IsIncomingBy o f b y → x ≡ y
  incoming_one None x y h k = comes_one (is_entry f b) x y h k
  incoming_one (Some phi) x y h k = sym h ∙ k

  pub same_incoming : (x y : ValueId) → IsIncoming f b x → IsIncoming f b y → x ≡ y
  same_incoming x y h k = incoming_one (find is_memory_phi b.values) x y h k

  -- where no memory at all comes can't be, one does
  abbrev Comes : (ValueId → Type 0) → Type 0
  Comes Is = (((memory : ValueId) → Is memory → ⊥) → ⊥) → (memory : ValueId) × Is memory

  init_there : (o : Option Value) → Comes (IsInit o)
  init_there None not = absurd (not (λ memory h. h))
  init_there (Some v) not = (v.id, refl)

  passed_alike : (((memory : ValueId) → AllPass f b memory → ⊥) → ⊥) → (memory : ValueId) → Passes f before memory
      → (other : List Block) → IsPath f (b ∷ other) → PassesSome f other ⊎ PassesNone f other → Passes f other memory
  passed_alike not memory here other path (inr none) = absurd (not (λ k all. none k (all other path)))
  passed_alike not memory here other path (inl some) = by_number (eqb memory.0 some.0.0) refl
    where
      apart : (memory.0 ≡ some.0.0 → ⊥) → ⊥
      apart differ =
          not (λ k all.
          let one : k ≡ memory =
          same_passes f well before (within_before before is_path) k memory (all before is_path) here in
          let two : k ≡ some.0 = same_passes f well other (within_before other path) k some.0 (all other path) some.1 in
          differ (ap (λ (x : ValueId). x.0) (sym one ∙ two)))

      by_number : (t : Bool) → eqb memory.0 some.0.0 ≡ t → Passes f other memory
      by_number true e =
          subst (Passes f other) (id_equal some.0 memory (sym (eqb-true memory.0 some.0.0 e))) some.1
      by_number false e = absurd (apart (eqb-false memory.0 some.0.0 e))

  all_there : PassesSome f before ⊎ PassesNone f before → Comes (AllPass f b)
  all_there (inl some) not = (
    some.0,
    λ other path.
        passed_alike not some.0 some.1 other path (decide_passes f well other (within_before other path)),
  )
  all_there (inr none) not = absurd (not (λ memory all. none memory (all before is_path)))

  comes_there : (e : Bool) → Comes (ComesIn e f b)
  comes_there true not = init_there (find (λ v. is_init v.op) b.values) not
  comes_there false not = all_there (decide_passes f well before (within_before before is_path)) not

  incoming_by_there : (o : Option Value) → Comes (IsIncomingBy o f b)
  incoming_by_there None not = comes_there (is_entry f b) not
  incoming_by_there (Some phi) not = (phi.id, refl)

  pub incoming_there : (((memory : ValueId) → IsIncoming f b memory → ⊥) → ⊥)
      → (memory : ValueId) × IsIncoming f b memory
  incoming_there not = incoming_by_there (find is_memory_phi b.values) not
