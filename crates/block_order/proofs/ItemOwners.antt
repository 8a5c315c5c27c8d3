-- Which item a value is of: the owner that its arguments and its index give is the item that has its number.
use Rattle.std.proofs.Common.{◌≡◌, ℕ, ◌+◌, ◌<◌, ◌⊎◌, inl, inr, Bool, true, false, not, ◌&&◌, ◌||◌, if◌then◌else◌, List}
use Rattle.std.proofs.Common.{[], ◌∷◌, length, get_or, filter, Option, None, Some, slice_get, refl, subst, sym, ap, ◌∙◌}
use Rattle.std.proofs.Common.{arith}
use Rattle.std.specs.List.{Contains, list_any}
use Rattle.std.specs.Option.{option_or}
use Rattle.std.proofs.lemmas.Bool.{and_from, and_parts, both_ways, cases_order, eq-eqb, eqb-true, false_from_ne_true}
use Rattle.std.proofs.lemmas.Bool.{not_from_false, not-true, or_cases, or_left, or_right}
use Rattle.std.proofs.lemmas.Option.{get_or_from_slice_get, slice_get_within}
use Rattle.gossa_base.specs.declared.ids.ValueId.{ValueId}
use Rattle.ssa_ir.specs.declared.op.Op.{Op}
use Rattle.ssa_ir.specs.declared.op.Op.TheVariants.{Phi, SelectN}
use Rattle.ssa_ir.specs.declared.func.Value.{Value}
use Rattle.ssa_ir.specs.FirstOrder.{by_number, has_value, item, same_value, selects}
use Rattle.ssa_ir.specs.OpKinds.{is_call, is_follower, is_phi}
use Rattle.ssa_ir.specs.Cycles.{follows_a_call, leaders}
use Rattle.block_order.specs.tables.Dependencies.{index_of}
use Rattle.block_order.specs.LowestOnCycle.{HasItems}
use Rattle.block_order.specs.tables.ItemGraph.{call_named, calls, owner, owner_at, owner_of, owner_where}
use Rattle.block_order.specs.tables.ItemGraph.{where_call}
use Rattle.block_order.proofs.StandingLemmas.{any_by_number}
use Rattle.gossa_base.proofs.ListPlaces.{At, Found, all_at, any_at, any_filter, at_contains, at_filter, contains_at}
use Rattle.gossa_base.proofs.ListPlaces.{filter_at, find_any, first_at, first_only, same_at}

-- ---- ops

pub call_no_phi : (op : Op) → is_call op ≡ true → is_phi op ≡ false
call_no_phi Phi h = cc
call_no_phi _ h = refl

pub call_no_follower : (op : Op) → is_call op ≡ true → is_follower op ≡ false
call_no_follower SelectN h = cc
call_no_follower _ h = refl

pub follower_no_phi : (op : Op) → is_follower op ≡ true → is_phi op ≡ false
follower_no_phi Phi h = cc
follower_no_phi _ h = refl

-- ---- numbers

pub same_numbers : (a b : ValueId) → same_value a b ≡ true → a.0 ≡ b.0
same_numbers a b h = eqb-true a.0 b.0 h

pub equal_numbers : (a b : ValueId) → a.0 ≡ b.0 → same_value a b ≡ true
equal_numbers a b e = eq-eqb a.0 b.0 e

-- how an index comes to be a value's owner
pub data Owns (block : List Value) (o i : ℕ) (v : Value) : Type 0 where
  itself : o ≡ i → is_phi v.op ≡ false → (is_follower v.op ≡ false) ⊎ (call_named block v.args ≡ None)
      → Owns block o i v
  of_call : is_follower v.op ≡ true → call_named block v.args ≡ Some o → Owns block o i v

-- an item: a value that is its own owner
pub record IsLeader (block : List Value) (i : ℕ) (x : Value) : Type 0 where
  pub at : At block i x
  pub own : owner_of block i x ≡ Some i

module _ (block : List Value) (has : HasItems block) where
  -- a number stands once
  pub same_index : (i j : ℕ) (v w : Value) → At block i v → At block j w → v.id.0 ≡ w.id.0 → i ≡ j
  same_index i j v w at_i at_j same = by_order (cases_order i j)
    where
      number : (k : ℕ) (x : Value) → At block k x → (get_or block k v).id.0 ≡ x.id.0
      number k x at = ap (λ (y : Value). y.id.0) (get_or_from_slice_get block k x v at)

      by_order : (i ≡ j) ⊎ ((i < j) ⊎ (j < i)) → i ≡ j
      by_order (inl e) = e
      by_order (inr (inl lt)) =
          absurd (has.numbers_differ i j v lt (slice_get_within block j w at_j)
          (number i v at_i ∙ same ∙ sym (number j w at_j)))
      by_order (inr (inr lt)) =
          absurd (has.numbers_differ j i v lt (slice_get_within block i v at_i)
          (number j w at_j ∙ sym same ∙ sym (number i v at_i)))

  pub same_standing : (i j : ℕ) (v w : Value) → At block i v → At block j w → v.id.0 ≡ w.id.0 → v ≡ w
  same_standing i j v w at_i at_j same =
      same_at block i v w at_i (ap (slice_get block) (same_index i j v w at_i at_j same) ∙ at_j)

  pub index_found : (i : ℕ) (v : Value) (id : ValueId) → At block i v → v.id.0 ≡ id.0 → index_of block id ≡ Some i
  index_found i v id at same =
      first_only (λ w. same_value w.id id) block i v at (equal_numbers v.id id same)
      (λ j w at_j h. same_index j i w v at_j at (same_numbers w.id id h ∙ sym same))

  pub index_stands : (i : ℕ) (id : ValueId) → index_of block id ≡ Some i
      → (v : Value) × At block i v × (v.id.0 ≡ id.0)
  index_stands i id h =
      let found : (j : ℕ) × (v : Value) × (i ≡ 0 + j) × At block j v × (same_value v.id id ≡ true) =
      first_at (λ w. same_value w.id id) 0 block i h in
      let same : found.0 ≡ i = omega (arith, found.2) in
      (found.1, subst (λ k. At block k found.1) same found.3, same_numbers found.1.id id found.4)

  -- ---- selects of calls

  -- the first argument is the number of the call at this index
  abbrev pub Names : List ValueId → ℕ → Type 0
  Names args c =
      (a : ValueId) × (rest : List ValueId) × (args ≡ a ∷ rest) × (x : Value) × At block c x × (x.id.0 ≡ a.0)
      × (is_call x.op ≡ true)

  pub names_from : (args : List ValueId) (c : ℕ) → call_named block args ≡ Some c → Names args c
  names_from [] c h = cc
  names_from (a ∷ rest) c h = by_index (index_of block a) refl h
    where
      by_call : (i : ℕ) → index_of block a ≡ Some i → (b : Bool) → calls (slice_get block i) ≡ b
          → (if b then Some i else None) ≡ Some c → Names (a ∷ rest) c
      by_call i is false e h = cc
      by_call i is true e h =
          let same : i ≡ c = cc in
          let stands : (v : Value) × At block i v × (v.id.0 ≡ a.0) = index_stands i a is in (
            a,
            rest,
            refl,
            stands.0,
            subst (λ k. At block k stands.0) same stands.1,
            stands.2,
            sym (ap calls stands.1)
                ∙ e,
          )

      by_index : (o : Option ℕ) → index_of block a ≡ o → where_call block o ≡ Some c → Names (a ∷ rest) c
      by_index None is h = cc
      by_index (Some i) is h = by_call i is (calls (slice_get block i)) refl h

  pub from_names : (a : ValueId) (rest : List ValueId) (c : ℕ) (x : Value) → At block c x → x.id.0 ≡ a.0
      → is_call x.op ≡ true
      → call_named block (a ∷ rest) ≡ Some c
  from_names a rest c x at same call =
      ap (where_call block) (index_found c x a at same) ∙ ap (λ b. if b then Some c else None) (ap calls at ∙ call)

  -- ---- owners

  pub owns_from : (o i : ℕ) (v : Value) → owner_of block i v ≡ Some o → Owns block o i v
  owns_from o i v h = by_phi (is_phi v.op) refl h
    where
      by_name : is_phi v.op ≡ false → is_follower v.op ≡ true → (c : Option ℕ) → call_named block v.args ≡ c
          → option_or c (Some i) ≡ Some o → Owns block o i v
      by_name no_phi follows None e h = let same : o ≡ i = cc in itself same no_phi (inr e)
      by_name no_phi follows (Some c) e h = of_call follows (e ∙ h)

      by_follower : is_phi v.op ≡ false → (b : Bool) → is_follower v.op ≡ b
          → (if b then option_or (call_named block v.args) (Some i) else Some i) ≡ Some o → Owns block o i v
      by_follower no_phi false e h = let same : o ≡ i = cc in itself same no_phi (inl e)
      by_follower no_phi true e h = by_name no_phi e (call_named block v.args) refl h

      by_phi : (b : Bool) → is_phi v.op ≡ b
          → (if b then None else (if is_follower v.op then option_or (call_named block v.args) (Some i) else Some i))
          ≡ Some o → Owns block o i v
      by_phi true e h = cc
      by_phi false e h = by_follower e (is_follower v.op) refl h

  pub owner_itself : (i : ℕ) (v : Value) → is_phi v.op ≡ false
      → (is_follower v.op ≡ false) ⊎ (call_named block v.args ≡ None) → owner_of block i v ≡ Some i
  owner_itself i v no_phi (inl no_follower) =
      ap (λ b. if b then None else (if is_follower v.op then option_or (call_named block v.args) (Some i) else Some i))
      no_phi
      ∙ ap (λ b. if b then option_or (call_named block v.args) (Some i) else Some i) no_follower
  owner_itself i v no_phi (inr none) =
      ap (λ b. if b then None else (if is_follower v.op then option_or (call_named block v.args) (Some i) else Some i))
      no_phi
      ∙ by_follower (is_follower v.op)
    where
      by_follower : (b : Bool) → (if b then option_or (call_named block v.args) (Some i) else Some i) ≡ Some i
      by_follower true = ap (λ c. option_or c (Some i)) none
      by_follower false = refl

  pub owner_call : (i c : ℕ) (v : Value) → is_follower v.op ≡ true → call_named block v.args ≡ Some c
      → owner_of block i v ≡ Some c
  owner_call i c v follows named =
      ap (λ b. if b then None else (if is_follower v.op then option_or (call_named block v.args) (Some i) else Some i))
      (follower_no_phi v.op follows)
      ∙ ap (λ b. if b then option_or (call_named block v.args) (Some i) else Some i) follows
      ∙ ap (λ o. option_or o (Some i)) named

  call_owner : (c : ℕ) (x : Value) → is_call x.op ≡ true → owner_of block c x ≡ Some c
  call_owner c x call = owner_itself c x (call_no_phi x.op call) (inl (call_no_follower x.op call))

  pub owner_is_item : (o i : ℕ) (v : Value) → At block i v → owner_of block i v ≡ Some o
      → (x : Value) × IsLeader block o x
  owner_is_item o i v at h = by_owns (owns_from o i v h)
    where
      by_owns : Owns block o i v → (x : Value) × IsLeader block o x
      by_owns (itself same no_phi own) = (
        v,
        record {
          at = subst (λ k. At block k v) (sym same) at;
          own = subst (λ k. owner_of block k v ≡ Some k)
              (sym same) (owner_itself i v no_phi own);
        },
      )
      by_owns (of_call follows named) =
          let names : Names v.args o = names_from v.args o named in
          (names.3, record { at = names.4; own = call_owner o names.3 names.6 })

  pub owner_found : (i : ℕ) (v : Value) (a : ValueId) → At block i v → v.id.0 ≡ a.0
      → owner block a ≡ owner_of block i v
  owner_found i v a at same = ap (owner_where block) (index_found i v a at same) ∙ ap (owner_at block i) at

  pub owner_stands : (o : ℕ) (a : ValueId) → owner block a ≡ Some o
      → (i : ℕ) × (v : Value) × At block i v × (v.id.0 ≡ a.0) × (owner_of block i v ≡ Some o)
  owner_stands o a h = by_index (index_of block a) refl h
    where
      by_index : (k : Option ℕ) → index_of block a ≡ k → owner_where block k ≡ Some o
          → (i : ℕ) × (v : Value) × At block i v × (v.id.0 ≡ a.0) × (owner_of block i v ≡ Some o)
      by_index None is h = cc
      by_index (Some i) is h =
          let stands : (v : Value) × At block i v × (v.id.0 ≡ a.0) = index_stands i a is in
          (i, stands.0, stands.1, stands.2, sym (ap (owner_at block i) stands.1) ∙ h)

  pub owner_item : (o : ℕ) (a : ValueId) → owner block a ≡ Some o → (x : Value) × IsLeader block o x
  owner_item o a h =
      let stands : (i : ℕ) × (v : Value) × At block i v × (v.id.0 ≡ a.0) × (owner_of block i v ≡ Some o) =
      owner_stands o a h in
      owner_is_item o stands.0 stands.1 stands.2 stands.4

  pub same_item : (i : ℕ) (x y : Value) → IsLeader block i x → IsLeader block i y → x ≡ y
  same_item i x y a b = same_at block i x y a.at b.at

  -- ---- the values of an item

  -- the one argument of a select
  one_arg : (args : List ValueId) → length args ≡ 1 → (a : ValueId) × (args ≡ a ∷ [])
  one_arg [] h = cc
  one_arg (a ∷ []) h = (a, refl)
  one_arg (a ∷ b ∷ args) h = absurd (omega (arith, h))

  pub select_arg : (i : ℕ) (w : Value) → At block i w → is_follower w.op ≡ true → (a : ValueId) × (w.args ≡ a ∷ [])
  select_arg i w at follows =
      one_arg w.args (all_at (λ (v : Value). is_follower v.op ≡ true → length v.args ≡ 1) block i w has.selects_one at
      follows)

  -- a select of the value of this number has it as its one argument
  pub selects_only : (i : ℕ) (w : Value) (id : ValueId) → At block i w → selects id w ≡ true
      → (is_follower w.op ≡ true) × ((a : ValueId) × (w.args ≡ a ∷ []) × (id.0 ≡ a.0))
  selects_only i w id at h =
      let parts : (is_follower w.op ≡ true) × (list_any (same_value id) w.args ≡ true) =
      and_parts (is_follower w.op) (list_any (same_value id) w.args) h in
      let arg : (a : ValueId) × (w.args ≡ a ∷ []) = select_arg i w at parts.0 in
      (parts.0, (arg.0, arg.1, only arg.0 (sym (ap (list_any (same_value id)) arg.1) ∙ parts.1)))
    where
      from_or : (a : ValueId) → (same_value id a ≡ true) ⊎ (false ≡ true) → id.0 ≡ a.0
      from_or a (inl same) = same_numbers id a same
      from_or a (inr none) = cc

      only : (a : ValueId) → (same_value id a || false) ≡ true → id.0 ≡ a.0
      only a h = from_or a (or_cases (same_value id a) false h)

  from_selects : (w : Value) (id a : ValueId) (rest : List ValueId) → is_follower w.op ≡ true → w.args ≡ a ∷ rest
      → id.0 ≡ a.0 → selects id w ≡ true
  from_selects w id a rest follows args same =
      and_from (is_follower w.op) (list_any (same_value id) w.args) follows
      (ap (list_any (same_value id)) args ∙ or_left (same_value id a) (list_any (same_value id) rest)
      (equal_numbers id a same))

  select_owner : (i : ℕ) (x : Value) (k : ℕ) (w : Value) → At block i x → is_call x.op ≡ true → At block k w
      → selects x.id w ≡ true → owner_of block k w ≡ Some i
  select_owner i x k w at call at_w h =
      let only : (is_follower w.op ≡ true) × ((a : ValueId) × (w.args ≡ a ∷ []) × (x.id.0 ≡ a.0)) =
      selects_only k w x.id at_w h in
      owner_call k i w only.0 (ap (call_named block) only.1.1 ∙ from_names only.1.0 [] i x at only.1.2 call)

  abbrev follows_with : Value → Bool → ValueId → Bool
  follows_with x b a = list_any (λ v. same_value v.id a) (if b then by_number (filter (selects x.id) block) else [])

  -- a value of an item has it as its owner
  pub item_owner : (i : ℕ) (x : Value) (a : ValueId) → IsLeader block i x → has_value (item block x) a ≡ true
      → owner block a ≡ Some i
  item_owner i x a is h = by_place (or_cases (same_value x.id a) (follows_with x (is_call x.op) a) h)
    where
      from_found : is_call x.op ≡ true → Found (λ w. selects x.id w && same_value w.id a) block
          → owner block a ≡ Some i
      from_found call (k, w, at, passes) =
          let parts : (selects x.id w ≡ true) × (same_value w.id a ≡ true) =
          and_parts (selects x.id w) (same_value w.id a) passes in
          owner_found k w a at (same_numbers w.id a parts.1) ∙ select_owner i x k w is.at call at parts.0

      by_op : (b : Bool) → is_call x.op ≡ b → follows_with x b a ≡ true → owner block a ≡ Some i
      by_op false e h = cc
      by_op true e h =
          from_found e (find_any (λ w. selects x.id w && same_value w.id a) block
          (sym (any_by_number (λ v. same_value v.id a) (filter (selects x.id) block)
          ∙ any_filter (λ v. same_value v.id a) (selects x.id) block) ∙ h))

      by_place : (same_value x.id a ≡ true) ⊎ (follows_with x (is_call x.op) a ≡ true) → owner block a ≡ Some i
      by_place (inl here) = owner_found i x a is.at (same_numbers x.id a here) ∙ is.own
      by_place (inr behind) = by_op (is_call x.op) refl behind

  pub owner_has : (i : ℕ) (x : Value) (a : ValueId) → IsLeader block i x → owner block a ≡ Some i
      → has_value (item block x) a ≡ true
  owner_has i x a is h =
      let stands : (k : ℕ) × (w : Value) × At block k w × (w.id.0 ≡ a.0) × (owner_of block k w ≡ Some i) =
      owner_stands i a h in
      by_owns stands.0 stands.1 stands.2 stands.3 (owns_from i stands.0 stands.1 stands.4)
    where
      behind : (k : ℕ) (w : Value) → At block k w → w.id.0 ≡ a.0 → is_call x.op ≡ true → selects x.id w ≡ true
          → follows_with x (is_call x.op) a ≡ true
      behind k w at same call h =
          ap (λ b. follows_with x b a) call
          ∙ (any_by_number (λ v. same_value v.id a) (filter (selects x.id) block)
          ∙ any_filter (λ v. same_value v.id a) (selects x.id) block)
          ∙ any_at (λ v. selects x.id v && same_value v.id a) block k w at
          (and_from (selects x.id w) (same_value w.id a) h (equal_numbers w.id a same))

      by_owns : (k : ℕ) (w : Value) → At block k w → w.id.0 ≡ a.0 → Owns block i k w
          → has_value (item block x) a ≡ true
      by_owns k w at same (itself here no_phi own) =
          let one : x ≡ w = same_at block i x w is.at (ap (slice_get block) here ∙ at) in
          or_left (same_value x.id a) (follows_with x (is_call x.op) a)
          (equal_numbers x.id a (ap (λ (v : Value). v.id.0) one ∙ same))
      by_owns k w at same (of_call follows named) =
          let names : Names w.args i = names_from w.args i named in
          let one : names.3 ≡ x = same_at block i names.3 x names.4 is.at in
          let call : is_call x.op ≡ true = subst (λ (v : Value). is_call v.op ≡ true) one names.6 in
          let number : x.id.0 ≡ names.0.0 = sym (ap (λ (v : Value). v.id.0) one) ∙ names.5 in
          or_right (same_value x.id a) (follows_with x (is_call x.op) a)
          (behind k w at same call (from_selects w x.id names.0 names.1 follows names.2 number))

  -- ---- leaders

  abbrev leader_test : Value → Bool
  leader_test v = not (is_phi v.op) && not (follows_a_call block v)

  follows_call : (x c : Value) (i k : ℕ) → At block i x → At block k c → is_call c.op ≡ true → selects c.id x ≡ true
      → owner_of block i x ≡ Some k
  follows_call x c i k at_x at_c call h = select_owner k c i x at_c call at_x h

  pub leader_item : (x : Value) → Contains (leaders block) x → (i : ℕ) × IsLeader block i x
  leader_item x h =
      let there : (k : ℕ) × At (leaders block) k x = contains_at (leaders block) x h in
      let kept : (i : ℕ) × At block i x × (leader_test x ≡ true) = filter_at leader_test block there.0 x there.1 in
      let parts : (not (is_phi x.op) ≡ true) × (not (follows_a_call block x) ≡ true) =
      and_parts (not (is_phi x.op)) (not (follows_a_call block x)) kept.2 in (
        kept.0,
        record {
          at = kept.1;
          own = owner_itself kept.0 x (not-true (is_phi x.op) parts.0)
              (by_follower kept.0 kept.1 (not-true (follows_a_call block x) parts.1) (is_follower x.op) refl);
        },
      )
    where
      no_call : (i : ℕ) → At block i x → follows_a_call block x ≡ false → is_follower x.op ≡ true → (c : ℕ)
          → call_named block x.args ≡ Some c → ⊥
      no_call i at none follows c named =
          let names : Names x.args c = names_from x.args c named in
          both_ways (follows_a_call block x) none
          (any_at (λ y. is_call y.op && selects y.id x) block c names.3 names.4
          (and_from (is_call names.3.op) (selects names.3.id x) names.6
          (from_selects x names.3.id names.0 names.1 follows names.2 names.5)))

      by_name : (i : ℕ) → At block i x → follows_a_call block x ≡ false → is_follower x.op ≡ true → (o : Option ℕ)
          → call_named block x.args ≡ o → call_named block x.args ≡ None
      by_name i at none follows None e = e
      by_name i at none follows (Some c) e = absurd (no_call i at none follows c e)

      by_follower : (i : ℕ) → At block i x → follows_a_call block x ≡ false → (b : Bool) → is_follower x.op ≡ b
          → (is_follower x.op ≡ false) ⊎ (call_named block x.args ≡ None)
      by_follower i at none false e = inl e
      by_follower i at none true e = inr (by_name i at none e (call_named block x.args) refl)

  pub item_leader : (i : ℕ) (x : Value) → IsLeader block i x → Contains (leaders block) x
  item_leader i x is =
      let kept : (k : ℕ) × At (leaders block) k x = at_filter leader_test block i x is.at
      (and_from (not (is_phi x.op)) (not (follows_a_call block x))
      (not_from_false (is_phi x.op) (no_phi (owns_from i i x is.own)))
      (not_from_false (follows_a_call block x) (false_from_ne_true (follows_a_call block x) follows_none))) in
      at_contains (leaders block) kept.0 x kept.1
    where
      no_phi : Owns block i i x → is_phi x.op ≡ false
      no_phi (itself same none own) = none
      no_phi (of_call follows named) = follower_no_phi x.op follows

      from_found : Found (λ c. is_call c.op && selects c.id x) block → ⊥
      from_found (k, c, at, passes) =
          let parts : (is_call c.op ≡ true) × (selects c.id x ≡ true) =
          and_parts (is_call c.op) (selects c.id x) passes in
          let other : Some k ≡ Some i = sym (follows_call x c i k is.at at parts.0 parts.1) ∙ is.own in
          let here : k ≡ i = cc in
          let one : c ≡ x = same_at block i c x (ap (slice_get block) (sym here) ∙ at) is.at in
          let call : is_call x.op ≡ true = subst (λ (v : Value). is_call v.op ≡ true) one parts.0 in
          both_ways (is_follower x.op) (call_no_follower x.op call) (selects_only i x c.id is.at parts.1).0

      follows_none : follows_a_call block x ≡ true → ⊥
      follows_none h = from_found (find_any (λ c. is_call c.op && selects c.id x) block h)
