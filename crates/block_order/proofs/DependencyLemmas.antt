-- What a value waits for by index is what its place in the first order waits for.
use Rattle.std.proofs.Common.{◌≡◌, ℕ, ◌+◌, ◌==◌, ◌<◌, Bool, true, false, not, ◌&&◌, ◌||◌, if◌then◌else◌}
use Rattle.std.proofs.Common.{List, [], ◌∷◌, length, get_or, take, filter_map, Option, None, Some, refl, sym, ap}
use Rattle.std.proofs.Common.{◌∙◌, arith}
use Rattle.std.specs.List.{cons_option, list_all}
use Rattle.std.proofs.lemmas.Bool.{eqb-true}
use Rattle.gossa_base.specs.declared.ids.ValueId.{ValueId}
use Rattle.ssa_ir.specs.declared.func.Value.{Value}
use Rattle.ssa_ir.specs.FirstOrder.{has_value, is_placed, is_ready, readers_before, same_value}
use Rattle.ssa_ir.specs.OpKinds.{changes_memory}
use Rattle.block_order.specs.tables.Dependencies.{all_placed, index_of, is_at, reader_indexes}
use Rattle.block_order.specs.tables.Dependencies.{reads_memory_of}
use Rattle.gossa_base.proofs.ListPlaces.{At, all_append, all_by_index, any_at, first_at, first_none}
use Rattle.block_order.proofs.FirstTables.{first_comes, first_stays}

-- these flags say which values of the block have a number among these values
abbrev pub Flagged : (block placed : List Value) → List Bool → Type 0
Flagged block placed flags = (j : ℕ) (v : Value) → At block j v → has_value placed v.id ≡ is_at flags j

same_id : (a b : ValueId) → same_value a b ≡ true → a ≡ b
same_id a b h = λ i. record { 0 = eqb-true a.0 b.0 h i }

-- ---- arguments

abbrev flag_of : List Bool → Option ℕ → Bool
flag_of flags None = true
flag_of flags (Some j) = is_at flags j

arg_placed : (block placed : List Value) (flags : List Bool) (id : ValueId) → Flagged block placed flags
    → is_placed block placed id ≡ flag_of flags (index_of block id)
arg_placed block placed flags id flagged = go (index_of block id) refl
  where
    test : Value → Bool
    test v = same_value v.id id

    from_found : (n : ℕ) → ((j : ℕ) × (v : Value) × (n ≡ 0 + j) × At block j v × (same_value v.id id ≡ true))
        → is_placed block placed id ≡ is_at flags n
    from_found n (j, v, is, at, same) =
        let has : has_value block id ≡ true = any_at (λ u. same_value u.id id) block j v at same in
        let number : j ≡ n = omega (arith, is) in
        ap (λ b. not b || has_value placed id) has ∙ ap (has_value placed) (sym (same_id v.id id same)) ∙ flagged j v at
        ∙ ap (is_at flags) number

    go : (o : Option ℕ) → index_of block id ≡ o → is_placed block placed id ≡ flag_of flags (index_of block id)
    go None e =
        ap (λ b. not b || has_value placed id) (first_none (λ u. same_value u.id id) 0 block e)
        ∙ sym (ap (flag_of flags) e)
    go (Some n) e =
        from_found n (first_at (λ u. same_value u.id id) 0 block n e) ∙ sym (ap (flag_of flags) e)

args_placed : (block placed : List Value) (flags : List Bool) (args : List ValueId) → Flagged block placed flags
    → list_all (is_placed block placed) args ≡ list_all (is_at flags) (filter_map (index_of block) args)
args_placed block placed flags [] flagged = refl
args_placed block placed flags (a ∷ args) flagged =
    ap (λ b. b && list_all (is_placed block placed) args) (arg_placed block placed flags a flagged)
    ∙ go (index_of block a) (args_placed block placed flags args flagged)
  where
    go : (o : Option ℕ)
        → list_all (is_placed block placed) args ≡ list_all (is_at flags) (filter_map (index_of block) args)
        → (flag_of flags o && list_all (is_placed block placed) args)
        ≡ list_all (is_at flags) (cons_option o (filter_map (index_of block) args))
    go None rest = rest
    go (Some j) rest = ap (λ b. is_at flags j && b) rest

-- ---- readers

readers_placed : (block placed : List Value) (flags : List Bool) (v : Value) → Flagged block placed flags
    → list_all (λ r. has_value placed r.id) (readers_before block v) ≡ list_all (is_at flags) (reader_indexes block v)
readers_placed block placed flags v flagged =
    all_by_index (reads_memory_of v) (λ r. has_value placed r.id) (is_at flags) 0 block
    (λ j u at. let n : j ≡ 0 + j = omega arith in flagged j u at ∙ ap (is_at flags) n)

-- a value may come next where all that it waits for is placed
pub ready_by_index : (block placed : List Value) (flags : List Bool) (v : Value) → Flagged block placed flags
    → is_ready block placed v ≡ all_placed block flags v
ready_by_index block placed flags v flagged =
    (λ i. args_placed block placed flags v.args flagged i && by_test (changes_memory v.op) i)
    ∙ sym (all_append (is_at flags) (filter_map (index_of block) v.args)
    (if changes_memory v.op then reader_indexes block v else []))
  where
    by_test : (b : Bool) → (not b || list_all (λ r. has_value placed r.id) (readers_before block v))
        ≡ list_all (is_at flags) (if b then reader_indexes block v else [])
    by_test true = readers_placed block placed flags v flagged
    by_test false = refl

-- ---- the table of indexes

same_index : (values : List Value) (m n : ValueId) → m.0 ≡ n.0 → index_of values m ≡ index_of values n
same_index values m n same = ap (λ (k : ValueId). index_of values k) (λ i. record { 0 = same i })

-- a value whose number stands before changes nothing
pub old_index : (values : List Value) (i : ℕ) (d : Value) (n m : ValueId) (before : Option ℕ) (k : ℕ)
    → i < length values
    → n ≡ (get_or values i d).id → index_of (take i values) n ≡ Some k → before ≡ index_of (take i values) m
    → before ≡ index_of (take (i + 1) values) m
old_index values i d n m before k within is has old =
    first_stays (λ v. same_value v.id m) values i d before within
    (λ e. (
      k,
      sym (same_index (take i values) n m (ap (λ (x : ValueId). x.0) is
          ∙ eqb-true (get_or values i d).id.0 m.0 e)) ∙ has,
    )) old

-- any other is the first of its number
pub new_index : (values : List Value) (i : ℕ) (d : Value) (n m : ValueId) (before : Option ℕ) → i < length values
    → n ≡ (get_or values i d).id → index_of (take i values) n ≡ None → before ≡ index_of (take i values) m
    → (if n.0 == m.0 then Some i else before) ≡ index_of (take (i + 1) values) m
new_index values i d n m before within is none old =
    first_comes (λ v. same_value v.id m) values i d before (n.0 == m.0) within
    (ap (λ (x : ValueId). x.0 == m.0) (sym is))
    (λ e. sym (same_index (take i values) n m (eqb-true n.0 m.0 e)) ∙ none) old
