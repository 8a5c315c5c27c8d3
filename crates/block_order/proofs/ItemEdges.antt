-- What the edges of a block say: which item takes a value of which, and which memory an item reads or changes.
use Rattle.std.proofs.Common.{◌≡◌, ℕ, zero, suc, ◌+◌, ◌==◌, ◌⊎◌, inl, inr, Bool, true, false, ◌&&◌, if◌then◌else◌, List}
use Rattle.std.proofs.Common.{[], ◌∷◌, ◌++◌, length, Option, None, Some, refl, subst, sym, ap, ◌∙◌, arith}
use Rattle.std.specs.List.{list_any}
use Rattle.std.proofs.lemmas.Bool.{and_from, and_parts, eq-eqb, eqb-true, or_cases, or_left, or_right}
use Rattle.std.proofs.lemmas.List.Folds.{list_any-append}
use Rattle.gossa_base.specs.declared.ids.ValueId.{ValueId}
use Rattle.ssa_ir.specs.declared.op.Op.{Op}
use Rattle.ssa_ir.specs.declared.func.Value.{Value}
use Rattle.ssa_ir.specs.FirstOrder.{memory_taken}
use Rattle.ssa_ir.specs.OpKinds.{changes_memory, reads_memory}
use Rattle.block_order.specs.tables.ItemGraph.{arg_edges, block_edges, changer_edge, edge_to, edges_from, first_of}
use Rattle.block_order.specs.tables.ItemGraph.{is_index, leads}
use Rattle.block_order.specs.tables.ItemGraph.{memory_edges, memory_edges_by, owner, owner_of, reader_edge, value_edges}
use Rattle.graphs.proofs.GraphLemmas.{have_edge, is_edge}
use Rattle.gossa_base.proofs.ListPlaces.{At, any_at, any_flat_map, find_any}
use Rattle.block_order.proofs.ItemOwners.{IsLeader}

-- ---- owners as tests

pub is_index_some : (o : Option ℕ) (i : ℕ) → is_index o i ≡ true → o ≡ Some i
is_index_some None i h = cc
is_index_some (Some j) i h = ap Some (eqb-true j i h)

pub some_is_index : (o : Option ℕ) (i : ℕ) → o ≡ Some i → is_index o i ≡ true
some_is_index o i e = ap (λ p. is_index p i) e ∙ eq-eqb i i refl

-- ---- the three kinds of edges

-- an item of index u takes a value that is of the item of index u
abbrev pub Takes : (block : List Value) → (u : ℕ) → Value → Type 0
Takes block u y = list_any (λ a. is_index (owner block a) u) y.args ≡ true

-- a value takes the memory that is first taken at index f
abbrev pub TakesFirst : (block : List Value) → Value → (f : ℕ) → Type 0
TakesFirst block v f = first_of block (memory_taken v.op v.args) ≡ Some f

abbrev pub ArgEdge : (block : List Value) → (u v : ℕ) → Type 0
ArgEdge block u v = (y : Value) × IsLeader block v y × Takes block u y

abbrev pub ReadEdge : (block : List Value) → (u v : ℕ) → Type 0
ReadEdge block u v =
    (x : Value) × IsLeader block u x × (reads_memory x.op ≡ true)
    × ((f : ℕ) × TakesFirst block x f × (v ≡ length block + f))

abbrev pub ChangeEdge : (block : List Value) → (u v : ℕ) → Type 0
ChangeEdge block u v =
    (y : Value) × IsLeader block v y × (changes_memory y.op ≡ true)
    × ((f : ℕ) × TakesFirst block y f × (u ≡ length block + f))

abbrev pub EdgeKind : (block : List Value) → (u v : ℕ) → Type 0
EdgeKind block u v = ArgEdge block u v ⊎ (ReadEdge block u v ⊎ ChangeEdge block u v)

-- ---- the edges of one value

one_edge : (j i u v : ℕ) → have_edge (record { source = j; target = i } ∷ []) u v ≡ true → (j ≡ u) × (i ≡ v)
one_edge j i u v h = from_cases (or_cases ((j == u) && (i == v)) false h)
  where
    from_both : ((j == u) ≡ true) × ((i == v) ≡ true) → (j ≡ u) × (i ≡ v)
    from_both both = (eqb-true j u both.0, eqb-true i v both.1)

    from_cases : (((j == u) && (i == v)) ≡ true) ⊎ (false ≡ true) → (j ≡ u) × (i ≡ v)
    from_cases (inl both) = from_both (and_parts (j == u) (i == v) both)
    from_cases (inr none) = cc

is_one_edge : (u v : ℕ) → have_edge (record { source = u; target = v } ∷ []) u v ≡ true
is_one_edge u v =
    or_left ((u == u) && (v == v)) false (and_from (u == u) (v == v) (eq-eqb u u refl) (eq-eqb v v refl))

-- an edge to item i comes from the item of the argument
edge_to_is : (i : ℕ) (o : Option ℕ) (u v : ℕ) → have_edge (edge_to i o) u v ≡ true → (is_index o u ≡ true) × (i ≡ v)
edge_to_is i None u v h = cc
edge_to_is i (Some j) u v h = let both : (j ≡ u) × (i ≡ v) = one_edge j i u v h in (eq-eqb j u both.0, both.1)

is_edge_to : (i : ℕ) (o : Option ℕ) (u : ℕ) → is_index o u ≡ true → have_edge (edge_to i o) u i ≡ true
is_edge_to i None u h = cc
is_edge_to i (Some j) u h =
    subst (λ k. have_edge (record { source = k; target = i } ∷ []) u i ≡ true) (sym (eqb-true j u h)) (is_one_edge u i)

arg_edges_are : (block : List Value) (i : ℕ) (args : List ValueId) (u v : ℕ)
    → have_edge (arg_edges block i args) u v ≡ true
    → (list_any (λ a. is_index (owner block a) u) args ≡ true) × (i ≡ v)
arg_edges_are block i args u v h =
    from_found (find_any (λ a. have_edge (edge_to i (owner block a)) u v) args
    (sym (any_flat_map (is_edge u v) (λ a. edge_to i (owner block a)) args) ∙ h))
  where
    from_found : ((k : ℕ) × (a : ValueId) × At args k a × (have_edge (edge_to i (owner block a)) u v ≡ true))
        → (list_any (λ a. is_index (owner block a) u) args ≡ true) × (i ≡ v)
    from_found (k, a, at, is) =
        let both : (is_index (owner block a) u ≡ true) × (i ≡ v) = edge_to_is i (owner block a) u v is in
        (any_at (λ b. is_index (owner block b) u) args k a at both.0, both.1)

are_arg_edges : (block : List Value) (i : ℕ) (args : List ValueId) (u : ℕ)
    → list_any (λ a. is_index (owner block a) u) args ≡ true
    → have_edge (arg_edges block i args) u i ≡ true
are_arg_edges block i args u h =
    any_flat_map (is_edge u i) (λ a. edge_to i (owner block a)) args
    ∙ from_found (find_any (λ a. is_index (owner block a) u) args h)
  where
    from_found : ((k : ℕ) × (a : ValueId) × At args k a × (is_index (owner block a) u ≡ true))
        → list_any (λ a. have_edge (edge_to i (owner block a)) u i) args ≡ true
    from_found (k, a, at, is) =
        any_at (λ b. have_edge (edge_to i (owner block b)) u i) args k a at (is_edge_to i (owner block a) u is)

reader_is : (b : Bool) (i node u v : ℕ) → have_edge (reader_edge b i node) u v ≡ true
    → (b ≡ true) × (i ≡ u) × (node ≡ v)
reader_is true i node u v h = let both : (i ≡ u) × (node ≡ v) = one_edge i node u v h in (refl, both.0, both.1)
reader_is false i node u v h = cc

changer_is : (b : Bool) (i node u v : ℕ) → have_edge (changer_edge b i node) u v ≡ true
    → (b ≡ true) × (node ≡ u) × (i ≡ v)
changer_is true i node u v h = let both : (node ≡ u) × (i ≡ v) = one_edge node i u v h in (refl, both.0, both.1)
changer_is false i node u v h = cc

abbrev ReadsAt : ℕ → Op → Option ℕ → ℕ → ℕ → ℕ → Type 0
ReadsAt n op o i u v = (reads_memory op ≡ true) × (i ≡ u) × ((f : ℕ) × (o ≡ Some f) × (v ≡ n + f))

abbrev ChangesAt : ℕ → Op → Option ℕ → ℕ → ℕ → ℕ → Type 0
ChangesAt n op o i u v = (changes_memory op ≡ true) × (i ≡ v) × ((f : ℕ) × (o ≡ Some f) × (u ≡ n + f))

memory_edges_are : (n i : ℕ) (op : Op) (o : Option ℕ) (u v : ℕ) → have_edge (memory_edges_by n i op o) u v ≡ true
    → ReadsAt n op o i u v ⊎ ChangesAt n op o i u v
memory_edges_are n i op None u v h = cc
memory_edges_are n i op (Some f) u v h =
    from_cases (or_cases (have_edge (reader_edge (reads_memory op) i (n + f)) u v)
    (have_edge (changer_edge (changes_memory op) i (n + f)) u v)
    (sym (list_any-append (is_edge u v) (reader_edge (reads_memory op) i (n + f))
    (changer_edge (changes_memory op) i (n + f))) ∙ h))
  where
    from_cases : (have_edge (reader_edge (reads_memory op) i (n + f)) u v ≡ true)
        ⊎ (have_edge (changer_edge (changes_memory op) i (n + f)) u v ≡ true)
        → ReadsAt n op (Some f) i u v ⊎ ChangesAt n op (Some f) i u v
    from_cases (inl reads) =
        let is : (reads_memory op ≡ true) × (i ≡ u) × (n + f ≡ v) = reader_is (reads_memory op) i (n + f) u v reads in
        inl (is.0, is.1, (f, refl, sym is.2))
    from_cases (inr changes) =
        let is : (changes_memory op ≡ true) × (n + f ≡ u) × (i ≡ v) =
        changer_is (changes_memory op) i (n + f) u v changes in
        inr (is.0, is.2, (f, refl, sym is.1))

reads_edge : (n i : ℕ) (op : Op) (f : ℕ) → reads_memory op ≡ true
    → have_edge (memory_edges_by n i op (Some f)) i (n + f) ≡ true
reads_edge n i op f reads =
    list_any-append (is_edge i (n + f)) (reader_edge (reads_memory op) i (n + f))
    (changer_edge (changes_memory op) i (n + f))
    ∙ or_left (have_edge (reader_edge (reads_memory op) i (n + f)) i (n + f))
    (have_edge (changer_edge (changes_memory op) i (n + f)) i (n + f))
    (ap (λ b. have_edge (reader_edge b i (n + f)) i (n + f)) reads ∙ is_one_edge i (n + f))

changes_edge : (n i : ℕ) (op : Op) (f : ℕ) → changes_memory op ≡ true
    → have_edge (memory_edges_by n i op (Some f)) (n + f) i ≡ true
changes_edge n i op f changes =
    list_any-append (is_edge (n + f) i) (reader_edge (reads_memory op) i (n + f))
    (changer_edge (changes_memory op) i (n + f))
    ∙ or_right (have_edge (reader_edge (reads_memory op) i (n + f)) (n + f) i)
    (have_edge (changer_edge (changes_memory op) i (n + f)) (n + f) i)
    (ap (λ b. have_edge (changer_edge b i (n + f)) (n + f) i) changes ∙ is_one_edge (n + f) i)

-- ---- the edges of a block

value_edges_are : (block : List Value) (i : ℕ) (y : Value) (u v : ℕ) → At block i y
    → have_edge (value_edges block i y) u v ≡ true → EdgeKind block u v
value_edges_are block i y u v at h = by_leads (leads block i y) refl h
  where
    from_memory : IsLeader block i y
        → ReadsAt (length block) y.op (first_of block (memory_taken y.op y.args)) i u v
        ⊎ ChangesAt (length block) y.op (first_of block (memory_taken y.op y.args)) i u v
        → EdgeKind block u v
    from_memory item (inl (reads, here, (f, first, to))) =
        inr (inl (y, subst (λ k. IsLeader block k y) here item, reads, (f, first, to)))
    from_memory item (inr (changes, here, (f, first, from))) =
        inr (inr (y, subst (λ k. IsLeader block k y) here item, changes, (f, first, from)))

    from_args : IsLeader block i y → (list_any (λ a. is_index (owner block a) u) y.args ≡ true) × (i ≡ v)
        → EdgeKind block u v
    from_args item both = inl (y, subst (λ k. IsLeader block k y) both.1 item, both.0)

    from_cases : IsLeader block i y
        → (have_edge (arg_edges block i y.args) u v ≡ true) ⊎ (have_edge (memory_edges block i y) u v ≡ true)
        → EdgeKind block u v
    from_cases item (inl args) = from_args item (arg_edges_are block i y.args u v args)
    from_cases item (inr memory) =
        from_memory item (memory_edges_are (length block) i y.op (first_of block (memory_taken y.op y.args)) u v memory)

    by_leads : (b : Bool) → leads block i y ≡ b
        → have_edge (if b then arg_edges block i y.args ++ memory_edges block i y else []) u v ≡ true
        → EdgeKind block u v
    by_leads false e h = cc
    by_leads true e h =
        from_cases (record { at = at; own = is_index_some (owner_of block i y) i e })
        (or_cases (have_edge (arg_edges block i y.args) u v) (have_edge (memory_edges block i y) u v)
        (sym (list_any-append (is_edge u v) (arg_edges block i y.args) (memory_edges block i y)) ∙ h))

item_edges : (block : List Value) (i : ℕ) (y : Value) → IsLeader block i y
    → value_edges block i y ≡ arg_edges block i y.args ++ memory_edges block i y
item_edges block i y item =
    ap (λ b. if b then arg_edges block i y.args ++ memory_edges block i y else [])
    (some_is_index (owner_of block i y) i item.own)

edges_at : (block : List Value) (k : ℕ) (values : List Value) (u v : ℕ)
    → have_edge (edges_from block k values) u v ≡ true
    → (i : ℕ) × (y : Value) × At values i y × (have_edge (value_edges block (k + i) y) u v ≡ true)
edges_at block k [] u v h = cc
edges_at block k (x ∷ values) u v h =
    from_cases (edges_at block (suc k) values u v)
    (or_cases (have_edge (value_edges block k x) u v) (have_edge (edges_from block (suc k) values) u v)
    (sym (list_any-append (is_edge u v) (value_edges block k x) (edges_from block (suc k) values)) ∙ h))
  where
    later : ((i : ℕ) × (y : Value) × At values i y × (have_edge (value_edges block (suc k + i) y) u v ≡ true))
        → (i : ℕ) × (y : Value) × At (x ∷ values) i y × (have_edge (value_edges block (k + i) y) u v ≡ true)
    later (i, y, at, is) =
        let same : suc k + i ≡ k + suc i = omega arith in
        (suc i, y, at, subst (λ j. have_edge (value_edges block j y) u v ≡ true) same is)

    from_cases : (have_edge (edges_from block (suc k) values) u v ≡ true
        → (i : ℕ) × (y : Value) × At values i y × (have_edge (value_edges block (suc k + i) y) u v ≡ true))
        → (have_edge (value_edges block k x) u v ≡ true) ⊎ (have_edge (edges_from block (suc k) values) u v ≡ true)
        → (i : ℕ) × (y : Value) × At (x ∷ values) i y × (have_edge (value_edges block (k + i) y) u v ≡ true)
    from_cases again (inl here) =
        let same : k ≡ k + zero = omega arith in
        (zero, x, refl, subst (λ j. have_edge (value_edges block j x) u v ≡ true) same here)
    from_cases again (inr behind) = later (again behind)

at_edges : (block : List Value) (k : ℕ) (values : List Value) (u v i : ℕ) (y : Value) → At values i y
    → have_edge (value_edges block (k + i) y) u v ≡ true → have_edge (edges_from block k values) u v ≡ true
at_edges block k [] u v i y at h = cc
at_edges block k (x ∷ values) u v zero y at h =
    let one : x ≡ y = cc in let same : k + zero ≡ k = omega arith in
    list_any-append (is_edge u v) (value_edges block k x) (edges_from block (suc k) values)
    ∙ or_left (have_edge (value_edges block k x) u v) (have_edge (edges_from block (suc k) values) u v)
    (ap (λ z. have_edge (value_edges block k z) u v) one
    ∙ subst (λ j. have_edge (value_edges block j y) u v ≡ true) same h)
at_edges block k (x ∷ values) u v (suc i) y at h =
    let same : k + suc i ≡ suc k + i = omega arith in
    list_any-append (is_edge u v) (value_edges block k x) (edges_from block (suc k) values)
    ∙ or_right (have_edge (value_edges block k x) u v) (have_edge (edges_from block (suc k) values) u v)
    (at_edges block (suc k) values u v i y at (subst (λ j. have_edge (value_edges block j y) u v ≡ true) same h))

-- what an edge of a block says
pub edge_kind : (block : List Value) (u v : ℕ) → have_edge (block_edges block) u v ≡ true → EdgeKind block u v
edge_kind block u v h = from_found (edges_at block 0 block u v h)
  where
    from_found : ((i : ℕ) × (y : Value) × At block i y × (have_edge (value_edges block (0 + i) y) u v ≡ true))
        → EdgeKind block u v
    from_found (i, y, at, is) =
        let same : 0 + i ≡ i = omega arith in
        value_edges_are block i y u v at (subst (λ j. have_edge (value_edges block j y) u v ≡ true) same is)

item_edge : (block : List Value) (i : ℕ) (y : Value) (u v : ℕ) → IsLeader block i y
    → have_edge (arg_edges block i y.args ++ memory_edges block i y) u v ≡ true
    → have_edge (block_edges block) u v ≡ true
item_edge block i y u v item h =
    let same : i ≡ 0 + i = omega arith in
    at_edges block 0 block u v i y item.at
    (subst (λ j. have_edge (value_edges block j y) u v ≡ true) same
    (ap (λ edges. have_edge edges u v) (item_edges block i y item) ∙ h))

pub arg_edge : (block : List Value) (u v : ℕ) → ArgEdge block u v → have_edge (block_edges block) u v ≡ true
arg_edge block u v (y, item, takes) =
    item_edge block v y u v item
    (list_any-append (is_edge u v) (arg_edges block v y.args) (memory_edges block v y)
    ∙ or_left (have_edge (arg_edges block v y.args) u v) (have_edge (memory_edges block v y) u v)
    (are_arg_edges block v y.args u takes))

pub read_edge : (block : List Value) (u f : ℕ) (x : Value) → IsLeader block u x → reads_memory x.op ≡ true
    → TakesFirst block x f
    → have_edge (block_edges block) u (length block + f) ≡ true
read_edge block u f x item reads first =
    item_edge block u x u (length block + f) item
    (list_any-append (is_edge u (length block + f)) (arg_edges block u x.args) (memory_edges block u x)
    ∙ or_right (have_edge (arg_edges block u x.args) u (length block + f))
    (have_edge (memory_edges block u x) u (length block + f))
    (ap (λ o. have_edge (memory_edges_by (length block) u x.op o) u (length block + f)) first
    ∙ reads_edge (length block) u x.op f reads))

pub change_edge : (block : List Value) (v f : ℕ) (y : Value) → IsLeader block v y → changes_memory y.op ≡ true
    → TakesFirst block y f
    → have_edge (block_edges block) (length block + f) v ≡ true
change_edge block v f y item changes first =
    item_edge block v y (length block + f) v item
    (list_any-append (is_edge (length block + f) v) (arg_edges block v y.args) (memory_edges block v y)
    ∙ or_right (have_edge (arg_edges block v y.args) (length block + f) v)
    (have_edge (memory_edges block v y) (length block + f) v)
    (ap (λ o. have_edge (memory_edges_by (length block) v y.op o) (length block + f) v) first
    ∙ changes_edge (length block) v y.op f changes))
