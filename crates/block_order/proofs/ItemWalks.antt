-- Cycles of items are paths of the block's graph that come back, and its least name on one is the least number on a
-- cycle.
use Rattle.std.proofs.Common.{◌≡◌, ℕ, zero, suc, ◌+◌, ◌==◌, ◌<◌, ◌≤◌, ◌⊎◌, inl, inr, true, List, [], ◌∷◌, ◌++◌, length}
use Rattle.std.proofs.Common.{get_or, Option, None, Some, refl, subst, sym, ap, ◌∙◌, arith}
use Rattle.std.specs.List.{All, Any, Contains}
use Rattle.std.proofs.lemmas.Bool.{and_from, eq-eqb}
use Rattle.std.proofs.lemmas.List.Elements.{All-cons, All-head, All-nil, All-tail}
use Rattle.std.proofs.lemmas.Option.{slice_get-get_or, slice_get_within}
use Rattle.gossa_base.specs.declared.ids.ValueId.{ValueId}
use Rattle.ssa_ir.specs.declared.func.Value.{Value}
use Rattle.ssa_ir.specs.FirstOrder.{memory_taken}
use Rattle.ssa_ir.specs.OpKinds.{reads_memory}
use Rattle.graphs.specs.declared.graph.Edge.{Edge}
use Rattle.graphs.specs.declared.loops.Named.{Named}
use Rattle.ssa_ir.specs.Cycles.{CycleThrough, IsWalk, OnCycle, leaders, stands_before}
use Rattle.block_order.specs.LowestOnCycle.{HasItems, IsLeast, IsOnCycle}
use Rattle.block_order.specs.tables.ItemGraph.{block_edges, block_names, is_index, name_of, names_from}
use Rattle.block_order.specs.tables.ItemGraph.{owner, owner_of}
use Rattle.graphs.specs.Graphs.{ComesBack, graph_of, has_edge}
use Rattle.graphs.specs.Loops.{Chosen, LeastOnLoop}
use Rattle.graphs.specs.Paths.{IsPath, Leads}
use Rattle.graphs.proofs.GraphLemmas.{graph_has, have_edge, is_edge}
use Rattle.block_order.proofs.ItemEdges.{EdgeKind, Takes, TakesFirst, arg_edge, change_edge, edge_kind, is_index_some}
use Rattle.block_order.proofs.ItemEdges.{read_edge}
use Rattle.gossa_base.proofs.ListPlaces.{At, Found, any_at, any_from_at, at_any, find_any}
use Rattle.block_order.proofs.ItemOwners.{IsLeader, item_leader, item_owner, leader_item, owner_found, owner_has}
use Rattle.block_order.proofs.ItemOwners.{owner_is_item, owner_item, same_item}
use Rattle.block_order.proofs.ItemStands.{ReadsBefore, first_same, first_taken, same_first, stands_by_reading}
use Rattle.block_order.proofs.ItemStands.{stands_by_taking, stands_from, taken_first, same_memories}
use Rattle.graphs.proofs.AnyLemmas.{any_none, any_here, any_later, any_cases}
use Rattle.graphs.proofs.PathLemmas.{leads_along}

module _ (block : List Value) (has : HasItems block) where
  -- ---- bounds

  first_within : (x : Value) (f : ℕ) → TakesFirst block x f → f < length block
  first_within x f first =
      let taken : (m : ValueId) × (memory_taken x.op x.args ≡ Some m) × ((w : Value) × At block f w × _) =
      first_taken block x f first in
      slice_get_within block f taken.2.0 taken.2.1

  item_within : (i : ℕ) (x : Value) → IsLeader block i x → i < length block
  item_within i x is = slice_get_within block i x is.at

  -- what takes a value of an item shows that there is one
  taken_item : (u : ℕ) (y : Value) → Takes block u y → (x : Value) × IsLeader block u x
  taken_item u y takes = from_found (find_any (λ a. is_index (owner block a) u) y.args takes)
    where
      from_found : Found (λ a. is_index (owner block a) u) y.args → (x : Value) × IsLeader block u x
      from_found (k, a, at, is_own) = owner_item block has u a (is_index_some (owner block a) u is_own)

  abbrev nodes : ℕ
  nodes = length block + length block

  kind_within : (u v : ℕ) → EdgeKind block u v → (u < nodes) × (v < nodes)
  kind_within u v (inl (y, is_y, takes)) =
      let x : (x : Value) × IsLeader block u x = taken_item u y takes in
      (omega (arith, item_within u x.0 x.1), omega (arith, item_within v y is_y))
  kind_within u v (inr (inl (x, is_x, reads, (f, first, to)))) =
      (omega (arith, item_within u x is_x), omega (arith, to, first_within x f first))
  kind_within u v (inr (inr (y, is_y, changes, (f, first, from)))) =
      (omega (arith, from, first_within y f first), omega (arith, item_within v y is_y))

  pub edges_within : All (λ (e : Edge). (e.source < nodes) × (e.target < nodes)) (block_edges block)
  edges_within k d within =
      let e : Edge = get_or (block_edges block) k d in
      kind_within e.source e.target (edge_kind block e.source e.target
      (any_at (is_edge e.source e.target) (block_edges block) k e (slice_get-get_or (block_edges block) k d within)
      (and_from (e.source == e.source) (e.target == e.target) (eq-eqb e.source e.source refl)
      (eq-eqb e.target e.target refl))))

  abbrev pub graph : List (List ℕ)
  graph = graph_of nodes (block_edges block)

  same_edges : (u v : ℕ) → has_edge graph u v ≡ have_edge (block_edges block) u v
  same_edges u v = graph_has nodes (block_edges block) u v (λ k d within. (edges_within k d within).0)

  kind : (u v : ℕ) → has_edge graph u v ≡ true → EdgeKind block u v
  kind u v h = edge_kind block u v (sym (same_edges u v) ∙ h)

  -- ---- from an item to the next

  abbrev StandsAt : Value → ℕ → Type 0
  StandsAt x v = (y : Value) × IsLeader block v y × (stands_before block x y ≡ true)

  abbrev ToMemory : Value → ℕ → Type 0
  ToMemory x v = (f : ℕ) × (v ≡ length block + f) × (reads_memory x.op ≡ true) × TakesFirst block x f

  from_item : (u v : ℕ) (x : Value) → IsLeader block u x → has_edge graph u v ≡ true → StandsAt x v ⊎ ToMemory x v
  from_item u v x is h = by_kind (kind u v h)
    where
      by_kind : EdgeKind block u v → StandsAt x v ⊎ ToMemory x v
      by_kind (inl (y, is_y, takes)) = inl (y, is_y, stands_by_taking block has u x y is takes)
      by_kind (inr (inl (z, is_z, reads, (f, first, to)))) =
          let one : z ≡ x = same_item block has u z x is_z is in
          inr (
            f,
            to,
            subst (λ (w : Value). reads_memory w.op ≡ true) one reads,
            subst
                (λ (w : Value). TakesFirst block w f) one first,
          )
      by_kind (inr (inr (y, is_y, changes, (f, first, from)))) = absurd (omega (arith, from, item_within u x is))

  from_memory : (u v : ℕ) (x : Value) → IsLeader block u x → (w : ℕ) → ToMemory x w → has_edge graph w v ≡ true
      → StandsAt x v
  from_memory u v x is w (f, to, reads, first) h = by_kind (kind w v h)
    where
      by_kind : EdgeKind block w v → StandsAt x v
      by_kind (inl (y, is_y, takes)) =
          let z : (z : Value) × IsLeader block w z = taken_item w y takes in
          absurd (omega (arith, to, item_within w z.0 z.1))
      by_kind (inr (inl (z, is_z, reads_z, first_z))) = absurd (omega (arith, to, item_within w z is_z))
      by_kind (inr (inr (y, is_y, changes, (g, second, from)))) =
          let same : g ≡ f = omega (arith, to, from) in
          let reads_before : ReadsBefore block has x y =
          (changes, reads, same_first block x y f first (subst (TakesFirst block y) same second)) in
          (y, is_y, stands_by_reading block has u x y is reads_before)

  -- a walk of items behind a first one to a last one
  abbrev Walk : Value → Value → Type 0
  Walk x last = (rest : List Value) × All (Contains (leaders block)) rest × IsWalk block x rest last

  walk_end : (x z : Value) (v : ℕ) → IsLeader block v z → StandsAt x v → Walk x z
  walk_end x z v is (y, is_y, stands) = (
    [],
    All-nil (Contains (leaders block)),
    subst (λ (w : Value). stands_before block x w ≡ true)
        (same_item block has v y z is_y is) stands,
  )

  walk_on : (x z : Value) (v : ℕ) (s : StandsAt x v) → Walk s.0 z → Walk x z
  walk_on x z v (y, is_y, stands) (rest, leads, walk) =
      (y ∷ rest, All-cons (Contains (leaders block)) y rest (item_leader block has v y is_y) leads, (stands, walk))

  -- a path between items is a walk of items
  path_walk : (u : ℕ) (x : Value) → IsLeader block u x → (path : List ℕ) (last : ℕ) (z : Value) → IsLeader block last z
      → IsPath (has_edge graph) u path last → Walk x z
  path_walk u x is [] last z end h = by_edge (from_item u last x is h)
    where
      by_edge : StandsAt x last ⊎ ToMemory x last → Walk x z
      by_edge (inl stands) = walk_end x z last end stands
      by_edge (inr (f, to, reads, first)) = absurd (omega (arith, to, item_within last z end))
  path_walk u x is (w ∷ []) last z end h =
      by_edge (λ y is_y. path_walk w y is_y [] last z end h.1) (from_item u w x is h.0)
    where
      by_edge : ((y : Value) → IsLeader block w y → Walk y z) → StandsAt x w ⊎ ToMemory x w → Walk x z
      by_edge on (inl stands) = walk_on x z w stands (on stands.0 stands.1)
      by_edge on (inr to) = walk_end x z last end (from_memory u last x is w to h.1)
  path_walk u x is (w ∷ v ∷ path) last z end h =
      by_edge (λ y is_y. path_walk w y is_y (v ∷ path) last z end h.1)
      (λ y is_y. path_walk v y is_y path last z end h.1.1) (from_item u w x is h.0)
    where
      by_stand : ((y : Value) → IsLeader block v y → Walk y z) → StandsAt x v → Walk x z
      by_stand on stands = walk_on x z v stands (on stands.0 stands.1)

      by_edge : ((y : Value) → IsLeader block w y → Walk y z) → ((y : Value) → IsLeader block v y → Walk y z)
          → StandsAt x w ⊎ ToMemory x w → Walk x z
      by_edge on behind (inl stands) = walk_on x z w stands (on stands.0 stands.1)
      by_edge on behind (inr to) = by_stand behind (from_memory u v x is w to h.1.0)

  -- ---- from a walk to a path

  step_path : (i j : ℕ) (x y : Value) → IsLeader block i x → IsLeader block j y → stands_before block x y ≡ true
      → Leads (has_edge graph) i j
  step_path i j x y is_x is_y h = by_place (stands_from block has i x y is_x h)
    where
      through : ReadsBefore block has x y
          → (m : ValueId) × (n : ValueId) × (memory_taken x.op x.args ≡ Some m) × (memory_taken y.op y.args ≡ Some n)
          × (m.0 ≡ n.0)
          → Leads (has_edge graph) i j
      through (changes, reads, same) (m, n, of_x, of_y, number) =
          let first : (f : ℕ) × TakesFirst block x f = taken_first block i x m is_x.at of_x in
          let second : TakesFirst block y first.0 = first_same block x y first.0 first.1 same in (
            (length block + first.0) ∷ [],
            (
              same_edges i (length block + first.0) ∙ read_edge block i first.0 x is_x reads first.1,
              same_edges (length block + first.0) j ∙ change_edge block j first.0 y is_y changes second,
            ),
          )

      by_place : Takes block i y ⊎ ReadsBefore block has x y → Leads (has_edge graph) i j
      by_place (inl takes) = ([], same_edges i j ∙ arg_edge block i j (y, is_y, takes))
      by_place (inr reads) =
          through reads (same_memories (memory_taken x.op x.args) (memory_taken y.op y.args) reads.2)

  walk_path : (i j : ℕ) (x z : Value) → IsLeader block i x → IsLeader block j z → (rest : List Value)
      → All (Contains (leaders block)) rest
      → IsWalk block x rest z → Leads (has_edge graph) i j
  walk_path i j x z is_x is_z [] all walk = step_path i j x z is_x is_z walk
  walk_path i j x z is_x is_z (y ∷ rest) all walk =
      let next : (k : ℕ) × IsLeader block k y =
      leader_item block has y (All-head (Contains (leaders block)) y rest all) in
      let first : Leads (has_edge graph) i next.0 = step_path i next.0 x y is_x next.1 walk.0 in
      leads_along (has_edge graph) i first.0 next.0 j first.1
      (walk_path next.0 j y z next.1 is_z rest (All-tail (Contains (leaders block)) y rest all) walk.1)

  -- ---- cycles

  pub cycle_comes_back : (i : ℕ) (x : Value) → IsLeader block i x → CycleThrough block x → ComesBack graph i
  cycle_comes_back i x is cycle =
      walk_path i i x x is is cycle.rest (All-tail (Contains (leaders block)) x cycle.rest cycle.are_items)
      cycle.is_walk

  pub comes_back_cycle : (i : ℕ) (x : Value) → IsLeader block i x → ComesBack graph i → CycleThrough block x
  comes_back_cycle i x is back =
      let walk : Walk x x = path_walk i x is back.0 i x is back.1 in
      record {
        rest = walk.0;
        are_items = All-cons (Contains (leaders block)) x walk.0 (item_leader block has i x is) walk.1;
        is_walk = walk.2;
      }

  -- ---- names

  -- a value that is of an item, whose name is so
  abbrev NamedIn : (Named → Type 0) → ℕ → List Value → Type 0
  NamedIn P k values =
      (i : ℕ) × (v : Value) × At values i v
      × ((o : ℕ) × (owner_of block (k + i) v ≡ Some o) × P (record { node = o; number = v.id.0 }))

  named_later : (P : Named → Type 0) (k : ℕ) (v : Value) (values : List Value) → NamedIn P (suc k) values
      → NamedIn P k (v ∷ values)
  named_later P k v values (i, w, at, (o, own, p)) =
      let same : suc k + i ≡ k + suc i = omega arith in
      (suc i, w, at, (o, subst (λ j. owner_of block j w ≡ Some o) same own, p))

  names_at : (P : Named → Type 0) (k : ℕ) (values : List Value) → Any P (names_from block k values)
      → NamedIn P k values
  names_at P k [] some = absurd (any_none some)
  names_at P k (v ∷ values) some = by_owner (names_at P (suc k) values) (owner_of block k v) refl some
    where
      by_place : (Any P (names_from block (suc k) values) → NamedIn P (suc k) values) → (o : ℕ)
          → owner_of block k v ≡ Some o
          → P (record { node = o; number = v.id.0 }) ⊎ Any P (names_from block (suc k) values)
          → NamedIn P k (v ∷ values)
      by_place again o own (inl p) =
          let same : k ≡ k + zero = omega arith in
          (zero, v, refl, (o, subst (λ j. owner_of block j v ≡ Some o) same own, p))
      by_place again o own (inr behind) = named_later P k v values (again behind)

      by_owner : (Any P (names_from block (suc k) values) → NamedIn P (suc k) values) → (o : Option ℕ)
          → owner_of block k v ≡ o
          → Any P (name_of o v ++ names_from block (suc k) values) → NamedIn P k (v ∷ values)
      by_owner again None own some = named_later P k v values (again some)
      by_owner again (Some o) own some =
          by_place again o own (any_cases (record {
            node =
                o;
            number = v.id.0;
          }) (names_from block (suc k) values) some)

  at_names : (P : Named → Type 0) (k : ℕ) (values : List Value) (i : ℕ) (v : Value) (o : ℕ) → At values i v
      → owner_of block (k + i) v ≡ Some o
      → P (record { node = o; number = v.id.0 }) → Any P (names_from block k values)
  at_names P k [] i v o at own p = cc
  at_names P k (w ∷ values) zero v o at own p =
      let one : w ≡ v = cc in let same : k + zero ≡ k = omega arith in
      let here : owner_of block k w ≡ Some o =
      ap (owner_of block k) one ∙ subst (λ j. owner_of block j v ≡ Some o) same own in
      subst (λ (q : Option ℕ). Any P (name_of q w ++ names_from block (suc k) values)) (sym here)
      (any_here (record { node = o; number = w.id.0 }) (names_from block (suc k) values)
      (subst (λ (x : Value). P (record { node = o; number = x.id.0 })) (sym one) p))
  at_names P k (w ∷ values) (suc i) v o at own p =
      let same : k + suc i ≡ suc k + i = omega arith in
      by_owner (owner_of block k w)
      (at_names P (suc k) values i v o at (subst (λ j. owner_of block j v ≡ Some o) same own) p)
    where
      by_owner : (q : Option ℕ) → Any P (names_from block (suc k) values)
          → Any P (name_of q w ++ names_from block (suc k) values)
      by_owner None behind = behind
      by_owner (Some q) behind =
          any_later (record { node = q; number = w.id.0 }) (names_from block (suc k) values) behind

  -- each name is one of a node
  pub names_within : All (λ (x : Named). x.node < nodes) (block_names block)
  names_within k d within =
      let x : Named = get_or (block_names block) k d in
      let found : (i : ℕ) × (v : Value) × At block i v
      × ((o : ℕ) × (owner_of block (0 + i) v ≡ Some o) × (record { node = o; number = v.id.0 } ≡ x)) =
      names_at (λ y. y ≡ x) 0 block
      (any_from_at (λ y. y ≡ x) (block_names block) k x (slice_get-get_or (block_names block) k d within) refl) in
      let same : 0 + found.0 ≡ found.0 = omega arith in
      let leader : (y : Value) × IsLeader block found.3.0 y =
      owner_is_item block has found.3.0 found.0 found.1 found.2
      (subst (λ j. owner_of block j found.1 ≡ Some found.3.0) same found.3.1) in
      omega (arith, item_within found.3.0 leader.0 leader.1, ap (λ (y : Named). y.node) found.3.2)

  -- a name on a loop is the number of a value on a cycle
  named_cycle : (x : Named) → Chosen (λ y. ComesBack graph y.node) (block_names block) x → IsOnCycle block x.number
  named_cycle x some =
      let found : (i : ℕ) × (v : Value) × At block i v
      × ((o : ℕ) × (owner_of block (0 + i) v ≡ Some o)
      × (ComesBack graph o × (x ≡ record { node = o; number = v.id.0 }))) =
      names_at (λ y. ComesBack graph y.node × (x ≡ y)) 0 block some in
      let i : ℕ = found.0 in let v : Value = found.1 in let o : ℕ = found.3.0 in
      let same : 0 + i ≡ i = omega arith in
      let own : owner_of block i v ≡ Some o = subst (λ j. owner_of block j v ≡ Some o) same found.3.1 in
      let leader : (y : Value) × IsLeader block o y = owner_is_item block has o i v found.2 own in
      let on_cycle : OnCycle block v = record {
        leader = leader.0;
        is_of_item = owner_has block has o leader.0 v.id leader.1 (owner_found block has i v v.id found.2 refl ∙ own);
        cycle = comes_back_cycle o leader.0 leader.1 found.3.2.0;
      } in
      any_from_at (λ (w : Value). (w.id.0 ≡ x.number) × OnCycle block w) block i v found.2
      (sym (ap (λ (y : Named). y.number) found.3.2.1), on_cycle)

  -- the number of a value on a cycle is a name on a loop
  cycle_named : (n : ℕ) → IsOnCycle block n
      → (o : ℕ) × Chosen (λ y. ComesBack graph y.node) (block_names block) (record { node = o; number = n })
  cycle_named n some =
      let found : (i : ℕ) × (v : Value) × At block i v × ((v.id.0 ≡ n) × OnCycle block v) =
      at_any (λ (w : Value). (w.id.0 ≡ n) × OnCycle block w) block some in
      let i : ℕ = found.0 in let v : Value = found.1 in let cycle : OnCycle block v = found.3.1 in
      let leader : (o : ℕ) × IsLeader block o cycle.leader =
      leader_item block has cycle.leader
      (All-head (Contains (leaders block)) cycle.leader cycle.cycle.rest cycle.cycle.are_items) in
      let o : ℕ = leader.0 in
      let own : owner_of block i v ≡ Some o =
      sym (owner_found block has i v v.id found.2 refl)
      ∙ item_owner block has o cycle.leader v.id leader.1 cycle.is_of_item in
      let same : i ≡ 0 + i = omega arith in (
        o,
        at_names (λ y. ComesBack graph y.node × (record { node = o; number = n } ≡ y)) 0 block i v o found.2
            (subst (λ j. owner_of block j v ≡ Some o) same own) (
              cycle_comes_back o cycle.leader leader.1 cycle.cycle,
              (λ j. record { node = o; number = sym found.3.0 j }),
            ),
      )

  pub none_least : LeastOnLoop graph (block_names block) None → IsLeast None (IsOnCycle block)
  none_least none n is =
      let named : (o : ℕ) × Chosen (λ y. ComesBack graph y.node) (block_names block) (record { node = o; number = n }) =
      cycle_named n is in
      none (record { node = named.0; number = n }) named.1

  pub some_least : (m : Named) → LeastOnLoop graph (block_names block) (Some m)
      → IsLeast (Some m.number) (IsOnCycle block)
  some_least m h = (named_cycle m h.0, least)
    where
      least : (n : ℕ) → IsOnCycle block n → m.number ≤ n
      least n is =
          let named : (o : ℕ) × Chosen (λ y. ComesBack graph y.node) (block_names block)
          (record { node = o; number = n }) =
          cycle_named n is in
          h.1 (record { node = named.0; number = n }) named.1
