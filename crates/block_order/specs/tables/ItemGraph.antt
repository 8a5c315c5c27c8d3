-- The items of a block by the indexes of their first values, the edges between them, and the numbers of their values.
use Rattle.std.specs.Prelude.{ℕ, suc, ◌+◌, ◌==◌, Bool, true, false, if◌then◌else◌, List, [], ◌∷◌, ◌++◌, length, Option}
use Rattle.std.specs.Prelude.{None, Some, slice_get}
use Rattle.std.specs.List.{flat_map}
use Rattle.std.specs.Option.{option_or}
use Rattle.gossa_base.specs.Lists.{first_from}
use Rattle.gossa_base.specs.declared.ids.ValueId.{ValueId}
use Rattle.ssa_ir.specs.declared.op.Op.{Op}
use Rattle.ssa_ir.specs.declared.func.Value.{Value}
use Rattle.ssa_ir.specs.FirstOrder.{memory_taken, same_memory}
use Rattle.ssa_ir.specs.OpKinds.{changes_memory, is_call, is_follower, is_phi, reads_memory}
use Rattle.graphs.specs.declared.graph.Edge.{Edge}
use Rattle.graphs.specs.declared.loops.Named.{Named}
use Rattle.block_order.specs.tables.Dependencies.{index_of}

-- ---- items

abbrev pub calls : Option Value → Bool
calls None = false
calls (Some v) = is_call v.op

abbrev pub where_call : (block : List Value) → Option ℕ → Option ℕ
where_call block None = None
where_call block (Some i) = if calls (slice_get block i) then Some i else None

-- the index of the call that a select names
abbrev pub call_named : (block : List Value) → List ValueId → Option ℕ
call_named block [] = None
call_named block (a ∷ args) = where_call block (index_of block a)

-- the index of the first value of the item of a value, which stands at index i: a phi is of none, a select of a call of
-- the block is of the call's, and any other value is the first of its own
abbrev pub owner_of : (block : List Value) → (i : ℕ) → Value → Option ℕ
owner_of block i v =
    if is_phi v.op then None else (if is_follower v.op then option_or (call_named block v.args) (Some i) else Some i)

abbrev pub owner_at : (block : List Value) → (i : ℕ) → Option Value → Option ℕ
owner_at block i None = None
owner_at block i (Some v) = owner_of block i v

abbrev pub owner_where : (block : List Value) → Option ℕ → Option ℕ
owner_where block None = None
owner_where block (Some i) = owner_at block i (slice_get block i)

-- the same of the value of a number
abbrev pub owner : (block : List Value) → ValueId → Option ℕ
owner block id = owner_where block (index_of block id)

abbrev pub is_index : Option ℕ → ℕ → Bool
is_index None i = false
is_index (Some j) i = j == i

-- a value is the first of its item
abbrev pub leads : (block : List Value) → (i : ℕ) → Value → Bool
leads block i v = is_index (owner_of block i v) i

-- ---- edges: an item is the node of its index, and a memory the node of the first value that takes it, behind all
-- indexes

abbrev pub edge_to : (i : ℕ) → Option ℕ → List Edge
edge_to i None = []
edge_to i (Some j) = record { source = j; target = i } ∷ []

-- from each item of which item i takes a value
abbrev pub arg_edges : (block : List Value) → (i : ℕ) → List ValueId → List Edge
arg_edges block i args = flat_map (λ a. edge_to i (owner block a)) args

abbrev pub takes_memory : ValueId → Value → Bool
takes_memory m v = same_memory (memory_taken v.op v.args) (Some m)

abbrev pub first_taker : (block : List Value) → ValueId → Option ℕ
first_taker block m = first_from (takes_memory m) 0 block

abbrev pub first_of : (block : List Value) → Option ValueId → Option ℕ
first_of block None = None
first_of block (Some m) = first_taker block m

abbrev pub reader_edge : Bool → (i node : ℕ) → List Edge
reader_edge true i node = record { source = i; target = node } ∷ []
reader_edge false i node = []

abbrev pub changer_edge : Bool → (i node : ℕ) → List Edge
changer_edge true i node = record { source = node; target = i } ∷ []
changer_edge false i node = []

abbrev pub memory_edges_by : (indexes i : ℕ) → Op → Option ℕ → List Edge
memory_edges_by indexes i op None = []
memory_edges_by indexes i op (Some first) =
    reader_edge (reads_memory op) i (indexes + first) ++ changer_edge (changes_memory op) i (indexes + first)

-- to the memory that item i reads, and from the one that it changes
abbrev pub memory_edges : (block : List Value) → (i : ℕ) → Value → List Edge
memory_edges block i v = memory_edges_by (length block) i v.op (first_of block (memory_taken v.op v.args))

abbrev pub value_edges : (block : List Value) → (i : ℕ) → Value → List Edge
value_edges block i v = if leads block i v then arg_edges block i v.args ++ memory_edges block i v else []

abbrev pub edges_from : (block : List Value) → (i : ℕ) → List Value → List Edge
edges_from block i [] = []
edges_from block i (v ∷ values) = value_edges block i v ++ edges_from block (suc i) values

abbrev pub block_edges : (block : List Value) → List Edge
block_edges block = edges_from block 0 block

-- ---- names: each value of an item gives it its number

abbrev pub name_of : Option ℕ → Value → List Named
name_of None v = []
name_of (Some o) v = record { node = o; number = v.id.0 } ∷ []

abbrev pub names_from : (block : List Value) → (i : ℕ) → List Value → List Named
names_from block i [] = []
names_from block i (v ∷ values) = name_of (owner_of block i v) v ++ names_from block (suc i) values

abbrev pub block_names : (block : List Value) → List Named
block_names block = names_from block 0 block
