-- The edges of a function, as its blocks list them at both ends; and where two lists of edges first differ.
use Rattle.std.specs.Prelude.{ℕ, ◌==◌, nat_lt, Bool, ◌&&◌, if◌then◌else◌, List, map, Option, None, Some, slice_get}
use Rattle.std.specs.List.{common_prefix_len, flat_map}
use Rattle.std.specs.Ordering.{nat_cmp, ordering_then}
use Rattle.std.specs.declared.cmp.Ordering.{Ordering}
use Rattle.ssa_ir.specs.declared.func.Block.{Block}
use Rattle.ssa_ir.specs.declared.func.Func.{Func}
use Rattle.ssa_check.specs.declared.edges.Edge.{Edge}

abbrev pub same_edge : Edge → Edge → Bool
same_edge a b = (a.target == b.target) && (a.source == b.source)

-- the order of edges: by target, and then by source
abbrev pub edge_cmp : Edge → Edge → Ordering
edge_cmp a b = ordering_then (nat_cmp a.target b.target) (nat_cmp a.source b.source)

-- the edges from a block, as it lists its successors
abbrev pub outgoing : Block → List Edge
outgoing b = map (λ t. record { target = t.n; source = b.id.n }) b.succs

-- the edges to a block, as it lists its predecessors
abbrev pub incoming : Block → List Edge
incoming b = map (λ s. record { target = b.id.n; source = s.n }) b.preds

abbrev pub all_outgoing : Func → List Edge
all_outgoing f = flat_map outgoing f.blocks

abbrev pub all_incoming : Func → List Edge
all_incoming f = flat_map incoming f.blocks

-- the lower target of two edges, where they are there
abbrev pub lower_target : Option Edge → Option Edge → Option ℕ
lower_target None None = None
lower_target None (Some b) = Some b.target
lower_target (Some a) None = Some a.target
lower_target (Some a) (Some b) = Some (if nat_lt b.target a.target then b.target else a.target)

-- how many edges two lists begin with alike
abbrev pub common_len : List Edge → List Edge → ℕ
common_len left right = common_prefix_len same_edge left right

-- the lower target behind those that are alike
abbrev pub first_difference : List Edge → List Edge → Option ℕ
first_difference left right =
    lower_target (slice_get left (common_len left right)) (slice_get right (common_len left right))
