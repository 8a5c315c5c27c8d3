use Rattle.std.proofs.Common.{◌≡◌, ℕ, ◌+◌, ◌<◌, List, length, Option, None, Some, sym, subst, ap, ◌∙◌}
use Rattle.std.specs.List.{All}
use Rattle.ssa_ir.specs.declared.func.Value.{Value}
use Rattle.graphs.specs.declared.graph.Edge.{Edge}
use Rattle.graphs.specs.declared.loops.Named.{Named}
use Rattle.block_order.specs.tables.ItemGraph.{block_edges, block_names}
use Rattle.graphs.specs.Graphs.{graph_of}
use Rattle.graphs.specs.Loops.{LeastOnLoop}
use Rattle.block_order.proofs.ItemWalks.{edges_within, names_within, none_least, some_least}
use Rattle.block_order.proofs.items.lowest_on_cycle.Goals as goal

least_of : (n : ℕ) (es fs : List Edge) (xs ys : List Named) (r s : Option Named) → es ≡ fs → xs ≡ ys → r ≡ s
    → LeastOnLoop (graph_of n es) xs r → LeastOnLoop (graph_of n fs) ys s
least_of n es fs xs ys r s edges names same h =
    subst (LeastOnLoop (graph_of n fs) ys) same
    (subst (λ zs. LeastOnLoop (graph_of n fs) zs r) names (subst (λ ds. LeastOnLoop (graph_of n ds) xs r) edges h))

pub lowest_on_loop-requires-clause-edges : goal.lowest_on_loop-requires-clause-edges
lowest_on_loop-requires-clause-edges c =
    let block : List Value = c.args.values.now in
    let edges : c.as_slice.result.now ≡ block_edges block =
    c.as_slice.ensures.value ∙ c.in_ok-edges.ensures ∙ ap block_edges c.in_ok-block.ensures in
    subst (λ (es : List Edge). All
    (λ e. (e.source < length block + length block) × (e.target < length block + length block)) es)
    (sym edges) (edges_within block c.requires.has_items)

pub lowest_on_loop-requires-clause-names : goal.lowest_on_loop-requires-clause-names
lowest_on_loop-requires-clause-names c =
    let block : List Value = c.args.values.now in
    let names : c.as_slice-2.result.now ≡ block_names block =
    c.as_slice-2.ensures.value ∙ c.in_ok-names.ensures ∙ ap block_names c.in_ok-block.ensures in
    subst (λ (xs : List Named). All (λ x. x.node < length block + length block) xs) (sym names)
    (names_within block c.requires.has_items)

pub returns-in-Some : goal.returns-in-Some
returns-in-Some c =
    let block : List Value = c.args.values.now in
    let edges : c.as_slice.result.now ≡ block_edges block =
    c.as_slice.ensures.value ∙ c.in_ok-edges.ensures ∙ ap block_edges c.in_ok-block.ensures in
    let names : c.as_slice-2.result.now ≡ block_names block =
    c.as_slice-2.ensures.value ∙ c.in_ok-names.ensures ∙ ap block_names c.in_ok-block.ensures in
    some_least block c.requires.has_items c.in-Some.lowest
    (least_of (length block + length block) c.as_slice.result.now (block_edges block) c.as_slice-2.result.now
    (block_names block)
    c.in_ok-lowest.field-0 (Some c.in-Some.lowest) edges names c.in-Some.is c.in_ok-lowest.ensures)

pub returns : goal.returns
returns c =
    let block : List Value = c.args.values.now in
    let edges : c.as_slice.result.now ≡ block_edges block =
    c.as_slice.ensures.value ∙ c.in_ok-edges.ensures ∙ ap block_edges c.in_ok-block.ensures in
    let names : c.as_slice-2.result.now ≡ block_names block =
    c.as_slice-2.ensures.value ∙ c.in_ok-names.ensures ∙ ap block_names c.in_ok-block.ensures in
    none_least block c.requires.has_items
    (least_of (length block + length block) c.as_slice.result.now (block_edges block) c.as_slice-2.result.now
    (block_names block)
    c.in_ok-lowest.field-0 None edges names c.in-None.is c.in_ok-lowest.ensures)
