use Rattle.std.proofs.Common.{arith}
use Rattle.gossa_base.proofs.VectorLists.{map_empty}
use Rattle.graphs.proofs.graph.Graph.without_edges.Goals as goal

pub returns : goal.returns
returns c = map_empty c.args.nodes c.loop.targets.items (omega (arith, c.loop.invariant.1)) c.loop.invariant.0
