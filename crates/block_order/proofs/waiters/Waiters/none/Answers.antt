use Rattle.std.proofs.Common.{arith}
use Rattle.gossa_base.proofs.VectorLists.{map_empty}
use Rattle.block_order.proofs.waiters.Waiters.none.Goals as goal

pub returns : goal.returns
returns c = map_empty c.args.count c.loop.lists.items (omega (arith, c.loop.invariant.1)) c.loop.invariant.0
