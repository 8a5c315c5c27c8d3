-- A function made ready: the items of each block in first order, and where each edge goes.
use Rattle.std.specs.Prelude.{◌≡◌, ℕ, length, Option, None, Some, slice_get, slice_index_or}
use Rattle.gossa_base.specs.declared.ids.BlockId.{BlockId}
use Rattle.ssa_ir.specs.declared.func.Block.{Block}
use Rattle.ssa_ir.specs.declared.func.Func.{Func}
use Rattle.ssa_ir.specs.Edges.{block_named, edge_number}
use Rattle.ssa_meaning.specs.declared.ready.Way.{Way}
use Rattle.ssa_meaning.specs.declared.ready.ReadyBlock.{ReadyBlock}
use Rattle.ssa_meaning.specs.declared.ready.ReadyFunc.{ReadyFunc}
use Rattle.block_order.specs.Items.{AreInFirstOrder}

-- the edge to successor j of a block comes to the block of this index, by the edge of this number there
pub record Arrives (f : Func) (b : Block) (j : ℕ) (w : Way) : Type 0 where
  pub id : BlockId
  pub target : Block
  pub successor : slice_get b.succs j ≡ Some id
  pub named : block_named f.blocks id ≡ Some target
  pub stands : slice_get f.blocks w.block ≡ Some target
  pub edge : w.edge ≡ edge_number b target j

-- successor j of a block goes nowhere: there is none, or no block has its name
abbrev pub GoesNowhere : Func → Block → ℕ → Type 0
GoesNowhere f b j = (id : BlockId) → slice_get b.succs j ≡ Some id → block_named f.blocks id ≡ None

abbrev pub LeadsTo : Func → Block → ℕ → Option Way → Type 0
LeadsTo f b j None = GoesNowhere f b j
LeadsTo f b j (Some w) = Arrives f b j w

pub record IsReadyBlock (f : Func) (b : Block) (ready : ReadyBlock) : Type 0 where
  pub items : AreInFirstOrder b.values ready.items.items
  pub ways : (j : ℕ) → LeadsTo f b j (slice_index_or ready.ways.items j None)

pub record IsReady (f : Func) (ready : ReadyFunc) : Type 0 where
  pub blocks : length ready.blocks.items ≡ length f.blocks
  pub each : (i : ℕ) (b : Block) (r : ReadyBlock)
      → slice_get f.blocks i ≡ Some b → slice_get ready.blocks.items i ≡ Some r → IsReadyBlock f b r
