-- Which uses miss their definition on some path, by the rows of blocks that every path passes.
use Rattle.std.specs.Prelude.{ℕ, Bool, true, false, not, ◌||◌, List, [], ◌∷◌, Option, None, Some}
use Rattle.std.specs.List.{list_any}
use Rattle.gossa_base.specs.declared.ids.ValueId.{ValueId}
use Rattle.ssa_ir.specs.declared.func.Block.{Block}
use Rattle.ssa_ir.specs.declared.func.Func.{Func}
use Rattle.ssa_ir.specs.declared.func.Value.{Value}
use Rattle.ssa_ir.specs.OpKinds.{is_phi}
use Rattle.ssa_tables.specs.declared.values.Place.{Place}
use Rattle.ssa_tables.specs.Blocks.{index_in, preds_at, preds_of}
use Rattle.ssa_tables.specs.PassedRows.{bit_at}
use Rattle.ssa_tables.specs.Places.{place_in, places_of}

-- some path to a block, of this index, doesn't pass this place
abbrev pub place_missed : (rows : List (List Bool)) → (block : ℕ) → Option Place → Bool
place_missed rows block None = false
place_missed rows block (Some place) = not (bit_at rows block place.block)

-- a use at the end of a block, of this index, misses its definition
abbrev pub is_missed : Func → (rows : List (List Bool)) → (block : ℕ) → ValueId → Bool
is_missed f rows block id = place_missed rows block (place_in (places_of f) id)

-- one of these misses its definition at the end of its own source
abbrev pub missed_before : Func → (rows : List (List Bool)) → List ValueId → (sources : List ℕ) → Bool
missed_before f rows [] sources = false
missed_before f rows (arg ∷ args) [] = false
missed_before f rows (arg ∷ args) (source ∷ sources) = is_missed f rows source arg || missed_before f rows args sources

-- a value misses one of these arguments: a Phi takes each at the end of a predecessor
abbrev pub args_missed : Func → (rows : List (List Bool)) → Block → List ValueId → (phi : Bool) → Bool
args_missed f rows b args true = missed_before f rows args (preds_at (preds_of f) (index_in f.blocks b.id))
args_missed f rows b args false = list_any (is_missed f rows (index_in f.blocks b.id)) args

abbrev pub value_missed : Func → (rows : List (List Bool)) → Block → Value → Bool
value_missed f rows b v = args_missed f rows b v.args (is_phi v.op)

-- a control misses its definition
abbrev pub control_missed : Func → (rows : List (List Bool)) → Block → Option ValueId → Bool
control_missed f rows b None = false
control_missed f rows b (Some id) = is_missed f rows (index_in f.blocks b.id) id
