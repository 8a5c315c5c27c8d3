-- What a line leaves of the values and the blocks of the function that goes on.
use Rattle.std.proofs.Common.{◌≡◌, ◌==◌, ℕ, ◌<◌, ◌≤◌, true, false, List, [], ◌∷◌, ◌++◌, length, map, is_some, All}
use Rattle.std.proofs.Common.{Option, None, Some, IfSome, refl, sym, ap, subst, arith}
use Rattle.std.specs.List.{flat_map, list_any}
use Rattle.std.proofs.lemmas.List.{append_assoc, append-nil}
use Rattle.std.proofs.lemmas.List.Elements.{All-nil, All-push}
use Rattle.gossa_base.specs.declared.ids.BlockId.{BlockId}
use Rattle.ssa_ir.specs.declared.limits.TheConstants.{MAX_ARGS, MAX_BLOCKS, MAX_VALUES}
use Rattle.ssa_ir.specs.declared.func.Value.{Value}
use Rattle.ssa_ir.specs.declared.func.Block.{Block}
use Rattle.ssa_ir.specs.declared.func.Func.{Func}
use Rattle.ssa_lines.specs.NumberWords.{bid}
use Rattle.ssa_lines.specs.declared.forms.BlockLine.{BlockLine}
use Rattle.ssa_lines.specs.declared.forms.ControlLine.{ControlLine}
use Rattle.ssa_text.specs.declared.partial.OpenBlock.{OpenBlock}
use Rattle.ssa_text.specs.declared.partial.OpenFunc.{OpenFunc}
use Rattle.ssa_text.specs.Reading.{has_open_block, open_block_id, block_ids, open_values, values_so_far, change}
use Rattle.ssa_text.specs.Reading.{begin_block, add_value, value_behind, whole_block, end_open, end_block, whole}
use Rattle.ssa_text.specs.Reading.{with_whole}
use Rattle.ssa_lines.proofs.FormFacts.{IsTextBlock, BlockFacts, ControlFacts}
use Rattle.ssa_text.proofs.ListLemmas.{length_push, numbers_differ}
use Rattle.ssa_text.proofs.ReadFacts.{GoodPreds, GoodBlock, GoodValue, ValuesWell, IdsWell, PartsWell, FuncWell}
use Rattle.ssa_text.proofs.TakeLemmas.{values_kept_by_block, blocks_kept_by_value, blocks_kept_by_end}
use Rattle.ssa_text.proofs.TakeLemmas.{values_kept_by_end}

-- no values, and no blocks
pub no_values : ValuesWell []
no_values = record { good = All-nil GoodValue; few = omega arith; differ = λ i j d lt within. absurd (omega arith) }

pub no_ids : IdsWell []
no_ids = record { good = All-nil IsTextBlock; few = omega arith; differ = λ i j d lt within. absurd (omega arith) }

-- one more value, which has room and a number of its own
pub value_more : (values : List Value) (v : Value) → ValuesWell values → GoodValue v → length values < MAX_VALUES
    → list_any (λ u. u.id.0 == v.id.0) values ≡ false → ValuesWell (values ++ v ∷ [])
value_more values v well good room new = record {
  good = All-push GoodValue values v well.good good;
  few = omega (arith, length_push values v);
  differ = numbers_differ (λ (u : Value). u.id.0) values v well.differ new;
}

-- and one more block
pub id_more : (ids : List BlockId) (id : BlockId) → IdsWell ids → IsTextBlock id → length ids < MAX_BLOCKS
    → list_any (λ other. other.n == id.n) ids ≡ false → IdsWell (ids ++ id ∷ [])
id_more ids id well good room new = record {
  good = All-push IsTextBlock ids id well.good good;
  few = omega (arith, length_push ids id);
  differ = numbers_differ (λ (other : BlockId). other.n) ids id well.differ new;
}

added : (v : Value) (blocks : List Block) (b : Option OpenBlock) → is_some b ≡ true
    → flat_map (λ (c : Block). c.values) blocks ++ open_values (add_value v b)
    ≡ (flat_map (λ c. c.values) blocks ++ open_values b) ++ v ∷ []
added v blocks None h = cc
added v blocks (Some b) h = sym (append_assoc (flat_map (λ (c : Block). c.values) blocks) b.values (v ∷ []))

-- a value goes behind the others
pub value_last : (v : Value) (func : Option OpenFunc) → has_open_block func ≡ true
    → values_so_far (change (value_behind v) func) ≡ values_so_far func ++ v ∷ []
value_last v None h = cc
value_last v (Some f) h = added v f.blocks f.block h

begun : (n : ℕ) (blocks : List Block) (b : Option OpenBlock) → is_some b ≡ false
    → map (λ (c : Block). c.id) blocks ++ bid n ∷ [] ≡ (map (λ c. c.id) blocks ++ open_block_id b) ++ bid n ∷ []
begun n blocks (Some b) h = cc
begun n blocks None h = ap (λ l. l ++ bid n ∷ []) (sym (append-nil (map (λ c. c.id) blocks)))

-- and a block too
id_last : (line : BlockLine) (func : Option OpenFunc) → is_some func ≡ true → has_open_block func ≡ false
    → block_ids (change (begin_block line) func) ≡ block_ids func ++ bid line.n ∷ []
id_last line None some h = cc
id_last line (Some f) some h = begun line.n f.blocks f.block h

-- the values behind a line
pub values_behind_value : (v : Value) (func : Option OpenFunc) → has_open_block func ≡ true
    → ValuesWell (values_so_far func) → GoodValue v → length (values_so_far func) < MAX_VALUES
    → list_any (λ u. u.id.0 == v.id.0) (values_so_far func) ≡ false
    → ValuesWell (values_so_far (change (value_behind v) func))
values_behind_value v func here well good room new =
    subst ValuesWell (sym (value_last v func here)) (value_more (values_so_far func) v well good room new)

pub values_behind_block : (line : BlockLine) (func : Option OpenFunc) → has_open_block func ≡ false
    → ValuesWell (values_so_far func) → ValuesWell (values_so_far (change (begin_block line) func))
values_behind_block line func here well = subst ValuesWell (sym (values_kept_by_block line func here)) well

pub values_behind_end : (line : ControlLine) (func : Option OpenFunc) → ValuesWell (values_so_far func)
    → ValuesWell (values_so_far (change (end_block line) func))
values_behind_end line func well = subst ValuesWell (sym (values_kept_by_end line func)) well

-- the blocks behind a line
pub ids_behind_block : (line : BlockLine) (func : Option OpenFunc) → is_some func ≡ true
    → has_open_block func ≡ false → IdsWell (block_ids func) → BlockFacts line → length (block_ids func) < MAX_BLOCKS
    → list_any (λ id. id.n == line.n) (block_ids func) ≡ false
    → IdsWell (block_ids (change (begin_block line) func))
ids_behind_block line func some here well facts room new =
    let good : IsTextBlock (bid line.n) = record { number = facts.number; unsplit = refl } in
    subst IdsWell (sym (id_last line func some here)) (id_more (block_ids func) (bid line.n) well good room new)

pub ids_behind_value : (v : Value) (func : Option OpenFunc) → IdsWell (block_ids func)
    → IdsWell (block_ids (change (value_behind v) func))
ids_behind_value v func well = subst IdsWell (sym (blocks_kept_by_value v func)) well

pub ids_behind_end : (line : ControlLine) (func : Option OpenFunc) → IdsWell (block_ids func)
    → IdsWell (block_ids (change (end_block line) func))
ids_behind_end line func well = subst IdsWell (sym (blocks_kept_by_end line func)) well

-- the whole blocks and the beginning of the open one behind a line
pub parts_behind_block : (line : BlockLine) (func : Option OpenFunc) → BlockFacts line → length line.preds ≤ MAX_ARGS
    → PartsWell func → PartsWell (change (begin_block line) func)
parts_behind_block line None facts few well = well
parts_behind_block line (Some f) facts few well =
    record { blocks = well.blocks; preds = record { each = facts.preds; few = few } }

same_preds : (v : Value) (b : Option OpenBlock) → IfSome b (λ c. GoodPreds c.preds)
    → IfSome (add_value v b) (λ c. GoodPreds c.preds)
same_preds v None good = tt
same_preds v (Some b) good = good

pub parts_behind_value : (v : Value) (func : Option OpenFunc) → PartsWell func
    → PartsWell (change (value_behind v) func)
parts_behind_value v None well = well
parts_behind_value v (Some f) well = record { blocks = well.blocks; preds = same_preds v f.block well.preds }

ended : (line : ControlLine) (f : OpenFunc) (b : Option OpenBlock) → ControlFacts line → All GoodBlock f.blocks
    → IfSome b (λ c. GoodPreds c.preds) → PartsWell (Some (end_open line f b))
ended line f None facts blocks preds = record { blocks = blocks; preds = tt }
ended line f (Some b) facts blocks preds =
    let good : GoodBlock (whole_block line b) = record {
      well_formed = record { successors = facts.successors; control = facts.has_control };
      preds = preds;
      succs = facts.succs;
    } in
    record { blocks = All-push GoodBlock f.blocks (whole_block line b) blocks good; preds = tt }

pub parts_behind_end : (line : ControlLine) (func : Option OpenFunc) → ControlFacts line → PartsWell func
    → PartsWell (change (end_block line) func)
parts_behind_end line None facts well = well
parts_behind_end line (Some f) facts well = ended line f f.block facts well.blocks well.preds

-- a function that ends without an open block
ended_func : (f : OpenFunc) (b : Option OpenBlock) → is_some b ≡ false
    → ValuesWell (flat_map (λ (c : Block). c.values) f.blocks ++ open_values b)
    → IdsWell (map (λ (c : Block). c.id) f.blocks ++ open_block_id b) → All GoodBlock f.blocks → FuncWell (whole f)
ended_func f (Some b) none values ids blocks = absurd (cc)
ended_func f None none values ids blocks = record {
  values = subst ValuesWell (append-nil (flat_map (λ (c : Block). c.values) f.blocks)) values;
  ids = subst IdsWell (append-nil (map (λ (c : Block). c.id) f.blocks)) ids;
  blocks = blocks;
}

-- all functions that are whole then
pub funcs_behind : (funcs : List Func) (func : Option OpenFunc) → has_open_block func ≡ false → All FuncWell funcs
    → ValuesWell (values_so_far func) → IdsWell (block_ids func) → PartsWell func
    → All FuncWell (with_whole funcs func)
funcs_behind funcs None none well values ids parts = well
funcs_behind funcs (Some f) none well values ids parts =
    All-push FuncWell funcs (whole f) well (ended_func f f.block none values ids parts.blocks)
