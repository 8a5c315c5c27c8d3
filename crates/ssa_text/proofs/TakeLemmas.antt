-- What a line changes of the names and the numbers that were given.
use Rattle.std.proofs.Common.{◌≡◌, ◌==◌, cond, ℕ, Bool, true, false, not, ◌&&◌, List, [], ◌∷◌, ◌++◌, map, is_none}
use Rattle.std.proofs.Common.{is_some, Option, None, Some, refl, sym, ap, ◌∙◌}
use Rattle.std.specs.List.{flat_map, list_any}
use Rattle.std.proofs.lemmas.Grind.{flat_map-append}
use Rattle.std.proofs.lemmas.List.{append_assoc, append-nil, map-append}
use Rattle.gossa_base.specs.declared.ids.BlockId.{BlockId}
use Rattle.ssa_ir.specs.declared.types.Sig.{Sig}
use Rattle.ssa_ir.specs.declared.func.Value.{Value}
use Rattle.ssa_ir.specs.declared.func.Block.{Block}
use Rattle.ssa_ir.specs.declared.func.Func.{Func}
use Rattle.ssa_lines.specs.declared.forms.BlockLine.{BlockLine}
use Rattle.ssa_lines.specs.declared.forms.ControlLine.{ControlLine}
use Rattle.ssa_text.specs.declared.partial.OpenBlock.{OpenBlock}
use Rattle.ssa_text.specs.declared.partial.OpenFunc.{OpenFunc}
use Rattle.ssa_lines.specs.Tables.{with_number}
use Rattle.ssa_lines.proofs.TableLemmas.{list_any_map}
use Rattle.ssa_text.specs.declared.partial.Mention.{Mention}
use Rattle.ssa_text.specs.Reading.{read_of, has_open_block, open_name, open_block_id, block_ids, open_values}
use Rattle.ssa_text.specs.Reading.{values_so_far, change, begin_block, add_value, value_behind, whole_block, end_open}
use Rattle.ssa_text.specs.Reading.{end_block, with_whole}

-- what was read is known by its parts
pub so_far : (sigs : List Sig) {funcs more : List Func} {func next : Option OpenFunc} {mentions named : List Mention}
    {unknown first : Option ℕ} → funcs ≡ more → func ≡ next → mentions ≡ named → unknown ≡ first
    → read_of sigs funcs func mentions unknown ≡ read_of sigs more next named first
so_far sigs {funcs} {more} {func} {next} {mentions} {named} {unknown} {first} whole changed told missing =
    ap (λ l. read_of sigs l func mentions unknown) whole
    ∙ ap (λ f. read_of sigs more f mentions unknown) changed
    ∙ ap (λ l. read_of sigs more next l unknown) told
    ∙ ap (read_of sigs more next named) missing

-- a function that begins, with its blocks
abbrev new_func : Sig → List Block → Option OpenFunc
new_func s blocks = Some (record { sig = s; blocks = blocks; block = None })

pub begun : (s : Sig) {blocks : List Block} → blocks ≡ [] → new_func s blocks ≡ new_func s []
begun s empty = ap (new_func s) empty

-- the names of signatures, of whole functions, and of one that goes on
abbrev pub all_names : List Sig → List Func → Option OpenFunc → List (List ℕ)
all_names sigs funcs func = map (λ s. s.name) sigs ++ (map (λ f. f.sig.name) funcs ++ open_name func)

-- a signature before all functions
pub sig_behind : (sigs : List Sig) (s : Sig)
    → all_names (sigs ++ s ∷ []) [] None ≡ all_names sigs [] None ++ s.name ∷ []
sig_behind sigs s =
    append-nil (map (λ t. t.name) (sigs ++ s ∷ []))
    ∙ map-append (λ (t : Sig). t.name) sigs (s ∷ [])
    ∙ ap (λ l. l ++ s.name ∷ []) (sym (append-nil (map (λ t. t.name) sigs)))

-- the names of all functions are those of the whole ones, and then that of the one that goes on
pub whole_names : (funcs : List Func) (func : Option OpenFunc)
    → map (λ (f : Func). f.sig.name) (with_whole funcs func) ≡ map (λ f. f.sig.name) funcs ++ open_name func
whole_names funcs None = sym (append-nil (map (λ f. f.sig.name) funcs))
whole_names funcs (Some f) =
    map-append (λ (g : Func). g.sig.name) funcs (record { sig = f.sig; blocks = f.blocks } ∷ [])

-- a function behind the others
pub func_behind : (sigs : List Sig) (funcs : List Func) (func : Option OpenFunc) (s : Sig)
    → all_names sigs (with_whole funcs func) (new_func s [])
    ≡ all_names sigs funcs func ++ s.name ∷ []
func_behind sigs funcs func s =
    ap (λ l. map (λ t. t.name) sigs ++ (l ++ s.name ∷ [])) (whole_names funcs func)
    ∙ sym (append_assoc (map (λ t. t.name) sigs) (map (λ f. f.sig.name) funcs ++ open_name func) (s.name ∷ []))

-- a function keeps its name
pub name_kept : (by : OpenFunc → OpenFunc) → ((f : OpenFunc) → (by f).sig ≡ f.sig) → (func : Option OpenFunc)
    → open_name (change by func) ≡ open_name func
name_kept by keeps None = refl
name_kept by keeps (Some f) = ap (λ (s : Sig). s.name ∷ []) (keeps f)

-- the numbers of blocks and of values
abbrev pub block_numbers : Option OpenFunc → List ℕ
block_numbers func = map (λ id. id.n) (block_ids func)

abbrev pub value_numbers : Option OpenFunc → List ℕ
value_numbers func = map (λ v. v.id.0) (values_so_far func)

begun_number : (n : ℕ) (blocks : List Block) (b : Option OpenBlock) → is_some b ≡ false
    → map (λ (id : BlockId). id.n) (map (λ c. c.id) blocks ++ record { split = false; n = n } ∷ [])
    ≡ map (λ id. id.n) (map (λ c. c.id) blocks ++ open_block_id b) ++ n ∷ []
begun_number n blocks (Some b) h = cc
begun_number n blocks None h =
    map-append (λ (id : BlockId). id.n) (map (λ c. c.id) blocks) (record { split = false; n = n } ∷ [])
    ∙ ap (λ l. map (λ (id : BlockId). id.n) l ++ n ∷ []) (sym (append-nil (map (λ c. c.id) blocks)))

-- a block that begins in a function without an open one
pub block_behind : (line : BlockLine) (func : Option OpenFunc) → is_some func ≡ true → has_open_block func ≡ false
    → block_numbers (change (begin_block line) func) ≡ block_numbers func ++ line.n ∷ []
block_behind line None some whole = cc
block_behind line (Some f) some whole = begun_number line.n f.blocks f.block whole

begun_values : (blocks : List Block) (b : Option OpenBlock) → is_some b ≡ false
    → flat_map (λ (c : Block). c.values) blocks ++ [] ≡ flat_map (λ c. c.values) blocks ++ open_values b
begun_values blocks (Some b) h = cc
begun_values blocks None h = refl

pub values_kept_by_block : (line : BlockLine) (func : Option OpenFunc) → has_open_block func ≡ false
    → values_so_far (change (begin_block line) func) ≡ values_so_far func
values_kept_by_block line None whole = refl
values_kept_by_block line (Some f) whole = begun_values f.blocks f.block whole

added_number : (v : Value) (blocks : List Block) (b : Option OpenBlock) → is_some b ≡ true
    → map (λ (u : Value). u.id.0) (flat_map (λ c. c.values) blocks ++ open_values (add_value v b))
    ≡ map (λ u. u.id.0) (flat_map (λ c. c.values) blocks ++ open_values b) ++ v.id.0 ∷ []
added_number v blocks None h = cc
added_number v blocks (Some b) h =
    ap (map (λ (u : Value). u.id.0)) (sym (append_assoc (flat_map (λ c. c.values) blocks) b.values (v ∷ [])))
    ∙ map-append (λ (u : Value). u.id.0) (flat_map (λ c. c.values) blocks ++ b.values) (v ∷ [])

-- a value in the block that goes on
pub value_behind_others : (v : Value) (func : Option OpenFunc) → has_open_block func ≡ true
    → value_numbers (change (value_behind v) func) ≡ value_numbers func ++ v.id.0 ∷ []
value_behind_others v None some = cc
value_behind_others v (Some f) some = added_number v f.blocks f.block some

added_id : (v : Value) (b : Option OpenBlock) → open_block_id (add_value v b) ≡ open_block_id b
added_id v None = refl
added_id v (Some b) = refl

pub blocks_kept_by_value : (v : Value) (func : Option OpenFunc)
    → block_ids (change (value_behind v) func) ≡ block_ids func
blocks_kept_by_value v None = refl
blocks_kept_by_value v (Some f) = ap (λ l. map (λ b. b.id) f.blocks ++ l) (added_id v f.block)

ended_ids : (line : ControlLine) (f : OpenFunc) (b : Option OpenBlock)
    → map (λ (c : Block). c.id) (end_open line f b).blocks ++ open_block_id (end_open line f b).block
    ≡ map (λ c. c.id) f.blocks ++ open_block_id b
ended_ids line f None = refl
ended_ids line f (Some b) =
    append-nil (map (λ (c : Block). c.id) (f.blocks ++ whole_block line b ∷ []))
    ∙ map-append (λ (c : Block). c.id) f.blocks (whole_block line b ∷ [])

-- the end of a block keeps its number
pub blocks_kept_by_end : (line : ControlLine) (func : Option OpenFunc)
    → block_ids (change (end_block line) func) ≡ block_ids func
blocks_kept_by_end line None = refl
blocks_kept_by_end line (Some f) = ended_ids line f f.block

ended_values : (line : ControlLine) (f : OpenFunc) (b : Option OpenBlock)
    → flat_map (λ (c : Block). c.values) (end_open line f b).blocks ++ open_values (end_open line f b).block
    ≡ flat_map (λ c. c.values) f.blocks ++ open_values b
ended_values line f None = refl
ended_values line f (Some b) =
    append-nil (flat_map (λ (c : Block). c.values) (f.blocks ++ whole_block line b ∷ []))
    ∙ flat_map-append (λ (c : Block). c.values) f.blocks (whole_block line b ∷ [])
    ∙ ap (λ l. flat_map (λ (c : Block). c.values) f.blocks ++ l) (append-nil b.values)

-- and its values
pub values_kept_by_end : (line : ControlLine) (func : Option OpenFunc)
    → values_so_far (change (end_block line) func) ≡ values_so_far func
values_kept_by_end line None = refl
values_kept_by_end line (Some f) = ended_values line f f.block

-- the table of names behind a signature
pub sig_taken : (sigs more : List Sig) (funcs : List Func) (func : Option OpenFunc) (s : Sig)
    (names after : List (List ℕ))
    (name : List ℕ) → is_none func ≡ true → (is_none func ≡ true → funcs ≡ []) → names ≡ all_names sigs funcs func
    → more ≡ sigs ++ s ∷ [] → after ≡ names ++ name ∷ [] → name ≡ s.name → after ≡ all_names more funcs func
sig_taken sigs more funcs (Some f) s names after name none first before pushed put same = cc
sig_taken sigs more funcs None s names after name none first before pushed put same =
    let empty : funcs ≡ [] = first refl in
    put
    ∙ ap (λ n. names ++ n ∷ []) same
    ∙ ap (λ l. l ++ s.name ∷ []) (before ∙ ap (λ fs. all_names sigs fs None) empty)
    ∙ sym (sig_behind sigs s)
    ∙ ap (λ l. all_names l [] None) (sym pushed)
    ∙ ap (λ fs. all_names more fs None) (sym empty)

-- the table of names behind the beginning of a function
pub func_taken : (sigs : List Sig) (funcs more : List Func) (func : Option OpenFunc) (s : Sig) (blocks : List Block)
    (names after : List (List ℕ)) → names ≡ all_names sigs funcs func → more ≡ with_whole funcs func
    → after ≡ names ++ s.name ∷ [] → blocks ≡ []
    → after ≡ all_names sigs more (new_func s blocks)
func_taken sigs funcs more func s blocks names after before whole put empty =
    put
    ∙ ap (λ l. l ++ s.name ∷ []) before
    ∙ sym (func_behind sigs funcs func s)
    ∙ ap (λ fs. all_names sigs fs (new_func s [])) (sym whole)
    ∙ ap (all_names sigs more) (sym (begun s empty))

-- the table of names stays where the function that goes on changes
pub names_stay : (sigs : List Sig) (funcs : List Func) (func : Option OpenFunc) (by : OpenFunc → OpenFunc)
    (names : List (List ℕ))
    → ((f : OpenFunc) → (by f).sig ≡ f.sig) → names ≡ all_names sigs funcs func
    → names ≡ all_names sigs funcs (change by func)
names_stay sigs funcs func by names keeps before =
    before ∙ ap (λ l. map (λ s. s.name) sigs ++ (map (λ f. f.sig.name) funcs ++ l)) (sym (name_kept by keeps func))

pub still_none : (by : OpenFunc → OpenFunc) (func : Option OpenFunc) (funcs : List Func)
    → (is_none func ≡ true → funcs ≡ [])
    → is_none (change by func) ≡ true → funcs ≡ []
still_none by None funcs first none = first refl
still_none by (Some f) funcs first none = cc

pub end_keeps_sig : (line : ControlLine) (f : OpenFunc) → (end_block line f).sig ≡ f.sig
end_keeps_sig line f = go f.block
  where
    go : (b : Option OpenBlock) → (end_open line f b).sig ≡ f.sig
    go None = refl
    go (Some b) = refl

both_so : (a b : Bool) → a && b ≡ true → (a ≡ true) × (b ≡ true)
both_so true true e = (refl, refl)
both_so true false e = cc
both_so false b e = cc

not_so : (a : Bool) → not a ≡ true → a ≡ false
not_so true e = cc
not_so false e = refl

-- a number that isn't there goes last
put_last : (n : ℕ) (numbers : List ℕ) → list_any (λ m. m == n) numbers ≡ false
    → with_number n numbers ≡ numbers ++ n ∷ []
put_last n numbers absent = ap (λ b. cond b numbers (numbers ++ n ∷ [])) absent

-- the table of names stays, and what is known of a text without functions
module _ (sigs : List Sig) (funcs : List Func) (func after : Option OpenFunc) (by : OpenFunc → OpenFunc)
    (keeps : (f : OpenFunc) → (by f).sig ≡ f.sig) (changed : after ≡ change by func) where
  pub names_kept : (names : List (List ℕ)) → names ≡ all_names sigs funcs func → names ≡ all_names sigs funcs after
  names_kept names before = names_stay sigs funcs func by names keeps before ∙ ap (all_names sigs funcs) (sym changed)

  pub none_kept : (is_none func ≡ true → funcs ≡ []) → is_none after ≡ true → funcs ≡ []
  none_kept first none = still_none by func funcs first (ap is_none (sym changed) ∙ none)

-- the tables of numbers behind the beginning of a block
module _ (line : BlockLine) (func after : Option OpenFunc) (changed : after ≡ change (begin_block line) func)
    (place : is_some func && not (has_open_block func) ≡ true) where
  whole : has_open_block func ≡ false
  whole = not_so (has_open_block func) (both_so (is_some func) (not (has_open_block func)) place).1

  pub block_taken : (numbers more : List ℕ) → list_any (λ (id : BlockId). id.n == line.n) (block_ids func) ≡ false
      → numbers ≡ block_numbers func → more ≡ with_number line.n numbers → more ≡ block_numbers after
  block_taken numbers more once before put =
      let absent : list_any (λ m. m == line.n) numbers ≡ false =
      ap (list_any (λ m. m == line.n)) before
      ∙ list_any_map (λ (id : BlockId). id.n) (λ m. m == line.n) (block_ids func) ∙ once in
      put ∙ put_last line.n numbers absent ∙ ap (λ l. l ++ line.n ∷ []) before
      ∙ sym (block_behind line func (both_so (is_some func) (not (has_open_block func)) place).0 whole)
      ∙ ap block_numbers (sym changed)

  pub values_stay : (numbers : List ℕ) → numbers ≡ value_numbers func → numbers ≡ value_numbers after
  values_stay numbers before =
      before ∙ ap (map (λ (v : Value). v.id.0)) (sym (values_kept_by_block line func whole))
      ∙ ap value_numbers (sym changed)

-- the tables of numbers behind a value
module _ (v : Value) (func after : Option OpenFunc) (changed : after ≡ change (value_behind v) func)
    (place : has_open_block func ≡ true) where
  pub value_taken : (numbers more : List ℕ) → list_any (λ (u : Value). u.id.0 == v.id.0) (values_so_far func) ≡ false
      → numbers ≡ value_numbers func → more ≡ with_number v.id.0 numbers → more ≡ value_numbers after
  value_taken numbers more once before put =
      let absent : list_any (λ m. m == v.id.0) numbers ≡ false =
      ap (list_any (λ m. m == v.id.0)) before
      ∙ list_any_map (λ (u : Value). u.id.0) (λ m. m == v.id.0) (values_so_far func) ∙ once in
      put ∙ put_last v.id.0 numbers absent ∙ ap (λ l. l ++ v.id.0 ∷ []) before
      ∙ sym (value_behind_others v func place)
      ∙ ap value_numbers (sym changed)

  pub blocks_stay : (numbers : List ℕ) → numbers ≡ block_numbers func → numbers ≡ block_numbers after
  blocks_stay numbers before =
      before ∙ ap (map (λ (id : BlockId). id.n)) (sym (blocks_kept_by_value v func)) ∙ ap block_numbers (sym changed)

-- the tables of numbers behind the end of a block
module _ (line : ControlLine) (func after : Option OpenFunc) (changed : after ≡ change (end_block line) func) where
  pub blocks_stay_at_end : (numbers : List ℕ) → numbers ≡ block_numbers func → numbers ≡ block_numbers after
  blocks_stay_at_end numbers before =
      before ∙ ap (map (λ (id : BlockId). id.n)) (sym (blocks_kept_by_end line func)) ∙ ap block_numbers (sym changed)

  pub values_stay_at_end : (numbers : List ℕ) → numbers ≡ value_numbers func → numbers ≡ value_numbers after
  values_stay_at_end numbers before =
      before ∙ ap (map (λ (v : Value). v.id.0)) (sym (values_kept_by_end line func)) ∙ ap value_numbers (sym changed)
