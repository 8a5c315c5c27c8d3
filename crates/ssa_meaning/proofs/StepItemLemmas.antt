-- The selects of a call rest, an item is its value, and items come one after the other.
use Rattle.std.proofs.Common.{◌≡◌, ◌+◌, ℕ, suc, Bool, true, false, cond, ◌&&◌, List, [], ◌∷◌, ◌++◌, filter, drop}
use Rattle.std.proofs.Common.{◌<◌, length, get_or, slice_get, Option, Some, refl, subst, ap, ◌∙◌, arith}
use Rattle.std.proofs.lemmas.Option.{slice_get_read}
use Rattle.std.specs.Prelude.{int_lt}
use Rattle.std.specs.List.{flat_map, list_any, cons_option}
use Rattle.gossa_base.specs.declared.ids.ValueId.{ValueId}
use Rattle.ssa_ir.specs.declared.case.CallShown.{CallShown}
use Rattle.ssa_ir.specs.declared.case.End.{End}
use Rattle.ssa_ir.specs.declared.case.Shown.{Shown}
use Rattle.ssa_ir.specs.declared.func.Value.{Value}
use Rattle.ssa_ir.specs.declared.op.Op.{Op}
use Rattle.ssa_ir.specs.declared.op.Op.TheVariants.{SelectN}
use Rattle.ssa_ir.specs.declared.role.Role.TheVariants.{Rests}
use Rattle.ssa_ir.specs.FirstOrder.{same_value, selects, put_by_number, by_number, followers_of}
use Rattle.ssa_ir.specs.OpKinds.{is_call, is_follower}
use Rattle.ssa_ir.specs.Inputs.{Inputs}
use Rattle.ssa_ir.specs.Roles.{role}
use Rattle.ssa_ir.specs.Run.{Form, State, run_role, run_values}
use Rattle.block_order.specs.declared.order.Item.{Item}
use Rattle.block_order.specs.Items.{values_at, item_values}
use Rattle.ssa_meaning.specs.tables.Ran.{behind, Next, next_of, next_shown, Ran}
use Rattle.ssa_meaning.proofs.RanLemmas.{values_append}
use Rattle.ssa_meaning.proofs.StepLemmas.{drop_at_item}

-- values that do nothing in their places
abbrev pub Rest : List Value → Type 0
Rest [] = Unit {0}
Rest (v ∷ values) = (role v.op ≡ Rests) × Rest values

pub rest_do_nothing : (form : Form) (inputs : Inputs) (block values : List Value) (s : State) (go : State → Shown)
    → Rest values → run_values form inputs block values s go ≡ go s
rest_do_nothing form inputs block [] s go h = refl
rest_do_nothing form inputs block (v ∷ values) s go h =
    ap (λ r. run_role form inputs block v r s (λ t. run_values form inputs block values t go)) h.0
    ∙ rest_do_nothing form inputs block values s go h.1

follower_rests : (op : Op) → is_follower op ≡ true → role op ≡ Rests
follower_rests SelectN e = refl
follower_rests _ e = cc

put_rests : (v : Value) (values : List Value) → role v.op ≡ Rests → Rest values → Rest (put_by_number v values)
put_rests v [] h rest = (h, tt)
put_rests v (u ∷ values) h rest = go (int_lt u.aux v.aux) (put_rests v values h rest.1)
  where
    go : (b : Bool) → Rest (put_by_number v values) → Rest (cond b (u ∷ put_by_number v values) (v ∷ u ∷ values))
    go true behind = (rest.0, behind)
    go false behind = (h, rest)

sorted_rest : (values : List Value) → Rest values → Rest (by_number values)
sorted_rest [] h = tt
sorted_rest (v ∷ values) h = put_rests v (by_number values) h.0 (sorted_rest values h.1)

front_true : (a b : Bool) → (a && b) ≡ true → a ≡ true
front_true true b e = refl
front_true false b e = e

selects_rest : (id : ValueId) (values : List Value) → Rest (filter (selects id) values)
selects_rest id [] = tt
selects_rest id (v ∷ values) = go (selects id v) refl (selects_rest id values)
  where
    go : (b : Bool) → selects id v ≡ b → Rest (filter (selects id) values)
        → Rest (cond b (v ∷ filter (selects id) values) (filter (selects id) values))
    go true e rest = (follower_rests v.op (front_true (is_follower v.op) (list_any (same_value id) v.args) e), rest)
    go false e rest = rest

pub followers_rest : (block : List Value) (v : Value) (op : Op) → Rest (followers_of block v op)
followers_rest block v op = go (is_call op)
  where
    go : (b : Bool) → Rest (cond b (by_number (filter (selects v.id) block)) [])
    go true = sorted_rest (filter (selects v.id) block) (selects_rest v.id block)
    go false = tt

-- an item is its value and what stands with it
item_is : (block : List Value) (item : Item) (v : Value) → slice_get block item.value ≡ Some v
    → values_at block item.selects.items ≡ followers_of block v v.op → item_values block item
    ≡ v ∷ followers_of block v v.op
item_is block item v at with =
    ap (λ o. cons_option o (values_at block item.selects.items)) at ∙ ap (λ l. v ∷ l) with

-- an item runs as its value does
pub item_ran : (form : Form) (inputs : Inputs) (block : List Value) (item : Item) (v : Value) (s t : State)
    (before after : List CallShown) (next : Next)
    → slice_get block item.value ≡ Some v → values_at block item.selects.items ≡ followers_of block v v.op
    → Ran (run_role form inputs block v (role v.op) s) before after next t
    → Ran (run_values form inputs block (item_values block item) s) before after next t
item_ran form inputs block item v s t before after next at with part go =
    ap (λ l. behind before (run_values form inputs block l s go)) (item_is block item v at with)
    ∙ part (λ u. run_values form inputs block (followers_of block v v.op) u go)
    ∙ ap (λ g. behind after (next_shown next t g))
    (λ i u. rest_do_nothing form inputs block (followers_of block v v.op) u go (followers_rest block v v.op) i)

-- one more item was run, and then come those behind it
pub item_then : (form : Form) (inputs : Inputs) (block : List Value) (items : List Item) (n : ℕ) (item : Item)
    (s t : State)
    (before after : List CallShown) (next : Next) (go : State → Shown) → slice_get items n ≡ Some item
    → Ran (run_values form inputs block (item_values block item) s) before after next t
    → behind before (run_values form inputs block (flat_map (item_values block) (drop n items)) s go)
    ≡ behind after (next_shown next t (λ u. run_values form inputs block
    (flat_map (item_values block) (drop (n + 1) items)) u go))
item_then form inputs block items n item s t before after next go at part =
    let more : suc n ≡ n + 1 = omega arith in
    let rest : List Value = flat_map (item_values block) (drop (n + 1) items) in
    ap (λ l. behind before (run_values form inputs block (flat_map (item_values block) l) s go))
    (drop_at_item items n item at)
    ∙ ap (λ m. behind before (run_values form inputs block (item_values block item ++ flat_map (item_values block)
    (drop m items)) s go)) more
    ∙ ap (behind before) (values_append form inputs block (item_values block item) rest s go)
    ∙ part (λ u. run_values form inputs block rest u go)

-- the same, by the end that running the item answered
pub item_then_by : (form : Form) (inputs : Inputs) (block : List Value) (items : List Item) (n : ℕ) (item : Item)
    (s t : State) (before after : List CallShown) (got over : Option End) (go : State → Shown)
    → n < length items → item ≡ get_or items n item → got ≡ over
    → Ran (run_values form inputs block (item_values block item) s) before after (next_of got) t
    → behind before (run_values form inputs block (flat_map (item_values block) (drop n items)) s go)
    ≡ behind after (next_shown (next_of over) t (λ u. run_values form inputs block
    (flat_map (item_values block) (drop (n + 1) items)) u go))
item_then_by form inputs block items n item s t before after got over go within is same part =
    item_then form inputs block items n item s t before after (next_of over) go
    (slice_get_read items (length items) n item refl within is)
    (subst (λ o. Ran (run_values form inputs block (item_values block item) s) before after (next_of o) t) same part)
