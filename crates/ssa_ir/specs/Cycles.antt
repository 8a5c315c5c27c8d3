-- Values of a block that wait for each other. A call and its selects are one item, each other value but a phi is one by
-- itself. An item stands before another one that takes a value of it, and a reader of a memory before what changes that
-- memory. A cycle is a list of items, each before the next, that comes back to its first.
use Rattle.std.specs.Prelude.{◌≡◌, Bool, true, not, ◌&&◌, ◌||◌, List, [], ◌∷◌, filter}
use Rattle.std.specs.List.{All, Contains, list_any}
use Rattle.gossa_base.specs.declared.ids.ValueId.{ValueId}
use Rattle.ssa_ir.specs.declared.func.Value.{Value}
use Rattle.ssa_ir.specs.FirstOrder.{has_value, item, readers_before, same_value, selects}
use Rattle.ssa_ir.specs.OpKinds.{changes_memory, is_call, is_phi}

-- a value stands with a call of these values
abbrev pub follows_a_call : (block : List Value) → Value → Bool
follows_a_call block v = list_any (λ c. is_call c.op && selects c.id v) block

-- the values by which the items of a block are named: no phis, and of a call and its selects the call
abbrev pub leaders : (block : List Value) → List Value
leaders block = filter (λ v. not (is_phi v.op) && not (follows_a_call block v)) block

-- that a select names the call with which it stands plays no part
abbrev pub names_its_call : (leader w : Value) → ValueId → Bool
names_its_call leader w a = is_call leader.op && selects leader.id w && same_value leader.id a

-- a value of the item `after` takes this one, which is of the item `before`
abbrev pub takes_one : (block : List Value) → (before after w : Value) → ValueId → Bool
takes_one block before after w a = has_value (item block before) a && not (names_its_call after w a)

-- a value of the item `after` takes one of the item `before`
abbrev pub takes_of : (block : List Value) → (before after : Value) → Bool
takes_of block before after = list_any (λ w. list_any (takes_one block before after w) w.args) (item block after)

-- an item stands before another one, or before itself
abbrev pub stands_before : (block : List Value) → (before after : Value) → Bool
stands_before block before after =
    takes_of block before after || (changes_memory after.op && has_value (readers_before block after) before.id)

-- of an item and those behind it each stands before the next, and the last before this one
abbrev pub IsWalk : (block : List Value) → Value → List Value → Value → Type 0
IsWalk block x [] last = stands_before block x last ≡ true
IsWalk block x (y ∷ rest) last = (stands_before block x y ≡ true) × IsWalk block y rest last

-- a cycle through an item: items of the block behind it, each before the next, and the last before it
pub record CycleThrough (block : List Value) (first : Value) : Type 0 where
  pub rest : List Value
  pub are_items : All (Contains (leaders block)) (first ∷ rest)
  pub is_walk : IsWalk block first rest first

-- a value is on a cycle where its item is
pub record OnCycle (block : List Value) (v : Value) : Type 0 where
  pub leader : Value
  pub is_of_item : has_value (item block leader) v.id ≡ true
  pub cycle : CycleThrough block leader
