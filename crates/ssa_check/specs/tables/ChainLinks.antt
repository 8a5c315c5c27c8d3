-- The inner definers of a block with the memory that each takes, and what a walk back along them finds.
use Rattle.std.specs.Prelude.{ℕ, zero, suc, ◌-◌, nat_eq, Bool, false, not, if◌then◌else◌, List, [], ◌∷◌, length, map}
use Rattle.std.specs.Prelude.{find, Option, None, Some, is_some}
use Rattle.std.specs.List.{flat_map, list_any}
use Rattle.std.specs.Map.{lookup}
use Rattle.std.specs.Option.{is_none, option_map}
use Rattle.indexmap.specs.IndexMap.{insert_all}
use Rattle.gossa_base.specs.declared.ids.ValueId.{ValueId}
use Rattle.ssa_ir.specs.declared.func.Func.{Func}
use Rattle.ssa_ir.specs.declared.func.Value.{Value}
use Rattle.ssa_ir.specs.FirstOrder.{same_memory}
use Rattle.ssa_check.specs.declared.chains.Link.{Link}
use Rattle.ssa_check.specs.declared.memories.Leaves.{Leaves}
use Rattle.ssa_check.specs.declared.memories.Leaves.TheVariants.{Known, Unknown}
use Rattle.ssa_ir.specs.MemoryChains.{is_inner, taken_by}

abbrev pub link_of : Func → Value → List Link
link_of f v = if is_inner v then record { id = v.id; taken = taken_by f v } ∷ [] else []

-- the inner definers among values, in order
abbrev pub links_of : Func → List Value → List Link
links_of f values = flat_map (link_of f) values

-- some one takes the memory of this number
abbrev pub is_taken : ValueId → List Link → Bool
is_taken id links = list_any (λ l. same_memory l.taken (Some id)) links

-- what each takes, by number
abbrev pub taken_pairs : List Link → List (ℕ × Option ValueId)
taken_pairs links = map (λ l. (l.id.0, l.taken)) links

abbrev pub if_there : (taken : List (ℕ × Option ValueId)) → Option (Option ValueId) → Option ValueId
if_there taken None = None
if_there taken (Some None) = None
if_there taken (Some (Some memory)) = if is_some (lookup (nat_eq memory.0) taken) then Some memory else None

-- the one that another takes
abbrev pub link_before : (taken : List (ℕ × Option ValueId)) → ValueId → Option ValueId
link_before taken id = if_there taken (lookup (nat_eq id.0) taken)

abbrev pub step_back : Option ValueId → (ValueId → Bool) → Bool
step_back None go = false
step_back (Some id) go = go id

-- just so many steps back lead to one that takes no other
abbrev pub ends_after : (taken : List (ℕ × Option ValueId)) → (steps : ℕ) → ValueId → Bool
ends_after taken zero id = is_none (link_before taken id)
ends_after taken (suc n) id = step_back (link_before taken id) (ends_after taken n)

-- the first that no other takes
abbrev pub free_of : List Link → Option ValueId
free_of links = option_map (λ l. l.id) (find (λ l. not (is_taken l.id links)) links)

abbrev pub end_where : (taken : List (ℕ × Option ValueId)) → (steps : ℕ) → Option ValueId → Option ValueId
end_where taken steps None = None
end_where taken steps (Some id) = if ends_after taken steps id then Some id else None

-- the last, where all of them are met on the walk back from it
abbrev pub chain_end : List Link → Option ValueId
chain_end links = end_where (insert_all nat_eq [] (taken_pairs links)) (length links - 1) (free_of links)

abbrev pub leaves_by : Option ValueId → Leaves
leaves_by None = Unknown
leaves_by (Some id) = Known id
