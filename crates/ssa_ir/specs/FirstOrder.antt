-- The first order of a block: the phis, and then repeatedly the first value in text order whose arguments in the block
-- stand before it, and, where it makes a memory or calls, behind the readers of the memory that it takes.
use Rattle.std.specs.Prelude.{ℕ, zero, suc, ◌==◌, int_lt, Bool, true, false, not, ◌&&◌, ◌||◌, if◌then◌else◌, List, []}
use Rattle.std.specs.Prelude.{◌∷◌, ◌++◌, length, filter, Option, None, Some}
use Rattle.std.specs.List.{list_all, list_any, last_or}
use Rattle.gossa_base.specs.declared.ids.ValueId.{ValueId}
use Rattle.ssa_ir.specs.OpKinds.{changes_memory, is_call, is_follower, is_phi, reads_memory}
use Rattle.ssa_ir.specs.declared.op.Op.{Op}
use Rattle.ssa_ir.specs.declared.func.Value.{Value}
use Rattle.ssa_ir.specs.Ops.{row_of}

abbrev pub same_value : ValueId → ValueId → Bool
same_value a b = a.0 == b.0

-- whether one of these values has this number
abbrev pub has_value : List Value → ValueId → Bool
has_value values id = list_any (λ v. same_value v.id id) values

-- the memory that an op takes to read or change it, of these arguments: the last
abbrev pub memory_taken : Op → List ValueId → Option ValueId
memory_taken op args = if reads_memory op || changes_memory op then last_or None args else None

abbrev pub same_memory : Option ValueId → Option ValueId → Bool
same_memory None other = false
same_memory (Some a) None = false
same_memory (Some a) (Some b) = same_value a b

-- an argument is placed where it isn't of the block, or stands among the values placed
abbrev pub is_placed : (block placed : List Value) → ValueId → Bool
is_placed block placed id = not (has_value block id) || has_value placed id

-- the values of the block that read the memory which v takes
abbrev pub readers_before : (block : List Value) → Value → List Value
readers_before block v =
    filter (λ r. reads_memory r.op && same_memory (memory_taken r.op r.args) (memory_taken v.op v.args)) block

-- a value may come next: its arguments are placed, and, where it changes memory, the readers of the memory it takes
abbrev pub is_ready : (block placed : List Value) → Value → Bool
is_ready block placed v =
    list_all (is_placed block placed) v.args
    && (not (changes_memory v.op) || list_all (λ r. has_value placed r.id) (readers_before block v))

abbrev pub ready_or_later : Value → List Value → Bool → Option (Value × List Value) → Option (Value × List Value)
ready_or_later v rest true later = Some (v, rest)
ready_or_later v rest false None = None
ready_or_later v rest false (Some (u, others)) = Some (u, v ∷ others)

-- the first value that may come next, and the others, where there is one
abbrev pub split_ready : (block placed rest : List Value) → Option (Value × List Value)
split_ready block placed [] = None
split_ready block placed (v ∷ rest) = ready_or_later v rest (is_ready block placed v) (split_ready block placed rest)

-- whether a value is a select of a call
abbrev pub selects : ValueId → Value → Bool
selects id v = is_follower v.op && list_any (same_value id) v.args

-- values by ascending number in brackets, and of equal numbers in text order
abbrev pub put_by_number : Value → List Value → List Value
put_by_number v [] = v ∷ []
put_by_number v (u ∷ values) = if int_lt u.aux v.aux then u ∷ put_by_number v values else (v ∷ u ∷ values)

abbrev pub by_number : List Value → List Value
by_number [] = []
by_number (v ∷ values) = put_by_number v (by_number values)

-- the values that stand with a value of this op, in order: those of a call are its selects, by index
abbrev pub followers_of : (block : List Value) → Value → Op → List Value
followers_of block v op = if is_call op then by_number (filter (selects v.id) block) else []

-- a value and what stands with it: they are placed together
abbrev pub item : (block : List Value) → Value → List Value
item block v = v ∷ followers_of block v v.op

abbrev pub next_then : (block : List Value) → (Value → List Value → List Value) → Option (Value × List Value)
    → List Value
next_then block go None = []
next_then block go (Some (v, others)) = item block v ++ go v others

-- at most n items, each the first that may come next; where none may, the values go round in a circle and none follows
abbrev pub placed_next : (n : ℕ) → (block placed rest : List Value) → List Value
placed_next zero block placed rest = []
placed_next (suc n) block placed rest =
    next_then block (λ v others. placed_next n block (placed ++ item block v) others) (split_ready block placed rest)

-- the values of a block in first order
abbrev pub first_order : List Value → List Value
first_order values =
    let phis = filter (λ v. is_phi v.op) values in
    let others = filter (λ v. not (is_follower v.op) && not (is_phi v.op)) values in
    phis ++ placed_next (length others) values phis others
