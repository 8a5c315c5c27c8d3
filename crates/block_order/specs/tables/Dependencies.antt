-- What a value of a block waits for, by index: its arguments, and, where it changes memory, the readers of the memory
-- it takes.
use Rattle.std.specs.Prelude.{ℕ, ◌&&◌, Bool, false, if◌then◌else◌, List, [], ◌++◌, filter_map, slice_index_or, Option}
use Rattle.std.specs.List.{list_all}
use Rattle.gossa_base.specs.Lists.{first_from, indexes_from}
use Rattle.gossa_base.specs.declared.ids.ValueId.{ValueId}
use Rattle.ssa_ir.specs.declared.func.Value.{Value}
use Rattle.ssa_ir.specs.FirstOrder.{memory_taken, same_memory, same_value}
use Rattle.ssa_ir.specs.OpKinds.{changes_memory, reads_memory}

-- the index of the value of a number
abbrev pub index_of : (block : List Value) → ValueId → Option ℕ
index_of block id = first_from (λ v. same_value v.id id) 0 block

-- whether r reads the memory that v takes
abbrev pub reads_memory_of : Value → Value → Bool
reads_memory_of v r = reads_memory r.op && same_memory (memory_taken r.op r.args) (memory_taken v.op v.args)

abbrev pub reader_indexes : (block : List Value) → Value → List ℕ
reader_indexes block v = indexes_from (reads_memory_of v) 0 block

-- what a value waits for
abbrev pub dependencies : (block : List Value) → Value → List ℕ
dependencies block v =
    filter_map (index_of block) v.args ++ (if changes_memory v.op then reader_indexes block v else [])

-- whether the flag at an index is set
abbrev pub is_at : List Bool → ℕ → Bool
is_at flags i = slice_index_or flags i false

-- whether all that a value waits for is placed, by these flags
abbrev pub all_placed : (block : List Value) → List Bool → Value → Bool
all_placed block flags v = list_all (is_at flags) (dependencies block v)
