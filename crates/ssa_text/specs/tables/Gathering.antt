-- What is gathered of a text, line by line: what was read, beside tables of the names and the numbers that it gives.
use Rattle.std.specs.Prelude.{◌≡◌, ℕ, true, [], map, is_none}
use Rattle.ssa_lines.specs.declared.forms.Form.{Form}
use Rattle.ssa_text.specs.declared.gathered.Gathered.{Gathered}
use Rattle.ssa_text.specs.Reading.{Read, read_of, names_given, block_ids, values_so_far, behind}

-- what was read, without the tables
abbrev pub read_so_far : Gathered → Read
read_so_far g = read_of g.sigs g.funcs g.func g.mentions g.unknown

-- the tables have all names that were given, and the numbers of the blocks and the values of the function that goes on,
-- each in the order of the text; and no function is whole before the first one began
abbrev pub IsGathered : Gathered → Type 0
IsGathered g =
    (g.names ≡ names_given (read_so_far g))
    × (is_none g.func ≡ true → g.funcs ≡ [])
    × (g.blocks ≡ map (λ id. id.n) (block_ids g.func))
    × (g.values ≡ map (λ v. v.id.0) (values_so_far g.func))

-- behind the first stands the second: what is read behind a line of this form, with its tables
abbrev pub Gathers : (line : ℕ) → Form → Gathered → Gathered → Type 0
Gathers line form before after = (read_so_far after ≡ behind (read_so_far before) line form) × IsGathered after
