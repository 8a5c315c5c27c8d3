-- The lowest of numbers: of the values, or the blocks, of a function that fail a test.
use Rattle.std.specs.Prelude.{ℕ, nat_lt, Bool, true, false, if◌then◌else◌, Option, None, Some}
use Rattle.std.specs.List.{fold}
use Rattle.ssa_ir.specs.declared.func.Block.{Block}
use Rattle.ssa_ir.specs.declared.func.Func.{Func}
use Rattle.ssa_ir.specs.declared.func.Value.{Value}

-- the lower of a number and what is there
abbrev pub lower : Option ℕ → ℕ → Option ℕ
lower None n = Some n
lower (Some m) n = Some (if nat_lt n m then n else m)

-- with a number, where it counts
abbrev pub lower_where : Bool → Option ℕ → ℕ → Option ℕ
lower_where true before n = lower before n
lower_where false before n = before

-- the lowest number of the values of a block that fail a test, and what is there
abbrev pub lowest_in : (Block → Value → Bool) → Option ℕ → Block → Option ℕ
lowest_in test before b = fold (λ lowest v. lower_where (test b v) lowest v.id.0) before b.values

-- the lowest number of the values that fail a test
abbrev pub lowest_value : (Block → Value → Bool) → Func → Option ℕ
lowest_value test f = fold (lowest_in test) None f.blocks

-- the lowest number of the blocks that fail a test
abbrev pub lowest_block : (Block → Bool) → Func → Option ℕ
lowest_block test f = fold (λ lowest b. lower_where (test b) lowest b.id.n) None f.blocks

-- the lower of two numbers, where there are two
abbrev pub lower_of : Option ℕ → Option ℕ → Option ℕ
lower_of None other = other
lower_of (Some m) None = Some m
lower_of (Some m) (Some n) = Some (if nat_lt n m then n else m)
