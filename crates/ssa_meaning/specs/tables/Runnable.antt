-- What a run asks of a block.
use Rattle.std.specs.Prelude.{◌≡◌, ℕ, ◌<◌, Bool, true, false, IsSome, IsTrue}
use Rattle.std.specs.List.{All}
use Rattle.ssa_ir.specs.declared.func.Value.{Value}
use Rattle.ssa_ir.specs.declared.func.Block.{Block}
use Rattle.ssa_ir.specs.declared.role.Role.{Role}
use Rattle.ssa_ir.specs.declared.role.Role.TheVariants.{Calls, TakesAddress}
use Rattle.ssa_ir.specs.Roles.{role}
use Rattle.block_order.specs.Apart.{AreApart}

-- whether a value of this role names a symbol
abbrev pub names_symbol : Role → Bool
names_symbol Calls = true
names_symbol TakesAddress = true
names_symbol _ = false

abbrev pub HasItsName : Value → Type 0
HasItsName v = IsTrue (names_symbol (role v.op)) → IsSome v.sym

-- all value numbers are below a length, and differ; calls and addresses have their symbols; the block takes a turn
pub record IsRunnable (len : ℕ) (b : Block) : Type 0 where
  pub apart : AreApart b.values
  pub below : All (λ (v : Value). v.id.0 < len) b.values
  pub named : All HasItsName b.values
  pub counted : b.id.split ≡ false
