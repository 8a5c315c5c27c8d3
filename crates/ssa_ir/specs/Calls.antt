-- What a call shows, and the words that its reply gives.
use Rattle.std.specs.Prelude.{ℕ, ◌-◌, Bool, if◌then◌else◌, List, [], length, map, take, Option, None, Some}
use Rattle.gossa_base.specs.declared.ids.ValueId.{ValueId}
use Rattle.gossa_base.specs.Memory.{Memory, changed}
use Rattle.ssa_ir.specs.declared.case.CallShown.{CallShown}
use Rattle.ssa_ir.specs.declared.func.Value.{Value}
use Rattle.ssa_ir.specs.declared.types.Scalar.{Scalar}
use Rattle.ssa_ir.specs.declared.types.Sig.{Sig}
use Rattle.ssa_ir.specs.FirstOrder.{selects}
use Rattle.ssa_ir.specs.Inputs.{Answer, result_word}
use Rattle.ssa_ir.specs.Lookups.{value_named}
use Rattle.ssa_ir.specs.Showing.{words_at}
use Rattle.ssa_ir.specs.Widths.{kept}

-- the words of arguments but the last, which is the memory
abbrev pub words_before_memory : (ℕ → ℕ) → List ValueId → List ℕ
words_before_memory words args = map (λ id. words id.0) (take (length args - 1) args)

abbrev pub parameter_types : Option Sig → List Scalar
parameter_types None = []
parameter_types (Some sig) = sig.params

-- a call of this name, by the callee's signature, with these argument words, where the memory changed from one to the
-- other
abbrev pub shown_call : List ℕ → Option Sig → List ℕ → (since memory : Memory) → CallShown
shown_call name sig words since memory =
    record { callee = name; args = words_at (parameter_types sig) words; changed = changed since memory }

abbrev pub result_or : (whole : Bool) → Answer → (call : ValueId) → Option Value → ℕ → ℕ
result_or whole answer call None w = w
result_or whole answer call (Some v) w = if selects call v then kept whole v.ty (result_word answer v.aux) else w

-- the words as an answered call leaves them: each select of the call among these values has the answer's word of its
-- number
abbrev pub answered : (whole : Bool) → List Value → (call : ValueId) → Answer → (ℕ → ℕ) → ℕ → ℕ
answered whole values call answer words n =
    result_or whole answer call (value_named values (record { 0 = n })) (words n)
