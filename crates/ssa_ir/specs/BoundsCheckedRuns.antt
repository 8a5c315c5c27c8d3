-- What the bounds-checked sum shows.
use Rattle.std.specs.Prelude.{◌≡◌, ℕ, ◌+◌, List, [], ◌∷◌}
use Rattle.gossa_base.specs.Memory.{Memory, read_number}
use Rattle.gossa_base.specs.Words.{low}
use Rattle.ssa_ir.specs.declared.case.CallShown.{CallShown}
use Rattle.ssa_ir.specs.declared.case.End.TheVariants.{Returned, Exited, NoReply, Going}
use Rattle.ssa_ir.specs.declared.case.Shown.{Shown}
use Rattle.ssa_ir.specs.BoundsChecked.{bounds_checked, sum_func, panic_index}
use Rattle.ssa_ir.specs.Inputs.{Inputs, Answer}
use Rattle.ssa_ir.specs.Lookups.{sig_of}
use Rattle.ssa_ir.specs.Run.{generic, run}
use Rattle.ssa_ir.specs.Showing.{ends, call_then}

-- a slice at 0x1000 of two words, of which n are summed, in this memory and with these answers
abbrev pub sum_inputs : ℕ → Memory → List Answer → Inputs
sum_inputs n memory answers = record {
  arguments = 0x1000 ∷ 2 ∷ n ∷ [];
  symbols = λ name. 0;
  memory = memory;
  junk = λ i. 0;
  answers = answers;
}

-- what main.sum shows with a bound
abbrev pub sum_run : Inputs → ℕ → Shown
sum_run inputs bound = run (generic (sig_of bounds_checked)) inputs sum_func bound

-- the call of runtime.panicIndex with an index and a length, where no memory changed
abbrev pub panics : ℕ → ℕ → CallShown
panics index len = record { callee = panic_index.name; args = index ∷ len ∷ []; changed = [] }

-- in every memory: no word is summed; both are, modulo 2 to the 64, in 9 turns and in no fewer; and where three are to
-- be, index 2 is shown to the callee, and then the program exits, or has no reply
pub record BoundsCheckedRuns : Type 0 where
  pub none : (memory : Memory) → sum_run (sum_inputs 0 memory []) 100 ≡ ends (Returned (0 ∷ []) [])
  pub both :
      (memory : Memory)
      → sum_run (sum_inputs 2 memory []) 9
      ≡ ends (Returned (low 64 (read_number memory 0x1000 8 + read_number memory 0x1008 8) ∷ []) [])
  pub past_the_bound : (memory : Memory) → sum_run (sum_inputs 2 memory []) 8 ≡ ends Going
  pub past_the_end :
      (memory : Memory) (answer : Answer)
      → sum_run (sum_inputs 3 memory (answer ∷ [])) 100 ≡ call_then (panics 2 2) (ends (Exited []))
  pub without_reply : (memory : Memory) → sum_run (sum_inputs 3 memory []) 100 ≡ call_then (panics 2 2) (ends NoReply)
