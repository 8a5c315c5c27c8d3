use Rattle.std.proofs.Common.{◌≡◌, ℕ, ◌+◌, ◌^◌, List, [], ◌∷◌, refl, ap, ◌∙◌, arith}
use Rattle.std.proofs.Math.Nat.{mod-add-mod, mod-mod}
use Rattle.gossa_base.specs.Memory.{read_number, write_pieces, changed}
use Rattle.gossa_base.specs.Words.{low}
use Rattle.gossa_base.proofs.MemoryLemmas.{unchanged}
use Rattle.ssa_ir.specs.declared.case.CallShown.{CallShown}
use Rattle.ssa_ir.specs.declared.case.End.TheVariants.{Returned, Exited, NoReply}
use Rattle.ssa_ir.specs.Arithmetic.{sum_at}
use Rattle.ssa_ir.specs.BoundsChecked.{panic_index}
use Rattle.ssa_ir.specs.BoundsCheckedRuns.{panics}
use Rattle.ssa_ir.specs.Showing.{ends, call_then}
use Rattle.ssa_ir.proofs.laws.bounds_checked_sum_runs.Goals as goal

-- the sum of two words, one after the other
summed : (a b : ℕ) → low 64 (sum_at 64 (sum_at 64 0 a) b) ≡ low 64 (a + b)
summed a b = mod-mod _ (2 ^ 64) ∙ mod-add-mod (0 + a) (2 ^ 64) b ∙ ap (λ n. low 64 (n + b)) (omega arith)

-- the call, with the memory that changed
abbrev panics_with : List (ℕ × ℕ) → CallShown
panics_with l = record { callee = panic_index.name; args = 2 ∷ 2 ∷ []; changed = l }

pub returns : goal.returns
returns c = record {
  none = λ memory. ap (λ l. ends (Returned (0 ∷ []) l)) (unchanged memory);
  both = λ memory.
      let a : ℕ = read_number memory 0x1000 8 in
      let b : ℕ = read_number memory 0x1008 8 in
      ap (λ l. ends (Returned (low 64 (sum_at 64 (sum_at 64 0 a) b) ∷ []) l)) (unchanged memory)
      ∙ ap (λ w. ends (Returned (w ∷ []) [])) (summed a b);
  past_the_bound = λ memory. refl;
  past_the_end = λ memory answer.
      let after = write_pieces memory answer.writes in
      ap (λ l. call_then (panics_with l) (ends (Exited (changed after after)))) (unchanged memory)
      ∙ ap (λ l. call_then (panics 2 2) (ends (Exited l))) (unchanged after);
  without_reply = λ memory. ap (λ l. call_then (panics_with l) (ends NoReply)) (unchanged memory);
}
