-- The worked function and its listing, run.
use Rattle.std.proofs.Common.{◌≡◌, ◌≢◌, ℕ, ◌-◌, ◌^◌, List, [], ◌∷◌, refl, ap, ◌∙◌}
use Rattle.std.specs.FinMap as finite
use Rattle.gossa_base.specs.Memory.{Memory, changed}
use Rattle.gossa_base.proofs.MemoryLemmas.{unchanged}
use Rattle.ssa_ir.specs.declared.case.End.TheVariants.{Returned}
use Rattle.ssa_ir.specs.Inputs.{Inputs}
use Rattle.ssa_ir.specs.Run.{Callees, generic, run}
use Rattle.ssa_ir.specs.Showing.{ends}
use Rattle.listing.specs.ListingRun.{run_listing}
use Rattle.sum_compile.specs.Row.{row, row_listing, RowReturns, RowRuns, SpillIsNeeded}

-- these inputs with other argument words
abbrev given : Inputs → ℕ → ℕ → Inputs
given inputs a b = record inputs { arguments = a ∷ b ∷ [] }

-- inputs with these argument words
given_is : (inputs : Inputs) (a b : ℕ) → inputs.arguments ≡ a ∷ b ∷ [] → inputs ≡ given inputs a b
given_is inputs a b e = ap (λ l. record inputs { arguments = l }) e

-- a return that left the memory as it was
returns_same : (m : Memory) (sum : ℕ) → ends (Returned (sum ∷ []) (changed m m)) ≡ ends (Returned (sum ∷ []) [])
returns_same m sum = ap (λ c. ends (Returned (sum ∷ []) c)) (unchanged m)

-- what is to be computed of one pair of words
row_returns : (a b sum : ℕ)
    → ((callees : Callees) (inputs : Inputs)
    → run (generic callees) (given inputs a b) row 1 ≡ ends (Returned (sum ∷ []) (changed inputs.memory inputs.memory)))
    → ((callees : Callees) (inputs : Inputs)
    → run_listing callees (given inputs a b) row_listing 1
    ≡ ends (Returned (sum ∷ []) (changed inputs.memory inputs.memory)))
    → RowReturns a b sum
row_returns a b sum p q = record {
  function = λ callees inputs e.
      ap (λ i. run (generic callees) i row 1) (given_is inputs a b e) ∙ p callees inputs
      ∙ returns_same inputs.memory sum;
  listing = λ callees inputs e.
      ap (λ i. run_listing callees i row_listing 1) (given_is inputs a b e) ∙ q callees inputs
      ∙ returns_same inputs.memory sum;
}

small : RowReturns 7 5 12
small = row_returns 7 5 12 (λ callees inputs. refl) (λ callees inputs. refl)

past_the_largest : RowReturns (2 ^ 64 - 1) 2 1
past_the_largest = row_returns (2 ^ 64 - 1) 2 1 (λ callees inputs. refl) (λ callees inputs. refl)

twice_the_half : RowReturns (2 ^ 63) (2 ^ 63) 0
twice_the_half = row_returns (2 ^ 63) (2 ^ 63) 0 (λ callees inputs. refl) (λ callees inputs. refl)

pub row_runs : RowRuns
row_runs = record {
  small = small;
  past_the_largest = past_the_largest;
  twice_the_half = twice_the_half;
  function_goes_on = λ callees inputs. refl;
  listing_goes_on = λ callees inputs. refl;
}

-- inputs with the words 7 and 5, and with 0 in all else
abbrev inputs_of_zeros : Inputs
inputs_of_zeros =
    record { arguments = 7 ∷ 5 ∷ []; symbols = λ n. 0; memory = finite.empty; junk = λ i. 0; answers = [] }

-- returns with other words are other ends
other_words : (before now : List (ℕ × ℕ)) → Returned (0 ∷ []) before ≢ Returned (12 ∷ []) now
other_words before now e = cc

pub spill_is_needed : SpillIsNeeded
spill_is_needed callees shows = other_words _ _ (ap (λ s. s.end) (shows 1 inputs_of_zeros))
