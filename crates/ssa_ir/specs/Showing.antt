-- What a run shows: its calls in order, and then one end.
use Rattle.std.specs.Prelude.{ℕ, List, [], ◌∷◌}
use Rattle.gossa_base.specs.Words.{low}
use Rattle.ssa_ir.specs.declared.types.Scalar.{Scalar}
use Rattle.ssa_ir.specs.declared.case.CallShown.{CallShown}
use Rattle.ssa_ir.specs.declared.case.End.{End}
use Rattle.ssa_ir.specs.declared.case.Shown.{Shown}
use Rattle.ssa_ir.specs.Widths.{scalar_bits}

-- the run is over
abbrev pub ends : End → Shown
ends e = record { calls = []; end = e }

-- a call is shown, and then what the rest of the run shows
abbrev pub call_then : CallShown → Shown → Shown
call_then c rest = record { calls = c ∷ rest.calls; end = rest.end }

-- words at the widths of these types; a word that is absent is not shown
abbrev pub words_at : List Scalar → List ℕ → List ℕ
words_at [] words = []
words_at (t ∷ types) [] = []
words_at (t ∷ types) (w ∷ words) = low (scalar_bits t) w ∷ words_at types words
