-- What is told of rows.
use Rattle.std.specs.Prelude.{ℕ, List, ◌++◌, codes, decimal}
use Rattle.rows.specs.declared.top.Verdict.{Verdict}
use Rattle.rows.specs.declared.top.Verdict.TheVariants.{Holds, Differs, Unfit}

-- how many rows hold
abbrev pub tally_text : ℕ → List ℕ
tally_text held = decimal held ++ codes " rows hold\n"

-- the number that the process ends with
abbrev pub number_of : Verdict → ℕ
number_of Holds = 0
number_of Differs = 1
number_of Unfit = 2
