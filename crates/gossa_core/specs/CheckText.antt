-- The line that tells the first check that a unit fails.
use Rattle.std.specs.Prelude.{ℕ, List, [], ◌++◌, codes, decimal}
use Rattle.gossa_base.specs.Texts.{block_text, value_text}
use Rattle.ssa_check.specs.declared.refusal.At.{At}
use Rattle.ssa_check.specs.declared.refusal.At.TheVariants.{Func as AtFunc, Value as AtValue, Block as AtBlock}
use Rattle.ssa_check.specs.declared.refusal.Check.{Check}
use Rattle.ssa_check.specs.CheckNames.{name_of}
use Rattle.ssa_check.specs.Failing.{number_of}
use Rattle.gossa_core.specs.declared.status.CheckFault.{CheckFault}

-- a number behind what it is the number of
abbrev pub numbered : (front : List ℕ) → (number : ℕ) → List ℕ
numbered front number = front ++ decimal number

-- the number of a check, and its name
abbrev pub check_text : Check → List ℕ
check_text check = numbered (codes ": C") (number_of check) ++ (codes " " ++ name_of check)

-- the place at which a check fails; of the function itself nothing more is said
abbrev pub place_text : At → List ℕ
place_text AtFunc = []
place_text (AtValue id) = codes " at " ++ value_text id
place_text (AtBlock id) = codes " at " ++ block_text id

-- the line of a check that fails: the function, the check and the place
abbrev pub check_line : CheckFault → List ℕ
check_line fault =
    codes "gossa: " ++ (fault.func ++ (check_text fault.check ++ (place_text fault.at ++ codes "\n")))
