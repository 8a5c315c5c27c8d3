-- The words of a command.
use Rattle.std.specs.Prelude.{◌≡◌, ℕ, List, [], ◌∷◌, codes, Option, None, Some, if◌then◌else◌, nat_eq}
use Rattle.std.specs.Cmp.Lexicographic.{pointwise}
use Rattle.gossa_core.specs.declared.words.Command.{Command}
use Rattle.gossa_core.specs.declared.words.Command.TheVariants.{Compile, Run}

-- the command of one word
abbrev pub command_named : List ℕ → Option Command
command_named word =
    if pointwise nat_eq word (codes "compile") then Some
    (Compile 24) else (if pointwise nat_eq word (codes "run") then Some Run else None)

-- the command of these words, if they are one
abbrev pub command_of : List (List ℕ) → Option Command
command_of (word ∷ []) = command_named word
command_of _ = None

-- a command that makes listings gives all registers of the pool to the functions
abbrev pub HasRegisters : Command → Type 0
HasRegisters (Compile regs) = regs ≡ 24
HasRegisters Run = Unit {0}
