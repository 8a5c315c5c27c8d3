use Rattle.std.proofs.Common.{◌≡◌, ℕ, List, drop, nat_eq}
use Rattle.std.specs.Option.{unwrap_or}
use Rattle.std.specs.Cmp.Lexicographic.{pointwise}
use Rattle.indexmap.specs.IndexMap.{get}
use Rattle.ssa_ir.specs.Inputs.{symbol_in}
use Rattle.ssa_meaning.proofs.symbols.SymbolTable.new.Given as goal

-- the table, and then the lines left, give what all lines give
abbrev pub invariant-loop-name : goal.invariant-loop-name
invariant-loop-name l =
    (other : List ℕ)
    → unwrap_or (get (pointwise nat_eq) l.table.words other) (symbol_in (drop l.name-index l.syms) other)
    ≡ symbol_in l.syms other
