-- The addresses of symbols in a table.
use Rattle.std.specs.Prelude.{ℕ, List, nat_eq, unwrap_or}
use Rattle.std.specs.Cmp.Lexicographic.{pointwise}
use Rattle.indexmap.specs.IndexMap.{get}
use Rattle.ssa_meaning.specs.declared.symbols.SymbolTable.{SymbolTable}

-- the address of a name; one that isn't there has 0
abbrev pub address_in : SymbolTable → List ℕ → ℕ
address_in table name = unwrap_or (get (pointwise nat_eq) table.words name) 0
