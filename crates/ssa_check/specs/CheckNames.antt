-- The names of checks, as a refusal tells them.
use Rattle.std.specs.Prelude.{ℕ, List, codes}
use Rattle.ssa_check.specs.declared.refusal.Check.{Check}
use Rattle.ssa_check.specs.declared.refusal.Check.TheVariants.{Entry, Edges, PhiArity, Arity, Types, ArgOrInit, Callee}
use Rattle.ssa_check.specs.declared.refusal.Check.TheVariants.{Memory, Cycle, Undefined, Control}

abbrev pub name_of : Check → List ℕ
name_of Entry = codes "Entry"
name_of Edges = codes "Edges"
name_of PhiArity = codes "PhiArity"
name_of Arity = codes "Arity"
name_of Types = codes "Types"
name_of ArgOrInit = codes "ArgOrInit"
name_of Callee = codes "Callee"
name_of Memory = codes "Memory"
name_of Cycle = codes "Cycle"
name_of Undefined = codes "Undefined"
name_of Control = codes "Control"
