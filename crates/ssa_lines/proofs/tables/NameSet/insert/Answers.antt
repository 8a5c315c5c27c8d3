use Rattle.std.proofs.Common.{nat_eq}
use Rattle.std.proofs.lemmas.Cmp.{nat_list_eq_equiv}
use Rattle.std.specs.Cmp.Lexicographic.{pointwise}
use Rattle.ssa_lines.proofs.TableLemmas.{insert_key-absent}
use Rattle.ssa_lines.proofs.tables.NameSet.insert.Goals as goal

pub returns-clause-ok : goal.returns-clause-ok
returns-clause-ok c =
    rw (c.in_ok-insert.ensures.keys, c.self.view_is)
    (insert_key-absent (pointwise nat_eq) nat_list_eq_equiv c.args.name c.args.self.now c.requires.absent)
