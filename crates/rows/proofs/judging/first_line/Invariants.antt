use Rattle.std.proofs.Common.{◌≡◌, ◌+◌, ◌≤◌, drop}
use Rattle.rows.specs.Judging.{first_line}
use Rattle.rows.proofs.judging.first_line.Given as goal

-- the lines passed, then what the rest says, is what the texts say
abbrev pub invariant-bytes : goal.invariant-bytes
invariant-bytes l = record {
  few : l.line ≤ l.i + 1;
  rest : l.line + first_line (drop l.i l.one) (drop l.i l.other) ≡ 1 + first_line l.one l.other;
}
