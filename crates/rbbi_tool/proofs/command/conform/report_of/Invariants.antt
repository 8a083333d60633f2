use Rattle.std.proofs.Common.{◌≡◌}
use Rattle.rbbi_tool.proofs.Verdicts.{AreJudgedTo}
use Rattle.rbbi_tool.proofs.command.conform.report_of.Given as goal

-- the tests before this one are judged
abbrev pub invariant-loop-i : goal.invariant-loop-i
invariant-loop-i g l = record {
  judged : AreJudgedTo l.table l.tests l.report.lines.items l.report.passed l.report.failed l.i;
  fit : l.marks ≡ l.table.slashes;
}
