use Rattle.std.proofs.Common.{◌≡◌, ◌-◌, length}
use Rattle.rbbi_conform.proofs.Judging.{IsJudgedTo}
use Rattle.rbbi_conform.proofs.verdict.judge.Given as goal

abbrev pub invariant-loop-last : goal.invariant-loop-last
invariant-loop-last g l = IsJudgedTo l.table l.test l.last × (l.marks ≡ l.table.slashes)

abbrev pub decreases-loop-last : goal.decreases-loop-last
decreases-loop-last g l = length l.test.text - l.last
