use Rattle.std.proofs.Common.{◌<◌, ◌∙◌, subst, length, arith}
use Rattle.rbbi_model.specs.Words.{IsText}
use Rattle.rbbi_tool.proofs.Verdicts.{judged_none, judged_more, all_judged}
use Rattle.rbbi_tool.proofs.command.conform.report_of.Goals as goal

pub loop-i-init : goal.loop-i-init
loop-i-init g c = record { judged = judged_none c.args.table.now c.args.tests.now c.new-2.result.items c.new-2.ensures.items; fit = c.in_ok-marks.ensures }

pub loop-i-preserved : goal.loop-i-preserved
loop-i-preserved g c =
    let test = c.get-test.result.now in
    let inside : c.loop-i.i < length c.args.tests.now = omega (arith, c.loop-i-test.true, c.len-i-end.ensures) in
    record {
      judged =
          judged_more c.args.table.now c.args.tests.now c.loop-i.report.lines.items c.add.new.report.lines.items c.loop-i.report.passed c.loop-i.report.failed
          c.add.new.report.passed c.add.new.report.failed c.loop-i.i test c.judge-verdict.result c.loop-i.invariant.judged inside c.get-test.ensures
          (subst IsText c.text.ensures c.len-length.ensures.text) c.judge-verdict.ensures.verdict c.in_ok-add.ensures.lines c.in_ok-add.ensures.passed
          c.in_ok-add.ensures.failed;
      fit = c.judge-verdict.ensures.fit ∙ c.loop-i.invariant.fit;
    }

pub returns : goal.returns
returns g c =
    all_judged c.args.table.now c.args.tests.now c.loop-i.report.lines.items c.loop-i.report.passed c.loop-i.report.failed c.loop-i.i
    c.loop-i.invariant.judged (omega (arith, c.loop-i-test.false, c.len-i-end.ensures))
