use Rattle.rbbi_tool.proofs.Verdicts.{tells_tests}
use Rattle.rbbi_tool.proofs.command.conform.told_of.Goals as goal

pub returns : goal.returns
returns g c =
    let report = c.in_ok-report.report in
    let output = c.output_of.ensures in
    tells_tests c.args.table.now c.args.tests.now report.lines.items report.passed report.failed c.in_ok-report.ensures c.output_of.result
    output.status output.bytes output.file
