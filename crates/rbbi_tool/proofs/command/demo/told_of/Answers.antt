use Rattle.std.proofs.Common.{ap, ◌∙◌}
use Rattle.rbbi_command.specs.Refusals.{printed}
use Rattle.rbbi_tool.proofs.command.demo.told_of.Goals as goal

pub returns : goal.returns
returns g c = (c.in_ok-summary.summary, c.in_ok-summary.ensures, c.printed.ensures ∙ ap printed c.in_ok-line.ensures)
