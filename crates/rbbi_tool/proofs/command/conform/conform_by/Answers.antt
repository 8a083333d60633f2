use Rattle.rbbi_tool.proofs.command.conform.conform_by.Goals as goal

pub returns : goal.returns
returns g c = (c.in_ok-tests.tests, c.in_ok-tests.ensures, c.in_ok-told_of.ensures)
