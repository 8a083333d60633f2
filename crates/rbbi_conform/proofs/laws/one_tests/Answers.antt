use Rattle.rbbi_text.proofs.LineValues.{one_answer}
use Rattle.rbbi_conform.specs.Files.{IsTestLine}
use Rattle.rbbi_conform.proofs.OneTest.{same_line}
use Rattle.rbbi_conform.proofs.laws.one_tests.Goals as goal

pub returns : goal.returns
returns c = one_answer IsTestLine same_line
