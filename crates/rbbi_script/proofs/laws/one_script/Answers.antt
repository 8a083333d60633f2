use Rattle.rbbi_text.proofs.LineValues.{one_answer}
use Rattle.rbbi_script.specs.Files.{IsScriptLine}
use Rattle.rbbi_script.proofs.OneScript.{same_line}
use Rattle.rbbi_script.proofs.laws.one_script.Goals as goal

pub returns : goal.returns
returns c = one_answer IsScriptLine same_line
