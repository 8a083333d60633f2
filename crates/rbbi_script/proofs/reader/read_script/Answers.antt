use Rattle.rbbi_script.proofs.OneScript.{read_inserts}
use Rattle.rbbi_script.proofs.reader.read_script.Goals as goal

pub returns-clause-inserts : goal.returns-clause-inserts
returns-clause-inserts c = read_inserts c.args.bytes.now c.read_lines.result c.read_lines.ensures
