use Rattle.std.proofs.Common.{arith}
use Rattle.rbbi_file.proofs.WholeFiles.{over_counts}
use Rattle.rbbi_file.proofs.read.end_of_parts.Goals as goal

pub returns-then-bytes-lt20 : goal.returns-then-bytes-lt20
returns-then-bytes-lt20 c = omega (arith, over_counts c.args.bytes.now)
