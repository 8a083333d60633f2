use Rattle.std.specs.Prelude.{codes}
use Rattle.std.specs.Cmp.Lexicographic.{same_text, other_text}
use Rattle.rbbi_segment.proofs.Carried.{standard_read, file_read}
use Rattle.rbbi_segment.proofs.reading.bytes_of.Goals as goal

pub returns-then-eq-clause-read : goal.returns-then-eq-clause-read
returns-then-eq-clause-read g c =
    standard_read (g.F.Files.contents c.args.files.now) (g.R.Read.remaining c.args.input.now) (g.R.Read.remaining c.read_at_most.new.reader)
    c.args.name.now c.args.limit c.read_at_most.result (same_text c.args.name.now (codes "-") c.if-eq.ensures) c.read_at_most.ensures.answer
    (c.read_at_most.ensures.most.0, c.read_at_most.ensures.most.1)

pub returns-else-eq-clause-read : goal.returns-else-eq-clause-read
returns-else-eq-clause-read g c =
    file_read (g.F.Files.contents c.args.files.now) (g.R.Read.remaining c.args.input.now) c.args.name.now c.args.limit c.read-outcome.result
    (other_text c.args.name.now (codes "-") c.if-eq.ensures) c.read-outcome.ensures.answer
