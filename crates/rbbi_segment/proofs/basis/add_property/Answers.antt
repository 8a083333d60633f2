use Rattle.std.proofs.Common.{sym, subst}
use Rattle.rbbi_segment.specs.Contents.{IsRead}
use Rattle.rbbi_segment.proofs.basis.add_property.Goals as goal

pub returns-in-Ok-clause-added : goal.returns-in-Ok-clause-added
returns-in-Ok-clause-added g c = (
  c.bytes-bytes.result.now,
  subst (λ l. IsRead (g.F.Files.contents c.args.files.now) (g.R.Read.remaining c.args.input.now) c.args.property.now.file.now l
      (g.R.Read.remaining c.read.new.input)) (sym c.bytes-bytes.ensures.bytes) c.in_ok-raw.ensures.read,
  c.in-Ok.ensures.added,
)
