use Rattle.std.proofs.Common.{sym, subst}
use Rattle.rbbi_segment.specs.Contents.{IsRead}
use Rattle.rbbi_segment.proofs.Carried.{if_ok}
use Rattle.rbbi_segment.proofs.basis.read_spelled.Goals as goal

pub returns-clause-table : goal.returns-clause-table
returns-clause-table g c =
    if_ok c.spelled.result
    (λ table spells. (
      c.bytes-bytes.result.now,
      subst (λ l. IsRead (g.F.Files.contents c.args.files.now) (g.R.Read.remaining c.args.input.now) c.args.name.now l
          (g.R.Read.remaining c.read.new.input)) (sym c.bytes-bytes.ensures.bytes) c.in_ok-raw.ensures.read,
      spells,
    ))
    c.spelled.ensures
