use Rattle.std.proofs.Common.{sym, subst}
use Rattle.rbbi_segment.specs.Contents.{IsRead}
use Rattle.rbbi_segment.proofs.Carried.{if_ok}
use Rattle.rbbi_segment.proofs.filters.read_turning.Goals as goal

pub returns-clause-filter : goal.returns-clause-filter
returns-clause-filter g c =
    if_ok c.turning.result
    (λ filter lists. (
      c.bytes-bytes.result.now,
      subst (λ l. IsRead (g.F.Files.contents c.args.files.now) (g.R.Read.remaining c.args.input.now) c.args.name.now l
          (g.R.Read.remaining c.read.new.input)) (sym c.bytes-bytes.ensures.bytes) c.in_ok-raw.ensures.read,
      lists,
    ))
    c.turning.ensures
