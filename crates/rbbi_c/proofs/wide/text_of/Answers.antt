use Rattle.std.proofs.Common.{string_bytes}
use Rattle.rbbi_c.proofs.Spelled.{wide_more}
use Rattle.rbbi_c.proofs.wide.text_of.Goals as goal

pub loop-at-preserved : goal.loop-at-preserved
loop-at-preserved c =
    let is = c.in-Some.ensures in (
      is.1,
      c.loop-at.invariant.1,
      wide_more c.args.units.now (string_bytes c.loop-at.text) (string_bytes c.push.new.self) c.loop-at.at c.in-Some.field-0.next c.in-Some.field-0.c
          c.loop-at.invariant.2 is.2 is.3 c.in-Ok.ensures.bytes,
    )
