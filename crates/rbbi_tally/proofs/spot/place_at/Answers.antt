use Rattle.std.proofs.Common.{◌<◌, ap, length, arith}
use Rattle.rbbi_tally.specs.inner.Segments.{place_of}
use Rattle.rbbi_tally.proofs.PieceLists.{segment_read, spot_item}
use Rattle.rbbi_tally.proofs.spot.place_at.Goals as goal

pub returns : goal.returns
returns c =
    let ps = c.args.pieces.now in
    let at_end = c.if-spot-pieces.false in
    let within = c.requires.spot.within in
    let short : c.args.spot.piece < length ps = omega arith in
    let item = spot_item ps c.args.spot c.index-pieces-spot.result c.requires.spot short c.index-pieces-spot.is in
    let read = segment_read ps c.args.spot c.index-pieces-spot.result c.index.result.now short c.index-pieces-spot.is item c.index.ensures in
    omega (arith, ap (λ l. place_of l c.args.end) read)
