use Rattle.std.proofs.Common.{◌+◌, ◌<◌, ◌≤◌, length, ap, ◌∙◌, subst, arith}
use Rattle.rbbi_model.specs.Units.{offset_of}
use Rattle.rbbi_session.proofs.UnitCursors.{place_past, place_whole, place_inside}
use Rattle.rbbi_c.proofs.bounds.place_from.Goals as goal

pub returns-then-o-offset : goal.returns-then-o-offset
returns-then-o-offset c =
    let unit = c.args.unit in let x = c.args.text.now in
    let past : offset_of unit x (length x) < c.args.o =
    subst (λ n. offset_of unit x n < c.args.o) c.len-len.ensures.exact (omega (arith, c.if-o-offset.true, c.offset.ensures)) in
    ap (λ n. n + 1) c.len-len.ensures.exact ∙ (place_past unit x c.args.o past).at_is

pub returns-then-index : goal.returns-then-index
returns-then-index c =
    (place_whole c.args.unit c.args.text.now c.args.o c.index-index.result c.index-index.ensures c.if-index.true).at_is

pub returns : goal.returns
returns c =
    let unit = c.args.unit in let x = c.args.text.now in
    let within : c.args.o ≤ offset_of unit x (length x) =
    subst (λ n. c.args.o ≤ offset_of unit x n) c.len-len.ensures.exact (omega (arith, c.if-o-offset.false, c.offset.ensures)) in
    (place_inside unit x c.args.o c.index-index.result c.index-index.ensures c.if-index.false within).at_is
