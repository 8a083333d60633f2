use Rattle.std.proofs.Common.{length, ap, arith}
use Rattle.std.proofs.lemmas.List.Sums.{sum_by-take-le}
use Rattle.rbbi_model.specs.Units.{size_of}
use Rattle.rbbi_text.proofs.MilestoneLemmas.{text_small}
use Rattle.rbbi_text.proofs.plain.PlainTextUnitText.offset.Goals as goal

pub taken-requires : goal.taken-requires
taken-requires c =
    let x = c.deref.result.now in
    let small = text_small c.args.unit x (omega (arith, ap length c.deref.ensures.value, c.self.invariant.1)) in
    omega (arith, small, sum_by-take-le (size_of c.args.unit) x c.args.i)
