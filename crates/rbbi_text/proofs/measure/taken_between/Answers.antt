use Rattle.std.proofs.Common.{arith}
use Rattle.std.proofs.lemmas.List.Sums.{sum_by-take-le}
use Rattle.rbbi_model.specs.Units.{size_of}
use Rattle.rbbi_text.proofs.MilestoneLemmas.{text_small, slice_small, sum_parts}
use Rattle.rbbi_text.proofs.measure.taken_between.Goals as goal

pub taken-requires : goal.taken-requires
taken-requires c = omega (arith, slice_small c.args.unit c.args.items.now c.args.from c.args.to, c.requires.few)

pub returns-then-to-from-eq1-clause-small : goal.returns-then-to-from-eq1-clause-small
returns-then-to-from-eq1-clause-small c =
    omega (arith, text_small c.args.unit c.args.items.now c.requires.few, sum_by-take-le (size_of c.args.unit) c.args.items.now c.args.to)

pub returns : goal.returns
returns c =
    let parts = sum_parts (size_of c.args.unit) c.args.items.now c.args.from c.args.to c.requires.forward in
    record {
      sum = omega (arith, parts, c.taken.ensures);
      small = omega (arith, text_small c.args.unit c.args.items.now c.requires.few, sum_by-take-le (size_of c.args.unit) c.args.items.now c.args.to);
    }
