use Rattle.std.proofs.Common.{sum_by, ap, arith}
use Rattle.rbbi_model.specs.Units.{size_of}
use Rattle.rbbi_text.proofs.MilestoneLemmas.{sum_ones}
use Rattle.rbbi_text.proofs.measure.taken.Goals as goal

pub overflow_cast-result : goal.overflow_cast-result
overflow_cast-result c = omega (arith, c.requires, sum_ones c.args.items.now, ap (λ u. sum_by (size_of u) c.args.items.now) c.in-Chars.is)

pub returns-in-Chars : goal.returns-in-Chars
returns-in-Chars c =
    omega (arith, c.requires, sum_ones c.args.items.now, ap (λ u. sum_by (size_of u) c.args.items.now) c.in-Chars.is)
