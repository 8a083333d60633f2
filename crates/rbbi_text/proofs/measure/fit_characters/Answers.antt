use Rattle.std.proofs.Common.{◌+◌, ◌-◌, subst, arith}
use Rattle.std.proofs.lemmas.List.{take_rest}
use Rattle.rbbi_model.specs.Units.{size_of}
use Rattle.rbbi_text.specs.inner.Fits.{IsFit}
use Rattle.rbbi_text.proofs.MilestoneLemmas.{sum_parts, sum_part_small, fit_behind}
use Rattle.rbbi_text.proofs.measure.fit_characters.Goals as goal

pub taken-block-requires : goal.taken-block-requires
taken-block-requires c = omega (arith, sum_part_small c.args.unit c.args.items.now c.loop-count.count (c.loop-count.count + 32))

pub loop-count-preserved : goal.loop-count-preserved
loop-count-preserved c = record {
  within = omega arith;
  sum =
      omega (
        arith,
        c.loop-count.invariant.sum,
        c.taken-block.ensures,
        sum_parts (size_of c.args.unit) c.args.items.now c.loop-count.count (c.loop-count.count + 32) (omega arith),
      );
  fits = omega (arith, c.loop-count.invariant.fits);
}

pub returns : goal.returns
returns c =
    fit_behind (size_of c.args.unit) c.args.items.now c.loop-count.count c.args.most c.loop-count.units c.fit_in-rest.result.count c.fit_in-rest.result.units
    c.loop-count.invariant.within c.loop-count.invariant.sum c.loop-count.invariant.fits
    (subst (λ l. IsFit (size_of c.args.unit) l (c.args.most - c.loop-count.units) c.fit_in-rest.result.count c.fit_in-rest.result.units)
    (take_rest c.args.items.now c.loop-count.count) c.fit_in-rest.ensures)
