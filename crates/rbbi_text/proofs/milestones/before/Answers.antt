use Rattle.std.proofs.Common.{ℕ, ◌*◌, ◌≤◌, arith}
use Rattle.std.proofs.lemmas.List.Sums.{sum_by-take-le}
use Rattle.rbbi_text.proofs.MilestoneLemmas.{sum_parts, milestone_at}
use Rattle.rbbi_text.proofs.milestones.before.Goals as goal

pub total-requires : goal.total-requires
total-requires g c =
    let from : ℕ = c.min-number.result * 8 in
    let order : from ≤ c.args.i = omega arith in
    omega (
      arith,
      sum_parts (g.T.Measure.weight c.args.unit) c.args.items.now from c.args.i order,
      sum_by-take-le
          (g.T.Measure.weight c.args.unit) c.args.items.now c.args.i,
    )

pub overflow_add-result : goal.overflow_add-result
overflow_add-result g c =
    let from : ℕ = c.min-number.result * 8 in
    let order : from ≤ c.args.i = omega arith in
    omega (
      arith,
      sum_parts (g.T.Measure.weight c.args.unit) c.args.items.now from c.args.i order,
      sum_by-take-le (g.T.Measure.weight c.args.unit) c.args.items.now c.args.i,
      c.at_milestone.ensures,
      milestone_at (g.T.Measure.weight c.args.unit) c.args.items.now c.args.sums.now c.min-number.result c.requires.sums (omega arith),
      c.total.ensures,
      c.requires.small,
    )

pub returns : goal.returns
returns g c =
    let from : ℕ = c.min-number.result * 8 in
    let order : from ≤ c.args.i = omega arith in
    omega (
      arith,
      sum_parts (g.T.Measure.weight c.args.unit) c.args.items.now from c.args.i order,
      c.at_milestone.ensures,
      milestone_at (g.T.Measure.weight c.args.unit) c.args.items.now c.args.sums.now c.min-number.result c.requires.sums (omega arith),
      c.total.ensures,
    )
