use Rattle.std.proofs.Common.{◌≡◌, ℕ, ◌+◌, ◌*◌, List, [], ◌∷◌, ◌++◌, length, take, sum_by, sym, ap, ◌∙◌, subst, arith, length-append}
use Rattle.std.proofs.lemmas.List.Sums.{sum_by-take-le}
use Rattle.rbbi_text.specs.Milestones.{AreMilestones}
use Rattle.rbbi_text.proofs.MilestoneLemmas.{sum_parts, milestone_more}
use Rattle.rbbi_text.proofs.milestones.add_milestones.Goals as goal

pub total-units-requires : goal.total-units-requires
total-units-requires g c =
    let from : ℕ = c.loop-from.from in
    omega (
      arith,
      sum_parts (g.T.Measure.weight c.args.unit) c.args.items.now from (from + 8) (omega arith),
      sum_by-take-le (g.T.Measure.weight c.args.unit) c.args.items.now (from + 8),
    )

pub overflow_add-units : goal.overflow_add-units
overflow_add-units g c =
    let from : ℕ = c.loop-from.from in
    omega (
      arith,
      sum_parts (g.T.Measure.weight c.args.unit) c.args.items.now from (from + 8) (omega arith),
      sum_by-take-le (g.T.Measure.weight c.args.unit) c.args.items.now (from + 8),
      c.total-units.ensures,
      c.loop-from.invariant.units_are,
      c.requires.small,
    )

pub loop-from-preserved : goal.loop-from-preserved
loop-from-preserved g c =
    let from : ℕ = c.loop-from.from in
    let sums : List ℕ = c.loop-from.sums.items in
    let units : ℕ = c.loop-from.units + c.total-units.result in
    let units_are : units ≡ sum_by (g.T.Measure.weight c.args.unit) (take (from + 8) c.args.items.now) =
    omega (
      arith,
      sum_parts (g.T.Measure.weight c.args.unit) c.args.items.now from (from + 8) (omega arith),
      c.total-units.ensures,
      c.loop-from.invariant.units_are,
    ) in
    let next : from + 8 ≡ 8 * (length sums + 1) = omega (arith, c.loop-from.invariant.from_is) in
    let pushed : c.push.new.self.items ≡ sums ++ units ∷ [] = c.in-Ok.ensures.items in
    record {
      from_is = omega (arith, next, ap length pushed, length-append sums (units ∷ []));
      units_are = units_are;
      are = subst (AreMilestones (g.T.Measure.weight c.args.unit) c.args.items.now) (sym pushed)
          (milestone_more (g.T.Measure.weight c.args.unit) c.args.items.now sums units c.loop-from.invariant.are
          (omega (arith, c.loop-from.invariant.from_is))
          (units_are ∙ ap (λ n. sum_by (g.T.Measure.weight c.args.unit) (take n c.args.items.now)) next));
    }
