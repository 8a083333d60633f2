-- Each return by its case, and that the last range's end is a code point.
use Rattle.std.proofs.Common.{◌≡◌, ◌-◌, get_or, ap, ◌∙◌, arith}
use Rattle.std.proofs.lemmas.List.{nil_from_length}
use Rattle.rbbi_model.specs.Ranges.{Range}
use Rattle.rbbi_sets.proofs.Rise.{rising-range}
use Rattle.rbbi_sets.proofs.Joining.{Joins-first, Joins-push, Joins-joined, Joins-inside}
use Rattle.rbbi_sets.proofs.join.join_last.Goals as goal
use Rattle.rbbi_sets.proofs.join.join_last.Goals.{then-count-gt0+else-low-last, else-count-gt0}

pub overflow_add-last-inside : goal.overflow_add-last-inside
overflow_add-last-inside c =
    let xs = c.args.ranges.now.items in
    let inside = rising-range 0 xs c.requires.rising (c.len-count.result - 1) c.index-last.result.now (omega (arith, c.args.ranges.now.ok.0)) in
    let read : c.last.inside.high ≡ (get_or xs (c.len-count.result - 1) c.index-last.result.now).high =
    ap (λ (r : Range). r.high) c.last.view_is ∙ ap (λ (r : Range). r.high) c.index-last.ensures in
    omega (arith, inside.1, read)

pub returns-then-last-high-clause-joins : goal.returns-then-last-high-clause-joins
returns-then-last-high-clause-joins c =
    let high : c.last.inside.high ≡ c.index-last.result.now.high = ap (λ (r : Range). r.high) c.last.view_is in
    let low : c.last.inside.low ≡ c.index-last.result.now.low = ap (λ (r : Range). r.low) c.last.view_is in
    Joins-joined c.args.ranges.now.items (c.len-count.result - 1) c.index-last.result.now (record { low = c.last.inside.low; high = c.args.high }) c.args.low
    (omega (arith, c.args.ranges.now.ok.0)) c.index-last.ensures c.requires.rising c.requires.begin
    low (omega arith) (omega arith) c.requires.code_points

pub returns-else-last-high-clause-joins : goal.returns-else-last-high-clause-joins
returns-else-last-high-clause-joins c =
    let high : c.last.inside.high ≡ c.index-last.result.now.high = ap (λ (r : Range). r.high) c.last.view_is in
    Joins-inside c.args.ranges.now.items (c.len-count.result - 1) c.index-last.result.now c.args.low c.args.high
    (omega (arith, c.args.ranges.now.ok.0)) c.index-last.ensures c.requires.rising c.requires.begin (omega arith)

pub returns-clause-joins : goal.returns-clause-joins
returns-clause-joins c =
    rw c.in_ok-push.ensures.items
    (elim c.if-count-gt0.branch [
      | then-count-gt0+else-low-last w ↦
          let high : w.last.inside.high ≡ w.index-last.result.now.high = ap (λ (r : Range). r.high) w.last.view_is in
          Joins-push c.args.ranges.now.items (c.len-count.result - 1) w.index-last.result.now (record { low = c.args.low; high = c.args.high })
          (omega (arith, c.args.ranges.now.ok.0)) w.index-last.ensures c.requires.rising c.requires.begin (omega arith) c.requires.range c.requires.code_points
      | else-count-gt0 w ↦
          Joins-first c.args.ranges.now.items (record { low = c.args.low; high = c.args.high })
          (nil_from_length _ (omega (arith, c.args.ranges.now.ok.0))) c.requires.range c.requires.code_points
    ])
