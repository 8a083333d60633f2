use Rattle.std.proofs.Common.{◌≡◌, ℕ, [], List, length, ◌∙◌, subst, arith}
use Rattle.rbbi_table.specs.Parts.{rows_of}
use Rattle.rbbi_table.specs.inner.Targets.{AddsTarget}
use Rattle.rbbi_table.proofs.FrontLemmas.{walk_start}
use Rattle.rbbi_table.proofs.fronts.is_fronted.Goals as goal

pub follow_rows-requires-clause-walk : goal.follow_rows-requires-clause-walk
follow_rows-requires-clause-walk c =
    let long : length c.in_ok-seen.seen.items ≡ length c.args.rows.now = omega (arith, c.in_ok-seen.ensures.len, c.in_ok-seen.seen.ok.0) in
    walk_start (rows_of c.args.width c.args.rows.now c.args.cells.now []) c.args.slash c.add_target.new.seen.items c.add_target.new.targets.items
    c.requires.some c.requires.start (c.in_ok-add_target.ensures.len ∙ long) c.in_ok-add_target.ensures.gathered
    (subst (λ (l : List ℕ). AddsTarget l 1 c.add_target.new.targets.items) c.in_ok-queue.ensures.items c.in_ok-add_target.ensures.adds)
