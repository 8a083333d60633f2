use Rattle.std.proofs.Common.{◌≡◌, ◌+◌, subst, arith}
use Rattle.rbbi_resolve.specs.inner.Summaries.{Sums}
use Rattle.rbbi_resolve.proofs.variables.Summary.raised.Goals as goal

pub returns-then-many : goal.returns-then-many
returns-then-many c = λ a h e sums. rw c.if-many.true (c.higher.ensures a h e sums)

pub returns-else-many : goal.returns-else-many
returns-else-many c =
    λ a h e sums. rw c.if-many.false (let zero_more : h ≡ h + 0 = omega arith in subst (λ n. Sums c.args.self a n e) zero_more sums)
