use Rattle.std.proofs.Common.{refl, arith}
use Rattle.rbbi_tally.proofs.SearchingAgain.{told_at}
use Rattle.rbbi_tally.proofs.search.meets.Goals as goal

pub returns-then-place-edit-clause-gone_to : goal.returns-then-place-edit-clause-gone_to
returns-then-place-edit-clause-gone_to c = record { near = λ less. (refl, refl, refl); behind = λ behind. absurd (omega arith) }

pub returns-clause-gone_to : goal.returns-clause-gone_to
returns-clause-gone_to c = record {
  near = λ less. absurd (omega (arith, c.if-place-edit.false));
  behind = λ behind. (c.skip.ensures.skipped, told_at c.place_at.result _ _ c.place_at.ensures);
}
