use Rattle.std.proofs.Common.{ℕ, List, sym, subst}
use Rattle.rbbi_bits.specs.BitRows.{Holds}
use Rattle.rbbi_dfa.proofs.determinize.step.is_read.Goals as goal

pub returns-clause-some : goal.returns-clause-some
returns-clause-some c = λ yes.
    let read = c.meet_within.ensures.some yes in
    (read.0, read.1, subst (λ (row : List ℕ). Holds row read.0) c.readers.ensures.readers read.2)

pub returns-clause-none : goal.returns-clause-none
returns-clause-none c = λ no position candidate reads.
    c.meet_within.ensures.none no position candidate (subst (λ (row : List ℕ). Holds row position) (sym c.readers.ensures.readers) reads)
