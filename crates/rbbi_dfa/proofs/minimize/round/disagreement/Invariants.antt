-- All rows before this one agree with the first row of their class.
use Rattle.std.proofs.Common.{◌≡◌, ℕ, ◌<◌, slice_index}
use Rattle.rbbi_model.specs.Tables.{step}
use Rattle.rbbi_dfa.proofs.minimize.round.disagreement.Given as goal

abbrev pub invariant-loop-row : goal.invariant-loop-row
invariant-loop-row l =
    (row category : ℕ) → row < l.row → category < l.automaton.categories →
    slice_index l.partition.classes.items (step l.automaton row category)
    ≡ slice_index l.partition.classes.items (step l.automaton (slice_index l.partition.firsts.items (slice_index l.partition.classes.items row)) category)
