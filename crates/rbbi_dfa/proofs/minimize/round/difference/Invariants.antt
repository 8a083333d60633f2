-- The rows lead into the same classes by the categories before this one.
use Rattle.std.proofs.Common.{◌≡◌, ℕ, ◌<◌, slice_index}
use Rattle.rbbi_model.specs.Tables.{step}
use Rattle.rbbi_dfa.proofs.minimize.round.difference.Given as goal

abbrev pub invariant-loop-category : goal.invariant-loop-category
invariant-loop-category l =
    (category : ℕ) → category < l.category →
    slice_index l.partition.classes.items (step l.automaton l.this category)
    ≡ slice_index l.partition.classes.items (step l.automaton l.that category)
