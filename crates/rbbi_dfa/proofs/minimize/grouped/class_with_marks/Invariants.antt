-- no class before this one has the marks
use Rattle.std.proofs.Common.{◌≢◌, ℕ, ◌<◌, ◌≤◌, slice_index}
use Rattle.rbbi_model.specs.Marks.{marks_of}
use Rattle.rbbi_dfa.proofs.minimize.grouped.class_with_marks.Given as goal

abbrev pub invariant-loop-class : goal.invariant-loop-class
invariant-loop-class l =
    (class : ℕ) → 1 ≤ class → class < l.class → marks_of l.automaton (slice_index l.firsts class) ≢ marks_of l.automaton l.row
