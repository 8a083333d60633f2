use Rattle.std.proofs.Common.{ℕ, ◌≤◌, ◌<◌, get_or}
use Rattle.rbbi_model.specs.Ranges.{Range}
use Rattle.rbbi_sets.proofs.set.CodeSet.holds_character.Given as goal

abbrev pub invariant-loop-range : goal.invariant-loop-range
invariant-loop-range l =
    (k : ℕ) (d : Range) → k < l.range-index → (0xD800 ≤ (get_or l.range-items k d).low) × ((get_or l.range-items k d).high ≤ 0xDFFF)
