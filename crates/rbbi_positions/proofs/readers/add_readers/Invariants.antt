use Rattle.std.proofs.Common.{◌≡◌, ℕ, ◌*◌, ◌<◌, ◌≤◌, ◌↔◌, length, get_or}
use Rattle.std.specs.Prelude.{IsTrue}
use Rattle.rbbi_model.specs.Ranges.{Has}
use Rattle.rbbi_resolve.specs.RuleTrees.{set_at}
use Rattle.rbbi_positions.specs.inner.Rows.{in_row}
use Rattle.rbbi_positions.proofs.readers.add_readers.Given as goal

abbrev pub invariant-loop-category : goal.invariant-loop-category
invariant-loop-category l = record {
  many : length l.rows ≡ length l.codes * l.words;
  each : (category position : ℕ) → category < length l.codes → position < 64 * l.words →
      IsTrue (in_row l.words l.rows category position) ↔ ((1 ≤ category) × (category < l.category) × (position < length l.numbers) × Has
      (set_at l.sets (get_or l.numbers position 0)) (get_or l.codes category 0));
}
