use Rattle.std.proofs.Common.{◌≡◌, ℕ, ◌<◌, ◌↔◌, length, get_or}
use Rattle.std.specs.Prelude.{IsTrue}
use Rattle.rbbi_model.specs.Ranges.{Has}
use Rattle.rbbi_resolve.specs.RuleTrees.{set_at}
use Rattle.rbbi_bits.specs.BitRows.{row_bit}
use Rattle.rbbi_positions.proofs.readers.readers_of_code.Given as goal

abbrev pub invariant-loop-position : goal.invariant-loop-position
invariant-loop-position l = record {
  many : length l.row.items ≡ l.words;
  each : (position : ℕ) → IsTrue (row_bit l.row.items position) ↔ ((position < l.position) × Has (set_at l.sets (get_or l.numbers position 0)) l.code);
}
