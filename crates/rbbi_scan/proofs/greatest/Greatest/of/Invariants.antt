use Rattle.std.proofs.Common.{◌≡◌, ◌<◌, ℕ, length}
use Rattle.std.specs.Prelude.{slice_index}
use Rattle.rbbi_model.specs.Places.{largest}
use Rattle.rbbi_model.specs.Tables.{statuses_of}
use Rattle.rbbi_scan.proofs.greatest.Greatest.of.Given as goal

-- those of the lists so far
abbrev pub invariant-loop-list : goal.invariant-loop-list
invariant-loop-list l = record {
  long : length l.statuses ≡ 16;
  each : (k : ℕ) → k < l.list → slice_index l.statuses k ≡ largest (statuses_of l.table k);
}
