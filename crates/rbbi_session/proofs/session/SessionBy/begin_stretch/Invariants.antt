use Rattle.std.proofs.Common.{◌≡◌, ◌-◌, ◌≤◌}
use Rattle.rbbi_cache.proofs.TriedBack.{Tried}
use Rattle.rbbi_session.proofs.session.SessionBy.begin_stretch.Given as goal

abbrev pub invariant-tries : goal.invariant-tries
invariant-tries g l = record {
  tried : Tried l.fn.self.table l.fn.self.state.text l.o l.anchor (l.steps - l.fn.steps);
  more : l.fn.steps ≤ l.steps;
  table_is : l.self.table ≡ l.fn.self.table;
  text_is : l.self.state.text ≡ l.fn.self.state.text;
}

abbrev pub decreases-tries : goal.decreases-tries
decreases-tries g l = l.anchor
