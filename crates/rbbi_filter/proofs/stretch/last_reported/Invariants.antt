use Rattle.std.proofs.Common.{◌≡◌, ◌+◌, ◌-◌, ◌<◌, ◌≤◌, min}
use Rattle.rbbi_session.specs.Stretches.{stretch_cost}
use Rattle.rbbi_filter.specs.inner.Trails.{IsTrail}
use Rattle.rbbi_filter.proofs.Stretches.{IsFound}
use Rattle.rbbi_filter.proofs.stretch.last_reported.Given as goal

abbrev pub invariant-boundaries : goal.invariant-boundaries
invariant-boundaries g l =
    let old = l.fn.session in record {
      table_is : l.session.table ≡ old.table;
      text_is : l.session.state.text ≡ old.state.text;
      from : old.state.cursor ≤ l.session.state.cursor;
      short : l.session.state.cursor < l.o;
      trail : IsTrail old.state.text l.trail;
      behind : l.trail.at ≤ l.session.state.cursor;
      found : IsFound (g.A.Lists.list_of l.fn.held) old.table old.state.text old.state.cursor l.session.state.cursor l.last;
      more : l.fn.steps ≤ l.steps;
      cost : l.steps + min 64 (l.session.state.cursor - l.trail.at) + stretch_cost old.table old.state.text l.session.state.cursor l.o
          ≤ l.fn.steps + 64 + (l.session.state.cursor - old.state.cursor) + stretch_cost old.table old.state.text old.state.cursor l.o;
    }

abbrev pub decreases-boundaries : goal.decreases-boundaries
decreases-boundaries g l = l.o - l.session.state.cursor
