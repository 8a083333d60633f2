use Rattle.std.proofs.Common.{◌≡◌, ℕ, ◌+◌, ◌-◌, ◌≤◌}
use Rattle.rbbi_model.specs.Costs.{searches_cost}
use Rattle.rbbi_cache.specs.inner.Ready.{HasNoneBefore}
use Rattle.rbbi_cache.proofs.TriedBack.{TriedFar}
use Rattle.rbbi_cache.proofs.search_back.search_back.Given as goal

abbrev pub invariant-tries : goal.invariant-tries
invariant-tries g l = record {
  before : ℕ;
  tried : TriedFar l.table (g.T.Chars.characters l.text) l.i l.anchor before;
  searched : l.steps ≤ l.fn.steps + before + searches_cost l.table (g.T.Chars.characters l.text) l.anchor (l.i - 1);
  none : HasNoneBefore l.table (g.T.Chars.characters l.text) l.anchor l.i;
  more : l.fn.steps ≤ l.steps;
  fit : l.marks ≡ l.fn.marks;
}

abbrev pub decreases-tries : goal.decreases-tries
decreases-tries g l = l.anchor
