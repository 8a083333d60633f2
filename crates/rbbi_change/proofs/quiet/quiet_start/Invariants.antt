use Rattle.std.proofs.Common.{◌≡◌, ℕ, ◌+◌, ◌<◌, ◌≤◌, true, get_or}
use Rattle.rbbi_model.specs.Tables.{category_of}
use Rattle.rbbi_change.specs.Costs.{is_barrier}
use Rattle.rbbi_change.proofs.quiet.quiet_start.Given as goal

-- the category of the character at the place, from which the walk goes back; no barrier lies between there and the edit
abbrev pub invariant-loop-place : goal.invariant-loop-place
invariant-loop-place g l = record {
  low : l.place + 2 ≤ l.at;
  some : 1 ≤ l.place;
  next : l.next ≡ category_of l.table.ranges (get_or (g.T.Chars.characters l.text) l.place 0);
  category : l.next < l.table.categories;
  none : (q : ℕ) → l.place ≤ q → q + 3 ≤ l.at → is_barrier l.table (g.T.Chars.characters l.text) q ≡ true → ⊥;
  read : l.steps + l.place + 1 ≡ l.fn.steps + l.at;
  fit : l.marks ≡ l.table.slashes;
}

abbrev pub decreases-loop-place : goal.decreases-loop-place
decreases-loop-place g l = l.place
