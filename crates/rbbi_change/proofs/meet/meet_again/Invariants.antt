use Rattle.std.proofs.Common.{◌≡◌, ◌+◌, ◌-◌, length}
use Rattle.rbbi_change.specs.inner.Reading.{AreSearched}
use Rattle.rbbi_change.proofs.Meeting.{BeforeMet}
use Rattle.rbbi_change.proofs.Meets.{AreBetween}
use Rattle.rbbi_change.proofs.meet.meet_again.Given as goal

abbrev pub invariant-meeting : goal.invariant-meeting
invariant-meeting g l = record {
  between : AreBetween l.table (g.S.Chars.characters l.old) (g.T.Chars.characters l.new) l.edit l.here l.there l.last;
  before : BeforeMet l.table (g.S.Chars.characters l.old) (g.T.Chars.characters l.new) l.edit l.here.at l.there.at;
  searched : AreSearched l.table (g.S.Chars.characters l.old) (g.T.Chars.characters l.new) l.fn.parting.old.at l.here.at l.fn.parting.new.at l.there.at
      l.fn.steps l.steps;
  fit : l.marks ≡ l.table.slashes;
}

abbrev pub decreases-meeting : goal.decreases-meeting
decreases-meeting g l = length (g.S.Chars.characters l.old) - l.here.at + (length (g.T.Chars.characters l.new) - l.there.at)
