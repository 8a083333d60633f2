use Rattle.std.proofs.Common.{◌≡◌, ◌-◌}
use Rattle.rbbi_change.specs.inner.Reading.{AreSearched}
use Rattle.rbbi_change.proofs.Parts.{AreTogether}
use Rattle.rbbi_change.proofs.part.part_ways.Given as goal

abbrev pub invariant-parting : goal.invariant-parting
invariant-parting g l = record {
  together : AreTogether l.table (g.S.Chars.characters l.old) (g.T.Chars.characters l.new) l.edit.at l.here l.there;
  searched : AreSearched l.table (g.S.Chars.characters l.old) (g.T.Chars.characters l.new) l.fn.start l.here.at l.fn.start l.here.at l.fn.steps l.steps;
  fit : l.marks ≡ l.table.slashes;
}

abbrev pub decreases-parting : goal.decreases-parting
decreases-parting g l = l.edit.at - l.here.at
