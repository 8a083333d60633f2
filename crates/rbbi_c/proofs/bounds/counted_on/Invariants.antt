use Rattle.std.proofs.Common.{◌≡◌}
use Rattle.rbbi_model.specs.Units.{offset_of}
use Rattle.rbbi_c.proofs.bounds.counted_on.Given as goal

-- the offset of the place is counted
abbrev pub invariant-loop-at : goal.invariant-loop-at
invariant-loop-at g l = l.reached ≡ offset_of l.unit (g.T.Chars.characters l.text) l.at
