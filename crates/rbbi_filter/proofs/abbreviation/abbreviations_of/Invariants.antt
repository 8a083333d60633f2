use Rattle.std.proofs.Common.{take}
use Rattle.std.specs.Prelude.{map}
use Rattle.rbbi_filter.specs.inner.Members.{AreMembers}
use Rattle.rbbi_filter.proofs.abbreviation.abbreviations_of.Given as goal

abbrev pub invariant-loop-i : goal.invariant-loop-i
invariant-loop-i l = AreMembers (take l.i l.fn.list) (map (λ member. member.items) l.members.keys) l.longest
