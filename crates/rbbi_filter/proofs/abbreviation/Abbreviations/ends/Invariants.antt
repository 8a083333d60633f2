use Rattle.rbbi_filter.proofs.Members.{NoneShorter}
use Rattle.rbbi_filter.proofs.abbreviation.Abbreviations.ends.Given as goal

abbrev pub invariant-loop-len : goal.invariant-loop-len
invariant-loop-len l = NoneShorter l.w l.self-inside.list l.len
