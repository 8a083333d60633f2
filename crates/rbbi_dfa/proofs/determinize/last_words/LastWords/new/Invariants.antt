use Rattle.rbbi_dfa.proofs.WordFollowers.{AreFirstUnions}
use Rattle.rbbi_dfa.proofs.determinize.last_words.LastWords.new.Given as goal

abbrev pub invariant-loop-i : goal.invariant-loop-i
invariant-loop-i l = AreFirstUnions l.rows l.unions.items l.i
