use Rattle.std.proofs.Common.{◌*◌}
use Rattle.rbbi_dfa.specs.inner.Determinizing.{AreFollowersUpTo}
use Rattle.rbbi_dfa.specs.inner.LastWords.{AreKept}
use Rattle.rbbi_dfa.proofs.determinize.last_words.LastWords.follow.Given as goal

abbrev pub invariant-loop-i : goal.invariant-loop-i
invariant-loop-i l = record {
  followers : AreFollowersUpTo l.rows.follow l.set (64 * l.i) l.candidates;
  kept : AreKept l.rows l.self.words.items l.self.unions.items;
}
