use Rattle.rbbi_dfa.specs.inner.LastWords.{AddsFollowers}
use Rattle.rbbi_dfa.proofs.determinize.last_words.follow_word.Given as goal

abbrev pub invariant-loop-bit : goal.invariant-loop-bit
invariant-loop-bit l = AddsFollowers l.rows.follow l.i l.word l.bit l.initial.next l.next
