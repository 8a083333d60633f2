use Rattle.std.proofs.Common.{◌≡◌}
use Rattle.std.specs.Prelude.{chars, string_bytes, slice_range}
use Rattle.rbbi_lex.proofs.words.word_between.Given as goal

abbrev pub invariant-loop-i : goal.invariant-loop-i
invariant-loop-i l = chars (string_bytes l.word) ≡ slice_range l.text l.from l.i
