use Rattle.std.proofs.Common.{length}
use Rattle.std.specs.Prelude.{string_bytes, chars, IsUtf8}
use Rattle.rbbi_script.proofs.Words.{IsWriting}
use Rattle.rbbi_script.proofs.escape.word_of.Given as goal

abbrev pub invariant-loop-before : goal.invariant-loop-before
invariant-loop-before l = IsWriting l.text (chars (string_bytes l.word)) l.rest × IsUtf8 l.rest

abbrev pub decreases-loop-before : goal.decreases-loop-before
decreases-loop-before l = length l.rest
