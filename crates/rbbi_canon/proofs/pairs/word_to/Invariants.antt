use Rattle.std.proofs.Common.{◌≡◌, ◌++◌, reverse, vec_len}
use Rattle.std.specs.Str.{chars}
use Rattle.std.specs.String.{string_bytes}
use Rattle.rbbi_canon.proofs.Leading.{IsLedFrom}
use Rattle.rbbi_canon.proofs.pairs.word_to.Given as goal

-- the characters so far lead from the pair to the one that is wanted
abbrev pub invariant-loop-at : goal.invariant-loop-at
invariant-loop-at l = IsLedFrom l.these l.those l.pairs l.at l.number (reverse l.reversed.items)

abbrev pub decreases-loop-at : goal.decreases-loop-at
decreases-loop-at l = l.at

abbrev pub invariant-characters : goal.invariant-characters
invariant-characters l = chars (string_bytes l.text) ++ reverse l.reversed.items ≡ reverse l.initial.reversed.items

abbrev pub decreases-characters : goal.decreases-characters
decreases-characters l = vec_len l.reversed
