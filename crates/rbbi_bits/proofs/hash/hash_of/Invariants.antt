use Rattle.std.proofs.Common.{◌≡◌, take}
use Rattle.std.specs.List.{fold}
use Rattle.rbbi_bits.specs.Hashes.{mixed_with}
use Rattle.rbbi_bits.proofs.hash.hash_of.Given as goal

abbrev pub invariant-loop-word : goal.invariant-loop-word
invariant-loop-word l = l.hash ≡ fold mixed_with 0 (take l.word-index l.words)
