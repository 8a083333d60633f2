use Rattle.std.proofs.Common.{List, ℕ, ◌++◌, reverse, ap}
use Rattle.std.specs.Str.{chars}
use Rattle.rbbi_canon.proofs.pairs.word_to.Goals as goal

pub characters-init : goal.characters-init
unfolding chars
characters-init c = ap (λ (bytes : List ℕ). chars bytes ++ reverse c.loop-at.reversed.items) c.new-text.ensures.bytes
