use Rattle.std.proofs.Common.{◌≡◌, ◌<◌, ℕ, length}
use Rattle.rbbi_canon.specs.inner.Pairs.{pair_at, AreFollowed, AreSearched}
use Rattle.rbbi_canon.proofs.compare.follow.Given as goal

-- from the pair the letters so far were followed
abbrev pub invariant-loop-number : goal.invariant-loop-number
invariant-loop-number l =
    AreSearched l.these l.those l.letters l.sets l.pairs.items l.next
    × (l.next < length l.pairs.items) × (pair_at l.pairs.items l.next ≡ l.pair)
    × ((number : ℕ) → number < l.number → AreFollowed l.these l.those l.letters l.sets l.pair number)
