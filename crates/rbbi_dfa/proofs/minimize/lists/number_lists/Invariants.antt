-- the lists at the used places so far
use Rattle.std.proofs.Common.{map, List, ℕ, Bor, Vec, Global}
use Rattle.rbbi_dfa.specs.inner.Numbers.{AreNumbered}
use Rattle.rbbi_dfa.proofs.minimize.lists.number_lists.Given as goal

abbrev pub invariant-loop-place : goal.invariant-loop-place
invariant-loop-place l =
    AreNumbered l.used (map (λ (statuses : Bor (List ℕ)). statuses.now) l.sorted) l.place l.numbers.items
    (map (λ (statuses : Vec ℕ Global). statuses.items) l.lists.items)
