-- the places of the lists so far
use Rattle.std.proofs.Common.{map, List, ℕ, Bor, Vec, Global}
use Rattle.rbbi_dfa.proofs.Ranking.{ArePlaced}
use Rattle.rbbi_dfa.proofs.minimize.ranks.places.Given as goal

abbrev pub invariant-loop-list : goal.invariant-loop-list
invariant-loop-list l =
    ArePlaced (map (λ (statuses : Vec ℕ Global). statuses.items) l.lists) (map (λ (statuses : Bor (List ℕ)). statuses.now) l.sorted) l.ranks.items l.list-index
