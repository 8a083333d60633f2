-- the lists so far, in their own order
use Rattle.std.proofs.Common.{◌≡◌, map, take, List, ℕ, Bor, Vec, Global}
use Rattle.rbbi_dfa.proofs.minimize.ranks.sorted_lists.Given as goal

abbrev pub invariant-loop-list : goal.invariant-loop-list
invariant-loop-list l =
    map (λ (statuses : Bor (List ℕ)). statuses.now) l.sorted.items ≡ map (λ (statuses : Vec ℕ Global). statuses.items) (take l.list-index l.lists)
