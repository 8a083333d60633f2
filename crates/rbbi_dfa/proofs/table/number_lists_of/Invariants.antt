-- the lists so far
use Rattle.std.proofs.Common.{◌≡◌, map, ℕ, Vec, Global}
use Rattle.rbbi_dfa.proofs.table.number_lists_of.Given as goal

abbrev pub invariant-loop-list : goal.invariant-loop-list
invariant-loop-list l = l.made ≡ map (λ (statuses : Vec ℕ Global). statuses.items) l.yielded
