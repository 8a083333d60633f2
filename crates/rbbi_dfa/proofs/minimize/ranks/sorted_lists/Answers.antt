use Rattle.std.proofs.Common.{List, ℕ, Bor, Vec, Global, map, ap, ◌∙◌, arith}
use Rattle.std.proofs.lemmas.List.{take_all}
use Rattle.std.proofs.lemmas.List.Filters.{dedup_is}
use Rattle.rbbi_dfa.proofs.SortedLists.{AreSorted-from_sort}
use Rattle.rbbi_dfa.proofs.minimize.ranks.sorted_lists.Goals as goal

pub returns : goal.returns
returns c =
    AreSorted-from_sort (λ (statuses : Bor (List ℕ)). statuses.now) _ c.loop-list.sorted.items _ _
    (c.loop-list.invariant ∙ ap (λ lists. map (λ (statuses : Vec ℕ Global). statuses.items) lists)
    (take_all c.loop-list.list-index c.args.lists.now (omega arith)))
    c.sort_unstable.ensures.permutation c.sort_unstable.ensures.sorted (dedup_is _ _ _ c.dedup.ensures.filtered)
