use Rattle.std.proofs.Common.{List, ℕ, Bor}
use Rattle.rbbi_dfa.proofs.SortedLists.{found_is, found_some}
use Rattle.rbbi_dfa.proofs.minimize.ranks.place_of.Goals as goal

pub returns-in-Ok-clause-list : goal.returns-in-Ok-clause-list
returns-in-Ok-clause-list c =
    found_is (λ (statuses : Bor (List ℕ)). statuses.now) c.args.sorted.now c.args.statuses c.in-Ok.place c.in-Ok.ensures.bound c.in-Ok.ensures.position

pub returns-in-Err-clause-place : goal.returns-in-Err-clause-place
returns-in-Err-clause-place c =
    absurd (found_some (λ (statuses : Bor (List ℕ)). statuses.now) c.args.sorted.now c.args.statuses _ c.requires.sorted c.requires.held
    c.in-Err.ensures.position)

pub returns-in-Err-clause-list : goal.returns-in-Err-clause-list
returns-in-Err-clause-list c =
    absurd (found_some (λ (statuses : Bor (List ℕ)). statuses.now) c.args.sorted.now c.args.statuses _ c.requires.sorted c.requires.held
    c.in-Err.ensures.position)
