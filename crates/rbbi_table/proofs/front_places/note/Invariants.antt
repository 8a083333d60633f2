use Rattle.rbbi_table.proofs.NoteLemmas.{IsNoted}
use Rattle.rbbi_table.proofs.front_places.note.Given as goal

abbrev pub invariant-loop-rest : goal.invariant-loop-rest
invariant-loop-rest l = IsNoted l.rest l.fronts l.at l.places l.initial.places

-- proposed from the loop's first test
abbrev pub decreases-loop-rest : goal.decreases-loop-rest
decreases-loop-rest l = l.rest
