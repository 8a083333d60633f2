-- the places of the classes so far
use Rattle.rbbi_dfa.proofs.Numbering.{ArePlacesUpTo}
use Rattle.rbbi_dfa.proofs.minimize.lists.places_of_classes.Given as goal

abbrev pub invariant-loop-first : goal.invariant-loop-first
invariant-loop-first l = ArePlacesUpTo l.automaton l.places l.firsts l.found.items l.first-index
