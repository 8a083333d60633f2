use Rattle.std.proofs.Common.{◌≡◌, ℕ, List, take, length}
use Rattle.rbbi_model.specs.Boundaries.{Boundary}
use Rattle.rbbi_segment.specs.Runs.{AreTakenInTurn, TakesText}
use Rattle.rbbi_segment.specs.Tables.{GivesBreaks}
use Rattle.rbbi_segment.proofs.named.put_each.Given as goal

-- the texts of the names before this one were taken, and their counts are there
abbrev pub invariant-loop-name : goal.invariant-loop-name
invariant-loop-name g l = record {
  counts : length l.replaced.items ≡ l.name-index;
  taken : (breaks : List ℕ → List Boundary) → GivesBreaks l.means.table breaks →
      AreTakenInTurn (TakesText l.request (record { breaks = breaks; filter = l.means.filter; colors = l.colors }) (g.S.System.contents l.system))
      (record { taken = g.K.Sink.taken l.initial.out; left = g.R.Read.remaining l.initial.input }) (take l.name-index l.request.names.items)
      (record { taken = g.K.Sink.taken l.out; left = g.R.Read.remaining l.input });
}
