use Rattle.std.proofs.Common.{◌≡◌, ℕ, ◌<◌, Some, slice_get}
use Rattle.rbbi_tree.specs.Trees.{StatementTree}
use Rattle.rbbi_tree.specs.Values.{statement_trees}
use Rattle.rbbi_resolve.specs.inner.Covered.{AreCovered, AreRespected, IsCollection, parts_of_statement}
use Rattle.rbbi_resolve.proofs.classes.collect_all.Given as goal

abbrev pub invariant-loop-number : goal.invariant-loop-number
invariant-loop-number l = record {
  kept : IsCollection l.table l.collection;
  covers : (stand : ℕ → ℕ) → AreRespected stand l.collection.bases.items → (number : ℕ) (s : StatementTree) → number < l.number →
      slice_get (statement_trees l.statements) number ≡ Some s → AreCovered l.table stand (parts_of_statement s);
}
