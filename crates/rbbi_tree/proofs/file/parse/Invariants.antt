use Rattle.std.proofs.Common.{◌≡◌, ◌≤◌, [], Some, take}
use Rattle.rbbi_tree.specs.inner.Statements.{after, run}
use Rattle.rbbi_tree.specs.Brackets.{open_from, IsShallowBefore}
use Rattle.rbbi_tree.specs.inner.States.{progress}
use Rattle.rbbi_tree.proofs.file.parse.Given as goal

abbrev pub invariant-loop-i : goal.invariant-loop-i
invariant-loop-i l = record {
  ran : run (take l.i l.tokens) (after []) ≡ Some (progress l.parser);
  counted : l.depth ≡ open_from 0 (take l.i l.tokens);
  few : l.depth ≤ 64;
  shallow : IsShallowBefore l.tokens l.i;
}
