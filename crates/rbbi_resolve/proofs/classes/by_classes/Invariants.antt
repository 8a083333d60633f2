use Rattle.std.proofs.Common.{List}
use Rattle.std.specs.HashMap.{values}
use Rattle.std.specs.List.{All}
use Rattle.rbbi_props.specs.Rows.{File}
use Rattle.rbbi_resolve.specs.inner.Questions.{IsRightAnswer}
use Rattle.rbbi_resolve.specs.inner.ClassValues.{IsDivided, IsKnown}
use Rattle.rbbi_resolve.proofs.classes.by_classes.Given as goal

abbrev pub invariant-loop-number : goal.invariant-loop-number
invariant-loop-number l =
    All (IsDivided l.layout) (values l.divided)
    × ((files : List File) → All (IsRightAnswer files) (values l.answers) → All (IsKnown files l.layout) (values l.known))
