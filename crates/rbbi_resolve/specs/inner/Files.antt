-- The context before each statement.
use Rattle.std.specs.Prelude.{ℕ, List}
use Rattle.std.specs.Prelude.{fold, take}
use Rattle.rbbi_props.specs.Rows.{File}
use Rattle.rbbi_tree.specs.Trees.{StatementTree}
use Rattle.rbbi_resolve.specs.Contexts.{Context}
use Rattle.rbbi_resolve.specs.Files.{initial_context, context_after}

-- what stands before the statement with this number, from 0
unfoldable pub context_at : List File → List StatementTree → ℕ → Context
context_at files statements number = fold context_after (initial_context files) (take number statements)
