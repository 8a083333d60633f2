-- The trees that the code builds, and the sets of their leaves.
use Rattle.std.specs.Prelude.{◌≡◌, ℕ, ◌<◌, ◌≤◌, Option, Some, None, List, [], ◌∷◌, ◌++◌, map, length, slice_get, slice_index}
use Rattle.std.specs.Prelude.{Contains}
use Rattle.std.specs.List.{AllByRecursion, flat_map}
use Rattle.rbbi_model.specs.Ranges.{Range}
use Rattle.rbbi_model.specs.SetTrees as model
use Rattle.rbbi_model.specs.Spelling as spelling
use Rattle.rbbi_props.specs.Rows.{File}
use Rattle.rbbi_tree.specs.Trees.{StatementTree}
use Rattle.rbbi_tree.specs.Values.{statement_trees}
use Rattle.rbbi_classes.specs.Classes.{ClassBits}
use Rattle.rbbi_classes.specs.CharacterSets.{characters_of}
use Rattle.rbbi_classes.specs.Divisions.{ClassDivision}
use Rattle.rbbi_resolve.specs.declared.build.Builder.{Builder}
use Rattle.rbbi_resolve.specs.declared.context.Context.{Context}
use Rattle.rbbi_resolve.specs.declared.build.FileLeaves.{FileLeaves}
use Rattle.rbbi_resolve.specs.declared.rules.Tree.{Tree}
use Rattle.rbbi_resolve.specs.Meanings.{Meaning, Stands, IsLeafOf}
use Rattle.rbbi_resolve.specs.inner.Files.{context_at}
use Rattle.rbbi_resolve.specs.inner.Contexts.{AreVariables, files_of, division_of, bounds_of, sets_of}
use Rattle.rbbi_resolve.specs.RuleLists.{IsLeafSet}
use Rattle.rbbi_resolve.specs.RuleTrees.{tree_of, numbers_of}
use Rattle.rbbi_resolve.specs.inner.OwnLeaves.{StandAt, leaves_of_statement}

-- the set is that of the leaf, and a leaf may have it
pub record IsSetOfLeaf (files : List File) (tree : model.SetTree) (set : List Range) : Type 0 where
  pub of_leaf : IsLeafOf files tree set
  pub form : IsLeafSet set

-- the value and the row are there, and the row's set is that of the leaf
abbrev pub IsSetRow : List File → ClassDivision → Option model.SetTree → Option ClassBits → Type 0
IsSetRow files division None row = ⊥
IsSetRow files division (Some tree) None = ⊥
IsSetRow files division (Some tree) (Some row) = IsSetOfLeaf files tree (characters_of division row)

-- the leaves of the file from this number on are these, and have sets
abbrev pub StandFrom : Context → FileLeaves → ℕ → List (Option model.SetTree) → Type 0
StandFrom context leaves number values = StandAt (IsSetRow (files_of context) (division_of context)) leaves.rows.now.items number values

-- each leaf has a set that it may have
abbrev pub HasLawfulLeaves : spelling.Tree → Type 0
HasLawfulLeaves (spelling.Leaf set) = IsLeafSet set
HasLawfulLeaves spelling.Empty = Unit {0}
HasLawfulLeaves spelling.Never = Unit {0}
HasLawfulLeaves (spelling.Then first rest) = HasLawfulLeaves first × HasLawfulLeaves rest
HasLawfulLeaves (spelling.Either first rest) = HasLawfulLeaves first × HasLawfulLeaves rest
HasLawfulLeaves (spelling.Repeat repetition part) = HasLawfulLeaves part

-- the tree stands for the meaning, with these sets and whatever sets are added
pub record IsPart (files : List File) (sets : List (List Range)) (meaning : Meaning) (tree : Tree) : Type 0 where
  pub stands : (more : List (List Range)) → Stands files meaning (tree_of (sets ++ more) tree)
  pub filled : (more : List (List Range)) → HasLawfulLeaves (tree_of (sets ++ more) tree)
  pub numbered : AllByRecursion (λ number. number < length sets) (numbers_of tree)

-- The tree stands for the meaning, and the sets past the old ones are those of its leaves.
pub record IsBuilt (files : List File) (old : ℕ) (sets : List (List Range)) (meaning : Meaning) (tree : Tree) : Type 0 where
  pub part : IsPart files sets meaning tree
  pub fresh : (number : ℕ) → old ≤ number → number < length sets → Contains (numbers_of tree) number

abbrev pub Builds : Context → Builder → Builder → Meaning → Tree → Type 0
Builds context before after meaning tree =
    IsBuilt (files_of context) (length (sets_of context before.rows.items)) (sets_of context after.rows.items) meaning tree

-- a tree was added, which stands for the meaning
pub record AddsTree (context : Context) (before after : Builder) (meaning : Meaning) (old new : List Tree) : Type 0 where
  pub tree : Tree
  pub is : new ≡ old ++ tree ∷ []
  pub built : Builds context before after meaning tree

-- a tree made of parts stands after the others
pub record IsJoined (make : List spelling.Tree → spelling.Tree) (before parts trees : List Tree) : Type 0 where
  pub tree : Tree
  pub is : trees ≡ before ++ tree ∷ []
  pub stands : (sets : List (List Range)) → tree_of sets tree ≡ make (map (tree_of sets) parts)
  pub numbers : numbers_of tree ≡ flat_map numbers_of parts

-- the trees after the first ones became one
abbrev pub JoinsFrom : (List spelling.Tree → spelling.Tree) → ℕ → List Tree → List Tree → Type 0
JoinsFrom make first old new = (before parts : List Tree) → first ≡ length before → old ≡ before ++ parts → IsJoined make before parts new

-- each set is one that a leaf may have, and a leaf with a number has the set of that
pub record IsBuilder (context : Context) (leaves : FileLeaves) (builder : Builder) : Type 0 where
  pub few : length builder.rows.items ≤ 4294967295
  pub formed : AllByRecursion IsLeafSet (sets_of context builder.rows.items)
  pub long : length builder.numbers.items ≡ length leaves.rows.now.items
  pub each : (place number : ℕ) (row : ClassBits) → slice_get builder.numbers.items place ≡ Some (Some number) →
      slice_get leaves.rows.now.items place ≡ Some (Some row) → slice_get builder.rows.items number ≡ Some row

-- sets were added
pub record Extends (context : Context) (leaves : FileLeaves) (before after : Builder) : Type 0 where
  pub more : List (List Range)
  pub is : sets_of context after.rows.items ≡ sets_of context before.rows.items ++ more
  pub builder : IsBuilder context leaves after

-- the variables are those that the file's statements assign, and the leaves those of the statements, each with its set
pub record IsReady (context : Context) (leaves : FileLeaves) : Type 0 where
  pub end : ℕ
  pub variables : AreVariables (files_of context) (bounds_of context) (statement_trees context.statements.now) context.variables.now end
  pub low : context.limit ≤ end
  pub long : length leaves.firsts.now.items ≡ length context.statements.now
  pub stand : (number : ℕ) (s : StatementTree) → slice_get (statement_trees context.statements.now) number ≡ Some s →
      StandFrom context leaves (slice_index leaves.firsts.now.items number)
      (leaves_of_statement (context_at (files_of context) (statement_trees context.statements.now) number) s)
