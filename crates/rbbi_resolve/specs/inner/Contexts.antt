-- The context as the code has it: its variables, and what they stand for.
use Rattle.std.specs.Prelude.{◌≡◌, ℕ, ◌<◌, ◌≤◌, nat_lt, Option, Some, None, List, [], ◌∷◌, map, slice_get, MatchOption, if◌then◌else◌}
use Rattle.std.specs.HashMap.{HashMap, get_by_text}
use Rattle.std.specs.Rc.{rc_value}
use Rattle.std.specs.declared.string.String.{String}
use Rattle.std.specs.declared.alloc.Global.{Global}
use Rattle.std.specs.declared.hash.FoldHasher.{FoldHasher}
use Rattle.std.specs.declared.hash.BuildHasherDefault.{BuildHasherDefault}
use Rattle.rbbi_props.specs.Rows.{File}
use Rattle.rbbi_tree.specs.Trees.{ExprTree, StatementTree, assign}
use Rattle.rbbi_tree.specs.Values.{statement_trees}
use Rattle.rbbi_resolve.specs.declared.context.Context.{Context}
use Rattle.rbbi_resolve.specs.declared.variables.Variable.{Variable}
use Rattle.rbbi_resolve.specs.declared.variables.Kind.{Kind}
use Rattle.rbbi_resolve.specs.declared.variables.Kind.TheVariants as kind
use Rattle.rbbi_resolve.specs.inner.ClassValues.{IsClassValue, AreRightClasses}
use Rattle.rbbi_resolve.specs.Contexts as contexts
use Rattle.rbbi_resolve.specs.Contexts.{assigned_to, value_of_name}
use Rattle.rbbi_resolve.specs.inner.Covered.{NamesRespect}
use Rattle.rbbi_resolve.specs.inner.OwnLeaves.{AddsLeafRows, leaves_of_expr}
use Rattle.rbbi_model.specs.SetTrees as model
use Rattle.rbbi_model.specs.Ranges.{Range}
use Rattle.rbbi_classes.specs.Classes.{ClassBits}
use Rattle.rbbi_classes.specs.CharacterSets.{characters_of}
use Rattle.rbbi_classes.specs.Divisions.{ClassDivision, stand_in}
use Rattle.rbbi_resolve.specs.Expressions.{variable_for}
use Rattle.rbbi_resolve.specs.inner.Files.{context_at}
use Rattle.rbbi_resolve.specs.inner.Summaries.{Summarizes}

-- the variables of the code, since antt has no name for an alias
abbrev pub Variables : Type 0
Variables = HashMap (String Global) Variable (BuildHasherDefault FoldHasher)

-- the statement with this number assigns the expression
pub record IsAssigned (statements : List StatementTree) (number : ℕ) (expr : ExprTree) : Type 0 where
  pub word : List ℕ
  pub place : ℕ
  pub at : slice_get statements number ≡ Some (assign word place expr)

-- the statement with this number assigns one leaf of its own, which has the value
pub record IsWritten (files : List File) (statements : List StatementTree) (number : ℕ) (value : Option model.SetTree) : Type 0 where
  pub expr : ExprTree
  pub assigned : IsAssigned statements number expr
  pub leaf : leaves_of_expr (context_at files statements number) expr ≡ value ∷ []

-- the value of the code for what a name stands for; that of a set is written by the statement with the number
abbrev pub IsKindOf : List File → List ℕ → List StatementTree → Kind → contexts.Variable → Type 0
IsKindOf files bounds statements (kind.Set set writer) (contexts.Set value) = IsClassValue files bounds value set × IsWritten files statements writer value
IsKindOf files bounds statements (kind.Set set writer) (contexts.Expression meaning height) = ⊥
IsKindOf files bounds statements (kind.Expression summary) (contexts.Set value) = ⊥
IsKindOf files bounds statements (kind.Expression summary) (contexts.Expression meaning height) = Summarizes summary meaning height

-- both are absent, or the variable of the code is that of the specification
abbrev pub Matches : List File → List ℕ → List StatementTree → Option Variable → Option contexts.Variable → Type 0
Matches files bounds statements None None = Unit {0}
Matches files bounds statements None (Some there) = ⊥
Matches files bounds statements (Some here) None = ⊥
Matches files bounds statements (Some here) (Some there) = IsKindOf files bounds statements here.kind there

-- the variable, if a statement before the limit assigns it
abbrev pub visible : ℕ → Option Variable → Option Variable
visible limit None = None
visible limit (Some variable) = if nat_lt variable.statement limit then Some variable else None

-- before the limit each name stands in the code for what it does in the specification
pub record Describes (files : List File) (bounds : List ℕ) (statements : List StatementTree) (variables : Variables) (limit : ℕ) : Type 0 where
  pub same : (name : List ℕ) → Matches files bounds statements (visible limit (get_by_text variables name)) (assigned_to
      (context_at files statements limit).variables name)

-- The variable is that of the name: its statement assigns it first, of those before the end.
pub record IsDefinedBy (files : List File) (bounds : List ℕ) (statements : List StatementTree) (end : ℕ) (name : List ℕ) (variable : Variable) : Type 0 where
  pub word : List ℕ
  pub place : ℕ
  pub expr : ExprTree
  pub assigns : slice_get statements variable.statement ≡ Some (assign word place expr)
  pub within : variable.statement < end
  pub before : (limit : ℕ) → limit ≤ variable.statement → assigned_to (context_at files statements limit).variables name ≡ None
  pub behind : (limit : ℕ) → variable.statement < limit → limit ≤ end →
      assigned_to (context_at files statements limit).variables name ≡ Some (variable_for (context_at files statements variable.statement) expr)
  pub kind : IsKindOf files bounds statements variable.kind (variable_for (context_at files statements variable.statement) expr)

-- no statement before the end assigns the name
abbrev pub IsUnassigned : List File → List StatementTree → ℕ → List ℕ → Type 0
IsUnassigned files statements end name = (limit : ℕ) → limit ≤ end → assigned_to (context_at files statements limit).variables name ≡ None

-- the variables are those that the statements before the end assign
pub record AreVariables (files : List File) (bounds : List ℕ) (statements : List StatementTree) (variables : Variables) (end : ℕ) : Type 0 where
  pub each : (name : List ℕ) → MatchOption (get_by_text variables name) (IsUnassigned files statements end name) (IsDefinedBy files bounds statements end name)

-- the property files of a context
abbrev pub files_of : Context → List File
files_of context = context.table.now

-- what stands before the limit of a context
abbrev pub context_of : Context → contexts.Context
context_of context = context_at (files_of context) (statement_trees context.statements.now) context.limit

-- the division into the context's classes, and their bounds
abbrev pub division_of : Context → ClassDivision
division_of context = rc_value context.classes.now.division

abbrev pub bounds_of : Context → List ℕ
bounds_of context = (division_of context).bounds

-- the code point that stands for those of its class
abbrev pub stand_of : Context → ℕ → ℕ
stand_of context c = stand_in (division_of context) c

-- the sets of these rows of the context's classes
abbrev pub sets_of : Context → List ClassBits → List (List Range)
sets_of context rows = map (characters_of (division_of context)) rows

-- the variables of the context are those before its limit, their sets have all or nothing of a class, and its classes are right
pub record IsContext (context : Context) : Type 0 where
  pub respects : NamesRespect (files_of context) (stand_of context) (value_of_name (context_of context))
  pub describes : Describes (files_of context) (bounds_of context) (statement_trees context.statements.now) context.variables.now context.limit
  pub classes : AreRightClasses (files_of context) context.classes.now

-- the rows of these leaves were added
abbrev pub AddsRows : Context → List (Option model.SetTree) → List (Option ClassBits) → List (Option ClassBits) → Type 0
AddsRows context values before after = AddsLeafRows (files_of context) (division_of context) values before after

-- the context knows whether only quoted characters may stand outside of sets
abbrev pub KnowsQuotes : Context → Type 0
KnowsQuotes context = context.quoted_only ≡ (context_of context).quoted_only
