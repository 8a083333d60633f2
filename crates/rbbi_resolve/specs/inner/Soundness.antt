-- What holds of the variables of a file without faults.
use Rattle.std.specs.Prelude.{ℕ, Option, Some, None, List}
use Rattle.rbbi_resolve.specs.Meanings.{Meaning, Leaf, Empty, Never, Then, Either, Repeat}
use Rattle.rbbi_resolve.specs.Contexts.{Variable, Set, Expression, Context, assigned_to}

-- each sequence and each choice in it has a part
abbrev pub IsFull : Meaning → Type 0
IsFull (Leaf set) = Unit {0}
IsFull Empty = ⊥
IsFull Never = ⊥
IsFull (Then first rest) = IsFull first × IsFull rest
IsFull (Either first rest) = IsFull first × IsFull rest
IsFull (Repeat repetition part) = IsFull part

-- a set variable has a value, and any other has parts
abbrev pub IsSound : Option Variable → Type 0
IsSound None = Unit {0}
IsSound (Some (Set None)) = ⊥
IsSound (Some (Set (Some value))) = Unit {0}
IsSound (Some (Expression meaning height)) = IsFull meaning

-- each variable is sound
pub record AreSound (context : Context) : Type 0 where
  pub each : (name : List ℕ) → IsSound (assigned_to context.variables name)
