-- What is known of the first code points of classes.
use Rattle.std.specs.Prelude.{ℕ, ◌<◌, ◌≤◌, List}
use Rattle.rbbi_model.specs.Words.{IsSurrogate}
use Rattle.rbbi_classes.specs.Classes.{class_of, ClassBits, HasMember, IsFirstOfClass}

-- the first code points of the set's classes from one to before another are surrogates
abbrev pub AreSurrogates : List ℕ → ClassBits → ℕ → ℕ → Type 0
AreSurrogates bounds set from to =
    (c : ℕ) → IsFirstOfClass bounds c → HasMember bounds set c → from ≤ class_of bounds c → class_of bounds c < to → IsSurrogate c
