-- What an operation on sets keeps.
use Rattle.std.specs.Prelude.{◌⊎◌}
use Rattle.rbbi_sets.specs.declared.sweep.Operation.{Operation}
use Rattle.rbbi_sets.specs.declared.sweep.Operation.TheVariants.{Union, Intersect, Minus}

-- whether a code point is kept, by whether it is in the one and in the other set
abbrev pub Combined : Operation → Type 0 → Type 0 → Type 0
Combined Union P Q = P ⊎ Q
Combined Intersect P Q = P × Q
Combined Minus P Q = P × ¬ Q
