-- What is made of two sets.
use Rattle.std.specs.Prelude.{Bool, not, ◌&&◌, ◌||◌}
use Rattle.rbbi_classes.specs.declared.operation.Operation.{Operation}
use Rattle.rbbi_classes.specs.declared.operation.Operation.TheVariants.{Union, Intersection, Difference}

-- whether what is made has a member, by whether each of the two has it
abbrev pub joins : Operation → Bool → Bool → Bool
joins Union left right = left || right
joins Intersection left right = left && right
joins Difference left right = left && not right
