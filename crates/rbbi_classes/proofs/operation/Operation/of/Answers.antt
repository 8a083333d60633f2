-- The bits of the word that is made.
use Rattle.std.proofs.Common.{◌&&◌, ap, ◌∙◌, arith}
use Rattle.rbbi_model.specs.Places.{has_bit}
use Rattle.rbbi_bits.proofs.WordBits.{has_bit_or, has_bit_and, has_bit_not}
use Rattle.rbbi_classes.proofs.operation.Operation.of.Goals as goal

pub returns-in-Union : goal.returns-in-Union
returns-in-Union c = λ t short. rw c.in-Union.is (has_bit_or c.args.left c.args.right t)

pub returns-in-Intersection : goal.returns-in-Intersection
returns-in-Intersection c = λ t short. rw c.in-Intersection.is (has_bit_and c.args.left c.args.right t)

pub returns-in-Difference : goal.returns-in-Difference
returns-in-Difference c = λ t short.
    rw c.in-Difference.is
    (has_bit_and c.args.left _ t ∙ ap (λ b. has_bit c.args.left t && b) (has_bit_not c.args.right t (omega arith) short))
