use Rattle.std.proofs.Common.{refl, arith}
use Rattle.rbbi_resolve.proofs.variables.Summary.optional.Goals as goal

pub returns : goal.returns
returns c =
    λ a h e own. record {
      leaf_sum = own.leaf_sum;
      height_sum = c.capped_sum.ensures.sum h 1 own.height_sum (record { within = omega arith; below = λ _. refl; past = λ p. omega arith });
      empty_sum = refl;
    }
