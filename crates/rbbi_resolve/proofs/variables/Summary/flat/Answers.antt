use Rattle.std.proofs.Common.{refl, arith}
use Rattle.rbbi_resolve.proofs.variables.Summary.flat.Goals as goal

pub returns : goal.returns
returns c = record {
  leaf_sum = record { within = c.requires; below = λ _. refl; past = λ p. omega arith };
  height_sum = record { within = omega arith; below = λ _. refl; past = λ p. omega arith };
  empty_sum = refl;
}
