use Rattle.std.proofs.Common.{ap, ◌/◌, ◌^◌}
use Rattle.rbbi_bits.specs.inner.Index.{bucket_of}
use Rattle.rbbi_bits.proofs.numbered.bucket_number.Goals as goal

pub returns-clause-value : goal.returns-clause-value
unfolding bucket_of
returns-clause-value c = ap (λ h. h / 2 ^ 49) c.hash_of.ensures
