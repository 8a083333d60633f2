use Rattle.std.proofs.Common.{length, refl}
use Rattle.rbbi_bits.proofs.Words.{whole}
use Rattle.rbbi_bits.proofs.combine.unite.Goals as goal

pub unite_within-requires-clause-span : goal.unite_within-requires-clause-span
unite_within-requires-clause-span c = whole c.args.other.now (length c.args.other.now) refl
