use Rattle.std.proofs.Common.{length, refl}
use Rattle.rbbi_bits.proofs.Words.{whole}
use Rattle.rbbi_bits.proofs.combine.meet.Goals as goal

pub meet_within-requires-clause-span : goal.meet_within-requires-clause-span
meet_within-requires-clause-span c = whole c.args.these.now (length c.args.these.now) refl
