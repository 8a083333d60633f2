use Rattle.std.proofs.Common.{ap, sym, ◌∙◌, eqb}
use Rattle.std.proofs.lemmas.Nat.Bits.{shr_and_one}
use Rattle.rbbi_model.proofs.Bits.{has_bit_is}
use Rattle.rbbi_table.proofs.bits.has_front.Goals as goal

pub returns : goal.returns
returns c = ap (λ n. eqb n 1) (shr_and_one c.args.fronts c.args.slash) ∙ sym (has_bit_is c.args.fronts c.args.slash)
