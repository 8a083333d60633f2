use Rattle.std.proofs.Common.{◌/◌, ◌%◌, get_or, ap, sym, ◌∙◌, eqb}
use Rattle.std.proofs.lemmas.Nat.Bits.{shr_and_one}
use Rattle.rbbi_model.proofs.Bits.{has_bit_is}
use Rattle.rbbi_table.proofs.bits.has_stored.Goals as goal

pub returns : goal.returns
returns c =
    let byte = get_or c.args.bytes.now (c.args.bit / 8) 0 in
    ap (λ n. eqb n 1) (shr_and_one byte (c.args.bit % 8)) ∙ sym (has_bit_is byte (c.args.bit % 8))
