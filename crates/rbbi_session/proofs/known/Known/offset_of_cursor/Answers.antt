use Rattle.std.proofs.Common.{length, ap, arith}
use Rattle.rbbi_session.proofs.UnitAnswering.{place_in_text}
use Rattle.rbbi_session.proofs.known.Known.offset_of_cursor.Goals as goal

pub offset_from-requires-clause-within : goal.offset_from-requires-clause-within
offset_from-requires-clause-within g c =
    omega (
      arith,
      place_in_text g.W.Walk.view c.laws.ensures.cover c.counts_characters.ensures c.args.asked.now c.current.result c.current.ensures.boundary,
      ap length c.text.ensures,
    )
