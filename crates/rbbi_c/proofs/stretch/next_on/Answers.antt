use Rattle.std.proofs.Common.{length}
use Rattle.rbbi_session.proofs.Answering.{none_past, place_within}
use Rattle.rbbi_model.specs.Searches.{table_boundaries}
use Rattle.rbbi_c.proofs.Ranged.{is_bound}
use Rattle.rbbi_c.proofs.stretch.next_on.Goals as goal

pub around-requires : goal.around-requires
around-requires g c =
    let table = c.args.table.now in let x = c.args.text.now in
    let bound = is_bound table c.args.unit x c.next_bound-found.result c.in-Some.next c.in-Some.is c.next_bound-found.ensures.found.are in
    place_within (table_boundaries table x) c.in-Some.next.at (length x) (none_past table x) bound.is_place
