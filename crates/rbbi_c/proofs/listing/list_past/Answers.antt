use Rattle.std.proofs.Common.{List, ℕ, ◌∙◌, sym, subst}
use Rattle.rbbi_model.specs.Boundaries.{Boundary}
use Rattle.rbbi_model.specs.Searches.{table_boundaries}
use Rattle.rbbi_session.specs.inner.UnitPlaces.{IsPlaceUpTo}
use Rattle.rbbi_c.specs.Ranges.{Columns, columns, ListsOut}
use Rattle.rbbi_c.specs.inner.Bounds.{place_of, listed_from}
use Rattle.rbbi_c.proofs.Ranged.{are_listed, lists_past, past, bounds_alike, measured_alike}
use Rattle.rbbi_c.proofs.listing.list_past.Goals as goal

pub list_on-requires-clause-first : goal.list_on-requires-clause-first
list_on-requires-clause-first g c =
    bounds_alike c.text-text.result.now c.args.unit c.simplest-unit.result (λ i. sym (c.simplest-unit.ensures i)) c.args.table.now c.no_later-first.result
    (are_listed c.args.session.now c.args.table.now c.args.unit c.text-text.result.now c.find_past.result c.no_later-first.result c.requires.table
    (c.text-text.ensures ∙ c.go_back.ensures.text ∙ c.find_past.ensures.same.text_is) c.no_later-first.ensures.same c.find_past.ensures.found.are)

pub returns-clause-listed : goal.returns-clause-listed
returns-clause-listed g c =
    let old = c.args.session.now in
    let table = c.args.table.now in
    let x : List ℕ = c.text-text.result.now in
    let room : Columns = columns c.args.places.now c.args.statuses.now in
    let written : Columns = columns c.list_on.new.places c.list_on.new.statuses in
    let all : List Boundary =
    listed_from (table_boundaries table x) (past table c.args.unit x c.place_up_to-last.result) (place_of c.no_later-first.result) in
    lists_past old table c.args.unit x c.args.from c.args.to c.place_up_to-past.result c.place_up_to-last.result c.find_past.result c.no_later-first.result
    room written c.list_on.result c.requires.table (c.text-text.ensures ∙ c.go_back.ensures.text ∙ c.find_past.ensures.same.text_is)
    (subst (λ (y : List ℕ). IsPlaceUpTo c.args.unit y c.args.from c.place_up_to-past.result) c.text.ensures c.place_up_to-past.ensures.up_to)
    (subst (λ (y : List ℕ). IsPlaceUpTo c.args.unit y c.args.to c.place_up_to-last.result) c.text-2.ensures c.place_up_to-last.ensures.up_to)
    c.find_past.ensures.found.found_at c.no_later-first.ensures.place
    (subst (λ (bs : List Boundary). ListsOut bs c.args.from room written c.list_on.result)
    (measured_alike x c.simplest-unit.result c.args.unit c.simplest-unit.ensures all) c.list_on.ensures.listed)
