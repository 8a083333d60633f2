use Rattle.std.proofs.Common.{List, ℕ, ◌∙◌, sym, ap}
use Rattle.rbbi_model.specs.UnitAnswers.{place_from}
use Rattle.rbbi_c.specs.Ranges.{columns}
use Rattle.rbbi_c.proofs.Ranged.{are_listed, lists_before}
use Rattle.rbbi_c.proofs.listing.list_before.Goals as goal

pub returns-clause-listed : goal.returns-clause-listed
returns-clause-listed g c =
    let old = c.args.session.now in
    lists_before old c.find_before.new.session c.args.unit c.args.from c.args.to c.place_from-before.result c.place_from-first.result c.find_before.result
    c.no_earlier-latest.result (columns c.args.places.now c.args.statuses.now) (columns c.list_back-listing.new.places c.list_back-listing.new.statuses)
    c.list_back-listing.result c.find_before.ensures.same
    (c.place_from-before.ensures ∙ ap (λ (x : List ℕ). place_from c.args.unit x c.args.from) c.text.ensures)
    (c.place_from-first.ensures ∙ ap (λ (x : List ℕ). place_from c.args.unit x c.args.to) c.text-2.ensures)
    c.find_before.ensures.found.found_at c.no_earlier-latest.ensures.place c.list_back-listing.ensures.listed

pub list_back-listing-requires : goal.list_back-listing-requires
list_back-listing-requires g c =
    are_listed c.args.session.now c.find_before.new.session.table c.args.unit c.find_before.new.session.state.text c.find_before.result
    c.no_earlier-latest.result (sym c.find_before.ensures.same.table_is) c.find_before.ensures.same.text_is c.no_earlier-latest.ensures.same
    c.find_before.ensures.found.are
