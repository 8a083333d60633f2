use Rattle.std.proofs.Common.{◌<◌, ◌≤◌, ◌+◌, List, length, Option, Some, None, ap, ◌∙◌, subst, refl, arith}
use Rattle.rbbi_model.specs.Boundaries.{Boundary}
use Rattle.rbbi_model.specs.Searches.{table_boundaries}
use Rattle.rbbi_model.specs.Answers.{last_before}
use Rattle.rbbi_c.specs.Ranges.{Columns, columns}
use Rattle.rbbi_c.specs.declared.bounds.Bound.{Bound}
use Rattle.rbbi_c.specs.inner.Bounds.{IsBound, Finds, down_to}
use Rattle.rbbi_c.proofs.Listed.{AreWritten, written_none, written_all, written_full, fewer_left}
use Rattle.rbbi_c.proofs.Ranged.{left, before as before_from, left_before, found_before, is_bound, are_kept, written_on, written_in}
use Rattle.rbbi_c.proofs.listing.list_back.Given.{Over}
use Rattle.rbbi_c.proofs.listing.list_back.Goals as goal

-- what is found is found in the session's text
found : (g : Over) (c : goal.After-no_earlier-next g)
    → Finds c.args.session.now.table c.args.unit c.args.session.now.state.text
    (last_before (table_boundaries c.args.session.now.table c.args.session.now.state.text) c.in-Some.bound.at) c.find_before.result
found g c =
    found_before c.args.session.now c.boundaries.session c.args.unit (λ t x. last_before (table_boundaries t x) c.in-Some.bound.at) c.find_before.result
    c.boundaries.invariant.same c.find_before.ensures.found

-- the next boundary is written, and what is left follows it
more : (g : Over) (c : goal.After-no_earlier-next g)
    → AreWritten (left c.args.session.now.table c.args.unit c.args.session.now.state.text (before_from c.args.session.now.table c.args.unit c.args.session.now.state.text c.args.first) c.args.latest) c.args.from
    (columns c.args.places.now c.args.statuses.now) (columns c.write_at.new.room c.write_at-in-boundaries.new.room) (c.boundaries.count + 1)
    c.in-Some.bound.offset
    (left c.args.session.now.table c.args.unit c.args.session.now.state.text (before_from c.args.session.now.table c.args.unit c.args.session.now.state.text c.args.first) c.no_earlier-next.result)
more g c =
    let table = c.args.session.now.table in let unit = c.args.unit in let x = c.args.session.now.state.text in
    let all : List Boundary = left table unit x (before_from table unit x c.args.first) c.args.latest in
    let before : Columns = columns c.args.places.now c.args.statuses.now in
    let now : Columns = columns c.boundaries.places c.boundaries.statuses in
    let is : IsBound table unit x c.in-Some.bound = is_bound table unit x c.boundaries.next c.in-Some.bound c.in-Some.is c.boundaries.invariant.next in
    let room : c.boundaries.count < length c.args.places.now = omega (arith, c.if-count-places.false, c.boundaries.auto.places) in
    let so_far = subst (λ (n : Option Bound). AreWritten all c.args.from before now c.boundaries.count c.boundaries.resume
    (left table unit x (before_from table unit x c.args.first) n)) c.in-Some.is c.boundaries.invariant.written in
    let goes_on = left_before table unit x c.args.first c.in-Some.bound.at c.no_earlier-next.result
    (c.no_earlier-next.ensures.place ∙ ap (down_to c.args.first) (found g c).found_at) in
    written_in all c.args.from before _ _ _ _ _ _ c.write_at.ensures c.write_at-in-boundaries.ensures
    (written_on table unit x (before_from table unit x c.args.first) all c.args.from before now c.boundaries.count c.boundaries.resume c.in-Some.bound _ is so_far
    room goes_on)

pub boundaries-init : goal.boundaries-init
boundaries-init g c = record { same = record { table_is = refl; text_is = refl }; next = c.requires; written = written_none _ _ _ }

pub boundaries-preserved : goal.boundaries-preserved
boundaries-preserved g c = record {
  same = record {
    table_is = c.find_before.ensures.same.table_is ∙ c.boundaries.invariant.same.table_is;
    text_is = c.find_before.ensures.same.text_is ∙ c.boundaries.invariant.same.text_is;
  };
  next = are_kept c.args.session.now.table c.args.unit c.args.session.now.state.text c.find_before.result c.no_earlier-next.result
      c.no_earlier-next.ensures.same (found g c).are;
  written = more g c;
}

pub boundaries-smaller : goal.boundaries-smaller
boundaries-smaller g c = fewer_left _ _ _ _ _ _ _ _ _ _ c.boundaries.invariant.written (more g c)

pub returns-in-None-clause-listed : goal.returns-in-None-clause-listed
returns-in-None-clause-listed g c =
    let table = c.args.session.now.table in let unit = c.args.unit in let x = c.args.session.now.state.text in
    let all : List Boundary = left table unit x (before_from table unit x c.args.first) c.args.latest in
    let before : Columns = columns c.args.places.now c.args.statuses.now in
    let now : Columns = columns c.boundaries.places c.boundaries.statuses in
    written_all all c.args.from before now c.boundaries.count c.boundaries.resume
    (subst (λ (n : Option Bound). AreWritten all c.args.from before now c.boundaries.count c.boundaries.resume
    (left table unit x (before_from table unit x c.args.first) n)) c.in-None.is c.boundaries.invariant.written)

pub returns-in-None-clause-same : goal.returns-in-None-clause-same
returns-in-None-clause-same g c = c.boundaries.invariant.same

pub returns-then-count-places-clause-listed : goal.returns-then-count-places-clause-listed
returns-then-count-places-clause-listed g c =
    let table = c.args.session.now.table in let unit = c.args.unit in let x = c.args.session.now.state.text in
    let all : List Boundary = left table unit x (before_from table unit x c.args.first) c.args.latest in
    let before : Columns = columns c.args.places.now c.args.statuses.now in
    let now : Columns = columns c.boundaries.places c.boundaries.statuses in
    let full : length c.args.places.now ≤ c.boundaries.count = omega (arith, c.if-count-places.true, c.boundaries.auto.places) in
    written_full all c.args.from before now c.boundaries.count c.boundaries.resume _ _
    (subst (λ (n : Option Bound). AreWritten all c.args.from before now c.boundaries.count c.boundaries.resume
    (left table unit x (before_from table unit x c.args.first) n)) c.in-Some.is c.boundaries.invariant.written) full

pub returns-then-count-places-clause-same : goal.returns-then-count-places-clause-same
returns-then-count-places-clause-same g c = c.boundaries.invariant.same
