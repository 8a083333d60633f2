use Rattle.std.proofs.Common.{◌<◌, ◌≤◌, ◌+◌, List, length, Option, Some, None, sym, ap, ◌∙◌, subst, arith}
use Rattle.rbbi_model.specs.Boundaries.{Boundary}
use Rattle.rbbi_c.specs.Ranges.{Columns, columns}
use Rattle.rbbi_c.specs.declared.bounds.Bound.{Bound}
use Rattle.rbbi_c.specs.inner.Bounds.{IsBound, up_to}
use Rattle.rbbi_c.proofs.Listed.{AreWritten, written_none, written_all, written_full, fewer_left}
use Rattle.rbbi_c.proofs.Ranged.{left, past, left_past, is_bound, are_kept, written_on, written_in}
use Rattle.rbbi_c.proofs.listing.list_on.Given.{Over}
use Rattle.rbbi_c.proofs.listing.list_on.Goals as goal

-- the next boundary is written, and what is left follows it
more : (g : Over) (c : goal.After-no_later-next g)
    → AreWritten (left c.args.table.now c.args.unit c.args.text.now (past c.args.table.now c.args.unit c.args.text.now c.args.last) c.args.first) c.args.from
    (columns c.args.places.now c.args.statuses.now) (columns c.write_at.new.room c.write_at-in-boundaries.new.room) (c.boundaries.count + 1)
    c.in-Some.bound.offset
    (left c.args.table.now c.args.unit c.args.text.now (past c.args.table.now c.args.unit c.args.text.now c.args.last) c.no_later-next.result)
more g c =
    let table = c.args.table.now in let unit = c.args.unit in let x = c.args.text.now in
    let all : List Boundary = left table unit x (past table unit x c.args.last) c.args.first in
    let before : Columns = columns c.args.places.now c.args.statuses.now in
    let now : Columns = columns c.boundaries.places c.boundaries.statuses in
    let is : IsBound table unit x c.in-Some.bound = is_bound table unit x c.boundaries.next c.in-Some.bound c.in-Some.is c.boundaries.invariant.next in
    let room : c.boundaries.count < length c.args.places.now = omega (arith, c.if-count-places.false, c.boundaries.auto.places) in
    let so_far = subst (λ (n : Option Bound). AreWritten all c.args.from before now c.boundaries.count c.boundaries.resume
    (left table unit x (past table unit x c.args.last) n)) c.in-Some.is c.boundaries.invariant.written in
    let goes_on = left_past table unit x c.args.last c.in-Some.bound.at c.no_later-next.result
    (c.no_later-next.ensures.place ∙ ap (up_to c.args.last) c.next_on-found.ensures.found.found_at) in
    written_in all c.args.from before _ _ _ _ _ _ c.write_at.ensures c.write_at-in-boundaries.ensures
    (written_on table unit x (past table unit x c.args.last) all c.args.from before now c.boundaries.count c.boundaries.resume c.in-Some.bound _ is so_far
    room goes_on)

pub boundaries-init : goal.boundaries-init
boundaries-init g c = record { fit = c.requires.fit; stretch = c.around-stretch.ensures c.args.unit; next = c.requires.first; written = written_none _ _ _ }

pub boundaries-preserved : goal.boundaries-preserved
boundaries-preserved g c = record {
  fit = c.next_on-found.ensures.fit ∙ c.boundaries.invariant.fit;
  stretch = c.next_on-found.ensures.stretch;
  next = are_kept c.args.table.now c.args.unit c.args.text.now c.next_on-found.result c.no_later-next.result c.no_later-next.ensures.same
      c.next_on-found.ensures.found.are;
  written = more g c;
}

pub boundaries-smaller : goal.boundaries-smaller
boundaries-smaller g c = fewer_left _ _ _ _ _ _ _ _ _ _ c.boundaries.invariant.written (more g c)

pub next_on-found-requires-clause-bound : goal.next_on-found-requires-clause-bound
next_on-found-requires-clause-bound g c =
    is_bound c.args.table.now c.args.unit c.args.text.now c.boundaries.next c.in-Some.bound c.in-Some.is c.boundaries.invariant.next

pub next_on-found-requires-clause-fit : goal.next_on-found-requires-clause-fit
next_on-found-requires-clause-fit g c = c.boundaries.invariant.fit

pub returns-in-None-clause-listed : goal.returns-in-None-clause-listed
returns-in-None-clause-listed g c =
    let table = c.args.table.now in let unit = c.args.unit in let x = c.args.text.now in
    let all : List Boundary = left table unit x (past table unit x c.args.last) c.args.first in
    let before : Columns = columns c.args.places.now c.args.statuses.now in
    let now : Columns = columns c.boundaries.places c.boundaries.statuses in
    written_all all c.args.from before now c.boundaries.count c.boundaries.resume
    (subst (λ (n : Option Bound). AreWritten all c.args.from before now c.boundaries.count c.boundaries.resume
    (left table unit x (past table unit x c.args.last) n)) c.in-None.is c.boundaries.invariant.written)

pub returns-in-None-clause-fit : goal.returns-in-None-clause-fit
returns-in-None-clause-fit g c = c.boundaries.invariant.fit ∙ sym c.requires.fit

pub returns-then-count-places-clause-listed : goal.returns-then-count-places-clause-listed
returns-then-count-places-clause-listed g c =
    let table = c.args.table.now in let unit = c.args.unit in let x = c.args.text.now in
    let all : List Boundary = left table unit x (past table unit x c.args.last) c.args.first in
    let before : Columns = columns c.args.places.now c.args.statuses.now in
    let now : Columns = columns c.boundaries.places c.boundaries.statuses in
    let full : length c.args.places.now ≤ c.boundaries.count = omega (arith, c.if-count-places.true, c.boundaries.auto.places) in
    written_full all c.args.from before now c.boundaries.count c.boundaries.resume _ _
    (subst (λ (n : Option Bound). AreWritten all c.args.from before now c.boundaries.count c.boundaries.resume
    (left table unit x (past table unit x c.args.last) n)) c.in-Some.is c.boundaries.invariant.written) full

pub returns-then-count-places-clause-fit : goal.returns-then-count-places-clause-fit
returns-then-count-places-clause-fit g c = c.boundaries.invariant.fit ∙ sym c.requires.fit
