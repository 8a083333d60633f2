use Rattle.std.proofs.Common.{◌≡◌, ℕ, ◌+◌, ◌<◌, List, ◌++◌, length, sym, ap, ◌∙◌, subst, arith, rules}
use Rattle.std.proofs.lemmas.Result.{err_from_is_err_and}
use Rattle.rbbi_model.specs.Boundaries.{start}
use Rattle.rbbi_model.specs.Lines.{boundary_line}
use Rattle.rbbi_model.specs.Tables.{statuses_of}
use Rattle.rbbi_model.specs.Searches.{next_boundary}
use Rattle.rbbi_model.specs.Units.{offset_of}
use Rattle.rbbi_model.specs.Costs.{breaks_cost}
use Rattle.rbbi_text.specs.Steps.{RisesUpTo}
use Rattle.rbbi_io.specs.Sinks.{Takes, TakesFront}
use Rattle.rbbi_session.proofs.Reaching.{found_within}
use Rattle.rbbi_tool.proofs.Emitting.{put_refused, put_stays}
use Rattle.rbbi_tool.proofs.Listing.{AreListedTo, measured_one, line_in, lines_in, measured_each, listed_start, listed_more, listed_flushed, all_listed}
use Rattle.rbbi_tool.proofs.Searched.{AreSearchedTo, searched_none, searched_more, one_search, searched_alone}
use Rattle.rbbi_tool.proofs.boundaries.put_unit_boundaries.Given.{Over}
use Rattle.rbbi_tool.proofs.boundaries.put_unit_boundaries.Goals as goal
use Rattle.rbbi_tool.proofs.boundaries.put_unit_boundaries.Goals.{After-next-found, After-advance}

inside : (g : Over) (c : After-next-found g) → c.loop-at.at < length (g.T.Chars.characters c.args.text.now)
inside g c = omega (arith, c.loop-at-test.true, c.len.ensures.exact)

-- the offset of the boundary that was found
offset_is : (g : Over) (c : After-advance g) → c.advance.new.self ≡ offset_of c.args.unit (g.T.Chars.characters c.args.text.now) c.next-found.result.at
offset_is g c = c.advance.ensures ∙ ap (λ n. n + c.units_between-units.result) c.loop-at.invariant.offset_is ∙ c.units_between-units.ensures.sum

-- it is listed
listed : (g : Over) (c : After-advance g) (made : List ℕ)
    → made ≡ c.loop-at.made.items
    ++ boundary_line (record { at = c.advance.new.self; statuses = statuses_of c.args.table.now c.next-found.result.status })
    → AreListedTo (lines_in c.args.unit (g.T.Chars.characters c.args.text.now)) c.args.table.now (g.T.Chars.characters c.args.text.now)
    (g.K.Sink.taken c.args.out.now) (g.K.Sink.taken c.loop-at.out) made c.next-found.result.at
listed g c made pushed =
    let table = c.args.table.now in
    let unit = c.args.unit in
    let x = g.T.Chars.characters c.args.text.now in
    let within : c.loop-at.at < length x = omega (arith, c.loop-at-test.true, c.len.ensures.exact) in
    let found : record { at = c.advance.new.self; statuses = statuses_of table c.next-found.result.status }
    ≡ measured_one unit x (next_boundary table x c.loop-at.at) = λ i. record {
      at = (offset_is g c ∙ ap (offset_of unit x) c.next-found.ensures.at) i;
      statuses = ap (statuses_of table) c.next-found.ensures.status i;
    } in
    listed_more (line_in unit x) (lines_in unit x) (measured_each unit x) table x _ _ _ _ c.loop-at.at c.next-found.result.at
    c.loop-at.invariant.listed within (c.next_boundary_is_past_the_start.ensures table x c.loop-at.at within) c.next-found.ensures.at
    (pushed ∙ ap (λ b. c.loop-at.made.items ++ boundary_line b) found)

-- and what was read for it is counted
searched : (g : Over) (c : After-next-found g)
    → AreSearchedTo c.args.table.now (g.T.Chars.characters c.args.text.now) 0 c.next-found.result.at c.args.steps.now c.next-found.new.steps
searched g c =
    let table = c.args.table.now in
    let x = g.T.Chars.characters c.args.text.now in
    searched_more table x 0 c.loop-at.at c.next-found.result.at c.args.steps.now c.loop-at.steps c.next-found.new.steps c.valid.ensures
    c.anchors_are_stored.ensures c.anchors_lead_to_the_boundaries.ensures c.loop-at.invariant.read (inside g c)
    (c.next_boundary_is_past_the_start.ensures table x c.loop-at.at (inside g c)).0 c.next-found.ensures.at
    (one_search _ _ _ c.next-found.ensures.read)

paid : (g : Over) (c : After-next-found g) → RisesUpTo (breaks_cost c.args.table.now (g.T.Chars.characters c.args.text.now) 0) c.args.steps.now c.next-found.new.steps
paid g c = searched_alone c.args.table.now (g.T.Chars.characters c.args.text.now) c.next-found.result.at c.args.steps.now c.next-found.new.steps (searched g c)

pub loop-at-init : goal.loop-at-init
loop-at-init g c = record {
  listed = listed_start (line_in c.args.unit (g.T.Chars.characters c.args.text.now)) (lines_in c.args.unit (g.T.Chars.characters c.args.text.now)) (measured_each c.args.unit (g.T.Chars.characters c.args.text.now))
      c.args.table.now (g.T.Chars.characters c.args.text.now) _ c.say_bound.new.reply.items (c.in_ok-say_bound.ensures ∙ ap (λ l. l ++ boundary_line start) c.new-made.ensures.items);
  offset_is = c.new-offset.ensures;
  faults = search rules;
  fit = c.in_ok-marks.ensures;
  read = searched_none c.args.table.now (g.T.Chars.characters c.args.text.now) 0 c.args.steps.now;
}

pub say_listed-requires : goal.say_listed-requires
say_listed-requires g c = record {
  ends = c.deref.ensures.value ∙ c.in_ok-ends.ensures;
  within = subst (λ n. n < length c.args.table.now.lists) (sym c.next-found.ensures.status)
      (found_within c.args.table.now c.valid.ensures (g.T.Chars.characters c.args.text.now) c.loop-at.at);
}

-- what the next search finds, in the text
pub units_between-units-requires : goal.units_between-units-requires
units_between-units-requires g c =
    let inside : c.loop-at.at < length (g.T.Chars.characters c.args.text.now) = omega (arith, c.loop-at-test.true, c.len.ensures.exact) in
    let past = c.next_boundary_is_past_the_start.ensures c.args.table.now (g.T.Chars.characters c.args.text.now) c.loop-at.at inside in
    record { forward = omega (arith, past.0, c.next-found.ensures.at); within = omega (arith, past.1, c.next-found.ensures.at) }

pub advance-requires : goal.advance-requires
advance-requires g c = omega (arith, c.loop-at.invariant.offset_is, c.units_between-units.ensures.sum, c.units_between-units.ensures.small)

pub loop-at-preserved : goal.loop-at-preserved
loop-at-preserved g c =
    let here = (goal.at.loop-at-preserved g c).After-advance in
    record {
      listed = listed_flushed _ _ _ _ _ _ _ _ _ (listed g here _ c.in_ok-say_listed.ensures) c.in_ok-put_when_full.ensures.ok;
      offset_is = offset_is g here;
      faults = search rules;
      fit = c.next-found.ensures.fit ∙ c.loop-at.invariant.fit;
      read = searched g (goal.at.loop-at-preserved g c).After-next-found;
    }

pub returns-in_err-say_listed : goal.returns-in_err-say_listed
returns-in_err-say_listed g c =
    let ended = err_from_is_err_and c.from_residual-in_err-say_listed.result c.from_residual-in_err-say_listed.ensures.1 in
    rw ended.1 (record {
      ok = tt;
      err = put_stays _ _ _ _ _ c.loop-at.invariant.listed.put;
      faults = search rules;
      failed = search rules;
      steps = paid g (goal.at.returns-in_err-say_listed g c).After-next-found;
    })

pub returns-in_err-put_when_full : goal.returns-in_err-put_when_full
returns-in_err-put_when_full g c =
    let ended = err_from_is_err_and c.from_residual-in_err-put_when_full.result c.from_residual-in_err-put_when_full.ensures.1 in
    rw ended.1 (record {
      ok = tt;
      err = put_refused _ _ _ _ _ (listed g (goal.at.returns-in_err-put_when_full g c).After-advance _ c.in_ok-say_listed.ensures).put _
          c.in_err-put_when_full.ensures.err;
      faults = search rules;
      failed = search rules;
      steps = paid g (goal.at.returns-in_err-put_when_full g c).After-next-found;
    })

pub returns-in_err-put_all : goal.returns-in_err-put_all
returns-in_err-put_all g c =
    let ended = err_from_is_err_and c.from_residual-in_err-put_all.result c.from_residual-in_err-put_all.ensures.1 in
    rw ended.1 (record {
      ok = tt;
      err = put_refused _ _ _ _ _ c.loop-at.invariant.listed.put _
          (subst (λ w. TakesFront (g.K.Sink.taken c.loop-at.out) (g.K.Sink.taken c.put_all.new.out) w) c.deref-2.ensures.value c.in_err-put_all.ensures.err);
      faults = search rules;
      failed = search rules;
      steps = searched_alone c.args.table.now (g.T.Chars.characters c.args.text.now) c.loop-at.at c.args.steps.now c.loop-at.steps c.loop-at.invariant.read;
    })

pub returns : goal.returns
returns g c = record {
  ok = all_listed (line_in c.args.unit (g.T.Chars.characters c.args.text.now)) (lines_in c.args.unit (g.T.Chars.characters c.args.text.now)) (measured_each c.args.unit (g.T.Chars.characters c.args.text.now))
      c.args.table.now (g.T.Chars.characters c.args.text.now) _ _ _ _ _ c.loop-at.invariant.listed (omega (arith, c.loop-at-test.false, c.len.ensures.exact))
      (subst (λ w. Takes (g.K.Sink.taken c.loop-at.out) (g.K.Sink.taken c.put_all.new.out) w) c.deref-2.ensures.value c.in_ok-put_all.ensures.ok);
  err = tt;
  faults = search rules;
  failed = search rules;
  steps = searched_alone c.args.table.now (g.T.Chars.characters c.args.text.now) c.loop-at.at c.args.steps.now c.loop-at.steps c.loop-at.invariant.read;
}
