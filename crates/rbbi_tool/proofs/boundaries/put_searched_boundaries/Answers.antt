use Rattle.std.proofs.Common.{◌≡◌, ◌<◌, ◌++◌, length, sym, ap, ◌∙◌, subst, arith, rules}
use Rattle.std.proofs.lemmas.Result.{err_from_is_err_and}
use Rattle.rbbi_model.specs.Boundaries.{start}
use Rattle.rbbi_model.specs.Tables.{statuses_of}
use Rattle.rbbi_model.specs.Searches.{next_boundary}
use Rattle.rbbi_model.specs.Lines.{boundary_line}
use Rattle.rbbi_filter.specs.FilterCosts.{reporting_cost}
use Rattle.rbbi_io.specs.Sinks.{Takes, TakesFront}
use Rattle.rbbi_session.proofs.Reaching.{found_within}
use Rattle.rbbi_tool.specs.inner.Filters.{reported_line, reported_lines}
use Rattle.rbbi_tool.proofs.Emitting.{put_refused}
use Rattle.rbbi_tool.proofs.Listing.{AreListedTo, listed_start, listed_more, listed_flushed, all_listed}
use Rattle.rbbi_tool.proofs.Searched.{AreSearchedTo, searched_none, searched_more, all_searched}
use Rattle.rbbi_tool.proofs.ReportedLines.{line_reported, reported_each, start_reported}
use Rattle.rbbi_tool.proofs.boundaries.put_searched_boundaries.Given.{Over}
use Rattle.rbbi_tool.proofs.boundaries.put_searched_boundaries.Goals as goal
use Rattle.rbbi_tool.proofs.boundaries.put_searched_boundaries.Goals.{After-put_if_reported}

-- the boundary that was found is listed
listed : (g : Over) (c : After-put_if_reported g) → AreListedTo (reported_lines c.args.filter.now (g.T.Chars.characters c.args.text.now)) c.args.table.now
    (g.T.Chars.characters c.args.text.now) (g.K.Sink.taken c.args.out.now) (g.K.Sink.taken c.loop-at.out)
    (c.loop-at.made.items
    ++ reported_line c.args.filter.now (g.T.Chars.characters c.args.text.now) c.next-found.result.at c.status_list-statuses.result.now) c.next-found.result.at
listed g c =
    let table = c.args.table.now in
    let filter = c.args.filter.now in
    let x = g.T.Chars.characters c.args.text.now in
    let inside : c.loop-at.at < length x = omega (arith, c.loop-at-test.true, c.len.ensures.exact) in
    let found : record { at = c.next-found.result.at; statuses = c.status_list-statuses.result.now } ≡ next_boundary table x c.loop-at.at = λ i. record {
      at = c.next-found.ensures.at i;
      statuses = (c.status_list-statuses.ensures ∙ ap (statuses_of table) c.next-found.ensures.status) i;
    } in
    listed_more (line_reported filter x) (reported_lines filter x) (reported_each filter x) table x _ _ _ _ c.loop-at.at c.next-found.result.at
    c.loop-at.invariant.listed inside (c.next_boundary_is_past_the_start.ensures table x c.loop-at.at inside) c.next-found.ensures.at
    (ap (λ b. c.loop-at.made.items ++ line_reported filter x b) found)

-- and what was read for it is counted
searched : (g : Over) (c : After-put_if_reported g) → AreSearchedTo c.args.table.now (g.T.Chars.characters c.args.text.now) (reporting_cost c.args.filter.now)
    c.next-found.result.at c.args.steps.now c.put_if_reported.new.steps
searched g c =
    let table = c.args.table.now in
    let x = g.T.Chars.characters c.args.text.now in
    let inside : c.loop-at.at < length x = omega (arith, c.loop-at-test.true, c.len.ensures.exact) in
    searched_more table x (reporting_cost c.args.filter.now) c.loop-at.at c.next-found.result.at c.args.steps.now c.loop-at.steps c.put_if_reported.new.steps
    c.valid.ensures c.anchors_are_stored.ensures c.anchors_lead_to_the_boundaries.ensures c.loop-at.invariant.read inside
    (c.next_boundary_is_past_the_start.ensures table x c.loop-at.at inside).0 c.next-found.ensures.at (record {
      more = omega (arith, c.next-found.ensures.read, c.put_if_reported.ensures.steps.more);
      cost = omega (arith, c.next-found.ensures.read, c.put_if_reported.ensures.steps.cost);
    })

pub loop-at-init : goal.loop-at-init
loop-at-init g c =
    let filter = c.args.filter.now in
    let x = g.T.Chars.characters c.args.text.now in
    record {
      listed = listed_start (line_reported filter x) (reported_lines filter x) (reported_each filter x) c.args.table.now x _ c.say_bound.new.reply.items
          (c.in_ok-say_bound.ensures ∙ ap (λ l. l ++ boundary_line start) c.new-made.ensures.items ∙ start_reported filter x);
      faults = search rules;
      fit = c.in_ok-marks.ensures;
      read = searched_none c.args.table.now x (reporting_cost filter) c.args.steps.now;
    }

pub status_list-statuses-requires : goal.status_list-statuses-requires
status_list-statuses-requires g c =
    subst (λ n. n < length c.args.table.now.lists) (sym c.next-found.ensures.status)
    (found_within c.args.table.now c.valid.ensures (g.T.Chars.characters c.args.text.now) c.loop-at.at)

pub loop-at-preserved : goal.loop-at-preserved
loop-at-preserved g c =
    let here = (goal.at.loop-at-preserved g c).After-put_if_reported in
    record {
      listed = listed_flushed _ _ _ _ _ _ _ _ _ (listed g here) c.in_ok-put_if_reported.ensures.ok;
      faults = search rules;
      fit = c.next-found.ensures.fit ∙ c.loop-at.invariant.fit;
      read = searched g here;
    }

pub returns-in_err-put_if_reported : goal.returns-in_err-put_if_reported
returns-in_err-put_if_reported g c =
    let ended = err_from_is_err_and c.from_residual-in_err-put_if_reported.result c.from_residual-in_err-put_if_reported.ensures.1 in
    let here = (goal.at.returns-in_err-put_if_reported g c).After-put_if_reported in
    rw ended.1 (record {
      ok = tt;
      err = put_refused _ _ _ _ _ (listed g here).put _ c.in_err-put_if_reported.ensures.err;
      faults = search rules;
      failed = search rules;
      steps = all_searched c.args.table.now (g.T.Chars.characters c.args.text.now) (reporting_cost c.args.filter.now) c.next-found.result.at
          c.args.steps.now c.put_if_reported.new.steps (searched g here);
    })

pub returns-in_err-put_all : goal.returns-in_err-put_all
returns-in_err-put_all g c =
    let ended = err_from_is_err_and c.from_residual-in_err-put_all.result c.from_residual-in_err-put_all.ensures.1 in
    rw ended.1 (record {
      ok = tt;
      err = put_refused _ _ _ _ _ c.loop-at.invariant.listed.put _
          (subst (λ w. TakesFront (g.K.Sink.taken c.loop-at.out) (g.K.Sink.taken c.put_all.new.out) w) c.deref.ensures.value c.in_err-put_all.ensures.err);
      faults = search rules;
      failed = search rules;
      steps = all_searched c.args.table.now (g.T.Chars.characters c.args.text.now) (reporting_cost c.args.filter.now) c.loop-at.at c.args.steps.now
          c.loop-at.steps c.loop-at.invariant.read;
    })

pub returns : goal.returns
returns g c =
    let filter = c.args.filter.now in
    let x = g.T.Chars.characters c.args.text.now in
    record {
      ok = all_listed (line_reported filter x) (reported_lines filter x) (reported_each filter x) c.args.table.now x _ _ _ _ _ c.loop-at.invariant.listed
          (omega (arith, c.loop-at-test.false, c.len.ensures.exact))
          (subst (λ w. Takes (g.K.Sink.taken c.loop-at.out) (g.K.Sink.taken c.put_all.new.out) w) c.deref.ensures.value c.in_ok-put_all.ensures.ok);
      err = tt;
      faults = search rules;
      failed = search rules;
      steps = all_searched c.args.table.now x (reporting_cost filter) c.loop-at.at c.args.steps.now c.loop-at.steps c.loop-at.invariant.read;
    }
