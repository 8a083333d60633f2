use Rattle.std.proofs.Common.{◌+◌, ◌<◌, ◌∷◌, length, map, drop, ap, subst, arith, rules}
use Rattle.std.proofs.lemmas.List.{drop_all}
use Rattle.std.proofs.lemmas.Result.{err_from_is_err_and}
use Rattle.rbbi_model.specs.Lines.{all_reply_lines}
use Rattle.rbbi_script.specs.Meaning.{meaning}
use Rattle.rbbi_script.specs.Performing.{replies_of}
use Rattle.rbbi_io.specs.Sinks.{Takes, TakesFront}
use Rattle.rbbi_tool.proofs.Emitting.{put_end, put_refused, put_stays}
use Rattle.rbbi_tool.proofs.Replying.{AreReplied, replied_none, replied_more, replied_flushed, next_left, one_paid, all_paid, mapped_left}
use Rattle.rbbi_tool.proofs.replies.put_replies_of.Given.{Over}
use Rattle.rbbi_tool.proofs.replies.put_replies_of.Goals as goal
use Rattle.rbbi_tool.proofs.replies.put_replies_of.Goals.{After-perform_by}

-- the commands from this one on aren't performed yet
left : (g : Over) (c : After-perform_by g) → AreReplied g.S.Walk.view c.args.session.now (map meaning c.args.commands.now)
    (meaning c.get.result.now ∷ map meaning (drop (c.loop-i.i + 1) c.args.commands.now)) c.loop-i.session (g.K.Sink.taken c.args.out.now)
    (g.K.Sink.taken c.loop-i.out) c.loop-i.made.items c.args.steps.now c.loop-i.steps
left g c =
    let within : c.loop-i.i < length c.args.commands.now = omega (arith, c.loop-i-test.true, c.len-i-end.ensures) in
    next_left g.S.Walk.view _ _ _ _ _ _ _ _ _ _ (mapped_left meaning c.args.commands.now c.loop-i.i c.get.result.now within c.get.ensures)
    c.loop-i.invariant.replied

pub loop-i-init : goal.loop-i-init
loop-i-init g c = record {
  replied = replied_none g.S.Walk.view _ (map meaning c.args.commands.now) _ _ c.args.steps.now c.new-made.ensures.items;
  faults = search rules;
}

pub loop-i-preserved : goal.loop-i-preserved
loop-i-preserved g c = record {
  replied =
      replied_flushed g.S.Walk.view _ _ _ _ _ _ _ _ _ _ _
      (replied_more g.S.Walk.view _ _ c.laws.ensures.recall _ _ _ _ _ _ (meaning c.get.result.now) _ (left g (goal.at.loop-i-preserved g c).After-perform_by)
      _ _ _ _ c.in_ok-perform_by.ensures.replies c.perform_by.ensures.cost c.perform_by.ensures.reads)
      c.in_ok-put_when_full.ensures.ok;
  faults = search rules;
}

pub returns-in_err-perform_by : goal.returns-in_err-perform_by
returns-in_err-perform_by g c =
    let ended = err_from_is_err_and c.from_residual.result c.from_residual.ensures.1 in
    rw ended.1 (record {
      ok = tt;
      err = put_stays _ _ _ _ _ c.loop-i.invariant.replied.put;
      faults = search rules;
      failed = search rules;
      steps = one_paid g.S.Walk.view _ _ c.laws.ensures.recall _ _ _ _ _ _ (meaning c.get.result.now) _
          (left g (goal.at.returns-in_err-perform_by g c).After-perform_by) c.perform_by.new.session _ _ c.perform_by.ensures.cost c.perform_by.ensures.reads;
    })

pub returns-in_err-put_when_full : goal.returns-in_err-put_when_full
returns-in_err-put_when_full g c =
    let ended = err_from_is_err_and c.from_residual-in_err-put_when_full.result c.from_residual-in_err-put_when_full.ensures.1 in
    let replied = replied_more g.S.Walk.view _ _ c.laws.ensures.recall _ _ _ _ _ _ (meaning c.get.result.now) _
    (left g (goal.at.returns-in_err-put_when_full g c).After-perform_by) c.perform_by.new.session c.perform_by.new.steps _ _
    c.in_ok-perform_by.ensures.replies c.perform_by.ensures.cost c.perform_by.ensures.reads in
    rw ended.1 (record {
      ok = tt;
      err = put_refused _ _ _ _ _ replied.put _ c.in_err-put_when_full.ensures.err;
      faults = search rules;
      failed = search rules;
      steps = all_paid g.S.Walk.view _ _ _ _ _ _ _ _ _ replied;
    })

pub returns-in_err-put_all : goal.returns-in_err-put_all
returns-in_err-put_all g c =
    let ended = err_from_is_err_and c.from_residual-in_err-put_all.result c.from_residual-in_err-put_all.ensures.1 in
    rw ended.1 (record {
      ok = tt;
      err = put_refused _ _ _ _ _ c.loop-i.invariant.replied.put _
          (subst (λ w. TakesFront (g.K.Sink.taken c.loop-i.out) (g.K.Sink.taken c.put_all.new.out) w) c.deref.ensures.value c.in_err-put_all.ensures.err);
      faults = search rules;
      failed = search rules;
      steps = all_paid g.S.Walk.view _ _ _ _ _ _ _ _ _ c.loop-i.invariant.replied;
    })

pub returns : goal.returns
returns g c = record {
  ok = put_end _ _ _ _ _ c.loop-i.invariant.replied.put
      (ap (λ cs. all_reply_lines (replies_of g.S.Walk.view c.loop-i.session (map meaning cs)))
      (drop_all c.loop-i.i c.args.commands.now (omega (arith, c.loop-i-test.false, c.len-i-end.ensures))))
      _
      (subst (λ w. Takes (g.K.Sink.taken c.loop-i.out) (g.K.Sink.taken c.put_all.new.out) w) c.deref.ensures.value c.in_ok-put_all.ensures.ok);
  err = tt;
  faults = search rules;
  failed = search rules;
  steps = all_paid g.S.Walk.view _ _ _ _ _ _ _ _ _ c.loop-i.invariant.replied;
}
