use Rattle.std.proofs.Common.{◌+◌, ◌<◌, ◌∷◌, ◌++◌, List, length, map, drop, sym, ap, ◌∙◌, subst, arith, rules}
use Rattle.std.proofs.lemmas.List.{drop_all}
use Rattle.std.proofs.lemmas.Result.{err_from_is_err_and}
use Rattle.rbbi_model.specs.Searches.{table_boundaries}
use Rattle.rbbi_model.specs.Scripts as model
use Rattle.rbbi_script.specs.Meaning.{meaning}
use Rattle.rbbi_text.specs.Steps.{RisesUpTo}
use Rattle.rbbi_io.specs.Sinks.{Takes, TakesFront}
use Rattle.rbbi_tool.specs.Steps.{counting_cost, tally_cost}
use Rattle.rbbi_tool.specs.inner.Tallying.{lines_of, command_lines, commands_lines, tally_lines}
use Rattle.rbbi_tool.proofs.Emitting.{put_end, put_refused, put_stays, takes_nothing}
use Rattle.rbbi_tool.proofs.Replying.{mapped_left}
use Rattle.rbbi_tool.proofs.Telling.{AreTold, told_first, told_more, told_cost, next_told, told_flushed}
use Rattle.rbbi_tool.proofs.tallying.put_tally.Given.{Over}
use Rattle.rbbi_tool.proofs.tallying.put_tally.Goals as goal
use Rattle.rbbi_tool.proofs.tallying.put_tally.Goals.{After-tell}

-- the commands from this one on aren't told yet
left : (g : Over) (c : After-tell g) → AreTold c.args.table.now (tally_lines c.args.table.now c.args.text (map meaning c.args.commands.now))
    (tally_cost c.args.table.now c.args.text (map meaning c.args.commands.now)) c.loop-i.tally.text
    (meaning c.get.result.now ∷ map meaning (drop (c.loop-i.i + 1) c.args.commands.now)) (g.K.Sink.taken c.args.out.now) (g.K.Sink.taken c.loop-i.out)
    c.loop-i.made.items c.args.steps.now c.loop-i.steps
left g c =
    let within : c.loop-i.i < length c.args.commands.now = omega (arith, c.loop-i-test.true, c.len-i-end.ensures) in
    next_told _ _ _ _ _ _ _ _ _ _ _ (mapped_left meaning c.args.commands.now c.loop-i.i c.get.result.now within c.get.ensures) c.loop-i.invariant.told

-- and this is what it reads
read : (g : Over) (c : After-tell g) → RisesUpTo (counting_cost c.args.table.now c.loop-i.tally.text (meaning c.get.result.now)) c.loop-i.steps c.tell.new.steps
read g c =
    subst (λ t. RisesUpTo (counting_cost t c.loop-i.tally.text (meaning c.get.result.now)) c.loop-i.steps c.tell.new.steps) c.loop-i.invariant.table
    c.tell.ensures.cost

pub loop-i-init : goal.loop-i-init
loop-i-init g c =
    let tally = c.in_ok-tally.tally in
    let opened = c.in_ok-tally.ensures.opened in
    let commands : List model.Command = map meaning c.args.commands.now in
    let made = c.in_ok-say_counts.ensures
    ∙ ap (λ m. m ++ lines_of (table_boundaries tally.table tally.text)) c.new-made.ensures.items
    ∙ ap (λ t. lines_of (table_boundaries t tally.text)) opened.0
    ∙ ap (λ y. lines_of (table_boundaries c.args.table.now y)) opened.1 in
    record {
      told = subst (λ y. AreTold c.args.table.now (tally_lines c.args.table.now c.args.text commands) (tally_cost c.args.table.now c.args.text commands) y
          commands (g.K.Sink.taken c.args.out.now) (g.K.Sink.taken c.args.out.now) c.say_counts.new.made.items c.args.steps.now c.«open».new.steps)
          (sym opened.1)
          (told_first c.args.table.now c.args.text commands (g.K.Sink.taken c.args.out.now) c.say_counts.new.made.items c.args.steps.now
          c.«open».new.steps made c.«open».ensures.reads);
      table = opened.0;
      faults = search rules;
    }

pub loop-i-preserved : goal.loop-i-preserved
loop-i-preserved g c =
    let here = (goal.at.loop-i-preserved g c).After-tell in
    let inv = c.loop-i.invariant in
    record {
      told =
          told_flushed _ _ _ _ _ _ _ _ _ _ _ _
          (told_more _ _ _ _ _ _ _ _ _ _ _ _ (left g here) (read g here) c.tell.new.tally.text c.tell.new.made.items c.in_ok-tell.ensures.text
          (c.in_ok-tell.ensures.told ∙ ap (λ t. c.loop-i.made.items ++ command_lines t c.loop-i.tally.text (meaning c.get.result.now)) inv.table))
          c.in_ok-put_when_full.ensures.ok;
      table = c.tell.ensures.table ∙ inv.table;
      faults = search rules;
    }

pub returns-in_err-say_counts : goal.returns-in_err-say_counts
returns-in_err-say_counts g c =
    let ended = err_from_is_err_and c.from_residual-in_err-say_counts.result c.from_residual-in_err-say_counts.ensures.1 in
    rw ended.1 (record {
      ok = tt;
      err = (0, omega arith, takes_nothing (g.K.Sink.taken c.args.out.now));
      faults = search rules;
      failed = search rules;
      steps = record { more = c.«open».ensures.reads.more; cost = omega (arith, c.«open».ensures.reads.cost) };
    })

pub returns-in_err-tell : goal.returns-in_err-tell
returns-in_err-tell g c =
    let ended = err_from_is_err_and c.from_residual-in_err-tell.result c.from_residual-in_err-tell.ensures.1 in
    let here = (goal.at.returns-in_err-tell g c).After-tell in
    rw ended.1 (record {
      ok = tt;
      err = put_stays _ _ _ _ _ c.loop-i.invariant.told.put;
      faults = search rules;
      failed = search rules;
      steps = told_cost _ _ _ _ _ _ _ _ _ _ _ _ (left g here) (read g here);
    })

pub returns-in_err-put_when_full : goal.returns-in_err-put_when_full
returns-in_err-put_when_full g c =
    let ended = err_from_is_err_and c.from_residual-in_err-put_when_full.result c.from_residual-in_err-put_when_full.ensures.1 in
    let here = (goal.at.returns-in_err-put_when_full g c).After-tell in
    let more = told_more _ _ _ _ _ _ _ _ _ _ _ _ (left g here) (read g here) c.tell.new.tally.text c.tell.new.made.items c.in_ok-tell.ensures.text
    (c.in_ok-tell.ensures.told
    ∙ ap (λ t. c.loop-i.made.items ++ command_lines t c.loop-i.tally.text (meaning c.get.result.now)) c.loop-i.invariant.table) in
    rw ended.1 (record {
      ok = tt;
      err = put_refused _ _ _ _ _ more.put _ c.in_err-put_when_full.ensures.err;
      faults = search rules;
      failed = search rules;
      steps = told_cost _ _ _ _ _ _ _ _ _ _ _ _ (left g here) (read g here);
    })

pub returns-in_err-put_all : goal.returns-in_err-put_all
returns-in_err-put_all g c =
    let ended = err_from_is_err_and c.from_residual-in_err-put_all.result c.from_residual-in_err-put_all.ensures.1 in
    rw ended.1 (record {
      ok = tt;
      err = put_refused _ _ _ _ _ c.loop-i.invariant.told.put _
          (subst (λ w. TakesFront (g.K.Sink.taken c.loop-i.out) (g.K.Sink.taken c.put_all.new.out) w) c.deref.ensures.value c.in_err-put_all.ensures.err);
      faults = search rules;
      failed = search rules;
      steps = record { more = c.loop-i.invariant.told.more; cost = omega (arith, c.loop-i.invariant.told.cost) };
    })

pub returns : goal.returns
returns g c = record {
  ok = put_end _ _ _ _ _ c.loop-i.invariant.told.put
      (ap (λ cs. commands_lines c.args.table.now c.loop-i.tally.text (map meaning cs))
      (drop_all c.loop-i.i c.args.commands.now (omega (arith, c.loop-i-test.false, c.len-i-end.ensures))))
      _
      (subst (λ w. Takes (g.K.Sink.taken c.loop-i.out) (g.K.Sink.taken c.put_all.new.out) w) c.deref.ensures.value c.in_ok-put_all.ensures.ok);
  err = tt;
  faults = search rules;
  failed = search rules;
  steps = record { more = c.loop-i.invariant.told.more; cost = omega (arith, c.loop-i.invariant.told.cost) };
}
