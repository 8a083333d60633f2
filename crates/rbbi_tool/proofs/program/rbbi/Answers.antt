use Rattle.std.proofs.Common.{◌∙◌, refl, sym, ap, subst, arith}
use Rattle.std.specs.Prelude.{IfSome}
use Rattle.rbbi_io.specs.Counts.{EachGoesOn}
use Rattle.rbbi_text.specs.Steps.{RisesUpTo}
use Rattle.rbbi_command.specs.Files.{sources_of}
use Rattle.rbbi_command.specs.Reads.{MakesSomeReads}
use Rattle.rbbi_tool.specs.inner.Prepared.{answer_of, outcome_of as prepared_outcome}
use Rattle.rbbi_command.proofs.Reading.{always_told}
use Rattle.rbbi_command.specs.Delivery.{MakesWrite}
use Rattle.rbbi_tool.proofs.Calls.{calls_made, calls_cut}
use Rattle.rbbi_tool.proofs.Counted.{reads_at_end}
use Rattle.rbbi_tool.proofs.Runs.{is_answer, from_start, statuses_of, usage_of, no_form_of, outcome_of, read_failed_of, unfailed_of, put_failed_of, front_of}
use Rattle.rbbi_tool.proofs.Runs.{no_part_same, complete_of, each_of, unwritten_of, others_of_all}
use Rattle.rbbi_tool.proofs.program.rbbi.Goals as goal

pub emit-requires : goal.emit-requires
emit-requires g c =
    (is_answer _ _ _ _ (prepared_outcome c.in-Ok.prepared) (answer_of c.run-ended.result) c.run-ended.ensures.comes c.in-Ok.ensures.gives).low

pub returns-in-Ok : goal.returns-in-Ok
returns-in-Ok g c =
    let held = g.F.Files.contents in
    let reads = g.F.Files.failed_reads in
    let writes = g.F.Files.failed_writes in
    let start = c.args.files.now in
    let ran = c.run-ended.new.files in
    let end = c.emit.new.files in
    let before = c.run-ended.ensures in
    let after = c.emit.ensures in
    let answer = is_answer _ _ _ _ (prepared_outcome c.in-Ok.prepared) (answer_of c.run-ended.result) before.comes c.in-Ok.ensures.gives in
    let d = from_start _ (held start) (held ran) (held end) (reads start) (reads ran) (reads end) (writes start) (writes ran) (writes end)
    (g.K.Sink.taken c.args.out.now) (g.K.Sink.taken c.emit.new.out) (g.K.Sink.faults c.args.out.now) (g.K.Sink.faults c.emit.new.out)
    (prepared_outcome c.in-Ok.prepared) c.emit.result before.contents (λ name. after.reads name) before.writes answer after.status after.taken
    after.held after.failed after.front
    after.file_first after.contents after.others in
    record {
      statuses = statuses_of d;
      usage = usage_of d;
      no_form = no_form_of d;
      uncalled = λ none.
          subst (λ f. MakesWrite g.F.Files.write_gives f ran end) (answer.no_file (omega (arith, answer.form none))) after.call ∙ before.calls.unread none;
      calls = λ request asks.
          calls_made g.F.Files.read_gives g.F.Files.write_gives _ (sources_of request) start ran end (prepared_outcome c.in-Ok.prepared) c.emit.result
          (g.K.Sink.taken c.args.out.now) (g.K.Sink.taken c.emit.new.out) answer.file after.status after.taken after.call (held start) (reads start)
          (reads ran) (answer_of c.run-ended.result) (before.calls.reads request asks) before.comes c.in-Ok.ensures.gives;
      order = λ request asks.
          subst (λ now. IfSome (held start) (MakesSomeReads (sources_of request) (reads start) now)) (λ i name. sym (after.reads name) i)
          (before.reading.order request asks);
      steps = λ request asks.
          reads_at_end (held start) request _ _ _ c.emit.new.steps (before.reading.steps request asks)
          (subst (λ n. RisesUpTo n c.run-ended.new.steps c.emit.new.steps) c.in-Ok.ensures.rest after.steps);
      outcome = outcome_of d;
      read_failed = read_failed_of d;
      unfailed = unfailed_of d;
      put_failed = put_failed_of d;
      front = front_of d;
      complete = complete_of d;
      contents = each_of d;
      unwritten = unwritten_of d (λ none.
          ap held (subst (λ f. MakesWrite g.F.Files.write_gives f ran end) none after.call) ∙ before.contents);
      others = others_of_all d;
      reads = subst (λ now. EachGoesOn (reads start) now) (λ i name. sym (after.reads name) i) before.reads;
      writes = subst (λ w. EachGoesOn w (writes end)) (λ i name. before.writes name i) after.writes;
      faults = after.faults;
    }

pub returns-in-Err-clause-front : goal.returns-in-Err-clause-front
returns-in-Err-clause-front g c = λ high.
    no_part_same (g.F.Files.contents c.args.files.now) (g.F.Files.contents c.run-ended.new.files) _ _ _ _ _ c.run-ended.ensures.contents refl

pub returns-in-Err-clause-steps : goal.returns-in-Err-clause-steps
returns-in-Err-clause-steps g c = λ request asks.
    reads_at_end (g.F.Files.contents c.args.files.now) request _ _ _ c.run-ended.new.steps (c.run-ended.ensures.reading.steps request asks)
    (record { more = omega arith; cost = omega arith })

pub returns-in-Err-clause-others : goal.returns-in-Err-clause-others
returns-in-Err-clause-others g c =
    always_told (g.F.Files.contents c.args.files.now) _ (λ held name other. c.run-ended.ensures.writes name)

pub returns-in-Err-clause-calls : goal.returns-in-Err-clause-calls
returns-in-Err-clause-calls g c = λ request asks.
    calls_cut g.F.Files.read_gives g.F.Files.write_gives _ (sources_of request) c.args.files.now c.run-ended.new.files _ (answer_of c.run-ended.result)
    (c.run-ended.ensures.calls.reads request asks)
