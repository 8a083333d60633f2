use Rattle.std.proofs.Common.{Option, List, ℕ, sym, subst}
use Rattle.std.specs.Prelude.{OnOk}
use Rattle.rbbi_segment.specs.declared.colors.Colors.{Colors}
use Rattle.rbbi_segment.specs.declared.options.Request.{Request}
use Rattle.rbbi_segment.specs.Runs.{Moment, IsDone, colors_of}
use Rattle.rbbi_segment.proofs.Carried.{explained, linted}
use Rattle.rbbi_segment.proofs.program.answer.Goals as goal

pub returns-in-Lint : goal.returns-in-Lint
returns-in-Lint g c =
    let request : Request = c.args.request.now in
    let before : Moment = record { taken = g.K.Sink.taken c.args.out.now; left = g.R.Read.remaining c.args.input.now } in
    let now : Moment = record { taken = g.K.Sink.taken c.lint_file-linted.new.out; left = g.R.Read.remaining c.lint_file-linted.new.input } in
    linted c.counted.result request.task c.in-Lint.name c.in-Lint.why request.explain request (colors_of request c.args.surroundings)
    (g.F.Files.contents c.args.files.now) (g.S.System.contents c.args.system.now) before now c.in-Lint.is

pub returns-in-Some : goal.returns-in-Some
returns-in-Some g c =
    let request : Request = c.args.request.now in
    let colors : Colors = colors_of request c.args.surroundings in
    let files : Option (List ℕ → List ℕ) = g.F.Files.contents c.args.files.now in
    let texts : Option (List ℕ → List ℕ) = g.S.System.contents c.args.system.now in
    let before : Moment = record { taken = g.K.Sink.taken c.args.out.now; left = g.R.Read.remaining c.args.input.now } in
    let now : Moment = record { taken = g.K.Sink.taken c.explain-explained.new.out; left = g.R.Read.remaining c.explain-explained.new.input } in
    subst (λ e. OnOk c.counted-in-Some.result (IsDone request.task e request colors files texts before now)) (sym c.in-Some.is)
    (explained c.counted-in-Some.result request.task c.in-Some.asked request colors files texts before now)

pub returns-in-None : goal.returns-in-None
returns-in-None g c =
    let request : Request = c.args.request.now in
    let colors : Colors = colors_of request c.args.surroundings in
    let files : Option (List ℕ → List ℕ) = g.F.Files.contents c.args.files.now in
    let texts : Option (List ℕ → List ℕ) = g.S.System.contents c.args.system.now in
    let before : Moment = record { taken = g.K.Sink.taken c.args.out.now; left = g.R.Read.remaining c.args.input.now } in
    let now : Moment = record { taken = g.K.Sink.taken c.perform.new.out; left = g.R.Read.remaining c.perform.new.input } in
    subst (λ e. OnOk c.perform.result (IsDone request.task e request colors files texts before now)) (sym c.in-None.is) c.perform.ensures
