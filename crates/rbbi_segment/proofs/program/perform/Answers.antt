use Rattle.std.proofs.Common.{Option, List, ℕ, refl, sym, subst}
use Rattle.std.specs.Prelude.{OnOk, None}
use Rattle.rbbi_segment.specs.declared.options.Request.{Request}
use Rattle.rbbi_segment.specs.declared.options.Task.{Task}
use Rattle.rbbi_segment.specs.Runs.{Moment, IsDone, colors_of}
use Rattle.rbbi_segment.specs.Tables.{breaks_of}
use Rattle.rbbi_segment.proofs.Carried.{gives_breaks}
use Rattle.rbbi_segment.proofs.Handed.{on_ok}
use Rattle.rbbi_segment.proofs.program.perform.Goals as goal

pub returns-in-Check : goal.returns-in-Check
returns-in-Check g c =
    rw c.in-Check.is ((c.in_ok-means.means.table, c.in_ok-means.ensures.means.0, c.in_ok-means.ensures.means.1), refl)

pub returns-in-Lint : goal.returns-in-Lint
returns-in-Lint g c = rw c.in-Lint.is tt

pub returns : goal.returns
returns g c =
    let request : Request = c.args.request.now in
    let contents : Option (List ℕ → List ℕ) = g.F.Files.contents c.args.files.now in
    let texts : Option (List ℕ → List ℕ) = g.S.System.contents c.args.system.now in
    let before : Moment = record { taken = g.K.Sink.taken c.args.out.now; left = g.R.Read.remaining c.args.input.now } in
    let now : Moment = record { taken = g.K.Sink.taken c.put_texts.new.out; left = g.R.Read.remaining c.put_texts.new.input } in
    let Did : Task → Type 0 =
    λ task. OnOk c.put_texts.result (IsDone task None request (colors_of request c.args.surroundings) contents texts before now) in
    let means = c.in_ok-means.ensures.means in
    subst Did (sym c.in-Segment.is)
    (on_ok c.put_texts.result
    (λ taken. (c.in_ok-means.means.table, c.in_ok-means.means.filter, g.R.Read.remaining c.means_of.new.input, means, taken))
    (c.put_texts.ensures (breaks_of request.basis c.in_ok-means.means.table)
    (gives_breaks contents before.left request request.basis c.in_ok-means.means.table means.0 means.1)))
