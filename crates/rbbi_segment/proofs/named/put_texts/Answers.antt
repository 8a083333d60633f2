use Rattle.std.proofs.Common.{subst}
use Rattle.rbbi_segment.specs.Runs.{AreTakenInTurn, TakesText}
use Rattle.rbbi_segment.proofs.named.put_texts.Goals as goal

pub put_each-requires-clause-none : goal.put_each-requires-clause-none
put_each-requires-clause-none g c = c.new-replaced.ensures.items

pub returns : goal.returns
returns g c breaks gives =
    subst (λ colors.
    AreTakenInTurn
    (TakesText c.args.request.now (record { breaks = breaks; filter = c.args.means.now.filter; colors = colors })
    (g.S.System.contents c.args.system.now))
    (record { taken = g.K.Sink.taken c.args.out.now; left = g.R.Read.remaining c.args.input.now }) c.args.request.now.names.items
    (record { taken = g.K.Sink.taken c.put_each.new.out; left = g.R.Read.remaining c.put_each.new.input })) c.output_colors-colors.ensures
    (c.in_ok-put_each.ensures breaks gives)
