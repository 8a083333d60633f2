use Rattle.std.proofs.Common.{◌≡◌, ℕ, ◌==◌, ◌≤◌, List, [], ◌∷◌, length, ap, ◌∙◌, subst, arith, length-append}
use Rattle.std.proofs.lemmas.List.{take_all}
use Rattle.rbbi_segment.specs.Runs.{AreTakenInTurn, NoText, TakesText}
use Rattle.rbbi_segment.proofs.Carried.{more_taken}
use Rattle.rbbi_segment.proofs.named.put_each.Goals as goal

pub loop-name-init : goal.loop-name-init
loop-name-init g c = record { counts = ap length c.requires.none; taken = λ breaks gives. NoText }

pub loop-name-preserved : goal.loop-name-preserved
loop-name-preserved g c =
    let i : ℕ = c.loop-name.name-index in
    let counted : c.loop-name.replaced.len ≡ i = omega (arith, c.loop-name.replaced.ok.0, c.loop-name.invariant.counts) in
    record {
      counts = omega (
        arith,
        ap length c.in_ok-push.ensures.items,
        length-append c.loop-name.replaced.items (c.in_ok-count.count ∷ []),
        c.loop-name.invariant.counts,
      );
      taken = λ breaks gives.
          more_taken
          (TakesText c.args.request.now (record { breaks = breaks; filter = c.args.means.now.filter; colors = c.args.colors })
          (g.S.System.contents c.args.system.now))
          (record { taken = g.K.Sink.taken c.args.out.now; left = g.R.Read.remaining c.args.input.now })
          (record { taken = g.K.Sink.taken c.loop-name.out; left = g.R.Read.remaining c.loop-name.input })
          (record { taken = g.K.Sink.taken c.put_named.new.out; left = g.R.Read.remaining c.put_named.new.input }) c.is_empty-is_first.result
          c.args.request.now.names.items c.deref-name-items.result.now i _ c.deref-name-items.ensures.value c.loop-name-test.true
          (c.is_empty-is_first.ensures ∙ ap (λ n. n == 0) counted) (c.loop-name.invariant.taken breaks gives) (c.in_ok-count.ensures breaks gives);
    }

-- all names were taken
pub returns : goal.returns
returns g c breaks gives =
    subst (λ l.
    AreTakenInTurn
    (TakesText c.args.request.now (record { breaks = breaks; filter = c.args.means.now.filter; colors = c.args.colors })
    (g.S.System.contents c.args.system.now))
    (record { taken = g.K.Sink.taken c.args.out.now; left = g.R.Read.remaining c.args.input.now }) l
    (record { taken = g.K.Sink.taken c.loop-name.out; left = g.R.Read.remaining c.loop-name.input }))
    (take_all c.loop-name.name-index c.args.request.now.names.items
    (subst (λ l. length l ≤ c.loop-name.name-index) c.deref-name-items.ensures.value c.loop-name-test.false)) (c.loop-name.invariant.taken breaks gives)
