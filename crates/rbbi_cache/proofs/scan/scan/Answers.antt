use Rattle.std.proofs.Common.{sym, ap, ◌∙◌, subst, arith}
use Rattle.rbbi_model.specs.Runs.{Entry, low}
use Rattle.rbbi_cache.specs.inner.Scans.{ContinuesScan}
use Rattle.rbbi_cache.proofs.Goes.{goes_found, goes_skipped, pushed_anchor, falls}
use Rattle.rbbi_cache.proofs.scan.scan.Goals as goal

pub loop-here-preserved-then-here-least : goal.loop-here-preserved-then-here-least
loop-here-preserved-then-here-least g c =
    let next : Entry = record { at = c.next-found.result.at; status = c.next-found.result.status; reach = c.max.result } in (
      subst (λ r. ContinuesScan c.args.table.now (g.T.Chars.characters c.args.text.now) c.args.run.now.anchor c.args.i c.args.from c.args.run.now next r
          c.args.steps.now c.next-found.new.steps) (sym c.push.ensures)
          (goes_found c.args.table.now (g.T.Chars.characters c.args.text.now) c.args.run.now.anchor c.args.i c.args.from c.args.run.now c.loop-here.here
          c.loop-here.run c.args.steps.now c.loop-here.steps c.loop-here.invariant.0 c.requires.within c.here.inside.at c.here.inside.reach
          (ap (λ e. e.at) c.here.view_is) (ap (λ e. e.reach) c.here.view_is) (omega arith) next c.next-found.result.look c.next-found.ensures.at
          c.next-found.ensures.status c.next-found.ensures.look c.max.ensures c.next-found.new.steps c.next-found.ensures.read
          (omega (arith, c.low-least.ensures, ap low c.anchor.ensures, c.if-here-least.true))),
      c.next-found.ensures.fit ∙ c.loop-here.invariant.1,
      ap (λ r. r.anchor) c.push.ensures ∙ pushed_anchor c.loop-here.run next ∙ c.loop-here.invariant.2,
    )

pub loop-here-preserved : goal.loop-here-preserved
loop-here-preserved g c = (
  goes_skipped c.args.table.now (g.T.Chars.characters c.args.text.now) c.args.run.now.anchor c.args.i c.args.from c.args.run.now c.loop-here.here
      c.loop-here.run c.args.steps.now c.loop-here.steps c.loop-here.invariant.0 c.requires.within c.here.inside.at c.here.inside.reach
      (ap (λ e. e.at) c.here.view_is) (ap (λ e. e.reach) c.here.view_is) (omega arith)
      (record { at = c.next-found.result.at; status = c.next-found.result.status; reach = c.max.result }) c.next-found.result.look c.next-found.ensures.at
      c.next-found.ensures.status c.next-found.ensures.look c.max.ensures c.next-found.new.steps c.next-found.ensures.read
      (omega (arith, c.low-least.ensures, ap low c.anchor.ensures, c.if-here-least.false)),
  c.next-found.ensures.fit ∙ c.loop-here.invariant.1,
  c.loop-here.invariant.2,
)

pub loop-here-smaller-then-here-least : goal.loop-here-smaller-then-here-least
loop-here-smaller-then-here-least g c =
    falls c.args.table.now (g.T.Chars.characters c.args.text.now) c.args.i c.here.inside.at c.loop-here.here.at c.next-found.result.at
    (ap (λ e. e.at) c.here.view_is) (omega arith) c.requires.within c.next-found.ensures.at

pub loop-here-smaller : goal.loop-here-smaller
loop-here-smaller g c =
    falls c.args.table.now (g.T.Chars.characters c.args.text.now) c.args.i c.here.inside.at c.loop-here.here.at c.next-found.result.at
    (ap (λ e. e.at) c.here.view_is) (omega arith) c.requires.within c.next-found.ensures.at
