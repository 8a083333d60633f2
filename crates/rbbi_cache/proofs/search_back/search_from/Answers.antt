use Rattle.std.proofs.Common.{◌-◌, ◌≤◌, ⊎_elim, arith}
use Rattle.rbbi_cache.proofs.Lists.{mapped}
use Rattle.rbbi_cache.proofs.Backward.{none_before, ready_back}
use Rattle.rbbi_cache.proofs.Begins.{begins_at_anchor, anchor_more, anchor_cost}
use Rattle.rbbi_cache.proofs.search_back.search_from.Goals as goal

pub scan-requires-clause-begun : goal.scan-requires-clause-begun
scan-requires-clause-begun g c =
    let near : c.args.anchor ≤ c.args.i - 1 = ⊎_elim (λ zero. omega arith) (λ far. omega arith) c.requires.before in
    begins_at_anchor c.args.table.now c.valid.ensures (g.T.Chars.characters c.args.text.now) (c.args.i - 1) c.args.anchor c.begin.new.self c.begin.ensures near
    (omega arith)

pub returns-clause-found : goal.returns-clause-found
returns-clause-found g c =
    mapped c.last_but_one.result
    (none_before c.args.table.now c.valid.ensures (g.T.Chars.characters c.args.text.now) c.args.i c.args.anchor c.requires.some c.requires.within
    c.requires.before c.requires.anchor c.begin.new.self c.begin.ensures c.scan.result c.scan.new.run c.args.steps.now c.scan.new.steps
    c.scan.ensures.gone_on c.scan.ensures.past)
    (ready_back c.args.table.now c.valid.ensures (g.T.Chars.characters c.args.text.now) c.args.i c.args.anchor c.requires.some c.requires.within
    c.requires.before c.requires.anchor c.begin.new.self c.begin.ensures c.scan.result c.scan.new.run c.args.steps.now c.scan.new.steps
    c.scan.ensures.gone_on c.scan.ensures.past)
    c.last_but_one.ensures

pub returns-clause-more : goal.returns-clause-more
returns-clause-more g c =
    let near : c.args.anchor ≤ c.args.i - 1 = ⊎_elim (λ zero. omega arith) (λ far. omega arith) c.requires.before in
    anchor_more c.args.table.now c.valid.ensures (g.T.Chars.characters c.args.text.now) (c.args.i - 1) c.args.anchor c.begin.new.self c.begin.ensures near
    (omega arith) c.scan.result c.scan.new.run c.args.steps.now c.scan.new.steps c.scan.ensures.gone_on c.scan.ensures.past

pub returns-clause-cost : goal.returns-clause-cost
returns-clause-cost g c =
    let near : c.args.anchor ≤ c.args.i - 1 = ⊎_elim (λ zero. omega arith) (λ far. omega arith) c.requires.before in
    anchor_cost c.args.table.now c.valid.ensures (g.T.Chars.characters c.args.text.now) (c.args.i - 1) c.args.anchor c.begin.new.self c.begin.ensures near
    (omega arith) c.scan.result c.scan.new.run c.args.steps.now c.scan.new.steps c.scan.ensures.gone_on c.scan.ensures.past
