use Rattle.std.proofs.Common.{◌≡◌, List, length, drop, sym, ap, ◌∙◌, refl, arith}
use Rattle.std.proofs.Common.{◌++◌, ◌-◌, take, length-drop}
use Rattle.std.proofs.lemmas.List.{take_all}
use Rattle.rbbi_model.specs.Runs.{Entry, Run}
use Rattle.rbbi_cache.proofs.Begins.{begins_there, anchor_there, there_some, there_cost, there_more, extended_as, beside_as}
use Rattle.rbbi_cache.proofs.search.go_on.Goals as goal

take_rest : (l : List Entry) → take (length l - 1) (drop 1 l) ≡ drop 1 l
take_rest l = take_all (length l - 1) (drop 1 l) (omega (arith, length-drop 1 l))

pub scan-entry-requires-clause-begun : goal.scan-entry-requires-clause-begun
scan-entry-requires-clause-begun g c =
    begins_there c.args.table.now c.valid.ensures (g.T.Chars.characters c.args.text.now) c.args.i c.args.run.now c.requires.is_true c.args.from
    c.requires.from c.anchor.result c.begin.new.self c.push.new.self c.anchor.ensures c.begin.ensures c.push.ensures

pub scan-entry-requires-clause-anchor : goal.scan-entry-requires-clause-anchor
scan-entry-requires-clause-anchor g c =
    anchor_there c.args.table.now c.valid.ensures (g.T.Chars.characters c.args.text.now) c.args.i c.args.run.now c.requires.is_true c.args.from
    c.requires.from c.anchor.result c.begin.new.self c.push.new.self c.anchor.ensures c.begin.ensures c.push.ensures

pub slice_bounds-append-count : goal.slice_bounds-append-count
slice_bounds-append-count g c =
    let some = there_some c.args.table.now c.valid.ensures (g.T.Chars.characters c.args.text.now) c.args.i c.args.run.now c.requires.is_true c.args.from
    c.requires.from c.anchor.result c.begin.new.self c.push.new.self c.anchor.ensures c.begin.ensures c.push.ensures c.scan-entry.result
    c.scan-entry.new.run c.args.steps.now c.scan-entry.new.steps c.scan-entry.ensures.gone_on c.scan-entry.ensures.past in
    omega (arith, ap length c.entries.ensures)

pub slice_bounds-append-start : goal.slice_bounds-append-start
slice_bounds-append-start g c =
    let some = there_some c.args.table.now c.valid.ensures (g.T.Chars.characters c.args.text.now) c.args.i c.args.run.now c.requires.is_true c.args.from
    c.requires.from c.anchor.result c.begin.new.self c.push.new.self c.anchor.ensures c.begin.ensures c.push.ensures c.scan-entry.result
    c.scan-entry.new.run c.args.steps.now c.scan-entry.new.steps c.scan-entry.ensures.gone_on c.scan-entry.ensures.past in
    omega (arith, ap length c.entries.ensures)

pub returns-then-len-le-MOST_WITH_COPY-clause-gone_on : goal.returns-then-len-le-MOST_WITH_COPY-clause-gone_on
returns-then-len-le-MOST_WITH_COPY-clause-gone_on g c =
    let add : List Entry → Run = λ l. record { anchor = c.args.run.now.anchor; entries = c.args.run.now.entries ++ l; leads = c.args.run.now.leads } in
    let of : List Entry → Run = λ l. record { anchor = c.args.run.now.anchor; entries = c.args.run.now.entries ++ drop 1 l; leads = c.args.run.now.leads } in
    extended_as c.args.table.now c.valid.ensures (g.T.Chars.characters c.args.text.now) c.args.i c.args.run.now c.requires.is_true c.args.from c.requires.from
    c.anchor.result c.begin.new.self c.push.new.self c.anchor.ensures c.begin.ensures c.push.ensures c.scan-entry.result c.scan-entry.new.run c.args.steps.now
    c.scan-entry.new.steps c.scan-entry.ensures.gone_on c.scan-entry.ensures.past (sym c.leads.ensures ∙ c.if-leads.true)
    (omega (arith, c.len.ensures.exact, c.len-then-leads.ensures.exact, c.if-len-le-MOST_WITH_COPY.true)) c.append.new.self
    (c.append.ensures ∙ ap add (take_rest c.entries.result.now) ∙ ap of c.entries.ensures)

pub returns-clause-gone_on : goal.returns-clause-gone_on
returns-clause-gone_on g c =
    beside_as c.args.table.now c.valid.ensures (g.T.Chars.characters c.args.text.now) c.args.i c.args.run.now c.requires.is_true c.args.from c.requires.from
    c.anchor.result c.begin.new.self c.push.new.self c.anchor.ensures c.begin.ensures c.push.ensures c.scan-entry.result c.scan-entry.new.run c.args.steps.now
    c.scan-entry.new.steps c.scan-entry.ensures.gone_on c.scan-entry.ensures.past c.args.run.now c.follow.new.self refl c.follow.ensures

pub returns-then-len-le-MOST_WITH_COPY-clause-more : goal.returns-then-len-le-MOST_WITH_COPY-clause-more
returns-then-len-le-MOST_WITH_COPY-clause-more g c =
    there_more c.args.table.now c.valid.ensures (g.T.Chars.characters c.args.text.now) c.args.i c.args.run.now c.requires.is_true c.args.from c.requires.from
    c.anchor.result c.begin.new.self c.push.new.self c.anchor.ensures c.begin.ensures c.push.ensures c.scan-entry.result c.scan-entry.new.run c.args.steps.now
    c.scan-entry.new.steps c.scan-entry.ensures.gone_on c.scan-entry.ensures.past

pub returns-then-len-le-MOST_WITH_COPY-clause-cost : goal.returns-then-len-le-MOST_WITH_COPY-clause-cost
returns-then-len-le-MOST_WITH_COPY-clause-cost g c =
    there_cost c.args.table.now c.valid.ensures (g.T.Chars.characters c.args.text.now) c.args.i c.args.run.now c.requires.is_true c.args.from c.requires.from
    c.anchor.result c.begin.new.self c.push.new.self c.anchor.ensures c.begin.ensures c.push.ensures c.scan-entry.result c.scan-entry.new.run c.args.steps.now
    c.scan-entry.new.steps c.scan-entry.ensures.gone_on c.scan-entry.ensures.past c.requires.near

pub returns-clause-more : goal.returns-clause-more
returns-clause-more g c =
    there_more c.args.table.now c.valid.ensures (g.T.Chars.characters c.args.text.now) c.args.i c.args.run.now c.requires.is_true c.args.from c.requires.from
    c.anchor.result c.begin.new.self c.push.new.self c.anchor.ensures c.begin.ensures c.push.ensures c.scan-entry.result c.scan-entry.new.run c.args.steps.now
    c.scan-entry.new.steps c.scan-entry.ensures.gone_on c.scan-entry.ensures.past

pub returns-clause-cost : goal.returns-clause-cost
returns-clause-cost g c =
    there_cost c.args.table.now c.valid.ensures (g.T.Chars.characters c.args.text.now) c.args.i c.args.run.now c.requires.is_true c.args.from c.requires.from
    c.anchor.result c.begin.new.self c.push.new.self c.anchor.ensures c.begin.ensures c.push.ensures c.scan-entry.result c.scan-entry.new.run c.args.steps.now
    c.scan-entry.new.steps c.scan-entry.ensures.gone_on c.scan-entry.ensures.past c.requires.near
