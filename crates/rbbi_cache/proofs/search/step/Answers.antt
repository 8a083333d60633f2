use Rattle.std.proofs.Common.{sym, ap, subst, ◌∙◌, arith}
use Rattle.rbbi_model.specs.Runs.{Run}
use Rattle.rbbi_cache.specs.inner.Ready.{GoesOnAs}
use Rattle.std.specs.Prelude.{true}
use Rattle.rbbi_cache.proofs.Begins.{one_added, one_cost}
use Rattle.rbbi_cache.proofs.RightPart.{entries_rise}
use Rattle.rbbi_cache.proofs.Showing.{none_past_last}
use Rattle.rbbi_cache.proofs.search.step.Goals as goal

pub returns-clause-gone_on : goal.returns-clause-gone_on
returns-clause-gone_on g c =
    let up_to = c.in-Some.ensures.up_to in
    subst (λ (r : Run). GoesOnAs c.args.table.now (g.T.Chars.characters c.args.text.now) c.args.i c.args.run.now
    (record { at = c.next-found.result.at; status = c.next-found.result.status; reach = c.max.result }) true r r) (sym c.push.ensures)
    (one_added c.args.table.now c.valid.ensures (g.T.Chars.characters c.args.text.now) c.args.i c.args.run.now c.requires.is_true
    (λ full. c.if-len-eq-MOST_ENTRIES.false (c.len.ensures.exact ∙ full)) c.in-Some.from c.in-Some.ensures
    (omega (arith, ap (λ e. e.at) c.from.view_is)) c.from.inside.reach (ap (λ e. e.reach) c.from.view_is) c.requires.within
    (record { at = c.next-found.result.at; status = c.next-found.result.status; reach = c.max.result }) c.next-found.result.look
    c.next-found.ensures.at c.next-found.ensures.status c.next-found.ensures.look c.max.ensures c.args.steps.now c.next-found.new.steps c.next-found.ensures.read)

pub returns-clause-cost : goal.returns-clause-cost
returns-clause-cost g c =
    let up_to = c.in-Some.ensures.up_to in
    one_cost c.args.table.now c.valid.ensures (g.T.Chars.characters c.args.text.now) c.args.i c.args.run.now c.requires.is_true
    (λ full. c.if-len-eq-MOST_ENTRIES.false (c.len.ensures.exact ∙ full)) c.in-Some.from c.in-Some.ensures
    (omega (arith, ap (λ e. e.at) c.from.view_is)) c.from.inside.reach (ap (λ e. e.reach) c.from.view_is) c.requires.within
    (record { at = c.next-found.result.at; status = c.next-found.result.status; reach = c.max.result }) c.next-found.result.look
    c.next-found.ensures.at c.next-found.ensures.status c.next-found.ensures.look c.max.ensures c.args.steps.now c.next-found.new.steps c.next-found.ensures.read

pub returns-clause-unknown : goal.returns-clause-unknown
returns-clause-unknown g c =
    none_past_last c.args.run.now c.args.i c.in-Some.from (entries_rise c.args.table.now c.valid.ensures (g.T.Chars.characters c.args.text.now) c.args.run.now
    c.requires.is_true) c.in-Some.ensures
