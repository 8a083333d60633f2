use Rattle.std.proofs.Common.{sym, ap, ◌∙◌, arith}
use Rattle.rbbi_lex.specs.Stretches.{goes_on}
use Rattle.rbbi_lex.proofs.StretchLemmas.{stretch_end-more, stretch_end-here}
use Rattle.rbbi_lex.proofs.stretch.stretch_end.Goals as goal

pub loop-at-preserved : goal.loop-at-preserved
loop-at-preserved c =
    let ch = c.index-text-at.result in
    let test = ap (goes_on c.args.stretch ch) (sym c.character_at.ensures) ∙ sym c.goes_on.ensures ∙ c.if-goes_on.true in
    record {
      same_end = c.loop-at.invariant.same_end ∙ stretch_end-more c.args.stretch c.args.text.now c.loop-at.at ch c.loop-at-test.true c.index-text-at.is test;
      within = omega arith;
    }

pub returns-else-goes_on-clause-end : goal.returns-else-goes_on-clause-end
returns-else-goes_on-clause-end c =
    let ch = c.index-text-at.result in
    let test = ap (goes_on c.args.stretch ch) (sym c.character_at.ensures) ∙ sym c.goes_on.ensures ∙ c.if-goes_on.false in
    sym (c.loop-at.invariant.same_end ∙ stretch_end-here c.args.stretch c.args.text.now c.loop-at.at ch c.loop-at-test.true c.index-text-at.is test)
