-- Each token adds after what the tokens before it added.
use Rattle.rbbi_builtin.proofs.Filling.{AddsBuiltIn-then, filled-more}
use Rattle.rbbi_builtin.proofs.fill.add_all.Goals as goal

pub returns-in_err-add_for-clause-behind : goal.returns-in_err-add_for-clause-behind
returns-in_err-add_for-clause-behind c = AddsBuiltIn-then _ _ _ c.loop-i.invariant.0 c.add_for.ensures.behind

pub loop-i-preserved : goal.loop-i-preserved
loop-i-preserved c = (
  AddsBuiltIn-then _ _ _ c.loop-i.invariant.0 c.add_for.ensures.behind,
  filled-more c.args.tokens.now c.loop-i.i c.loop-i.files c.add_for.new.files c.get.result.now c.add_for.ensures.behind c.loop-i.invariant.1 c.get.ensures
      c.in_ok-add_for.ensures.filled,
)
