use Rattle.std.proofs.Common.{◌∙◌}
use Rattle.rbbi_cache.proofs.RunLists.{rotated, at_front}
use Rattle.rbbi_cache.proofs.runs.to_front.Goals as goal

pub returns-then-k-eq0 : goal.returns-then-k-eq0
returns-then-k-eq0 c before after run whole number = whole ∙ at_front before after run (number ∙ c.if-k-eq0.true)

pub returns : goal.returns
returns c before after run whole number = rotated c.args.runs.now before after run c.args.k c.rotate_right.new.self whole number c.rotate_right.ensures.after
