use Rattle.rbbi_change.proofs.Spliced.{before_is}
use Rattle.rbbi_change.proofs.before.Before.new.Goals as goal

pub returns-clause-old : goal.returns-clause-old
returns-clause-old g c =
    λ old edited is.
    before_is old (g.T.Chars.characters c.args.text.now) (g.R.Chars.characters c.args.removed.now) c.args.at c.args.inserted edited is
