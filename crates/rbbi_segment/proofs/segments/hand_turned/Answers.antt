use Rattle.std.proofs.Common.{sym, ap, ◌∙◌}
use Rattle.rbbi_segment.specs.Filters.{searched}
use Rattle.rbbi_segment.proofs.segments.hand_turned.Goals as goal

pub hand_searched-requires-clause-searched : goal.hand_searched-requires-clause-searched
hand_searched-requires-clause-searched g c = c.new-turned.ensures ∙ ap (λ f. searched f c.args.text.now) (sym c.requires.pairs)
