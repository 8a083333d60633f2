use Rattle.std.proofs.Common.{sym, subst}
use Rattle.rbbi_model.specs.Words.{IsText}
use Rattle.rbbi_filter.specs.Filters.{searched}
use Rattle.rbbi_filter.proofs.Turning.{turned_text}
use Rattle.rbbi_filter.proofs.filter.Filter.searches_texts.Goals as goal

pub returns-in-Turning : goal.returns-in-Turning
returns-in-Turning c = λ x text. subst (λ f. IsText (searched f x)) (sym c.in-Turning.is) (turned_text c.in-Turning.pairs c.turns_to_characters.ensures x text)
