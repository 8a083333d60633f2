use Rattle.rbbi_resolve.proofs.EmptyWords as proved
use Rattle.rbbi_resolve.proofs.laws.empty_fronts_spell_the_empty_word.Goals as goal

pub returns : goal.returns
returns c = proved.empty_words
