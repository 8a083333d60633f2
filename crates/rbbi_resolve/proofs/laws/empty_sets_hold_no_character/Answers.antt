use Rattle.rbbi_resolve.proofs.Characters as proved
use Rattle.rbbi_resolve.proofs.laws.empty_sets_hold_no_character.Goals as goal

pub returns : goal.returns
returns c = proved.holds_none
