use Rattle.std.proofs.Common.{refl}
use Rattle.rbbi_annexes.specs.LineBreaks.{left_of, items_before, past_spaces, ends_number, ends_half_flag}
use Rattle.rbbi_annexes.proofs.lines.texts.start.Goals as goal

pub returns : goal.returns
unfolding left_of items_before past_spaces ends_number ends_half_flag
returns c = refl
