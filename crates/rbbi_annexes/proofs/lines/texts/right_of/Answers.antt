use Rattle.std.proofs.Common.{refl}
use Rattle.rbbi_annexes.specs.LineBreaks.{right_of}
use Rattle.rbbi_annexes.proofs.lines.texts.right_of.Goals as goal

pub returns : goal.returns
unfolding right_of
returns c =
    rw (
      c.is_mark.ensures,
      c.next_item-third.ensures.first,
      c.next_item-second.ensures.second,
      c.next_item-second.ensures.first,
      c.alone.ensures,
      c.item_of-item.ensures,
    ) refl
