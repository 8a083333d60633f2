use Rattle.std.proofs.Common.{refl}
use Rattle.rbbi_annexes.specs.LineBreaks.{item_of}
use Rattle.rbbi_annexes.proofs.lines.items.item_of.Goals as goal

pub returns : goal.returns
unfolding item_of
returns c =
    rw (
      c.resolved.ensures,
      c.for_char.ensures,
      c.is_wide.ensures,
      c.for_char-2.ensures,
      c.is_category.ensures,
      c.is_category-2.ensures,
      c.is_category-3.ensures,
      c.is_extended_pictographic.ensures,
      c.for_char-of.ensures,
    ) refl
