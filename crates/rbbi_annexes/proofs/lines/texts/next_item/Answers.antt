use Rattle.std.proofs.Common.{List, sym, ap, ◌∙◌, slice_get, None, ℕ}
use Rattle.std.proofs.lemmas.List.{nil_from_length}
use Rattle.rbbi_annexes.specs.declared.lines.items.Item.{Item}
use Rattle.rbbi_annexes.specs.LineBreaks.{items_after}
use Rattle.rbbi_annexes.proofs.LineTexts.{nothing_left}
use Rattle.rbbi_annexes.proofs.lines.texts.next_item.Goals as goal

pub returns-clause-first : goal.returns-clause-first
returns-clause-first c =
    sym (ap (λ (items : List Item). slice_get items 0)
    (nothing_left c.args.last c.args.after.now c.loop-c.rest.now c.loop-c.invariant c.in_default.ensures.cases))

pub returns-clause-second : goal.returns-clause-second
unfolding items_after
returns-clause-second c =
    ap (λ (rest : List ℕ). slice_get (items_after None rest) 0) (nil_from_length c.loop-c.rest.now c.in_default.ensures.cases)
    ∙ sym (ap (λ (items : List Item). slice_get items 1)
    (nothing_left c.args.last c.args.after.now c.loop-c.rest.now c.loop-c.invariant c.in_default.ensures.cases))
