use Rattle.std.proofs.Common.{ap, sym, ◌∙◌}
use Rattle.std.specs.List.{splice}
use Rattle.std.proofs.lemmas.List.{map-id}
use Rattle.std.proofs.lemmas.Iterator.{YieldsList-from_chars, items_from_drains}
use Rattle.rbbi_text.proofs.plain.put.Goals as goal

pub returns-clause-ok : goal.returns-clause-ok
returns-clause-ok c =
    let (s, xs, begins, (u, (t, given, ends)), items, lengths) = c.in_ok-_removed.ensures.items in
    let road = YieldsList-from_chars c.args.text.now c.utf8.text (ap (λ i. i.rest.now) begins ∙ c.chars.ensures.rest) in
    items ∙ ap (splice c.args.items.now.items c.args.start c.args.end) (sym (map-id xs) ∙ items_from_drains xs (t, given, λ _. (u, ends)) road)
