use Rattle.std.proofs.Common.{◌≡◌, ◌-◌, ◌≤◌, length, length-drop, drop, sym, ap, ◌∙◌, subst, rules, arith}
use Rattle.std.specs.List.{AllByRecursion}
use Rattle.std.proofs.lemmas.List.{take_all}
use Rattle.rbbi_model.specs.Words.{IsText}
use Rattle.rbbi_filter.specs.Abbreviations.{window, ends}
use Rattle.rbbi_filter.proofs.Windows.{enough_ends, enough_text, told_by_window}
use Rattle.rbbi_filter.proofs.window.is_suppressed.Goals as goal

pub ends-requires-clause-text : goal.ends-requires-clause-text
ends-requires-clause-text g c =
    let first = c.read_before-first.result in
    let part = drop first c.read_before-first.new.window in
    let room : length c.read_before-first.new.window ≡ 64 = search rules in
    let long = length-drop first c.read_before-first.new.window in
    subst IsText (sym (take_all (64 - first) part (omega (arith, room, long))))
    (enough_text c.longest.result (g.T.Chars.characters c.args.text.now) part c.args.at c.len.ensures.text c.read_before-first.ensures.enough)

pub ends-requires-clause-short : goal.ends-requires-clause-short
ends-requires-clause-short g c =
    let first = c.read_before-first.result in
    let part = drop first c.read_before-first.new.window in
    let room : length c.read_before-first.new.window ≡ 64 = search rules in
    let long = length-drop first c.read_before-first.new.window in
    subst (λ w. length w ≤ 64) (sym (take_all (64 - first) part (omega (arith, room, long)))) (omega (arith, room, long))

pub returns-clause-exact : goal.returns-clause-exact
returns-clause-exact g c =
    let list = g.A.Lists.list_of c.args.held.now in
    let x = g.T.Chars.characters c.args.text.now in
    let first = c.read_before-first.result in
    let part = drop first c.read_before-first.new.window in
    let room : length c.read_before-first.new.window ≡ 64 = search rules in
    let long = length-drop first c.read_before-first.new.window in
    c.ends.ensures ∙ ap (ends list) (take_all (64 - first) part (omega (arith, room, long)))
    ∙ enough_ends list c.longest.result (window x c.args.at) part (subst (AllByRecursion (λ member. length member ≤ c.longest.result)) c.list.ensures c.longest.ensures) c.read_before-first.ensures.enough
    ∙ told_by_window list x c.args.at (omega arith) (omega arith)
