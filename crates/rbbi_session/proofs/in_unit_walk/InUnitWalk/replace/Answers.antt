use Rattle.std.proofs.Common.{◌≡◌, ◌+◌, ◌-◌, ◌≤◌, length, refl, sym, ap, ◌∙◌, subst, chars, arith, Ok}
use Rattle.rbbi_model.specs.Units.{offset_of}
use Rattle.rbbi_model.specs.UnitAnswers.{edit_in}
use Rattle.rbbi_model.specs.Answers.{Inside}
use Rattle.rbbi_model.specs.Scripts.{Refused}
use Rattle.rbbi_text.specs.Indexes.{IsIndex}
use Rattle.rbbi_session.specs.UnitSessions.{InUnit}
use Rattle.rbbi_session.specs.Walks.{Edits}
use Rattle.rbbi_session.specs.UnitWalks.{in_unit}
use Rattle.rbbi_session.proofs.UnitAnswering.{not_true, not_false}
use Rattle.rbbi_session.proofs.UnitEditing.{place_at_whole, place_at_inside, edit_begins_inside, edit_ends_inside, ends_in_order, failed, unit_accepted, unit_refused}
use Rattle.rbbi_session.proofs.in_unit_walk.InUnitWalk.replace.Goals as goal

pub returns-then-not-first : goal.returns-then-not-first
returns-then-not-first g c =
    let s = c.args.self.now in
    let w = chars c.args.insert.now in
    let low : c.args.at + c.args.remove ≤ offset_of s.unit (g.W.Walk.view.state s.asked).text (length (g.W.Walk.view.state s.asked).text) =
    omega (arith, c.if-at-units.false, c.if-remove-units.false, c.units-units.ensures) in (
      edit_begins_inside s.unit (g.W.Walk.view.state s.asked).text c.args.at c.args.remove w low
          (place_at_inside s.unit (g.W.Walk.view.state s.asked).text c.args.at c.index-first.result c.index-first.ensures.index
          (not_true c.index-first.result.whole c.if-not-first.true)),
      (c.index-first.ensures.same, refl),
    )

pub returns-then-not-end : goal.returns-then-not-end
returns-then-not-end g c =
    let view = c.self.view_is ∙ c.index-first.ensures.same in
    let u = c.self.inside.unit in
    let x = (g.W.Walk.view.state c.self.inside.asked).text in
    let w = chars c.args.insert.now in
    let low : c.args.at + c.args.remove ≤ offset_of c.self.inside.unit (g.W.Walk.view.state c.self.inside.asked).text (length (g.W.Walk.view.state c.self.inside.asked).text) =
    omega
    (arith, c.if-at-units.false, c.if-remove-units.false, c.units-units.ensures, ap (λ (s : InUnit _). offset_of s.unit (g.W.Walk.view.state s.asked).text (length (g.W.Walk.view.state s.asked).text)) view) in
    let is = subst (λ (s : InUnit _). IsIndex s.unit (g.W.Walk.view.state s.asked).text c.args.at c.index-first.result) (sym view) c.index-first.ensures.index in
    let is' = subst (λ y. IsIndex c.self.inside.unit y (c.args.at + c.args.remove) c.index_from-end.result) c.text.ensures c.index_from-end.ensures in
    let first = place_at_whole u x c.args.at c.index-first.result is (not_false c.index-first.result.whole c.if-not-first.false) in (
      subst (λ (s : InUnit _). edit_in s.unit (g.W.Walk.view.state s.asked).text c.args.at c.args.remove (chars c.args.insert.now) ≡ Refused Inside) view
          (edit_ends_inside u x c.args.at c.args.remove w c.index-first.result.at low first
          (place_at_inside u x (c.args.at + c.args.remove) c.index_from-end.result is' (not_true c.index_from-end.result.whole c.if-not-end.true))),
      (c.index-first.ensures.same, refl),
    )

pub returns-in-Ok : goal.returns-in-Ok
returns-in-Ok g c =
    let view = c.self.view_is ∙ c.index-first.ensures.same in
    let u = c.self.inside.unit in
    let x = (g.W.Walk.view.state c.self.inside.asked).text in
    let w = chars c.args.insert.now in
    let low : c.args.at + c.args.remove ≤ offset_of u x (length x) =
    omega
    (arith, c.if-at-units.false, c.if-remove-units.false, c.units-units.ensures, ap (λ (s : InUnit _). offset_of s.unit (g.W.Walk.view.state s.asked).text (length (g.W.Walk.view.state s.asked).text)) view) in
    let is = subst (λ (s : InUnit _). IsIndex s.unit (g.W.Walk.view.state s.asked).text c.args.at c.index-first.result) (sym view) c.index-first.ensures.index in
    let is' = subst (λ y. IsIndex u y (c.args.at + c.args.remove) c.index_from-end.result) c.text.ensures c.index_from-end.ensures in
    let first = place_at_whole u x c.args.at c.index-first.result is (not_false c.index-first.result.whole c.if-not-first.false) in
    let end = place_at_whole u x (c.args.at + c.args.remove) c.index_from-end.result is' (not_false c.index_from-end.result.whole c.if-not-end.false) in
    let order = ends_in_order u x c.args.at c.args.remove c.index-first.result c.index_from-end.result is is' in
    let k_is : c.saturating_sub.result ≡ c.index_from-end.result.at - c.index-first.result.at = omega (arith, c.saturating_sub.ensures) in
    let done : Unit {0} = tt in
    subst (λ s. Edits (in_unit g.W.Walk.view) s c.args.at c.args.remove w (Ok done) (record { unit = u; asked = c.replace.new.self }) c.args.steps.now c.replace.new.steps) view
    (unit_accepted g.W.Walk.view c.counts_characters.ensures u c.self.inside.asked c.replace.new.self c.args.at c.args.remove w c.index-first.result.at c.index_from-end.result.at
    c.saturating_sub.result k_is low first end order _ _ c.in-Ok.ensures)

pub returns-in-Err : goal.returns-in-Err
returns-in-Err g c =
    let view = c.self.view_is ∙ c.index-first.ensures.same in
    let u = c.self.inside.unit in
    let x = (g.W.Walk.view.state c.self.inside.asked).text in
    let w = chars c.args.insert.now in
    let low : c.args.at + c.args.remove ≤ offset_of u x (length x) =
    omega
    (arith, c.if-at-units.false, c.if-remove-units.false, c.units-units.ensures, ap (λ (s : InUnit _). offset_of s.unit (g.W.Walk.view.state s.asked).text (length (g.W.Walk.view.state s.asked).text)) view) in
    let is = subst (λ (s : InUnit _). IsIndex s.unit (g.W.Walk.view.state s.asked).text c.args.at c.index-first.result) (sym view) c.index-first.ensures.index in
    let is' = subst (λ y. IsIndex u y (c.args.at + c.args.remove) c.index_from-end.result) c.text.ensures c.index_from-end.ensures in
    let first = place_at_whole u x c.args.at c.index-first.result is (not_false c.index-first.result.whole c.if-not-first.false) in
    let end = place_at_whole u x (c.args.at + c.args.remove) c.index_from-end.result is' (not_false c.index_from-end.result.whole c.if-not-end.false) in
    let order = ends_in_order u x c.args.at c.args.remove c.index-first.result c.index_from-end.result is is' in
    let k_is : c.saturating_sub.result ≡ c.index_from-end.result.at - c.index-first.result.at = omega (arith, c.saturating_sub.ensures) in
    subst (λ s. Edits (in_unit g.W.Walk.view) s c.args.at c.args.remove w (failed c.in-Err.error) (record { unit = u; asked = c.replace.new.self }) c.args.steps.now c.replace.new.steps) view
    (unit_refused g.W.Walk.view c.counts_characters.ensures u c.self.inside.asked c.replace.new.self c.args.at c.args.remove w c.index-first.result.at c.index_from-end.result.at
    c.saturating_sub.result k_is low first end order _ _ c.in-Err.error c.in-Err.ensures)
