use Rattle.std.proofs.Common.{◌≡◌, ℕ, ◌+◌, ◌-◌, ◌<◌, ◌≤◌, length, sym, ap, ◌∙◌, subst, arith}
use Rattle.rbbi_model.specs.Places.{largest}
use Rattle.rbbi_model.specs.Tables.{statuses_of}
use Rattle.rbbi_model.specs.Units.{offset_of}
use Rattle.rbbi_model.specs.Searches.{found, look_end}
use Rattle.rbbi_model.proofs.Found.{found_lies}
use Rattle.rbbi_session.proofs.Reaching.{found_within}
use Rattle.rbbi_c.specs.declared.bounds.Bound.{Bound}
use Rattle.rbbi_c.proofs.Stretched.{far, units_there, place_there, list_there, finds_next}
use Rattle.rbbi_c.proofs.stretch.next_within.Goals as goal

pub overflow_add-result : goal.overflow_add-result
overflow_add-result g c =
    let e = c.args.stretch.now.excerpt in
    let x = c.args.text.now in
    let inside : c.args.bound.at - c.from-start.result < length e.items = omega (arith, c.if-bound-start-2.false, c.len.ensures.exact) in
    let low : c.next-found.result.at ≤ length e.items =
    omega (arith, c.next-found.ensures.at, (found_lies c.args.table.now e.items (c.args.bound.at - c.from-start.result) inside).1) in
    omega (arith, low, c.from-start.ensures, c.requires.stretch.excerpt_of.within, far c.args.unit x 0 (length x) (omega arith) (omega arith), c.requires.small)

pub get-requires-clause-within : goal.get-requires-clause-within
get-requires-clause-within g c =
    subst (λ n. n < length c.args.table.now.lists) (sym c.next-found.ensures.status)
    (found_within c.args.table.now c.valid.ensures c.args.stretch.now.excerpt.items (c.args.bound.at - c.from-start.result))

pub overflow_add-result-2 : goal.overflow_add-result-2
overflow_add-result-2 g c =
    let e = c.args.stretch.now.excerpt in
    let x = c.args.text.now in
    let s : ℕ = c.args.bound.at - c.from-start.result in
    let inside : c.args.bound.at - c.from-start.result < length e.items = omega (arith, c.if-bound-start-2.false, c.len.ensures.exact) in
    let low : c.next-found.result.at ≤ length e.items =
    omega (arith, c.next-found.ensures.at, (found_lies c.args.table.now e.items (c.args.bound.at - c.from-start.result) inside).1) in
    let there : c.args.bound.at ≡ e.from + (c.args.bound.at - c.from-start.result) = omega (arith, c.from-start.ensures, c.if-bound-start.false) in
    let units = units_there x e c.requires.stretch.excerpt_of c.args.unit s c.next-found.result.at c.args.bound.offset c.units_on.result
    (omega (arith, inside)) low (c.requires.bound.offset_is ∙ ap (offset_of c.args.unit x) there) c.units_on.ensures.sum in
    omega (
      arith,
      units,
      far c.args.unit x (e.from + c.next-found.result.at) (length x) (omega (arith, low, c.requires.stretch.excerpt_of.within)) (omega arith),
      c.requires.small,
    )

pub returns-clause-found : goal.returns-clause-found
returns-clause-found g c =
    let table = c.args.table.now in
    let e = c.args.stretch.now.excerpt in
    let is = c.requires.stretch.excerpt_of in
    let x = c.args.text.now in
    let unit = c.args.unit in
    let s : ℕ = c.args.bound.at - c.from-start.result in
    let at : ℕ = c.next-found.result.at in
    let inside : c.args.bound.at - c.from-start.result < length e.items = omega (arith, c.if-bound-start-2.false, c.len.ensures.exact) in
    let look = c.next-found.ensures.look in
    let near : look_end table e.items s ≤ length e.items = omega (arith, look, c.if-found-len.false, c.len-2.ensures.exact) in
    let low : c.next-found.result.at ≤ length e.items =
    omega (arith, c.next-found.ensures.at, (found_lies table e.items (c.args.bound.at - c.from-start.result) inside).1) in
    let there : c.args.bound.at ≡ e.from + (c.args.bound.at - c.from-start.result) = omega (arith, c.from-start.ensures, c.if-bound-start.false) in
    let start : c.from-start.result + c.next-found.result.at ≡ e.from + c.next-found.result.at = ap (λ n. n + c.next-found.result.at) c.from-start.ensures in
    let units = units_there x e is unit s at c.args.bound.offset c.units_on.result (omega (arith, inside)) low
    (c.requires.bound.offset_is ∙ ap (offset_of unit x) there) c.units_on.ensures.sum in
    let next : Bound = record { at = c.from-start.result + c.next-found.result.at; offset = c.args.bound.offset + c.units_on.result; status = c.get.result } in
    finds_next table unit x c.args.bound.at next c.requires.bound.is_place (omega (arith, there, inside, is.within))
    (start ∙ ap (λ n. e.from + n) c.next-found.ensures.at ∙ sym (place_there table x e is s inside near) ∙ ap (λ p. (found table x p).at) (sym there))
    (units ∙ ap (offset_of unit x) (sym start))
    (c.get.ensures
    ∙ ap (λ n. largest (statuses_of table n))
    (c.next-found.ensures.status ∙ sym (list_there table x e is s inside near) ∙ ap (λ p. (found table x p).list) (sym there)))
