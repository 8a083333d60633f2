use Rattle.std.proofs.Common.{◌+◌, ◌≤◌, length, subst, arith}
use Rattle.rbbi_model.specs.Units.{offset_of}
use Rattle.rbbi_session.proofs.UnitAnswering.{not_true, not_false}
use Rattle.rbbi_session.proofs.UnitEditing.{place_at_whole, place_at_inside, edit_begins_inside, edit_ends_inside}
use Rattle.rbbi_c.proofs.span.span_of.Goals as goal

pub returns-then-not-first : goal.returns-then-not-first
returns-then-not-first c = λ w.
    let unit = c.args.unit in let x = c.args.text.now in
    let low : c.args.at + c.args.remove ≤ offset_of unit x (length x) =
    subst (λ n. c.args.at + c.args.remove ≤ offset_of unit x n) c.len.ensures.exact
    (omega (arith, c.if-at-units.false, c.if-remove-units.false, c.offset-units.ensures)) in
    edit_begins_inside unit x c.args.at c.args.remove w low
    (place_at_inside unit x c.args.at c.index-first.result c.index-first.ensures (not_true c.index-first.result.whole c.if-not-first.true))

pub returns-then-not-end : goal.returns-then-not-end
returns-then-not-end c = λ w.
    let unit = c.args.unit in let x = c.args.text.now in
    let low : c.args.at + c.args.remove ≤ offset_of unit x (length x) =
    subst (λ n. c.args.at + c.args.remove ≤ offset_of unit x n) c.len.ensures.exact
    (omega (arith, c.if-at-units.false, c.if-remove-units.false, c.offset-units.ensures)) in
    let first = place_at_whole unit x c.args.at c.index-first.result c.index-first.ensures (not_false c.index-first.result.whole c.if-not-first.false) in
    edit_ends_inside unit x c.args.at c.args.remove w c.index-first.result.at low first
    (place_at_inside unit x (c.args.at + c.args.remove) c.index-end.result c.index-end.ensures (not_true c.index-end.result.whole c.if-not-end.true))

pub returns : goal.returns
returns c =
    let unit = c.args.unit in let x = c.args.text.now in
    record {
      first_is = place_at_whole unit x c.args.at c.index-first.result c.index-first.ensures (not_false c.index-first.result.whole c.if-not-first.false);
      end_is = place_at_whole unit x (c.args.at + c.args.remove) c.index-end.result c.index-end.ensures
          (not_false c.index-end.result.whole c.if-not-end.false);
      order = c.index-end.ensures.greatest c.index-first.result.at c.index-first.ensures.within (omega (arith, c.index-first.ensures.before));
      within = c.index-end.ensures.within;
      low = subst (λ n. c.args.at + c.args.remove ≤ offset_of unit x n) c.len.ensures.exact
          (omega (arith, c.if-at-units.false, c.if-remove-units.false, c.offset-units.ensures));
    }
