use Rattle.std.proofs.Common.{◌≡◌, ◌≤◌, inl, inr, length, refl, subst, arith}
use Rattle.rbbi_model.specs.Units.{offset_of}
use Rattle.rbbi_session.proofs.UnitAnswering.{not_true, not_false}
use Rattle.rbbi_session.proofs.UnitEditing.{place_at_whole, place_at_inside}
use Rattle.rbbi_c.proofs.part.part_of.Goals as goal

pub returns-then-not-first : goal.returns-then-not-first
returns-then-not-first g c =
    let unit = c.args.unit in let x = c.args.text.now in
    let within : c.args.to ≤ offset_of unit x (length x) =
    subst (λ n. c.args.to ≤ offset_of unit x n) c.len.ensures.exact (omega (arith, c.if-units-to.false, c.offset-units.ensures)) in
    let inside = place_at_inside unit x c.args.from c.index-first.result c.index-first.ensures (not_true c.index-first.result.whole c.if-not-first.true) in
    inr (inl (refl, c.if-to-from.false, within, inl inside))

pub returns-then-not-last : goal.returns-then-not-last
returns-then-not-last g c =
    let unit = c.args.unit in let x = c.args.text.now in
    let within : c.args.to ≤ offset_of unit x (length x) =
    subst (λ n. c.args.to ≤ offset_of unit x n) c.len.ensures.exact (omega (arith, c.if-units-to.false, c.offset-units.ensures)) in
    let inside = place_at_inside unit x c.args.to c.index-last.result c.index-last.ensures (not_true c.index-last.result.whole c.if-not-last.true) in
    inr (inl (refl, c.if-to-from.false, within, inr inside))

pub returns-in-Ok : goal.returns-in-Ok
returns-in-Ok g c =
    let unit = c.args.unit in let x = c.args.text.now in
    record {
      first = c.index-first.result.at;
      last = c.index-last.result.at;
      first_is = place_at_whole unit x c.args.from c.index-first.result c.index-first.ensures (not_false c.index-first.result.whole c.if-not-first.false);
      last_is = place_at_whole unit x c.args.to c.index-last.result c.index-last.ensures (not_false c.index-last.result.whole c.if-not-last.false);
      spelled = c.in-Ok.ensures;
    }
