use Rattle.std.proofs.Common.{◌≡◌, List, ap, ◌∙◌, subst, rules}
use Rattle.std.specs.HashMap.{values}
use Rattle.std.specs.Rc.{rc_value}
use Rattle.std.proofs.lemmas.List.Elements.{All-weaker}
use Rattle.std.specs.List.{All, Contains}
use Rattle.rbbi_model.specs.Ranges.{Range}
use Rattle.rbbi_classes.specs.Divisions.{ClassDivision, IsRespected, stand_in}
use Rattle.rbbi_classes.proofs.FirstCodePoints.{stand-in_is_point}
use Rattle.rbbi_resolve.specs.inner.ClassValues.{IsKnown}
use Rattle.rbbi_resolve.specs.inner.Questions.{IsRightAnswer}
use Rattle.rbbi_resolve.specs.inner.Covered.{AreRespected, IsBasedAnswer}
use Rattle.rbbi_resolve.proofs.classes.Classes.of.Goals as goal

pub returns-clause-covers : goal.returns-clause-covers
returns-clause-covers c =
    let d : ClassDivision = c.in_ok-new.field-0 in
    let shared : rc_value c.in_ok-division.division ≡ d = search rules in
    let bases = subst (λ sets. (set : List Range) → Contains sets set → IsRespected d set) c.deref.ensures.value c.in_ok-new.ensures.respected in
    let respected : AreRespected (stand_in d) c.in_ok-collection.collection.bases.items =
    record { low = stand-in_is_point d c.in_ok-new.ensures.form; each = bases } in
    rw shared (c.in_ok-collection.ensures.covers (stand_in d) respected)

pub returns-clause-classes : goal.returns-clause-classes
returns-clause-classes c =
    let files = c.args.table.now in
    let d : ClassDivision = c.in_ok-new.field-0 in
    let shared : rc_value c.in_ok-division.division ≡ d = search rules in
    let collection = c.in_ok-collection.collection in
    let answers = All-weaker (IsBasedAnswer files collection.bases.items) (IsRightAnswer files) (λ answer a. a.right) (values collection.answers)
    c.in_ok-collection.ensures.kept.answers in
    let lent : c.as_ref.result.now ≡ d = search rules in
    let known = subst (λ bounds. All (IsKnown files bounds) (values c.in_ok-sets.sets)) (c.layout.ensures.value ∙ ap (λ (x : ClassDivision). x.bounds) lent)
    (c.in_ok-sets.ensures files answers) in
    record {
      divides = rw shared c.in_ok-new.ensures.form;
      known = rw shared known;
    }
