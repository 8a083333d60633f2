use Rattle.std.proofs.Common.{IfSome, sym, subst}
use Rattle.std.specs.List.{AllByRecursion, Contains}
use Rattle.std.specs.HashMap.{values}
use Rattle.std.specs.List.{All}
use Rattle.std.specs.Map.{values_of}
use Rattle.std.specs.Rc.{rc_value}
use Rattle.std.proofs.lemmas.List.Elements.{recursion_from_All, All-from_recursion}
use Rattle.rbbi_resolve.specs.inner.Covered.{AreSingled, IsBasedAnswer}
use Rattle.rbbi_resolve.proofs.Answered.{values_insert}
use Rattle.rbbi_resolve.proofs.Collecting.{answers_kept, singled_kept}
use Rattle.rbbi_resolve.specs.SetValues.{value_of_property}
use Rattle.rbbi_resolve.specs.inner.SetValues.{IsValue}
use Rattle.rbbi_resolve.proofs.collection.Collection.add_property.Goals as goal
use Rattle.rbbi_resolve.proofs.collection.Collection.add_property.Goals.{In_ok-set}

-- what was found is the value of the property
value : (c : In_ok-set) → IsValue c.args.table.now (value_of_property c.args.table.now c.args.negated c.args.name.now c.args.value.now)
    (rc_value c.in_ok-set.set)
value c =
    subst (IsValue c.args.table.now (value_of_property c.args.table.now c.args.negated c.args.name.now c.args.value.now)) (sym c.in_ok-set.ensures)
    c.in_ok-found.ensures

pub returns-clause-based : goal.returns-clause-based
returns-clause-based c =
    record {
      set = rc_value c.in_ok-set.set;
      value_is = value (goal.at.returns-clause-based c).In_ok-set;
      own = subst (λ s. IfSome s (Contains c.add_set.new.self.bases.items)) c.as_ref.ensures c.in_ok-add_set.ensures.own;
    }

pub returns-clause-kept : goal.returns-clause-kept
returns-clause-kept c =
    let files = c.args.table.now in
    let bases = c.add_set.new.self.bases.items in
    let P = IsBasedAnswer files bases in
    let own = subst (λ s. IfSome s (Contains bases)) c.as_ref.ensures c.in_ok-add_set.ensures.own in
    let before = answers_kept files c.args.self.now.bases.items bases (values c.args.self.now.answers) c.in_ok-add_set.ensures.keeps c.requires.answers in
    let kept = subst (λ m. All P (values m)) (sym c.add_set.ensures.answers) before in
    record {
      answers = All-from_recursion P _
          (subst (λ entries. AllByRecursion P (values_of entries)) (sym c.in_ok-insert.ensures.entries)
          (values_insert _ P _ _ _ (recursion_from_All P _ kept) (record {
            right = c.in_ok-answer.ensures.right files (value (goal.at.returns-clause-kept c).In_ok-set);
            own = subst (λ s. IfSome s (Contains bases)) (sym c.in_ok-answer.ensures.set) own;
          })));
      singled =
          subst (λ row. AreSingled bases row.items) (sym c.add_set.ensures.characters)
          (singled_kept c.args.self.now.bases.items bases c.args.self.now.characters.items c.in_ok-add_set.ensures.keeps c.requires.singled);
    }
