use Rattle.std.proofs.Common.{sym, subst, rules}
use Rattle.std.specs.List.{AllByRecursion}
use Rattle.std.specs.Map.{values_of}
use Rattle.std.proofs.lemmas.List.Elements.{recursion_from_All, All-from_recursion}
use Rattle.rbbi_resolve.specs.inner.ClassValues.{IsKnown}
use Rattle.rbbi_resolve.specs.inner.Questions.{IsRightAnswer}
use Rattle.rbbi_resolve.proofs.Answered.{values_insert, value_at, answer_known}
use Rattle.rbbi_resolve.proofs.classes.add_known.Goals as goal

pub returns-in_ok-insert-clause-known : goal.returns-in_ok-insert-clause-known
returns-in_ok-insert-clause-known c =
    λ files answers before.
    let P = IsKnown files c.args.layout.now in
    let right = value_at (IsRightAnswer files) c.args.answers.now.entries c.args.number (c.in-Some.key.now, c.in-Some.answer.now)
    (recursion_from_All _ _ answers) (search rules) in
    All-from_recursion P _
    (subst (λ entries. AllByRecursion P (values_of entries)) (sym c.in_ok-insert.ensures.entries)
    (values_insert _ P _ _ _ (recursion_from_All P _ before)
    (answer_known files c.args.layout.now c.in-Some.answer.now (record { question = c.in_ok-question.question; set = c.in_ok-set.set })
    right (search rules) c.in_ok-set.ensures.classes)))
