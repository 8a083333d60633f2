use Rattle.std.proofs.Common.{◌≡◌, [], ◌++◌, sym, ap, ◌∙◌, subst, arith, append-nil, chars}
use Rattle.std.proofs.lemmas.Bool.{eqb-true}
use Rattle.std.proofs.lemmas.List.{drop_all}
use Rattle.std.proofs.lemmas.Str.{chars-nil}
use Rattle.rbbi_model.specs.Words.{IsText}
use Rattle.rbbi_text.proofs.Characters.{IsText-chars}
use Rattle.rbbi_text.proofs.plain.decoded.Goals as goal

pub returns : goal.returns
returns c =
    let none : c.loop-rest.rest.now ≡ [] = drop_all 0 c.loop-rest.rest.now (omega (arith, eqb-true _ _ (sym c.is_empty.ensures ∙ c.loop-rest-test.false))) in
    let all : c.loop-rest.items.items ≡ chars c.args.text.now =
    sym (append-nil c.loop-rest.items.items) ∙ ap (λ xs. c.loop-rest.items.items ++ xs) (sym (ap chars none ∙ chars-nil)) ∙ c.loop-rest.invariant.same in
    (all, (subst IsText (sym all) (IsText-chars c.args.text.now c.utf8.text), c.loop-rest.invariant.few))
