use Rattle.std.proofs.Common.{◌++◌, ◌∷◌, [], refl, ap, ◌∙◌, arith}
use Rattle.rbbi_model.specs.Spelling as spelling
use Rattle.rbbi_resolve.specs.declared.rules.Tree as tree
use Rattle.rbbi_resolve.specs.declared.rules.Tree.TheViews.{roll-Trees}
use Rattle.rbbi_resolve.proofs.Joining.{joined_alone, joined_behind}
use Rattle.rbbi_resolve.proofs.TreeValues.{tree_of_choice, numbers_of_choice}
use Rattle.rbbi_resolve.proofs.tree.in_choice.Goals as goal

pub returns-then-len-first-eq1 : goal.returns-then-len-first-eq1
returns-then-len-first-eq1 c = λ before parts long is.
    let one = c.if-len-first-eq1.true in
    joined_alone spelling.choice_of (λ t. refl) before parts _ is (omega (arith, c.args.trees.now.ok.0, c.len.ensures))

pub returns : goal.returns
returns c =
    let parts = roll-Trees (record { items = c.in_ok-items.items }) in
    joined_behind spelling.choice_of c.args.first c.args.trees.now.items c.in_ok-items.items.items _ (tree.Alt parts)
    (c.in_ok-push.ensures.items ∙ ap (λ ts. ts ++ tree.Alt parts ∷ []) c.in_ok-items.ensures.items) c.in_ok-items.ensures.tail
    (λ sets. tree_of_choice sets parts) (numbers_of_choice parts)
