use Rattle.std.proofs.Common.{◌≡◌, IfSome, sym, ap, ◌∙◌, subst}
use Rattle.rbbi_tree.specs.Trees.{joined, set_character, set_range}
use Rattle.rbbi_tree.specs.Values.{part_tree}
use Rattle.rbbi_tree.specs.declared.syntax.Join.TheVariants.{Add}
use Rattle.rbbi_resolve.specs.inner.LiteralRuns.{IsLiteral}
use Rattle.rbbi_resolve.proofs.ItemTrees.{of_character, of_range}
use Rattle.rbbi_resolve.proofs.Collecting.{part_is}
use Rattle.rbbi_resolve.proofs.SetRuns.{literal_character, literal_range}
use Rattle.rbbi_resolve.proofs.collect.literal.Goals as goal

pub returns-in-Char-clause-literal : goal.returns-in-Char-clause-literal
returns-in-Char-clause-literal c =
    let p = c.args.part.now in
    let ch = c.in-Char.c in
    let same : part_tree p ≡ joined p.place Add (set_character ch) =
    part_is p _ (set_character ch) c.in-Char.is (of_character ch) ∙ ap (λ j. joined p.place j (set_character ch)) c.in-Add.is in
    subst (λ x. IfSome c.range_of.result (λ range. IsLiteral range x)) (sym same) (literal_character p.place ch c.range_of.result c.range_of.ensures)

pub returns-in-Range-clause-literal : goal.returns-in-Range-clause-literal
returns-in-Range-clause-literal c =
    let p = c.args.part.now in
    let r = c.in-Range in
    let same : part_tree p ≡ joined p.place Add (set_range r.first r.last) =
    part_is p _ (set_range r.first r.last) r.is (of_range r.first r.last) ∙ ap (λ j. joined p.place j (set_range r.first r.last)) c.in-Add.is in
    subst (λ x. IfSome c.range_of-in-Range.result (λ range. IsLiteral range x)) (sym same)
    (literal_range p.place r.first r.last c.range_of-in-Range.result c.range_of-in-Range.ensures)
