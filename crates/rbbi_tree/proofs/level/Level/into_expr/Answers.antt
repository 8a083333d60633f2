use Rattle.std.proofs.Common.{◌≡◌, [], ◌∷◌, ◌++◌, map, reverse, sym, ◌∙◌, ap}
use Rattle.std.proofs.lemmas.List.{map-append}
use Rattle.rbbi_tree.specs.Trees.{seq_of, alternative, no_alternatives, expr_of}
use Rattle.rbbi_tree.specs.inner.Statements.{sequences_back}
use Rattle.rbbi_tree.specs.Values.{seq_tree, item_tree}
use Rattle.rbbi_tree.proofs.Backs.{items_from_reverse, expression_from_reverse}
use Rattle.rbbi_tree.proofs.Rolls.{seq_tree_roll, expr_tree_roll}
use Rattle.rbbi_tree.proofs.level.Level.into_expr.Goals as goal

pub returns : goal.returns
returns c =
    let ss = map seq_tree c.args.self.sequences.items in
    let is = map item_tree c.args.self.items.items in
    let e : map seq_tree c.push_lean.new.list.items ≡ ss ++ seq_of is ∷ [] =
    rw (c.in_ok-push_lean.ensures, map-append)
    (ap (λ s. ss ++ s ∷ []) (seq_tree_roll _ ∙ ap (λ xs. seq_of (map item_tree xs)) c.shrink_to_fit.ensures.items)) in
    expr_tree_roll _
    ∙ ap (λ xs. expr_of (map seq_tree xs)) c.shrink_to_fit-2.ensures.items
    ∙ ap expr_of e
    ∙ expression_from_reverse ss (seq_of is)
    ∙ ap (λ t. sequences_back (reverse ss) (alternative t no_alternatives)) (sym (items_from_reverse is))
