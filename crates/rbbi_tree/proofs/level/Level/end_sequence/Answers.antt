use Rattle.std.proofs.Common.{◌≡◌, [], ◌∷◌, ◌++◌, map, reverse, sym, ◌∙◌, ap, refl}
use Rattle.std.proofs.lemmas.List.{map-append, reverse-append}
use Rattle.rbbi_tree.specs.Trees.{seq_of, no_items}
use Rattle.rbbi_tree.specs.inner.Statements.{items_back}
use Rattle.rbbi_tree.specs.Values.{seq_tree, item_tree}
use Rattle.rbbi_tree.proofs.Backs.{items_from_reverse}
use Rattle.rbbi_tree.proofs.Rolls.{seq_tree_roll}
use Rattle.rbbi_tree.proofs.level.Level.end_sequence.Goals as goal

pub returns : goal.returns
returns c =
    let ss = map seq_tree c.args.self.now.sequences.items in
    let is = map item_tree c.args.self.now.items.items in
    let e : map seq_tree c.push.new.self.items ≡ ss ++ seq_of is ∷ [] =
    rw (c.in_ok-push.ensures.items, map-append)
    (ap (λ s. ss ++ s ∷ []) (seq_tree_roll _ ∙ ap (λ xs. seq_of (map item_tree xs))
    (c.shrink_to_fit.ensures.items ∙ ap (λ v. v.items) c.replace-items.ensures.value))) in
    let f : reverse (map seq_tree c.push.new.self.items) ≡ items_back (reverse is) no_items ∷ reverse ss =
    ap reverse e ∙ reverse-append ss (seq_of is ∷ []) ∙ ap (λ s. s ∷ reverse ss) (sym (items_from_reverse is)) in
    rw (f, c.replace-items.ensures.after, c.new.ensures.items) refl
