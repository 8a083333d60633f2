-- Lists with their latest element first, and the trees of what they hold.
use Rattle.std.proofs.Common.{◌≡◌, List, [], ◌∷◌, ◌++◌, reverse, refl, sym, ◌∙◌, ap}
use Rattle.std.proofs.lemmas.List.{reverse-append}
use Rattle.rbbi_tree.specs.Trees.{PartsTree, PartTree, no_parts, part, parts_of, SeqTree, ItemTree, ExprTree, no_items, item, seq_of, no_alternatives}
use Rattle.rbbi_tree.specs.Trees.{alternative, expr_of}
use Rattle.rbbi_tree.specs.inner.Sets.{parts_back}
use Rattle.rbbi_tree.specs.inner.Statements.{items_back, sequences_back}

parts_back-append : (a b : List PartTree) (more : PartsTree) → parts_back (a ++ b) more ≡ parts_back b (parts_back a more)
parts_back-append [] b more = refl
parts_back-append (p ∷ a) b more = parts_back-append a b (part p more)

-- parts turned round, the latest first, are the parts
pub parts_from_reverse : (ps : List PartTree) → parts_back (reverse ps) no_parts ≡ parts_of ps
parts_from_reverse [] = refl
parts_from_reverse (p ∷ ps) =
    ap (λ l. parts_back l no_parts) (reverse-append (p ∷ []) ps) ∙ parts_back-append (reverse ps) (p ∷ []) no_parts ∙ ap (part p) (parts_from_reverse ps)

items_back-append : (a b : List ItemTree) (more : SeqTree) → items_back (a ++ b) more ≡ items_back b (items_back a more)
items_back-append [] b more = refl
items_back-append (i ∷ a) b more = items_back-append a b (item i more)

-- items turned round, the latest first, are the items
pub items_from_reverse : (is : List ItemTree) → items_back (reverse is) no_items ≡ seq_of is
items_from_reverse [] = refl
items_from_reverse (i ∷ is) =
    ap (λ l. items_back l no_items) (reverse-append (i ∷ []) is) ∙ items_back-append (reverse is) (i ∷ []) no_items ∙ ap (item i) (items_from_reverse is)

sequences_back-append : (a b : List SeqTree) (more : ExprTree) → sequences_back (a ++ b) more ≡ sequences_back b (sequences_back a more)
sequences_back-append [] b more = refl
sequences_back-append (s ∷ a) b more = sequences_back-append a b (alternative s more)

-- sequences turned round, the latest first, are the sequences
pub sequences_from_reverse : (ss : List SeqTree) → sequences_back (reverse ss) no_alternatives ≡ expr_of ss
sequences_from_reverse [] = refl
sequences_from_reverse (s ∷ ss) =
    ap (λ l. sequences_back l no_alternatives) (reverse-append (s ∷ []) ss) ∙ sequences_back-append (reverse ss) (s ∷ []) no_alternatives
    ∙ ap (alternative s) (sequences_from_reverse ss)

-- and with one more at the end
pub expression_from_reverse : (ss : List SeqTree) (s : SeqTree) → expr_of (ss ++ s ∷ []) ≡ sequences_back (reverse ss) (alternative s no_alternatives)
expression_from_reverse ss s =
    sym (sequences_from_reverse (ss ++ s ∷ [])) ∙ ap (λ l. sequences_back l no_alternatives) (reverse-append ss (s ∷ []))
