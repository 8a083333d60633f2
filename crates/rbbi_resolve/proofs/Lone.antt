-- An expression that is one atom with no quantifier, or is not.
use Rattle.std.proofs.Common.{◌≡◌, None, List, [], ◌∷◌, map, length, slice_index_or, sym, refl, ap, ◌∙◌, arith}
use Rattle.std.proofs.lemmas.List.{length-map}
use Rattle.rbbi_tree.specs.Trees.{SeqTree, ItemTree, no_alternatives, alternative, no_items, item, placed, expr_of, seq_of}
use Rattle.rbbi_tree.specs.Values.{expr_tree, seq_tree, item_tree, atom_tree, expr_tree_out, seq_tree_out, item_tree_out}
use Rattle.rbbi_tree.specs.declared.syntax.Expr.{Expr}
use Rattle.rbbi_tree.specs.declared.syntax.Seq.{Seq}
use Rattle.rbbi_tree.specs.declared.syntax.Item.{Item}
use Rattle.rbbi_tree.specs.declared.syntax.Atom.TheViews.{out-Expr, out-Seq}
use Rattle.rbbi_resolve.specs.Contexts.{Context}
use Rattle.rbbi_resolve.specs.Expressions.{set_of_expr}

-- a list of one
one_of_list : {A : Type 0} (xs : List A) (x : A) → length xs ≡ 1 → x ≡ slice_index_or xs 0 x → xs ≡ x ∷ []
one_of_list [] x len is = absurd (omega arith)
one_of_list (y ∷ []) x len is = ap (λ z. z ∷ []) (sym is)
one_of_list (y ∷ z ∷ xs) x len is = absurd (omega arith)

not_one_sequence : (k : Context) (ss : List SeqTree) → ¬ (length ss ≡ 1) → set_of_expr k (expr_of ss) ≡ None
not_one_sequence k [] n = refl
not_one_sequence k (s ∷ []) n = absurd (n refl)
not_one_sequence k (no_items ∷ t ∷ ss) n = refl
not_one_sequence k (item first no_items ∷ t ∷ ss) n = refl
not_one_sequence k (item first (item second rest) ∷ t ∷ ss) n = refl

not_one_item : (k : Context) (is : List ItemTree) → ¬ (length is ≡ 1) → set_of_expr k (alternative (seq_of is) no_alternatives) ≡ None
not_one_item k [] n = refl
not_one_item k (i ∷ []) n = absurd (n refl)
not_one_item k (i ∷ j ∷ is) n = refl

-- of more or fewer sequences than one
pub not_lone_sequence : (k : Context) (e : Expr) → ¬ (length (out-Expr e).items.items ≡ 1) → set_of_expr k (expr_tree e) ≡ None
not_lone_sequence k e n =
    let same : length (map seq_tree (out-Expr e).items.items) ≡ length (out-Expr e).items.items = simp length-map in
    ap (set_of_expr k) (expr_tree_out e) ∙ not_one_sequence k (map seq_tree (out-Expr e).items.items) (λ one. n (sym same ∙ one))

-- of one sequence
pub lone_sequence : (e : Expr) (s : Seq) → length (out-Expr e).items.items ≡ 1 → s ≡ slice_index_or (out-Expr e).items.items 0 s →
    expr_tree e ≡ alternative (seq_tree s) no_alternatives
lone_sequence e s len is = expr_tree_out e ∙ ap (λ xs. expr_of (map seq_tree xs)) (one_of_list (out-Expr e).items.items s len is)

-- of one sequence with more or fewer items than one
pub not_lone_item : (k : Context) (e : Expr) (s : Seq) → expr_tree e ≡ alternative (seq_tree s) no_alternatives → ¬ (length (out-Seq s).items.items ≡ 1) →
    set_of_expr k (expr_tree e) ≡ None
not_lone_item k e s is n =
    let same : length (map item_tree (out-Seq s).items.items) ≡ length (out-Seq s).items.items = simp length-map in
    ap (set_of_expr k) (is ∙ ap (λ t. alternative t no_alternatives) (seq_tree_out s))
    ∙ not_one_item k (map item_tree (out-Seq s).items.items) (λ one. n (sym same ∙ one))

-- of one item
pub lone_item : (e : Expr) (s : Seq) (i : Item) → expr_tree e ≡ alternative (seq_tree s) no_alternatives → length (out-Seq s).items.items ≡ 1 →
    i ≡ slice_index_or (out-Seq s).items.items 0 i →
    expr_tree e ≡ alternative (item (placed i.place (atom_tree i.atom) i.quant) no_items) no_alternatives
lone_item e s i is len at =
    is ∙ ap (λ t. alternative t no_alternatives) (seq_tree_out s ∙ ap (λ xs. seq_of (map item_tree xs)) (one_of_list (out-Seq s).items.items i len at)
    ∙ ap (λ t. item t no_items) (item_tree_out i))
