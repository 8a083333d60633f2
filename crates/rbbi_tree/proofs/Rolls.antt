-- The trees of values that are made of their parts.
use Rattle.std.proofs.Common.{◌≡◌, map, ◌∙◌, ap}
use Rattle.rbbi_tree.specs.Trees.{expr_of, seq_of, parts_of, set_of}
use Rattle.rbbi_tree.specs.Values.{expr_tree, seq_tree, item_tree, expr_tree_out, seq_tree_out, set_tree, parts_tree, part_tree, set_tree_out, parts_tree_out}
use Rattle.rbbi_tree.specs.declared.syntax.Expr.{Expr}
use Rattle.rbbi_tree.specs.declared.syntax.Seq.{Seq}
use Rattle.rbbi_tree.specs.declared.syntax.Item.{Item}
use Rattle.rbbi_tree.specs.declared.syntax.Atom.{Atom}
use Rattle.rbbi_tree.specs.declared.syntax.Atom.TheOpen.{Expr-F, Seq-F}
use Rattle.rbbi_tree.specs.declared.syntax.Atom.TheViews.{roll-Expr, roll-Seq, out-roll-Expr, out-roll-Seq}
use Rattle.rbbi_tree.specs.declared.syntax.SetExpr.{SetExpr}
use Rattle.rbbi_tree.specs.declared.syntax.Parts.{Parts}
use Rattle.rbbi_tree.specs.declared.syntax.SetPart.{SetPart}
use Rattle.rbbi_tree.specs.declared.syntax.SetItem.{SetItem}
use Rattle.rbbi_tree.specs.declared.syntax.SetItem.TheOpen.{SetExpr-F, Parts-F}
use Rattle.rbbi_tree.specs.declared.syntax.SetItem.TheViews.{roll-SetExpr, roll-Parts, out-roll-SetExpr, out-roll-Parts}

pub seq_tree_roll : (r : Seq-F Atom Expr Item Seq) → seq_tree (roll-Seq r) ≡ seq_of (map item_tree r.items.items)
seq_tree_roll r = seq_tree_out (roll-Seq r) ∙ ap (λ s. seq_of (map item_tree s.items.items)) (out-roll-Seq r)

pub expr_tree_roll : (r : Expr-F Atom Expr Item Seq) → expr_tree (roll-Expr r) ≡ expr_of (map seq_tree r.items.items)
expr_tree_roll r = expr_tree_out (roll-Expr r) ∙ ap (λ e. expr_of (map seq_tree e.items.items)) (out-roll-Expr r)

pub parts_tree_roll : (r : Parts-F SetItem Parts SetExpr SetPart) → parts_tree (roll-Parts r) ≡ parts_of (map part_tree r.items.items)
parts_tree_roll r = parts_tree_out (roll-Parts r) ∙ ap (λ p. parts_of (map part_tree p.items.items)) (out-roll-Parts r)

pub set_tree_roll : (r : SetExpr-F SetItem Parts SetExpr SetPart) → set_tree (roll-SetExpr r) ≡ set_of r.place r.negated (parts_tree r.parts)
set_tree_roll r = set_tree_out (roll-SetExpr r) ∙ ap (λ s. set_of s.place s.negated (parts_tree s.parts)) (out-roll-SetExpr r)
