-- The trees that the values of the code stand for.
use Rattle.std.specs.Prelude.{◌≡◌, List, map, Option, Some, None}
use Rattle.rbbi_tree.specs.Trees.{SetSyntax, PartsTree, PartTree, SetItemTree, set_of, joined, set_character, set_range, set_name, set_property, set_within}
use Rattle.rbbi_tree.specs.Trees.{parts_of, ExprTree, SeqTree, ItemTree, AtomTree, placed, character, quoted, any, name, property, set, group, expr_of, seq_of}
use Rattle.rbbi_tree.specs.Trees.{StatementTree, nothing, control, assign, rule}
use Rattle.rbbi_tree.specs.declared.syntax.SetExpr.{SetExpr}
use Rattle.rbbi_tree.specs.declared.syntax.Parts.{Parts}
use Rattle.rbbi_tree.specs.declared.syntax.SetPart.{SetPart}
use Rattle.rbbi_tree.specs.declared.syntax.SetItem.{SetItem}
use Rattle.rbbi_tree.specs.declared.syntax.SetItem.TheOpen.{SetExpr-F, Parts-F, SetPart-F, SetItem-F}
use Rattle.rbbi_tree.specs.declared.syntax.SetItem.TheViews.{out-SetExpr, out-Parts, out-SetPart}
use Rattle.rbbi_tree.specs.declared.syntax.SetItem.TheFolds.{fold-SetExpr, fold-Parts, fold-SetPart, fold-SetItem, fold_out-SetExpr, fold_out-Parts}
use Rattle.rbbi_tree.specs.declared.syntax.SetItem.TheFolds.{fold_out-SetPart}
use Rattle.rbbi_tree.specs.declared.syntax.Expr.{Expr}
use Rattle.rbbi_tree.specs.declared.syntax.Seq.{Seq}
use Rattle.rbbi_tree.specs.declared.syntax.Item.{Item}
use Rattle.rbbi_tree.specs.declared.syntax.Atom.{Atom}
use Rattle.rbbi_tree.specs.declared.syntax.Atom.TheOpen.{Expr-F, Seq-F, Item-F, Atom-F}
use Rattle.rbbi_tree.specs.declared.syntax.Atom.TheViews.{out-Expr, out-Seq, out-Item}
use Rattle.rbbi_tree.specs.declared.syntax.Atom.TheFolds.{fold-Expr, fold-Seq, fold-Item, fold-Atom, fold_out-Expr, fold_out-Seq, fold_out-Item}
use Rattle.rbbi_tree.specs.declared.syntax.Statement.{Statement}
use Rattle.rbbi_tree.specs.declared.syntax.Statement.TheVariants.{Nothing, Control, Assign, Rule}

-- one level of each kind of value in a set, with the trees of the values inside in their place
abbrev pub set_step : SetExpr-F SetItemTree PartsTree SetSyntax PartTree → SetSyntax
set_step s = set_of s.place s.negated s.parts

abbrev pub parts_step : Parts-F SetItemTree PartsTree SetSyntax PartTree → PartsTree
parts_step p = parts_of p.items.items

abbrev pub part_step : SetPart-F SetItemTree PartsTree SetSyntax PartTree → PartTree
part_step p = joined p.place p.join p.item

abbrev pub set_item_step : SetItem-F SetItemTree PartsTree SetSyntax PartTree → SetItemTree
set_item_step (SetItem-F.Char c) = set_character c
set_item_step (SetItem-F.Range first last) = set_range first last
set_item_step (SetItem-F.Name word) = set_name word
set_item_step (SetItem-F.Prop negated word value) = set_property negated word value
set_item_step (SetItem-F.Set inner) = set_within inner

-- the tree of a set
abbrev pub set_tree : SetExpr → SetSyntax
set_tree = fold-SetExpr SetItemTree PartsTree SetSyntax PartTree set_item_step parts_step set_step part_step

-- the trees of the parts of a set
abbrev pub parts_tree : Parts → PartsTree
parts_tree = fold-Parts SetItemTree PartsTree SetSyntax PartTree set_item_step parts_step set_step part_step

-- the tree of a part of a set
abbrev pub part_tree : SetPart → PartTree
part_tree = fold-SetPart SetItemTree PartsTree SetSyntax PartTree set_item_step parts_step set_step part_step

-- the tree of what is joined to a set
abbrev pub set_item_tree : SetItem → SetItemTree
set_item_tree = fold-SetItem SetItemTree PartsTree SetSyntax PartTree set_item_step parts_step set_step part_step

-- one level of each kind of value in an expression, with the trees of the values inside in their place
abbrev pub expr_step : Expr-F AtomTree ExprTree ItemTree SeqTree → ExprTree
expr_step e = expr_of e.items.items

abbrev pub seq_step : Seq-F AtomTree ExprTree ItemTree SeqTree → SeqTree
seq_step s = seq_of s.items.items

abbrev pub item_step : Item-F AtomTree ExprTree ItemTree SeqTree → ItemTree
item_step i = placed i.place i.atom i.quant

abbrev pub atom_step : Atom-F AtomTree ExprTree ItemTree SeqTree → AtomTree
atom_step (Atom-F.Char c bare) = character c bare
atom_step (Atom-F.Quoted word) = quoted word
atom_step Atom-F.Any = any
atom_step (Atom-F.Name word) = name word
atom_step (Atom-F.Prop negated word value) = property negated word value
atom_step (Atom-F.Set s) = set (set_tree s)
atom_step (Atom-F.Group e) = group e

-- the tree of an expression
abbrev pub expr_tree : Expr → ExprTree
expr_tree = fold-Expr AtomTree ExprTree ItemTree SeqTree atom_step expr_step item_step seq_step

-- the tree of a sequence
abbrev pub seq_tree : Seq → SeqTree
seq_tree = fold-Seq AtomTree ExprTree ItemTree SeqTree atom_step expr_step item_step seq_step

-- the tree of an item
abbrev pub item_tree : Item → ItemTree
item_tree = fold-Item AtomTree ExprTree ItemTree SeqTree atom_step expr_step item_step seq_step

-- the tree of an atom
abbrev pub atom_tree : Atom → AtomTree
atom_tree = fold-Atom AtomTree ExprTree ItemTree SeqTree atom_step expr_step item_step seq_step

-- the tree of an expression that may be absent
abbrev pub rest_tree : Option Expr → Option ExprTree
rest_tree None = None
rest_tree (Some e) = Some (expr_tree e)

-- the tree of a statement
abbrev pub statement_tree : Statement → StatementTree
statement_tree Nothing = nothing
statement_tree (Control word place) = control word place
statement_tree (Assign word place e) = assign word place (expr_tree e)
statement_tree (Rule place no_chain_in front slash rest tag) = rule place no_chain_in (expr_tree front) slash (rest_tree rest) tag

-- the trees of statements
abbrev pub statement_trees : List Statement → List StatementTree
statement_trees statements = map statement_tree statements

-- a set's tree has its place, its sign and its parts' trees
pub set_tree_out : (s : SetExpr) → set_tree s ≡ set_of (out-SetExpr s).place (out-SetExpr s).negated (parts_tree (out-SetExpr s).parts)
set_tree_out = fold_out-SetExpr SetItemTree PartsTree SetSyntax PartTree set_item_step parts_step set_step part_step

-- the tree of parts has their trees
pub parts_tree_out : (p : Parts) → parts_tree p ≡ parts_of (map part_tree (out-Parts p).items.items)
parts_tree_out = fold_out-Parts SetItemTree PartsTree SetSyntax PartTree set_item_step parts_step set_step part_step

-- a part's tree has its place, its join and its item's tree
pub part_tree_out : (p : SetPart) → part_tree p ≡ joined (out-SetPart p).place (out-SetPart p).join (set_item_tree (out-SetPart p).item)
part_tree_out = fold_out-SetPart SetItemTree PartsTree SetSyntax PartTree set_item_step parts_step set_step part_step

-- an expression's tree has the trees of its sequences
pub expr_tree_out : (e : Expr) → expr_tree e ≡ expr_of (map seq_tree (out-Expr e).items.items)
expr_tree_out = fold_out-Expr AtomTree ExprTree ItemTree SeqTree atom_step expr_step item_step seq_step

-- a sequence's tree has the trees of its items
pub seq_tree_out : (s : Seq) → seq_tree s ≡ seq_of (map item_tree (out-Seq s).items.items)
seq_tree_out = fold_out-Seq AtomTree ExprTree ItemTree SeqTree atom_step expr_step item_step seq_step

-- an item's tree has its place, its atom's tree and how often it stands
pub item_tree_out : (i : Item) → item_tree i ≡ placed (out-Item i).place (atom_tree (out-Item i).atom) (out-Item i).quant
item_tree_out = fold_out-Item AtomTree ExprTree ItemTree SeqTree atom_step expr_step item_step seq_step
