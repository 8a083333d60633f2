-- The trees of the variants that have values inside.
use Rattle.std.proofs.Common.{◌≡◌, ℕ, Bool, List, Option, sym, ◌∙◌, ap}
use Rattle.rbbi_tree.specs.Trees.{SetItemTree, PartsTree, SetSyntax, PartTree, ExprTree, SeqTree, ItemTree, AtomTree, set_property, set_within, character}
use Rattle.rbbi_tree.specs.Trees.{set_character, set_range, set_name}
use Rattle.rbbi_tree.specs.Trees.{quoted, any, name, property, set, group}
use Rattle.rbbi_tree.specs.Values.{set_item_tree, set_tree, atom_tree, expr_tree, set_item_step, parts_step, set_step, part_step, atom_step, expr_step}
use Rattle.rbbi_tree.specs.Values.{item_step, seq_step}
use Rattle.rbbi_tree.specs.declared.syntax.SetExpr.{SetExpr}
use Rattle.rbbi_tree.specs.declared.syntax.Expr.{Expr}
use Rattle.rbbi_tree.specs.declared.syntax.SetItem as item
use Rattle.rbbi_tree.specs.declared.syntax.SetItem.{SetItem}
use Rattle.rbbi_tree.specs.declared.syntax.SetItem.TheOpen.{SetItem-F}
use Rattle.rbbi_tree.specs.declared.syntax.SetItem.TheVariants as item_variants
use Rattle.rbbi_tree.specs.declared.syntax.SetItem.TheFolds.{fold-roll-SetItem}
use Rattle.rbbi_tree.specs.declared.syntax.Atom as atom
use Rattle.rbbi_tree.specs.declared.syntax.Atom.TheOpen.{Atom-F}
use Rattle.rbbi_tree.specs.declared.syntax.Atom.TheVariants as atom_variants
use Rattle.rbbi_tree.specs.declared.syntax.Atom.TheFolds.{fold-roll-Atom}

pub of_property : (negated : Bool) (word : List ℕ) (value : Option (List ℕ)) → set_item_tree (item.Prop negated word value) ≡ set_property negated word value
of_property negated word value =
    ap set_item_tree (sym (item_variants.rolls-Prop negated word value))
    ∙ fold-roll-SetItem SetItemTree PartsTree SetSyntax PartTree set_item_step parts_step set_step part_step (SetItem-F.Prop negated word value)

pub of_character : (c : ℕ) → set_item_tree (item.Char c) ≡ set_character c
of_character c =
    ap set_item_tree (sym (item_variants.rolls-Char c))
    ∙ fold-roll-SetItem SetItemTree PartsTree SetSyntax PartTree set_item_step parts_step set_step part_step (SetItem-F.Char c)

pub of_range : (first last : ℕ) → set_item_tree (item.Range first last) ≡ set_range first last
of_range first last =
    ap set_item_tree (sym (item_variants.rolls-Range first last))
    ∙ fold-roll-SetItem SetItemTree PartsTree SetSyntax PartTree set_item_step parts_step set_step part_step (SetItem-F.Range first last)

pub of_name : (word : List ℕ) → set_item_tree (item.Name word) ≡ set_name word
of_name word =
    ap set_item_tree (sym (item_variants.rolls-Name word))
    ∙ fold-roll-SetItem SetItemTree PartsTree SetSyntax PartTree set_item_step parts_step set_step part_step (SetItem-F.Name word)

pub of_inner : (inner : SetExpr) → set_item_tree (item.Set inner) ≡ set_within (set_tree inner)
of_inner inner =
    ap set_item_tree (sym (item_variants.rolls-Set inner))
    ∙ fold-roll-SetItem SetItemTree PartsTree SetSyntax PartTree set_item_step parts_step set_step part_step (SetItem-F.Set inner)

pub atom_of_property : (negated : Bool) (word : List ℕ) (value : Option (List ℕ)) → atom_tree (atom.Prop negated word value) ≡ property negated word value
atom_of_property negated word value =
    ap atom_tree (sym (atom_variants.rolls-Prop negated word value))
    ∙ fold-roll-Atom AtomTree ExprTree ItemTree SeqTree atom_step expr_step item_step seq_step (Atom-F.Prop negated word value)

pub atom_of_set : (s : SetExpr) → atom_tree (atom.Set s) ≡ set (set_tree s)
atom_of_set s =
    ap atom_tree (sym (atom_variants.rolls-Set s)) ∙ fold-roll-Atom AtomTree ExprTree ItemTree SeqTree atom_step expr_step item_step seq_step (Atom-F.Set s)

pub atom_of_group : (e : Expr) → atom_tree (atom.Group e) ≡ group (expr_tree e)
atom_of_group e =
    ap atom_tree (sym (atom_variants.rolls-Group e)) ∙ fold-roll-Atom AtomTree ExprTree ItemTree SeqTree atom_step expr_step item_step seq_step (Atom-F.Group e)

pub atom_of_character : (c : ℕ) (bare : Bool) → atom_tree (atom.Char c bare) ≡ character c bare
atom_of_character c bare =
    ap atom_tree (sym (atom_variants.rolls-Char c bare))
    ∙ fold-roll-Atom AtomTree ExprTree ItemTree SeqTree atom_step expr_step item_step seq_step (Atom-F.Char c bare)

pub atom_of_quoted : (word : List ℕ) → atom_tree (atom.Quoted word) ≡ quoted word
atom_of_quoted word =
    ap atom_tree (sym (atom_variants.rolls-Quoted word))
    ∙ fold-roll-Atom AtomTree ExprTree ItemTree SeqTree atom_step expr_step item_step seq_step (Atom-F.Quoted word)

pub atom_of_any : atom_tree atom.Any ≡ any
atom_of_any = ap atom_tree (sym atom_variants.rolls-Any) ∙ fold-roll-Atom AtomTree ExprTree ItemTree SeqTree atom_step expr_step item_step seq_step Atom-F.Any

pub atom_of_name : (word : List ℕ) → atom_tree (atom.Name word) ≡ name word
atom_of_name word =
    ap atom_tree (sym (atom_variants.rolls-Name word))
    ∙ fold-roll-Atom AtomTree ExprTree ItemTree SeqTree atom_step expr_step item_step seq_step (Atom-F.Name word)
