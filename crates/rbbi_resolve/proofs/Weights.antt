-- A number that falls from an expression to its parts.
use Rattle.std.proofs.Common.{◌≡◌, ℕ, zero, suc, ◌+◌, ◌<◌, List, [], ◌∷◌, map, length, get_or, ap, arith}
use Rattle.rbbi_tree.specs.Trees.{ExprTree, SeqTree, ItemTree, AtomTree, no_alternatives, alternative, no_items, item, placed, character, quoted, any, name}
use Rattle.rbbi_tree.specs.Trees.{property, set, group, expr_of, seq_of}
use Rattle.rbbi_tree.specs.Trees.{SetSyntax, PartsTree, PartTree, SetItemTree, set_of, no_parts, part, joined, set_character, set_range, set_name, set_property}
use Rattle.rbbi_tree.specs.Trees.{set_within, parts_of}
use Rattle.rbbi_tree.specs.Values.{seq_tree, item_tree, atom_tree, part_tree, set_item_tree, item_tree_out, part_tree_out}
use Rattle.rbbi_tree.specs.declared.syntax.SetPart.{SetPart}
use Rattle.rbbi_tree.specs.declared.syntax.SetItem.TheViews.{out-SetPart}
use Rattle.rbbi_tree.specs.declared.syntax.Seq.{Seq}
use Rattle.rbbi_tree.specs.declared.syntax.Item.{Item}
use Rattle.rbbi_tree.specs.declared.syntax.Atom.TheViews.{out-Item}

abbrev mutual
  pub size_of_expr : ExprTree → ℕ
  size_of_expr no_alternatives = 1
  size_of_expr (alternative first more) = size_of_seq first + (size_of_expr more + 1)

  pub size_of_seq : SeqTree → ℕ
  size_of_seq no_items = 1
  size_of_seq (item first more) = size_of_item first + (size_of_seq more + 1)

  pub size_of_item : ItemTree → ℕ
  size_of_item (placed place atom quant) = size_of_atom atom + 1

  pub size_of_atom : AtomTree → ℕ
  size_of_atom (character c bare) = 1
  size_of_atom (quoted word) = 1
  size_of_atom any = 1
  size_of_atom (name word) = 1
  size_of_atom (property negated word value) = 1
  size_of_atom (set s) = 1
  size_of_atom (group inner) = size_of_expr inner + 1

abbrev mutual
  pub size_of_set : SetSyntax → ℕ
  size_of_set (set_of place negated parts) = size_of_parts parts + 1

  pub size_of_parts : PartsTree → ℕ
  size_of_parts no_parts = 1
  size_of_parts (part first more) = size_of_part first + (size_of_parts more + 1)

  pub size_of_part : PartTree → ℕ
  size_of_part (joined place join member) = size_of_member member + 1

  pub size_of_member : SetItemTree → ℕ
  size_of_member (set_character c) = 1
  size_of_member (set_range first last) = 1
  size_of_member (set_name word) = 1
  size_of_member (set_property negated word value) = 1
  size_of_member (set_within inner) = size_of_set inner + 1

pub smaller_seq : (items : List Seq) (i : ℕ) (p : Seq) → i < length items → p ≡ get_or items i p →
    size_of_seq (seq_tree p) < size_of_expr (expr_of (map seq_tree items))
smaller_seq [] i p inside is = absurd (omega arith)
smaller_seq (s ∷ items) zero p inside is = let e = ap (λ x. size_of_seq (seq_tree x)) is in omega arith
smaller_seq (s ∷ items) (suc i) p inside is = let r = smaller_seq items i p (omega arith) is in omega arith

pub smaller_item : (items : List Item) (i : ℕ) (p : Item) → i < length items → p ≡ get_or items i p → size_of_item (item_tree p) < size_of_seq
    (seq_of (map item_tree items))
smaller_item [] i p inside is = absurd (omega arith)
smaller_item (s ∷ items) zero p inside is = let e = ap (λ x. size_of_item (item_tree x)) is in omega arith
smaller_item (s ∷ items) (suc i) p inside is = let r = smaller_item items i p (omega arith) is in omega arith

pub smaller_atom : (i : Item) → size_of_atom (atom_tree (out-Item i).atom) < size_of_item (item_tree i)
smaller_atom i = let e = ap size_of_item (item_tree_out i) in omega arith

pub smaller_member : (items : List SetPart) (i : ℕ) (p : SetPart) → i < length items → p ≡ get_or items i p →
    size_of_member (set_item_tree (out-SetPart p).item) < size_of_parts (parts_of (map part_tree items))
smaller_member [] i p inside is = absurd (omega arith)
smaller_member (s ∷ items) zero p inside is =
    let e = ap (λ x. size_of_part (part_tree x)) is in
    let o = ap size_of_part (part_tree_out p) in
    omega arith
smaller_member (s ∷ items) (suc i) p inside is = let r = smaller_member items i p (omega arith) is in omega arith

pub smaller_part : (items : List SetPart) (i : ℕ) (p : SetPart) → i < length items → p ≡ get_or items i p →
    size_of_part (part_tree p) < size_of_parts (parts_of (map part_tree items))
smaller_part [] i p inside is = absurd (omega arith)
smaller_part (s ∷ items) zero p inside is = let e = ap (λ x. size_of_part (part_tree x)) is in omega arith
smaller_part (s ∷ items) (suc i) p inside is = let r = smaller_part items i p (omega arith) is in omega arith
