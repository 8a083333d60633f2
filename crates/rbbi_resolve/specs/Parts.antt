-- The parts of an expression in which a fault may lie, each with its place.
use Rattle.std.specs.Prelude.{ℕ, List, [], ◌∷◌, ◌++◌}
use Rattle.rbbi_tree.specs.Trees.{SetSyntax, PartsTree, PartTree, SetItemTree, set_of, no_parts, part, joined, set_character, set_range, set_name, set_property}
use Rattle.rbbi_tree.specs.Trees.{set_within}
use Rattle.rbbi_tree.specs.Trees.{ExprTree, SeqTree, ItemTree, AtomTree, no_alternatives, alternative, no_items, item, placed, character, quoted, any, name}
use Rattle.rbbi_tree.specs.Trees.{property, set, group}

-- an atom, or an item of a set, with the place of its first token
pub data Part : Type 0 where
  Outside : (place : ℕ) → AtomTree → Part
  Within : (place : ℕ) → SetItemTree → Part

abbrev mutual
  -- the items of a set, those of the sets in it among them
  pub parts_of_set : SetSyntax → List Part
  parts_of_set (set_of place negated parts) = parts_of_parts parts

  pub parts_of_parts : PartsTree → List Part
  parts_of_parts no_parts = []
  parts_of_parts (part first more) = parts_of_part first ++ parts_of_parts more

  pub parts_of_part : PartTree → List Part
  parts_of_part (joined place join member) = parts_in_item member ++ Within place member ∷ []

  pub parts_in_item : SetItemTree → List Part
  parts_in_item (set_character c) = []
  parts_in_item (set_range first last) = []
  parts_in_item (set_name word) = []
  parts_in_item (set_property negated word value) = []
  parts_in_item (set_within inner) = parts_of_set inner

abbrev mutual
  -- the atoms of an expression, those in brackets among them, and the items of its sets
  pub parts_of_expr : ExprTree → List Part
  parts_of_expr no_alternatives = []
  parts_of_expr (alternative first more) = parts_of_seq first ++ parts_of_expr more

  pub parts_of_seq : SeqTree → List Part
  parts_of_seq no_items = []
  parts_of_seq (item first more) = parts_of_item first ++ parts_of_seq more

  pub parts_of_item : ItemTree → List Part
  parts_of_item (placed place atom quant) = parts_in_atom atom ++ Outside place atom ∷ []

  pub parts_in_atom : AtomTree → List Part
  parts_in_atom (character c bare) = []
  parts_in_atom (quoted word) = []
  parts_in_atom any = []
  parts_in_atom (name word) = []
  parts_in_atom (property negated word value) = []
  parts_in_atom (set s) = parts_of_set s
  parts_in_atom (group inner) = parts_of_expr inner
