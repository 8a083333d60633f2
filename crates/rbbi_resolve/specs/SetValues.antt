-- The values of the set expressions of a rule file.
use Rattle.std.specs.Prelude.{ℕ, Bool, true, false, nat_le, IsTrue, Option, Some, None, option_map, is_some, List, encode_utf8_all}
use Rattle.std.specs.Prelude.{if◌then◌else◌}
use Rattle.rbbi_model.specs.Words.{IsCodePoint}
use Rattle.rbbi_model.specs.SetTrees as model
use Rattle.rbbi_props.specs.Rows.{File}
use Rattle.rbbi_props.specs.Lookups.{lookup}
use Rattle.rbbi_tree.specs.Trees.{SetSyntax, PartsTree, PartTree, SetItemTree, set_of, no_parts, part, joined, set_character, set_range, set_name, set_property}
use Rattle.rbbi_tree.specs.Trees.{set_within}
use Rattle.rbbi_tree.specs.declared.syntax.Join.{Join}
use Rattle.rbbi_tree.specs.declared.syntax.Join.TheVariants.{Add, Both, Minus}

-- the code points of a property: those that pass its test
abbrev pub Passes : Option (ℕ → Bool) → ℕ → Type 0
Passes None c = ⊥
Passes (Some test) c = IsCodePoint c × IsTrue (test c)

-- the test that the files, or else the database, have for a name and a value, which are of characters
abbrev pub property_test : List File → List ℕ → Option (List ℕ) → Option (ℕ → Bool)
property_test files name value = lookup files (encode_utf8_all name) (option_map encode_utf8_all value)

-- the code point has the property
abbrev pub HasProperty : List File → List ℕ → Option (List ℕ) → ℕ → Type 0
HasProperty files name value c = Passes (property_test files name value) c

-- the sign of a join in the model of sets
abbrev pub join_of : Join → model.Join
join_of Add = model.Add
join_of Both = model.Both
join_of Minus = model.Minus

-- `left join item`, if both have a value; the left one is the last argument
abbrev pub joined_to : Join → Option model.SetTree → Option model.SetTree → Option model.SetTree
joined_to join None left = None
joined_to join (Some item) None = None
joined_to join (Some item) (Some left) = Some (model.Joined left (join_of join) item)

-- the set, or its complement if negated
abbrev pub signed : Bool → model.SetTree → model.SetTree
signed false set = set
signed true set = model.Others set

-- the value of a property, if it is known
abbrev pub value_of_property : List File → Bool → List ℕ → Option (List ℕ) → Option model.SetTree
value_of_property files negated name value =
    if is_some (property_test files name value) then Some (model.Property negated name value) else None

-- the value of a range, unless its first character is greater than its last
abbrev pub value_of_range : ℕ → ℕ → Option model.SetTree
value_of_range first last = if nat_le first last then Some (model.Span (record { low = first; high = last })) else None

-- The value of a set by the values of names: from the left, starting empty. It has none if a part has none.
abbrev mutual
  pub value_of_set : List File → (List ℕ → Option model.SetTree) → SetSyntax → Option model.SetTree
  value_of_set files named (set_of place negated parts) =
      option_map (signed negated) (value_of_parts files named (Some model.Nothing) parts)

  -- the value of parts, joined to what stands to their left
  pub value_of_parts : List File → (List ℕ → Option model.SetTree) → Option model.SetTree → PartsTree → Option model.SetTree
  value_of_parts files named left no_parts = left
  value_of_parts files named left (part first more) =
      value_of_parts files named (value_of_part files named left first) more

  -- the value of a part, joined to what stands to its left
  pub value_of_part : List File → (List ℕ → Option model.SetTree) → Option model.SetTree → PartTree → Option model.SetTree
  value_of_part files named left (joined place join item) = joined_to join (value_of_item files named item) left

  -- the value of an item of a set
  pub value_of_item : List File → (List ℕ → Option model.SetTree) → SetItemTree → Option model.SetTree
  value_of_item files named (set_character c) = Some (model.Character c)
  value_of_item files named (set_range first last) = value_of_range first last
  value_of_item files named (set_name name) = named name
  value_of_item files named (set_property negated name value) = value_of_property files negated name value
  value_of_item files named (set_within inner) = value_of_set files named inner
