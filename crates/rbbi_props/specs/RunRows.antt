-- The rows of a property that is known by runs of code points. 32 is the space.
use Rattle.std.specs.Prelude.{◌≡◌, ℕ, ◌≤◌, Bool, ◌==◌, List, [], ◌∷◌, ◌++◌, map, bytes_eq, slice_index_or}
use Rattle.std.specs.List.{list_any, slice_split}
use Rattle.unicode.specs.Steps.{run_value}
use Rattle.rbbi_model.specs.Ranges.{Range}
use Rattle.rbbi_sets.specs.Covers.{covers}
use Rattle.rbbi_props.specs.Rows.{Row, File}
use Rattle.rbbi_props.specs.LooseForms.{loose}
use Rattle.rbbi_props.specs.Lookups.{ranges_of}

-- whether a file has the name, which is loose
abbrev pub has_file : List File → List ℕ → Bool
has_file files name = list_any (λ file. bytes_eq file.name name) files

-- the names in a text, which spaces part
abbrev pub names_in : List ℕ → List (List ℕ)
names_in text = slice_split (λ byte. byte == 32) text

-- whether one of the names in a text has this loose form
abbrev pub is_among : List ℕ → List ℕ → Bool
is_among names name = list_any (λ other. bytes_eq (loose other) name) (names_in names)

-- whether the value with a number has this name, in loose form; the values are the texts of their names, by number
abbrev pub is_named : List (List ℕ) → ℕ → List ℕ → Bool
is_named values number name = is_among (slice_index_or values number []) name

-- a row with the range under each name
abbrev pub rows_under_names : Range → List (List ℕ) → List Row
rows_under_names range names = map (λ name. record { value = loose name; range = range }) names

-- By the rows a code point has the value of each name that the number in its run has, and no other.
abbrev pub AreRowsOf : List ℕ → List (List ℕ) → List Row → Type 0
AreRowsOf runs values rows = (c : ℕ) (name : List ℕ) → c ≤ 0x10FFFF → covers (ranges_of rows name) c ≡ is_named values (run_value runs c) name

-- a file is added under a name, with such rows
pub record AddsRowsOf (runs : List ℕ) (values : List (List ℕ)) (name : List ℕ) (old new : List File) : Type 0 where
  pub rows : List Row
  pub exact : AreRowsOf runs values rows
  pub added : new ≡ old ++ record { name = loose name; rows = rows } ∷ []
