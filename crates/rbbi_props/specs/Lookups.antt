-- What a property stands for, a set of code points given as a test.
use Rattle.std.specs.Prelude.{ℕ, ◌≤◌, ◌↔◌, Bool, ◌&&◌, ◌||◌, List, [], ◌∷◌, map, filter, bytes_eq, codes, Option, Some, None, option_map, if◌then◌else◌, IsTrue}
use Rattle.std.specs.List.{flat_map}
use Rattle.std.specs.Str.{chars}
use Rattle.unicode.specs.Lookup.{by_name}
use Rattle.unicode.specs.Loose.{normalize}
use Rattle.unicode.specs.Sets.{in_set}
use Rattle.rbbi_model.specs.Ranges.{Range, Has}
use Rattle.rbbi_sets.specs.Rising.{AreRising}
use Rattle.rbbi_sets.specs.Covers.{covers}
use Rattle.rbbi_props.specs.Rows.{Row, File}
use Rattle.rbbi_props.specs.LooseForms.{loose, is_well_formed}

-- the rows of a file, where it has the name
abbrev pub rows_under : List ℕ → File → List Row
rows_under name file = if bytes_eq file.name name then file.rows else []

-- the ranges of the rows that have the value
abbrev pub ranges_of : List Row → List ℕ → List Range
ranges_of rows value = map (λ row. row.range) (filter (λ row. bytes_eq row.value value) rows)

-- the ranges of all rows that have the value, in all files of the name, both loose
abbrev pub ranges_with : List File → List ℕ → List ℕ → List Range
ranges_with files name value = ranges_of (flat_map (rows_under name) files) value

-- a single name: a binary property, a general category or a script of the Unicode Character Database
abbrev pub single : List ℕ → Option (ℕ → Bool)
single name = if is_well_formed name then option_map in_set (by_name (normalize (chars name))) else None

-- whether a loose name is that of the general category or of the script
abbrev pub is_category_or_script : List ℕ → Bool
is_category_or_script name =
    ((bytes_eq name (codes "gc") || bytes_eq name (codes "generalcategory")) || bytes_eq name (codes "sc")) || bytes_eq name (codes "script")

-- what rows of files give, or else what the value gives as a single name
abbrev pub of_ranges : List Range → Bool → List ℕ → Option (ℕ → Bool)
of_ranges [] is_single value = if is_single then single value else None
of_ranges (range ∷ ranges) is_single value = Some (covers (range ∷ ranges))

-- what is found for a name, and for a name and a value
abbrev pub lookup : List File → List ℕ → Option (List ℕ) → Option (ℕ → Bool)
lookup files name None = single name
lookup files name (Some value) =
    if is_well_formed name && is_well_formed value
    then of_ranges (ranges_with files (loose name) (loose value)) (is_category_or_script (loose name)) value
    else None

-- the set is found exactly where there is a test, and its members are the code points that pass
abbrev pub IsSetOf : Option (List Range) → Option (ℕ → Bool) → Type 0
IsSetOf None None = Unit {0}
IsSetOf (Some set) (Some test) = AreRising set × ((c : ℕ) → c ≤ 0x10FFFF → Has set c ↔ IsTrue (test c))
IsSetOf set test = ⊥
