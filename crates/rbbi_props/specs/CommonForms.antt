-- Spellings of names and values that a look-up takes alike.
use Rattle.std.specs.Prelude.{◌≡◌, ℕ, Bool, true, false, List, [], ◌∷◌, Option, option_map, if◌then◌else◌}
use Rattle.unicode.specs.Loose.{has_prefix}
use Rattle.rbbi_props.specs.LooseForms.{loose, is_well_formed}

-- the mark of a well-formed text: `!` where it begins with "is", which the database's names are found without, and else `=`
abbrev pub mark_of : Bool → ℕ
mark_of true = 33
mark_of false = 61

-- the form in which a look-up takes a text: `?` where it isn't well formed, and else its loose form after its mark
abbrev pub common_form : List ℕ → List ℕ
common_form text = if is_well_formed text then mark_of (has_prefix text) ∷ loose text else 63 ∷ []

-- the names have one common form, and so have the values, or there are none
pub record HaveOneForm (name : List ℕ) (value : Option (List ℕ)) (other : List ℕ) (other_value : Option (List ℕ)) : Type 0 where
  pub names : common_form name ≡ common_form other
  pub values : option_map common_form value ≡ option_map common_form other_value
