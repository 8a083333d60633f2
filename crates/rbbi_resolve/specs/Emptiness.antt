-- Whether a set holds a character, as a test.
use Rattle.std.specs.Prelude.{ℕ, zero, suc, ◌==◌, Bool, true, false, not, ◌&&◌, ◌||◌, nat_le, Option, Some, None, List}
use Rattle.rbbi_model.specs.SetTrees as model
use Rattle.rbbi_sets.specs.Covers.{is_between}
use Rattle.rbbi_props.specs.Rows.{File}
use Rattle.rbbi_resolve.specs.SetValues.{property_test}

-- whether the code point passes the test, if there is one
abbrev pub passes_test : Option (ℕ → Bool) → ℕ → Bool
passes_test None c = false
passes_test (Some test) c = nat_le c 0x10FFFF && test c

-- whether it is in the property, or in the complement if that is negated
abbrev pub in_property : Bool → ℕ → Bool → Bool
in_property false c own = own
in_property true c own = nat_le c 0x10FFFF && not own

abbrev pub in_join : model.Join → Bool → Bool → Bool
in_join model.Add left right = left || right
in_join model.Both left right = left && right
in_join model.Minus left right = left && not right

-- whether the code point is in the set
abbrev pub in_set : List File → model.SetTree → ℕ → Bool
in_set files model.Nothing c = false
in_set files (model.Character d) c = c == d
in_set files (model.Span range) c = is_between range.low range.high c
in_set files (model.Property negated name value) c = in_property negated c (passes_test (property_test files name value) c)
in_set files (model.Joined left join part) c = in_join join (in_set files left c) (in_set files part c)
in_set files (model.Others set) c = nat_le c 0x10FFFF && not (in_set files set c)

-- whether the code point is no surrogate
abbrev pub is_no_surrogate : ℕ → Bool
is_no_surrogate c = not (is_between 0xD800 0xDFFF c)

-- whether some number below the end passes
unfoldable pub any_below : (ℕ → Bool) → ℕ → Bool
any_below test zero = false
any_below test (suc end) = test end || any_below test end

-- whether the set holds a character
unfoldable pub holds_character : List File → model.SetTree → Bool
holds_character files set = any_below (λ c. is_no_surrogate c && in_set files set c) 0x110000
