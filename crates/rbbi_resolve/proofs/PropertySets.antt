-- The values of properties, by what was found for them.
use Rattle.std.proofs.Common.{◌≡◌, ℕ, ◌+◌, ◌≤◌, Bool, false, List, [], ◌∷◌, Option, Some, None, inl, inr, arith}
use Rattle.rbbi_model.specs.Ranges.{Range, Has}
use Rattle.rbbi_sets.specs.Rising.{AreRisingFrom}
use Rattle.rbbi_props.specs.Rows.{File}
use Rattle.rbbi_props.specs.Lookups.{IsSetOf}
use Rattle.rbbi_resolve.specs.SetValues.{property_test, value_of_property}
use Rattle.rbbi_resolve.specs.inner.SetValues.{IsValue}

-- what rising ranges hold is a code point
pub members_are_code_points : (bound : ℕ) (set : List Range) → AreRisingFrom bound set → (c : ℕ) → Has set c → c ≤ 0x10FFFF
members_are_code_points bound [] rising c has = absurd has
members_are_code_points bound (range ∷ ranges) rising c has =
    elim has [ inl h ↦ omega (arith, h.1, rising.2) | inr h ↦ members_are_code_points (range.high + 2) ranges rising.3 c h ]

-- what was found is the value of the property
pub value_of_found : (files : List File) (name : List ℕ) (value : Option (List ℕ)) (t : Option (ℕ → Bool)) (set : Option (List Range)) →
    property_test files name value ≡ t → IsSetOf set t → IsValue files (value_of_property files false name value) set
value_of_found files name value None None e h = rw e tt
value_of_found files name value None (Some set) e h = absurd h
value_of_found files name value (Some test) None e h = absurd h
value_of_found files name value (Some test) (Some set) e h =
    rw e (record {
      rising = h.0;
      members = λ c. rw e (λ has. let bound = members_are_code_points 0 set h.0 c has in (bound, (h.1 c bound).0 has), λ p. (h.1 c p.0).1 p.1);
    })
