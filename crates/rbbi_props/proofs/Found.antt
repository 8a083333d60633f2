-- What a look-up finds, from the ranges that are collected.
use Rattle.std.proofs.Common.{◌≡◌, ℕ, ◌+◌, ◌<◌, ◌≤◌, Bool, true, false, cond, ◌||◌, List, [], ◌∷◌, ◌++◌, length, get_or, take, map, filter, bytes_eq, Some}
use Rattle.std.proofs.Common.{None, option_map, refl, ap, sym, ◌∙◌, subst, arith, ◌↔◌}
use Rattle.std.specs.List.{All}
use Rattle.std.specs.Str.{chars}
use Rattle.std.proofs.lemmas.Bool.{and_parts, leb-true, and_from}
use Rattle.std.proofs.lemmas.List.{map-append, append-nil}
use Rattle.std.proofs.lemmas.List.Elements.{All-nil, All-cons, filter_more}
use Rattle.unicode.specs.Rows.{in_ranges, HasExactly, AreRanges}
use Rattle.unicode.specs.Lookup.{by_name}
use Rattle.unicode.specs.Loose.{normalize}
use Rattle.unicode.specs.Sets.{in_set}
use Rattle.rbbi_model.specs.Ranges.{Range, Has}
use Rattle.rbbi_sets.specs.Covers.{covers, is_between}
use Rattle.rbbi_sets.specs.Rising.{AreRising, IsRange}
use Rattle.rbbi_sets.proofs.Coverage.{Decides-covers}
use Rattle.rbbi_props.specs.Rows.{Row, File}
use Rattle.rbbi_props.specs.LooseForms.{loose, is_well_formed}
use Rattle.rbbi_props.specs.Lookups.{IsSetOf, single, lookup, of_ranges, ranges_of, ranges_with, is_category_or_script}

abbrev range_of_pair : ℕ × ℕ → Range
range_of_pair pair = record { low = pair.0; high = pair.1 }

pub valid_pairs : (pairs : List (ℕ × ℕ)) → AreRanges pairs → All IsRange (map (λ pair. record { low = pair.0; high = pair.1 }) pairs)
valid_pairs [] h = All-nil IsRange
valid_pairs (pair ∷ pairs) h =
    let parts = and_parts _ _ h in
    let ends = and_parts _ _ parts.0 in
    All-cons IsRange (range_of_pair pair) (map range_of_pair pairs) (leb-true _ _ ends.0, leb-true _ _ ends.1) (valid_pairs pairs parts.1)

covers_pairs : (pairs : List (ℕ × ℕ)) (c : ℕ) → covers (map range_of_pair pairs) c ≡ in_ranges pairs c
unfolding in_ranges
covers_pairs [] c = refl
covers_pairs (pair ∷ pairs) c = ap (λ b. is_between pair.0 pair.1 c || b) (covers_pairs pairs c)

-- a set of the given ranges holds what the pairs hold
pub set_members : (pairs : List (ℕ × ℕ)) (test : ℕ → Bool) (ranges set : List Range) → HasExactly pairs test →
    ranges ≡ map (λ pair. record { low = pair.0; high = pair.1 }) pairs → ((c : ℕ) → Has set c ↔ Has ranges c) → (c : ℕ) → c ≤ 0x10FFFF →
    Has set c ↔ (test c ≡ true)
set_members pairs test ranges set exactly e same c l =
    let decides = Decides-covers ranges c in
    let test_is : covers ranges c ≡ test c = ap (λ rs. covers rs c) e ∙ covers_pairs pairs c ∙ exactly c l in
    (λ h. sym test_is ∙ decides.1 ((same c).0 h), λ t. (same c).1 (decides.0 (test_is ∙ t)))

pub single_none : (name : List ℕ) → by_name (normalize (chars name)) ≡ None → IsSetOf None (single name)
single_none name e =
    subst (λ o. IsSetOf None (cond (is_well_formed name) (option_map in_set o) None)) (sym e) (nothing (is_well_formed name)) where
      nothing : (b : Bool) → IsSetOf None (cond b (option_map in_set None) None)
      nothing true = tt
      nothing false = tt

pub single_some : (name : List ℕ) (test : ℕ → Bool) (found : List Range) → is_well_formed name ≡ true →
    option_map in_set (by_name (normalize (chars name))) ≡ Some test → AreRising found → ((c : ℕ) → c ≤ 0x10FFFF → Has found c ↔ (test c ≡ true)) →
    IsSetOf (Some found) (single name)
single_some name test found formed e rising members =
    subst (λ o. IsSetOf (Some found) (cond (is_well_formed name) o None)) (sym e)
    (subst (λ b. IsSetOf (Some found) (cond b (Some test) None)) (sym formed) (rising, members))

filled_ranges : (ranges set : List Range) (is_single : Bool) (value : List ℕ) → 0 < length ranges → AreRising set → ((c : ℕ) → Has set c ↔ Has ranges c) →
    IsSetOf (Some set) (of_ranges ranges is_single value)
filled_ranges [] set is_single value l rising same = absurd (omega arith)
filled_ranges (range ∷ ranges) set is_single value l rising same = (
  rising,
  λ c m.
      let decides = Decides-covers (range ∷ ranges) c in
      (λ h. decides.1 ((same c).0 h), λ t. (same c).1 (decides.0 t)),
)

-- rows of files are found
pub lookup_rows : (files : List File) (name value : List ℕ) (ranges set : List Range) → is_well_formed name ≡ true → is_well_formed value ≡ true →
    ranges ≡ ranges_with files (loose name) (loose value) → 0 < length ranges → AreRising set → ((c : ℕ) → Has set c ↔ Has ranges c) →
    IsSetOf (Some set) (lookup files name (Some value))
lookup_rows files name value ranges set name_formed value_formed e l rising same =
    subst (λ b. IsSetOf (Some set) (cond b (of_ranges (ranges_with files (loose name) (loose value)) (is_category_or_script (loose name)) value) None))
    (sym (and_from (is_well_formed name) (is_well_formed value) name_formed value_formed))
    (subst (λ rs. IsSetOf (Some set) (of_ranges rs (is_category_or_script (loose name)) value)) e
    (filled_ranges ranges set (is_category_or_script (loose name)) value l rising same))

row_kept : (rows : List Row) (i : ℕ) (d : Row) (value : List ℕ) → i < length rows →
    ranges_of (take (i + 1) rows) value ≡ ranges_of (take i rows) value ++ map (λ (row : Row). row.range)
    (cond (bytes_eq (get_or rows i d).value value) (get_or rows i d ∷ []) [])
row_kept rows i d value l =
    ap (map (λ (row : Row). row.range)) (filter_more (λ (row : Row). bytes_eq row.value value) rows i d l)
    ∙ map-append (λ (row : Row). row.range) (filter (λ (row : Row). bytes_eq row.value value) (take i rows))
    (cond (bytes_eq (get_or rows i d).value value) (get_or rows i d ∷ []) [])

-- one row more, with the value and with another
pub ranges_of-yes : (rows : List Row) (i : ℕ) (d : Row) (value : List ℕ) (range : Range) → i < length rows → bytes_eq (get_or rows i d).value value ≡ true →
    range ≡ (get_or rows i d).range → ranges_of (take (i + 1) rows) value ≡ ranges_of (take i rows) value ++ range ∷ []
ranges_of-yes rows i d value range l e f =
    row_kept rows i d value l
    ∙ ap (λ b. ranges_of (take i rows) value ++ map (λ (row : Row). row.range) (cond b (get_or rows i d ∷ []) [])) e
    ∙ ap (λ r. ranges_of (take i rows) value ++ r ∷ []) (sym f)

pub ranges_of-no : (rows : List Row) (i : ℕ) (d : Row) (value : List ℕ) → i < length rows → bytes_eq (get_or rows i d).value value ≡ false →
    ranges_of (take (i + 1) rows) value ≡ ranges_of (take i rows) value
ranges_of-no rows i d value l e =
    row_kept rows i d value l
    ∙ ap (λ b. ranges_of (take i rows) value ++ map (λ (row : Row). row.range) (cond b (get_or rows i d ∷ []) [])) e
    ∙ append-nil (ranges_of (take i rows) value)
