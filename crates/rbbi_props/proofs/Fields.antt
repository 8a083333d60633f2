-- What the fields of a line write, part by part.
use Rattle.std.proofs.Common.{◌≡◌, ℕ, ◌<◌, true, false, not, cond, eqb, List, [], ◌∷◌, length, get_or, drop, Option, Some, None, option_and_then, refl, ap, sym}
use Rattle.std.proofs.Common.{◌∙◌, inl, inr, arith}
use Rattle.std.specs.List.{position_or_len, before_first, after_first, slice_split, onto_first, list_all}
use Rattle.std.specs.Char.{is_ascii_hexdigit}
use Rattle.std.proofs.lemmas.Bool.{cases_lt, and_left, false_from_ne_true}
use Rattle.std.proofs.lemmas.Bool.Decides.{nat_tests}
use Rattle.std.proofs.lemmas.List.Sums.{passes_at_first, AllPass-from_list_all, prefix_len-le-length}
use Rattle.rbbi_model.specs.Ranges.{Range}
use Rattle.rbbi_text.specs.Numbers.{number, at_most}
use Rattle.rbbi_text.specs.LineParts.{trim}
use Rattle.rbbi_props.specs.RowLines.{code_point_of, span_of, span_between, range_of_parts, range_of, last_part, row_with, row_of_fields}
use Rattle.rbbi_props.proofs.Pieces.{split_cons, split_none, split_some}

-- a field with no dot
pub range_of-one : (xs : List ℕ) → position_or_len (λ b. eqb b 46) xs ≡ length xs → range_of xs ≡ span_between xs xs
range_of-one xs e = ap range_of_parts (split_none (λ b. eqb b 46) xs e)

-- what doesn't begin with a dot has a first part that isn't empty, or is empty
no_range : (low rest : List ℕ) → eqb (get_or rest 0 0) 46 ≡ false → range_of_parts (low ∷ slice_split (λ b. eqb b 46) rest) ≡ None
no_range low [] e = refl
no_range low (b ∷ bs) e =
    let parts = split_cons (λ c. eqb c 46) bs in
    ap (λ t. range_of_parts (low ∷ cond t ([] ∷ slice_split (λ c. eqb c 46) bs) (onto_first b (slice_split (λ c. eqb c 46) bs)))) e
    ∙ ap (λ ps. range_of_parts (low ∷ onto_first b ps)) parts.2

-- a field whose first dot no other follows
pub range_of-lone : (xs : List ℕ) → position_or_len (λ b. eqb b 46) xs < length xs → eqb (get_or (after_first (λ b. eqb b 46) xs) 0 0) 46 ≡ false →
    range_of xs ≡ None
range_of-lone xs l e =
    ap range_of_parts (split_some (λ b. eqb b 46) xs l)
    ∙ no_range (before_first (λ b. eqb b 46) xs) (after_first (λ b. eqb b 46) xs) e

hex_is_no_dot : (b : ℕ) → is_ascii_hexdigit b ≡ true → eqb b 46 ≡ true → ⊥
hex_is_no_dot b h e = grind (arith, nat_tests)

-- no text with a dot is a code point
dotted : (xs : List ℕ) → position_or_len (λ b. eqb b 46) xs < length xs → code_point_of xs ≡ None
dotted xs l =
    let no_digits : list_all is_ascii_hexdigit xs ≡ false =
    false_from_ne_true (list_all is_ascii_hexdigit xs) (λ t.
    hex_is_no_dot _ (AllPass-from_list_all is_ascii_hexdigit xs t (position_or_len (λ b. eqb b 46) xs) 0 l) (passes_at_first (λ b. eqb b 46) xs 0 l)) in
    ap (λ t. cond t (at_most 0x10FFFF (number 16 xs)) None) (and_left _ _ no_digits)

abbrev nothing : ℕ → Option Range
nothing c = None

none_after : (o : Option ℕ) → option_and_then nothing o ≡ None
none_after None = refl
none_after (Some c) = refl

no_span : (low high : List ℕ) → code_point_of high ≡ None → span_between low high ≡ None
no_span low high e =
    ap (λ o. option_and_then (λ first. option_and_then (λ last. span_of first last) o) (code_point_of low)) e ∙ none_after (code_point_of low)

two_parts : (low high : List ℕ) → range_of_parts (low ∷ [] ∷ slice_split (λ b. eqb b 46) high) ≡ span_between low high
two_parts low high =
    elim (cases_lt (position_or_len (λ b. eqb b 46) high) (length high)) [
      | inl dots ↦
          let parts = split_cons (λ b. eqb b 46) (after_first (λ b. eqb b 46) high) in
          ap (λ ps. range_of_parts (low ∷ [] ∷ ps)) (split_some (λ b. eqb b 46) high dots ∙ ap (λ ps. before_first (λ b. eqb b 46) high ∷ ps) parts.2)
          ∙ sym (no_span low high (dotted high dots))
      | inr none ↦
          ap (λ ps. range_of_parts (low ∷ [] ∷ ps)) (split_none (λ b. eqb b 46) high (omega (arith, prefix_len-le-length (λ b. not (eqb b 46)) high)))
    ]

pair_of : (low rest : List ℕ) → 0 < length rest → eqb (get_or rest 0 0) 46 ≡ true →
    range_of_parts (low ∷ slice_split (λ b. eqb b 46) rest) ≡ span_between low (drop 1 rest)
pair_of low [] l e = absurd (omega arith)
pair_of low (b ∷ bs) l e =
    ap (λ t. range_of_parts (low ∷ cond t ([] ∷ slice_split (λ c. eqb c 46) bs) (onto_first b (slice_split (λ c. eqb c 46) bs)))) e
    ∙ two_parts low bs

-- a field whose first dot another follows
pub range_of-pair : (xs : List ℕ) → position_or_len (λ b. eqb b 46) xs < length xs → 0 < length (after_first (λ b. eqb b 46) xs) →
    eqb (get_or (after_first (λ b. eqb b 46) xs) 0 0) 46 ≡ true →
    range_of xs ≡ span_between (before_first (λ b. eqb b 46) xs) (drop 1 (after_first (λ b. eqb b 46) xs))
range_of-pair xs l m e =
    ap range_of_parts (split_some (λ b. eqb b 46) xs l)
    ∙ pair_of (before_first (λ b. eqb b 46) xs) (after_first (λ b. eqb b 46) xs) m e

-- fewer than two fields
pub row_of_fields-one : (xs : List ℕ) → position_or_len (λ b. eqb b 59) xs ≡ length xs → row_of_fields (slice_split (λ b. eqb b 59) xs) ≡ None
row_of_fields-one xs e = ap row_of_fields (split_none (λ b. eqb b 59) xs e)

two_fields : (first : List ℕ) (parts : List (List ℕ)) (next : List ℕ) (others : List (List ℕ)) → parts ≡ next ∷ others →
    row_of_fields (first ∷ parts) ≡ row_with (range_of (trim first)) (trim (last_part parts))
two_fields first parts next others e =
    ap (λ ps. row_of_fields (first ∷ ps)) e ∙ ap (λ ps. row_with (range_of (trim first)) (trim (last_part ps))) (sym e)

-- two fields or more
pub row_of_fields-more : (xs : List ℕ) → position_or_len (λ b. eqb b 59) xs < length xs →
    row_of_fields (slice_split (λ b. eqb b 59) xs) ≡ row_with (range_of (trim (before_first (λ b. eqb b 59) xs)))
    (trim (last_part (slice_split (λ b. eqb b 59) (after_first (λ b. eqb b 59) xs))))
row_of_fields-more xs l =
    let parts = split_cons (λ b. eqb b 59) (after_first (λ b. eqb b 59) xs) in
    ap row_of_fields (split_some (λ b. eqb b 59) xs l)
    ∙ two_fields (before_first (λ b. eqb b 59) xs) (slice_split (λ b. eqb b 59) (after_first (λ b. eqb b 59) xs)) parts.0 parts.1 parts.2
