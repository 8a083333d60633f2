-- A look-up takes of names and values their common forms alone.
use Rattle.std.proofs.Common.{◌≡◌, ℕ, Bool, true, false, cond, not, ◌&&◌, ◌||◌, nat_lt, List, [], ◌∷◌, length, slice_index, drop, map, filter}
use Rattle.std.proofs.Common.{Option, Some, None, option_map, filter_map, refl, ap, ap₂, sym, ◌∙◌, arith, eqb}
use Rattle.std.specs.Char.{to_ascii_lowercase}
use Rattle.std.specs.List.{list_all, cons_option}
use Rattle.std.specs.Str.{chars, chars_after, continuation_len, lead_bits}
use Rattle.std.proofs.lemmas.Bool.{and_parts, cond-true}
use Rattle.std.proofs.lemmas.Bool.Decides.{nat_tests}
use Rattle.unicode.specs.Lookup.{by_name}
use Rattle.unicode.specs.Loose.{normalize, has_prefix, kept_byte}
use Rattle.unicode.specs.Sets.{in_set}
use Rattle.rbbi_model.specs.Ranges.{Range}
use Rattle.rbbi_props.specs.Rows.{File}
use Rattle.rbbi_props.specs.LooseForms.{is_counted, is_name_byte, is_well_formed, loose}
use Rattle.rbbi_props.specs.Lookups.{single, lookup, of_ranges, ranges_with, is_category_or_script}
use Rattle.rbbi_props.specs.CommonForms.{mark_of, common_form, HaveOneForm}

-- a byte of a name is one of ASCII
name_byte_is_ascii : (b : ℕ) → is_name_byte b ≡ true → nat_lt b 128 ≡ true
name_byte_is_ascii b h = grind (arith, nat_tests)

first_char : (b : ℕ) (bs : List ℕ) → nat_lt b 128 ≡ true → chars_after (continuation_len b) (lead_bits b) bs ≡ chars_after 0 b bs
first_char b bs e = ap₂ (λ n l. chars_after n l bs) (cond-true _ _ _ e) (cond-true _ _ _ e)

-- the bytes of a name are its characters
chars_of_name : (text : List ℕ) → list_all is_name_byte text ≡ true → chars text ≡ text
unfolding chars
chars_of_name [] h = refl
chars_of_name (b ∷ []) h = first_char b [] (name_byte_is_ascii b (and_parts _ _ h).0)
chars_of_name (b ∷ next ∷ bs) h =
    let parts = and_parts _ _ h in
    first_char b (next ∷ bs) (name_byte_is_ascii b parts.0) ∙ ap (λ rest. b ∷ rest) (chars_of_name (next ∷ bs) parts.1)

kept_of_tests : (p q r : Bool) (x : ℕ) (xs : List ℕ) →
    cons_option (cond (not ((p || q) || r)) (Some (to_ascii_lowercase x)) None) (map to_ascii_lowercase xs)
    ≡ map to_ascii_lowercase (cond (not (p || (q || r))) (x ∷ xs) xs)
kept_of_tests true q r x xs = refl
kept_of_tests false true r x xs = refl
kept_of_tests false false true x xs = refl
kept_of_tests false false false x xs = refl

-- the database's tables keep of a name's bytes what its loose form has
kept_is_loose : (text : List ℕ) → list_all is_name_byte text ≡ true → filter_map kept_byte text ≡ loose text
kept_is_loose [] h = refl
kept_is_loose (x ∷ xs) h =
    let parts = and_parts _ _ h in
    let counts = not (((eqb x 32) || (eqb x 95)) || (eqb x 45)) in
    ap₂ (λ s rest. cons_option (cond (s && counts) (Some (to_ascii_lowercase x)) None) rest) (name_byte_is_ascii x parts.0) (kept_is_loose xs parts.1)
    ∙ kept_of_tests (eqb x 32) (eqb x 95) (eqb x 45) x (filter is_counted xs)

i_counts : (b : ℕ) → eqb (to_ascii_lowercase b) 105 ≡ true → is_counted b ≡ true
i_counts b h = grind (arith, nat_tests)

s_counts : (b : ℕ) → eqb (to_ascii_lowercase b) 115 ≡ true → is_counted b ≡ true
s_counts b h = grind (arith, nat_tests)

-- "is" at the start of a name stands at the start of its loose form
loose_without_is : (text : List ℕ) → has_prefix text ≡ true → loose (drop 2 text) ≡ drop 2 (loose text)
loose_without_is [] h = absurd cc
loose_without_is (a ∷ []) h =
    let second : false ≡ true = (and_parts (eqb (to_ascii_lowercase a) 105) false h).1 in
    absurd cc
loose_without_is (a ∷ b ∷ text) h =
    let parts = and_parts _ _ h in
    let later = filter is_counted (b ∷ text) in
    let rest = filter is_counted text in
    sym (ap (λ p. drop 2 (map to_ascii_lowercase (cond p (a ∷ later) later))) (i_counts a parts.0)
    ∙ ap (λ q. drop 2 (map to_ascii_lowercase (a ∷ cond q (b ∷ rest) rest))) (s_counts b parts.1))

-- the form in which the database's names are compared, of a name that begins with "is" or not, by its loose form
abbrev normal_of : Bool → List ℕ → List ℕ
normal_of begins form =
    let rest = cond begins (drop 2 form) form in
    cond (begins && ((eqb (length rest) 1) && (eqb (slice_index rest 0) 99))) (105 ∷ 115 ∷ 99 ∷ []) rest

all_dropped : (text : List ℕ) → list_all is_name_byte text ≡ true → list_all is_name_byte (drop 2 text) ≡ true
all_dropped [] h = refl
all_dropped (a ∷ []) h = refl
all_dropped (a ∷ b ∷ text) h = (and_parts _ _ (and_parts _ _ h).1).1

kept_behind_is : (text : List ℕ) → list_all is_name_byte text ≡ true → (begins : Bool) → has_prefix text ≡ begins →
    filter_map kept_byte (cond begins (drop 2 text) text) ≡ cond begins (drop 2 (loose text)) (loose text)
kept_behind_is text all true e = kept_is_loose (drop 2 text) (all_dropped text all) ∙ loose_without_is text e
kept_behind_is text all false e = kept_is_loose text all

normal_is : (text : List ℕ) → list_all is_name_byte text ≡ true → normalize (chars text) ≡ normal_of (has_prefix text) (loose text)
unfolding normalize
normal_is text all =
    let begins = has_prefix text in
    ap normalize (chars_of_name text all)
    ∙ ap (λ rest. cond (begins && ((eqb (length rest) 1) && (eqb (slice_index rest 0) 99))) (105 ∷ 115 ∷ 99 ∷ []) rest)
    (kept_behind_is text all begins refl)

-- what a single name stands for, by its common form
abbrev single_of : List ℕ → Option (ℕ → Bool)
single_of [] = None
single_of (mark ∷ form) = cond (eqb mark 63) None (option_map in_set (by_name (normal_of (eqb mark 33) form)))

single_of_mark : (begins : Bool) (form : List ℕ) →
    option_map in_set (by_name (normal_of begins form)) ≡ single_of (mark_of begins ∷ form)
single_of_mark true form = refl
single_of_mark false form = refl

single_at : (text : List ℕ) (formed : Bool) → is_well_formed text ≡ formed →
    cond formed (option_map in_set (by_name (normalize (chars text)))) None
    ≡ single_of (cond formed (mark_of (has_prefix text) ∷ loose text) (63 ∷ []))
single_at text true e =
    ap (λ n. option_map in_set (by_name n)) (normal_is text (and_parts _ _ e).1) ∙ single_of_mark (has_prefix text) (loose text)
single_at text false e = refl

single_is : (text : List ℕ) → single text ≡ single_of (common_form text)
single_is text = single_at text (is_well_formed text) refl

single_alike : (name other : List ℕ) → common_form name ≡ common_form other → single name ≡ single other
single_alike name other e = single_is name ∙ ap single_of e ∙ sym (single_is other)

-- whether a common form is that of a well-formed text, and the loose form in it
abbrev is_formed : List ℕ → Bool
is_formed [] = false
is_formed (mark ∷ form) = not (eqb mark 63)

abbrev behind_mark : List ℕ → List ℕ
behind_mark [] = []
behind_mark (mark ∷ form) = form

formed_of_mark : (begins : Bool) → true ≡ not (eqb (mark_of begins) 63)
formed_of_mark true = refl
formed_of_mark false = refl

formed_at : (text : List ℕ) (formed : Bool) → formed ≡ is_formed (cond formed (mark_of (has_prefix text) ∷ loose text) (63 ∷ []))
formed_at text true = formed_of_mark (has_prefix text)
formed_at text false = refl

formed_is : (text : List ℕ) → is_well_formed text ≡ is_formed (common_form text)
formed_is text = formed_at text (is_well_formed text)

formed_alike : (text other : List ℕ) → common_form text ≡ common_form other → is_well_formed text ≡ is_well_formed other
formed_alike text other e = formed_is text ∙ ap is_formed e ∙ sym (formed_is other)

form_of_formed : (text : List ℕ) → is_well_formed text ≡ true → common_form text ≡ mark_of (has_prefix text) ∷ loose text
form_of_formed text e = cond-true _ _ _ e

loose_alike : (text other : List ℕ) → is_well_formed text ≡ true → common_form text ≡ common_form other → loose text ≡ loose other
loose_alike text other formed e =
    sym (ap behind_mark (form_of_formed text formed))
    ∙ ap behind_mark e
    ∙ ap behind_mark (form_of_formed other (sym (formed_alike text other e) ∙ formed))

of_ranges_alike : (ranges : List Range) (is_single : Bool) (value other : List ℕ) → single value ≡ single other →
    of_ranges ranges is_single value ≡ of_ranges ranges is_single other
of_ranges_alike [] is_single value other e = ap (λ t. cond is_single t None) e
of_ranges_alike (range ∷ ranges) is_single value other e = refl

where_true : {A : Type 0} (b : Bool) (x y z : A) → (b ≡ true → x ≡ y) → cond b x z ≡ cond b y z
where_true true x y z e = e refl
where_true false x y z e = refl

value_alike : (files : List File) (name value other other_value : List ℕ) → common_form name ≡ common_form other →
    common_form value ≡ common_form other_value → lookup files name (Some value) ≡ lookup files other (Some other_value)
value_alike files name value other other_value e f =
    where_true (is_well_formed name && is_well_formed value) _ _ None
    (λ formed.
    let parts = and_parts _ _ formed in
    ap₂ (λ n v. of_ranges (ranges_with files n v) (is_category_or_script n) value) (loose_alike name other parts.0 e) (loose_alike value other_value parts.1 f)
    ∙ of_ranges_alike (ranges_with files (loose other) (loose other_value)) (is_category_or_script (loose other)) value other_value
    (single_alike value other_value f))
    ∙ ap₂ (λ n v. cond (n && v) (of_ranges (ranges_with files (loose other) (loose other_value)) (is_category_or_script (loose other)) other_value) None)
    (formed_alike name other e) (formed_alike value other_value f)

-- what is alike is looked up alike
pub lookup_alike : (files : List File) (name : List ℕ) (value : Option (List ℕ)) (other : List ℕ) (other_value : Option (List ℕ)) →
    HaveOneForm name value other other_value → lookup files name value ≡ lookup files other other_value
lookup_alike files name None other None alike = single_alike name other alike.names
lookup_alike files name None other (Some other_value) alike = let e = alike.values in absurd cc
lookup_alike files name (Some value) other None alike = let e = alike.values in absurd cc
lookup_alike files name (Some value) other (Some other_value) alike =
    let e = alike.values in
    value_alike files name value other other_value alike.names cc
