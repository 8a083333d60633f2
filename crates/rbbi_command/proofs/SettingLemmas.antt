-- The words of options: where the first `=` of one stands, and that words begin with one row of options alone.
use Rattle.std.proofs.Common.{◌≡◌, ◌≢◌, ◌≤◌, ◌+◌, ℕ, suc, Bool, true, false, not, cond, eqb, List, [], ◌∷◌, ◌++◌, length, take, drop, get_or, refl, sym}
use Rattle.std.proofs.Common.{ap, ◌∙◌, subst, arith}
use Rattle.std.specs.Prelude.{codes, bytes_eq, if◌then◌else◌, Option, Some, None}
use Rattle.std.specs.Char.{is_ascii_alphanumeric}
use Rattle.std.specs.List.{list_any, list_all, flat_map, AllByRecursion, position_or_len, before_first, after_first}
use Rattle.std.proofs.lemmas.Bool.{and_parts, false≢true, eq-eqb}
use Rattle.std.proofs.lemmas.Bool.Decides.{Decides-eqb}
use Rattle.std.proofs.lemmas.List.{length-append, length-drop, append_assoc, append-nil, drop-drop, nil_from_length}
use Rattle.std.proofs.lemmas.Grind.{flat_map-append}
use Rattle.rbbi_model.specs.declared.unit.Unit.{Unit as TextUnit}
use Rattle.rbbi_model.specs.declared.unit.Unit.TheVariants.{Chars, Utf8, Utf16}
use Rattle.rbbi_command.specs.declared.words.setting.Property.{Property}
use Rattle.rbbi_command.specs.declared.words.setting.Setting.{Setting}
use Rattle.rbbi_command.specs.declared.words.setting.Setting.TheVariants.{HandIn, IgnoreDictionary, ByTable, CountIn, Suppress, Tailor}
use Rattle.rbbi_command.specs.Settings.{is_property_name_byte, IsSetting, unit_word, spelled, BeginsWithoutOption, BeginWithSettings}

-- a text without bytes
pub no_bytes : (xs : List ℕ) (empty : Bool) → empty ≡ eqb (length xs) 0 → empty ≡ true → xs ≡ []
no_bytes xs empty is holds = nil_from_length xs ((Decides-eqb (length xs) 0).0 (sym is ∙ holds))

-- no byte of a name is `=`
no_equals_by : (x : ℕ) (same : Bool) → eqb x 61 ≡ same → is_property_name_byte x ≡ true → eqb x 61 ≡ false
no_equals_by x false is named = is
no_equals_by x true is named =
    let at : x ≡ 61 = (Decides-eqb x 61).0 is in
    absurd (false≢true (subst (λ b. is_property_name_byte b ≡ true) at named))

no_equals : (x : ℕ) → is_property_name_byte x ≡ true → eqb x 61 ≡ false
no_equals x named = no_equals_by x (eqb x 61) refl named

-- the first `=` stands after the name
pub before_equals : (name file : List ℕ) → list_all is_property_name_byte name ≡ true → position_or_len (λ b. eqb b 61) (name ++ 61 ∷ file) ≡ length name
before_equals [] file named = refl
before_equals (x ∷ name) file named =
    let parts = and_parts (is_property_name_byte x) (list_all is_property_name_byte name) named in
    let next = before_equals name file parts.1 in
    ap (λ b. cond (not b) (1 + position_or_len (λ b. eqb b 61) (name ++ 61 ∷ file)) 0) (no_equals x parts.0) ∙ ap (λ n. 1 + n) next ∙ omega arith

-- what stands before and after it
take_name : (name file : List ℕ) → take (length name) (name ++ 61 ∷ file) ≡ name
take_name [] file = refl
take_name (x ∷ name) file = ap (λ w. x ∷ w) (take_name name file)

drop_name : (name file : List ℕ) → drop (suc (length name)) (name ++ 61 ∷ file) ≡ file
drop_name [] file = refl
drop_name (x ∷ name) file = drop_name name file

module _ (word : List ℕ) (property : Property) (form : IsSetting (HandIn property)) (is : word ≡ property.name ++ 61 ∷ property.file) where
  place_is : position_or_len (λ b. eqb b 61) word ≡ length property.name
  place_is =
      let parts = and_parts (list_any is_ascii_alphanumeric property.name) (list_all is_property_name_byte property.name) form.0 in
      ap (position_or_len (λ b. eqb b 61)) is ∙ before_equals property.name property.file parts.1

  -- the word has a `=`
  pub has_equals : position_or_len (λ b. eqb b 61) word ≡ length word → ⊥
  has_equals none =
      let long = ap length is ∙ length-append property.name (61 ∷ property.file) in
      let place = place_is in
      omega arith

  -- it stands between the name and the file
  pub name_is : (before : List ℕ) → before ≡ before_first (λ b. eqb b 61) word → before ≡ property.name
  name_is before at = at ∙ ap (λ n. take n word) place_is ∙ ap (take (length property.name)) is ∙ take_name property.name property.file

  pub file_is : (behind : List ℕ) → behind ≡ after_first (λ b. eqb b 61) word → behind ≡ property.file
  file_is behind at =
      let next : length property.name + 1 ≡ suc (length property.name) = omega arith in
      at ∙ ap (λ n. drop (n + 1) word) place_is ∙ ap (λ n. drop n word) next ∙ ap (drop (suc (length property.name))) is
      ∙ drop_name property.name property.file

-- a word is that of one property file alone
same_property : (p q : Property) → IsSetting (HandIn p) → IsSetting (HandIn q) → p.name ++ 61 ∷ p.file ≡ q.name ++ 61 ∷ q.file → p ≡ q
same_property p q form form' word =
    let w : List ℕ = p.name ++ 61 ∷ p.file in
    let name = sym (name_is w p form refl (before_first (λ b. eqb b 61) w) refl) ∙ name_is w q form' word (before_first (λ b. eqb b 61) w) refl in
    let file = sym (file_is w p form refl (after_first (λ b. eqb b 61) w) refl) ∙ file_is w q form' word (after_first (λ b. eqb b 61) w) refl in
    λ i. record { name = name i; file = file i }

-- the unit of a word
abbrev unit_at : List ℕ → Option TextUnit
unit_at word =
    if bytes_eq word (codes "chars") then Some Chars
    else (if bytes_eq word (codes "utf8") then Some Utf8 else (if bytes_eq word (codes "utf16") then Some Utf16 else None))

named_unit : (u : TextUnit) → unit_at (unit_word u) ≡ Some u
named_unit Chars = refl
named_unit u = refl

-- a word is that of one unit alone
same_unit : (u v : TextUnit) → unit_word u ≡ unit_word v → u ≡ v
same_unit u v same = let both = sym (named_unit u) ∙ ap unit_at same ∙ named_unit v in cc

-- which option a first word tells
abbrev number_at : List ℕ → ℕ
number_at word =
    if bytes_eq word (codes "--prop") then 0
    else (if bytes_eq word (codes "--ignore-dictionary") then 1
    else (if bytes_eq word (codes "--table") then 2
    else (if bytes_eq word (codes "--units") then 3 else (if bytes_eq word (codes "--suppress") then 4 else 5))))

abbrev number_of : Setting → ℕ
number_of (HandIn property) = 0
number_of IgnoreDictionary = 1
number_of ByTable = 2
number_of (CountIn unit) = 3
number_of (Suppress file) = 4
number_of (Tailor file) = 5

numbered : (s : Setting) (more : List (List ℕ)) → number_at (get_or (spelled s ++ more) 0 []) ≡ number_of s
numbered (HandIn p) more = refl
numbered s more = refl

differ : (m n : ℕ) → eqb m n ≡ false → m ≡ n → ⊥
differ m n apart same = false≢true (sym apart ∙ eq-eqb m n same)

-- options of different first words begin no words together
other_word : (s t : Setting) (more others : List (List ℕ)) → eqb (number_of s) (number_of t) ≡ false → spelled s ++ more ≡ spelled t ++ others → s ≡ t
other_word s t more others apart same =
    absurd
    (differ (number_of s) (number_of t) apart
    (sym (numbered s more) ∙ ap (λ (w : List (List ℕ)). number_at (get_or w 0 [])) same ∙ numbered t others))

-- words begin with one option alone
pub same_setting : (s t : Setting) (more others : List (List ℕ)) → IsSetting s → IsSetting t → spelled s ++ more ≡ spelled t ++ others → s ≡ t
same_setting (HandIn p) (HandIn q) more others form form' same = ap HandIn (same_property p q form form' cc)
same_setting IgnoreDictionary IgnoreDictionary more others form form' same = refl
same_setting ByTable ByTable more others form form' same = refl
same_setting (CountIn u) (CountIn v) more others form form' same = ap CountIn (same_unit u v (ap (λ (w : List (List ℕ)). get_or w 1 []) same))
same_setting (Suppress f) (Suppress g) more others form form' same = ap Suppress (ap (λ (w : List (List ℕ)). get_or w 1 []) same)
same_setting (Tailor f) (Tailor g) more others form form' same = ap Tailor (ap (λ (w : List (List ℕ)). get_or w 1 []) same)
same_setting s t more others form form' same = other_word s t more others refl same

-- an option begins as an option does
option_begins : (s : Setting) (more : List (List ℕ)) → BeginsWithoutOption (spelled s ++ more) → ⊥
option_begins (HandIn p) more none = none (codes "prop") refl
option_begins IgnoreDictionary more none = none (codes "ignore-dictionary") refl
option_begins ByTable more none = none (codes "table") refl
option_begins (CountIn u) more none = none (codes "units") refl
option_begins (Suppress f) more none = none (codes "suppress") refl
option_begins (Tailor f) more none = none (codes "tailor") refl

-- what stands after the same option
behind_option : (s : Setting) (more others : List (List ℕ)) → spelled s ++ more ≡ spelled s ++ others → more ≡ others
behind_option IgnoreDictionary more others same = cc
behind_option ByTable more others same = cc
behind_option s more others same = ap (drop 2) same

-- options that words begin with are among those of any other reading of them
pub further_settings : (ss ts : List Setting) (w v : List (List ℕ)) → AllByRecursion IsSetting ss → AllByRecursion IsSetting ts → BeginsWithoutOption v
    → flat_map spelled ss ++ w ≡ flat_map spelled ts ++ v → (more : List Setting) × BeginWithSettings w more v × (ts ≡ ss ++ more)
further_settings [] ts w v each each' none same = (ts, record { are = same; each = each'; no_option = none }, refl)
further_settings (s ∷ ss) [] w v each each' none same =
    absurd (option_begins s (flat_map spelled ss ++ w) (subst BeginsWithoutOption (sym same ∙ append_assoc (spelled s) (flat_map spelled ss) w) none))
further_settings (s ∷ ss) (t ∷ ts) w v each each' none same =
    let whole : spelled s ++ (flat_map spelled ss ++ w) ≡ spelled t ++ (flat_map spelled ts ++ v) =
    sym (append_assoc (spelled s) (flat_map spelled ss) w) ∙ same ∙ append_assoc (spelled t) (flat_map spelled ts) v in
    let one : s ≡ t = same_setting s t (flat_map spelled ss ++ w) (flat_map spelled ts ++ v) each.0 each'.0 whole in
    let rest : flat_map spelled ss ++ w ≡ flat_map spelled ts ++ v =
    behind_option t (flat_map spelled ss ++ w) (flat_map spelled ts ++ v)
    (subst (λ u. spelled u ++ (flat_map spelled ss ++ w) ≡ spelled t ++ (flat_map spelled ts ++ v)) one whole) in
    let further = further_settings ss ts w v each.1 each'.1 none rest in
    (further.0, further.1, ap (λ u. u ∷ ts) (sym one) ∙ ap (λ us. s ∷ us) further.2)

-- words that begin without an option begin with no options
no_more : (w v : List (List ℕ)) (more : List Setting) → BeginsWithoutOption w → BeginWithSettings w more v → (more ≡ []) × (w ≡ v)
no_more w v [] none is = (refl, is.are)
no_more w v (m ∷ more) none is =
    absurd (option_begins m (flat_map spelled more ++ v)
    (subst BeginsWithoutOption (is.are ∙ append_assoc (spelled m) (flat_map spelled more) v) none))

-- words begin with one row of options alone
pub same_settings : (words : List (List ℕ)) (ss ts : List Setting) (w v : List (List ℕ)) → BeginWithSettings words ss w → BeginWithSettings words ts v
    → (ss ≡ ts) × (w ≡ v)
same_settings words ss ts w v one other =
    let further = further_settings ss ts w v one.each other.each other.no_option (sym one.are ∙ other.are) in
    let none = no_more w v further.0 one.no_option further.1 in
    (sym (further.2 ∙ ap (λ m. ss ++ m) none.0 ∙ append-nil ss), none.1)

-- where words go on with something that begins as an option does and is none, there is no reading of them
pub no_settings : (words w : List (List ℕ)) (ss ts : List Setting) (v : List (List ℕ)) → words ≡ flat_map spelled ss ++ w → AllByRecursion IsSetting ss
    → ¬ BeginsWithoutOption w
    → ((s : Setting) (more : List (List ℕ)) → IsSetting s → w ≢ spelled s ++ more) → ¬ BeginWithSettings words ts v
no_settings words w ss ts v are each begins none reading =
    let further = further_settings ss ts w v each reading.each reading.no_option (sym are ∙ reading.are) in
    no_further further.0 further.1
  where
    no_further : (more : List Setting) → BeginWithSettings w more v → ⊥
    no_further [] is = begins (subst BeginsWithoutOption (sym is.are) is.no_option)
    no_further (m ∷ more) is = none m (flat_map spelled more ++ v) is.each.0 (is.are ∙ append_assoc (spelled m) (flat_map spelled more) v)

-- the words of the options so far and of one more
pub words_push : (words : List (List ℕ)) (ss : List Setting) (s : Setting) (at : ℕ) → words ≡ flat_map spelled ss ++ drop at words
    → drop at words ≡ spelled s ++ drop (length (spelled s)) (drop at words)
    → words ≡ flat_map spelled (ss ++ s ∷ []) ++ drop (at + length (spelled s)) words
words_push words ss s at are next =
    let rest : List (List ℕ) = drop (at + length (spelled s)) words in
    are ∙ ap (λ w. flat_map spelled ss ++ w) (next ∙ ap (λ w. spelled s ++ w) (drop-drop (length (spelled s)) at words))
    ∙ sym (append_assoc (flat_map spelled ss) (spelled s) rest) ∙ ap (λ w. (flat_map spelled ss ++ w) ++ rest) (sym (append-nil (spelled s)))
    ∙ ap (λ w. w ++ rest) (sym (flat_map-append spelled ss (s ∷ [])))

-- an option has words
pub some_words : (s : Setting) → 1 ≤ length (spelled s)
some_words (HandIn p) = omega arith
some_words s = omega arith

-- an option is no longer than the words that it begins
pub words_left : (words behind : List (List ℕ)) (s : Setting) (at : ℕ) → at ≤ length words → behind ≡ drop at words
    → behind ≡ spelled s ++ drop (length (spelled s)) behind
    → (drop at words ≡ spelled s ++ drop (length (spelled s)) (drop at words)) × (at + length (spelled s) ≤ length words)
words_left words behind s at inside is next =
    let long = ap length next ∙ length-append (spelled s) (drop (length (spelled s)) behind) in
    (subst (λ w. w ≡ spelled s ++ drop (length (spelled s)) w) is next, omega (arith, long, ap length is, length-drop at words))
