-- The monitor of the rules on words.
use Rattle.std.proofs.Common.{◌≡◌, ℕ, zero, suc, Bool, true, false, not, ◌&&◌, ◌||◌, eqb, List, [], ◌∷◌, Option, Some, None, get_or, sym, refl, ap, ap₂}
use Rattle.std.proofs.Common.{◌∙◌, cond}
use Rattle.std.specs.Prelude.{unwrap_or}
use Rattle.std.specs.Bool.{beq}
use Rattle.std.proofs.lemmas.Bool.{and_parts, eqb-true, false≢true}
use Rattle.ucd_table.proofs.Stepped.{Stepped, zip_stepped}
use Rattle.ucd_table.proofs.Facts.{same_from_beq}
use Rattle.ucd_breaks.specs.WordBreak.{word_break, word_break_number}
use Rattle.ucd_breaks.specs.declared.WordBreak.{WordBreak}
use Rattle.ucd_breaks.specs.declared.WordBreak.TheVariants.{Extend, Format, HebrewLetter, ALetter, Numeric, Other, Zwj}
use Rattle.ucd_breaks.proofs.WordBreakLemmas.{word_break_stepped, word_break_number_injective}
use Rattle.ucd_script.specs.Script.{script}
use Rattle.ucd_script.specs.declared.Script.{Script}
use Rattle.ucd_script.proofs.ScriptLemmas.{script_stepped}
use Rattle.ucd_emoji.specs.Binary.{is_extended_pictographic}
use Rattle.ucd_emoji.proofs.BinaryLemmas.{is_extended_pictographic_stepped}
use Rattle.unicode_segmentation.specs.Word.{break_by_pair, is_ignored, is_ah_letter, is_hebrew_letter, is_mid_letter, is_mid_num, is_single_quote}
use Rattle.unicode_segmentation.specs.Word.{is_double_quote, is_numeric, is_katakana, is_extend_num_let, is_regional, significant, starts_with_half_flag}
use Rattle.unicode_segmentation.specs.Word.{joins, value_at, is_word_break}
use Rattle.rbbi_model.specs.Words.{IsCharacter, IsText}
use Rattle.rbbi_annexes.specs.Statuses.{word_kind, word_status}
use Rattle.rbbi_annexes.proofs.Ends.{words_at_ends}
use Rattle.rbbi_annexes.proofs.Monitors.{Monitor, seen, coming, labelled, Tells}

-- the rules read of Format what they read of Extend
abbrev pub plain_value : WordBreak → WordBreak
plain_value Format = Extend
plain_value value = value

-- what the rules read of a character, and what the status reads
pub record Class : Type 0 where
  pub value : WordBreak
  pub pictograph : Bool
  pub kind : Option ℕ

abbrev pub class_of : ℕ → Class
class_of c =
    record { value = plain_value (word_break c); pictograph = is_extended_pictographic c; kind = word_kind (word_break c) (script c) }

abbrev pub other_class : Class
other_class = record { value = Other; pictograph = false; kind = None }

abbrev pub class_stepped : Stepped class_of
class_stepped =
    zip_stepped (λ (vs : WordBreak × Script) b. record { value = plain_value vs.0; pictograph = b; kind = word_kind vs.0 vs.1 })
    (λ c. (word_break c, script c)) is_extended_pictographic
    (zip_stepped (λ v s. (v, s)) word_break script word_break_stepped script_stepped)
    is_extended_pictographic_stepped

unfoldable pub same_value : WordBreak → WordBreak → Bool
same_value a b = eqb (word_break_number a) (word_break_number b)

same_value-true : (a b : WordBreak) → same_value a b ≡ true → a ≡ b
unfolding same_value
same_value-true a b is = word_break_number_injective a b (eqb-true (word_break_number a) (word_break_number b) is)

unfoldable pub same_kind : Option ℕ → Option ℕ → Bool
same_kind None None = true
same_kind (Some a) (Some b) = eqb a b
same_kind _ _ = false

same_kind-true : (a b : Option ℕ) → same_kind a b ≡ true → a ≡ b
unfolding same_kind
same_kind-true None None is = refl
same_kind-true (Some a) (Some b) is = ap Some (eqb-true a b is)
same_kind-true None (Some b) is = absurd (false≢true is)
same_kind-true (Some a) None is = absurd (false≢true is)

unfoldable pub same_class : Class → Class → Bool
same_class a b = same_value a.value b.value && (beq a.pictograph b.pictograph && same_kind a.kind b.kind)

pub same_class-true : (a b : Class) → same_class a b ≡ true → a ≡ b
unfolding same_class
same_class-true a b is =
    let parts = and_parts (same_value a.value b.value) (beq a.pictograph b.pictograph && same_kind a.kind b.kind) is in
    let others = and_parts (beq a.pictograph b.pictograph) (same_kind a.kind b.kind) parts.1 in
    λ i. record {
      value = same_value-true a.value b.value parts.0 i;
      pictograph = same_from_beq a.pictograph b.pictograph others.0 i;
      kind = same_kind-true a.kind b.kind others.1 i;
    }

-- What the rules from WB5 on read of the values before a place that WB4 leaves: of the last, and of the last two.
pub record Left : Type 0 where
  pub letter : Bool
  pub letter_mid : Bool
  pub hebrew : Bool
  pub hebrew_quote : Bool
  pub number : Bool
  pub number_mid : Bool
  pub katakana : Bool
  pub connector : Bool
  pub half_flag : Bool

unfoldable pub same_left : Left → Left → Bool
same_left a b =
    beq a.letter b.letter && (beq a.letter_mid b.letter_mid && (beq a.hebrew b.hebrew && (beq a.hebrew_quote b.hebrew_quote
    && (beq a.number b.number && (beq a.number_mid b.number_mid && (beq a.katakana b.katakana &&
    (beq a.connector b.connector && beq a.half_flag b.half_flag)))))))

same_left-true : (a b : Left) → same_left a b ≡ true → a ≡ b
unfolding same_left
same_left-true a b is =
    let p1 = and_parts (beq a.letter b.letter) _ is in
    let p2 = and_parts (beq a.letter_mid b.letter_mid) _ p1.1 in
    let p3 = and_parts (beq a.hebrew b.hebrew) _ p2.1 in
    let p4 = and_parts (beq a.hebrew_quote b.hebrew_quote) _ p3.1 in
    let p5 = and_parts (beq a.number b.number) _ p4.1 in
    let p6 = and_parts (beq a.number_mid b.number_mid) _ p5.1 in
    let p7 = and_parts (beq a.katakana b.katakana) _ p6.1 in
    let p8 = and_parts (beq a.connector b.connector) _ p7.1 in
    λ i. record {
      letter = same_from_beq a.letter b.letter p1.0 i;
      letter_mid = same_from_beq a.letter_mid b.letter_mid p2.0 i;
      hebrew = same_from_beq a.hebrew b.hebrew p3.0 i;
      hebrew_quote = same_from_beq a.hebrew_quote b.hebrew_quote p4.0 i;
      number = same_from_beq a.number b.number p5.0 i;
      number_mid = same_from_beq a.number_mid b.number_mid p6.0 i;
      katakana = same_from_beq a.katakana b.katakana p7.0 i;
      connector = same_from_beq a.connector b.connector p8.0 i;
      half_flag = same_from_beq a.half_flag b.half_flag p8.1 i;
    }

-- what the rules read of the characters before a place: the value of the last, and of what WB4 leaves
pub record Before : Type 0 where
  pub last : Option WordBreak
  pub left : Left

unfoldable pub same_last : Option WordBreak → Option WordBreak → Bool
same_last None None = true
same_last (Some a) (Some b) = same_value a b
same_last _ _ = false

same_last-true : (a b : Option WordBreak) → same_last a b ≡ true → a ≡ b
unfolding same_last
same_last-true None None is = refl
same_last-true (Some a) (Some b) is = ap Some (same_value-true a b is)
same_last-true None (Some b) is = absurd (false≢true is)
same_last-true (Some a) None is = absurd (false≢true is)

unfoldable pub same_before : Before → Before → Bool
same_before a b = same_last a.last b.last && same_left a.left b.left

pub same_before-true : (a b : Before) → same_before a b ≡ true → a ≡ b
unfolding same_before
same_before-true a b is =
    let parts = and_parts (same_last a.last b.last) (same_left a.left b.left) is in
    λ i. record { last = same_last-true a.last b.last parts.0 i; left = same_left-true a.left b.left parts.1 i }

abbrev pub no_left : Left
no_left = record {
  letter = false;
  letter_mid = false;
  hebrew = false;
  hebrew_quote = false;
  number = false;
  number_mid = false;
  katakana = false;
  connector = false;
  half_flag = false;
}

unfoldable pub left_after : Left → WordBreak → Left
left_after m value =
    let further : Left = record {
      letter = is_ah_letter value;
      letter_mid = m.letter && is_mid_letter value;
      hebrew = is_hebrew_letter value;
      hebrew_quote = m.hebrew && is_double_quote value;
      number = is_numeric value;
      number_mid = m.number && is_mid_num value;
      katakana = is_katakana value;
      connector = is_extend_num_let value;
      half_flag = is_regional value && not m.half_flag;
    } in
    cond (is_ignored value) m further

-- the values that the rules name of what comes after a character, by number
abbrev pub kind_of : WordBreak → ℕ
kind_of ALetter = 1
kind_of HebrewLetter = 2
kind_of Numeric = 3
kind_of _ = 0

abbrev pub value_of : ℕ → WordBreak
value_of zero = Other
value_of (suc zero) = ALetter
value_of (suc (suc zero)) = HebrewLetter
value_of (suc (suc (suc n))) = Numeric

unfoldable pub joins_by : Left → WordBreak → WordBreak → Bool
joins_by m right far_right =
    (m.letter && is_ah_letter right)
    || (m.letter && is_mid_letter right && is_ah_letter far_right)
    || (m.letter_mid && is_ah_letter right)
    || (m.hebrew && is_single_quote right)
    || (m.hebrew && is_double_quote right && is_hebrew_letter far_right)
    || (m.hebrew_quote && is_hebrew_letter right)
    || (m.number && is_numeric right)
    || (m.letter && is_numeric right)
    || (m.number && is_ah_letter right)
    || (m.number_mid && is_numeric right)
    || (m.number && is_mid_num right && is_numeric far_right)
    || (m.katakana && is_katakana right)
    || ((m.letter || m.number || m.katakana || m.connector) && is_extend_num_let right)
    || (m.connector && (is_ah_letter right || is_numeric right || is_katakana right))

unfoldable pub breaks_by : Option WordBreak → Left → Class → WordBreak → Bool
breaks_by None m class far_right = true
breaks_by (Some last) m class far_right =
    unwrap_or (break_by_pair last class.value class.pictograph) (not (joins_by m class.value far_right || (m.half_flag && is_regional class.value)))

-- the monitor, for the classes of the categories
abbrev pub word_monitor : List Class → Monitor Before
word_monitor classes =
    record {
      start = record { last = None; left = no_left };
      next = λ m k. record { last = Some (get_or classes k other_class).value; left = left_after m.left (get_or classes k other_class).value };
      nothing = 0;
      ahead = λ k p. cond (is_ignored (get_or classes k other_class).value) p (kind_of (get_or classes k other_class).value);
      breaks = λ m k p. breaks_by m.last m.left (get_or classes k other_class) (value_of p);
      label = λ t k. unwrap_or (get_or classes k other_class).kind t;
      status = λ t. t;
    }

abbrev pub left_of : List WordBreak → Left
left_of vs =
    record {
      letter = is_ah_letter (value_at vs 0);
      letter_mid = is_ah_letter (value_at vs 1) && is_mid_letter (value_at vs 0);
      hebrew = is_hebrew_letter (value_at vs 0);
      hebrew_quote = is_hebrew_letter (value_at vs 1) && is_double_quote (value_at vs 0);
      number = is_numeric (value_at vs 0);
      number_mid = is_numeric (value_at vs 1) && is_mid_num (value_at vs 0);
      katakana = is_katakana (value_at vs 0);
      connector = is_extend_num_let (value_at vs 0);
      half_flag = starts_with_half_flag vs;
    }

last_of : List ℕ → Option WordBreak
last_of [] = None
last_of (c ∷ before) = Some (plain_value (word_break c))

state_of : List ℕ → Before
state_of before = record { last = last_of before; left = left_of (significant before) }

left_step : (v : WordBreak) (vs : List WordBreak) → left_after (left_of vs) (plain_value v) ≡ left_of (cond (is_ignored v) vs (v ∷ vs))
unfolding left_after starts_with_half_flag
left_step Format vs = refl
left_step _ vs = refl

kind_step : (v : WordBreak) (vs : List WordBreak) →
    cond (is_ignored (plain_value v)) (kind_of (value_at vs 0)) (kind_of (plain_value v)) ≡ kind_of (value_at (cond (is_ignored v) vs (v ∷ vs)) 0)
kind_step Format vs = refl
kind_step _ vs = refl

far_is : (m : Left) (right far : WordBreak) → joins_by m right (value_of (kind_of far)) ≡ joins_by m right far
unfolding joins_by
far_is m right Format = refl
far_is m right _ = refl

right_is : (m : Left) (right far : WordBreak) → joins_by m (plain_value right) far ≡ joins_by m right far
unfolding joins_by
right_is m Format far = refl
right_is m _ far = refl

regional_is : (v : WordBreak) → is_regional (plain_value v) ≡ is_regional v
regional_is Format = refl
regional_is _ = refl

joins_is : (vs : List WordBreak) (right far : WordBreak) → joins_by (left_of vs) right far ≡ joins (value_at vs 1) (value_at vs 0) right far
unfolding joins_by
joins_is vs right far = refl

extend_first : (right : WordBreak) (b : Bool) → break_by_pair Extend right b ≡ break_by_pair Format right b
extend_first Format b = refl
extend_first _ b = refl

extend_second : (last : WordBreak) (b : Bool) → break_by_pair last Extend b ≡ break_by_pair last Format b
extend_second Zwj true = refl
extend_second Zwj false = refl
extend_second _ b = refl

first_plain : (last right : WordBreak) (b : Bool) → break_by_pair (plain_value last) right b ≡ break_by_pair last right b
first_plain Format right b = extend_first right b
first_plain _ right b = refl

second_plain : (last right : WordBreak) (b : Bool) → break_by_pair last (plain_value right) b ≡ break_by_pair last right b
second_plain last Format b = extend_second last b
second_plain last _ b = refl

module _ (classes : List Class) (category : ℕ → ℕ) (fits : (c : ℕ) → IsCharacter c → get_or classes (category c) other_class ≡ class_of c) where
  seen_state : (before : List ℕ) → IsText before → seen (word_monitor classes) category before ≡ state_of before
  unfolding state_of last_of significant starts_with_half_flag
  seen_state [] are = refl
  seen_state (c ∷ before) are =
      ap₂ (λ (m : Before) (class : Class). record { last = Some class.value; left = left_after m.left class.value }) (seen_state before are.1) (fits c are.0)
      ∙ ap (λ l. record { last = Some (plain_value (word_break c)); left = l }) (left_step (word_break c) (significant before))

  coming_kind : (behind : List ℕ) → IsText behind → coming (word_monitor classes) category behind ≡ kind_of (value_at (significant behind) 0)
  unfolding significant
  coming_kind [] are = refl
  coming_kind (c ∷ behind) are =
      ap₂ (λ (p : ℕ) (class : Class). cond (is_ignored class.value) p (kind_of class.value)) (coming_kind behind are.1) (fits c are.0)
      ∙ kind_step (word_break c) (significant behind)

  breaks_is : (before : List ℕ) (c : ℕ) (behind : List ℕ) →
      breaks_by (state_of before).last (state_of before).left (class_of c) (value_of (kind_of (value_at (significant behind) 0))) ≡ is_word_break before
      (c ∷ behind)
  unfolding is_word_break breaks_by state_of last_of
  breaks_is [] c behind = refl
  breaks_is (last ∷ before) c behind =
      let vs : List WordBreak = significant (last ∷ before) in
      let far : WordBreak = value_at (significant behind) 0 in
      ap₂ (λ pair (flag : Bool × Bool). unwrap_or pair (not (flag.0 || (starts_with_half_flag vs && flag.1))))
      (first_plain (word_break last) (plain_value (word_break c)) (is_extended_pictographic c)
      ∙ second_plain (word_break last) (word_break c) (is_extended_pictographic c))
      (λ i. (
        (far_is (left_of vs) (plain_value (word_break c)) far ∙ right_is (left_of vs) (word_break c) far ∙ joins_is vs (word_break c) far) i,
        regional_is (word_break c) i,
      ))

  kind_is : (word : List ℕ) → IsText word → word_status word ≡ labelled (word_monitor classes) category word
  kind_is [] are = refl
  kind_is (c ∷ before) are = ap₂ (λ t (class : Class). unwrap_or class.kind t) (kind_is before are.1) (sym (fits c are.0))

  pub word_tells : Tells (word_monitor classes) category is_word_break word_status
  word_tells =
      record {
        ends = words_at_ends;
        inside = λ before c behind before_are is behind_are.
            sym (breaks_is before c behind)
            ∙ sym (ap₂ (λ (m : Before) (class : Class). breaks_by m.last m.left class (value_of (kind_of (value_at (significant behind) 0))))
            (seen_state before before_are) (fits c is))
            ∙ ap (λ p. (word_monitor classes).breaks (seen (word_monitor classes) category before) (category c) p) (sym (coming_kind behind behind_are));
        status_is = kind_is;
      }

-- `unfolding word_tests` lets `refl` compute the tests for the table of words
unfoldable pub word_tests : Unit {0}
unfolding same_value same_kind same_class same_last same_left same_before left_after joins_by breaks_by
word_tests = tt
