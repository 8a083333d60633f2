-- The monitor of the rules on sentences.
use Rattle.std.proofs.Common.{◌≡◌, ℕ, ◌+◌, ◌/◌, ◌%◌, Bool, true, false, not, ◌&&◌, ◌||◌, eqb, leb}
use Rattle.std.proofs.Common.{List, [], ◌∷◌, Option, Some, None, map, get_or, sym, refl, ap, ap₂, ◌∙◌, cond}
use Rattle.std.specs.Prelude.{unwrap_or}
use Rattle.std.specs.Bool.{beq}
use Rattle.std.proofs.lemmas.Bool.{and_parts, eqb-true, false≢true}
use Rattle.ucd_table.proofs.Stepped.{Stepped, map_stepped}
use Rattle.ucd_table.proofs.Facts.{same_from_beq}
use Rattle.ucd_breaks.specs.SentenceBreak.{sentence_break, sentence_break_number}
use Rattle.ucd_breaks.specs.declared.SentenceBreak.{SentenceBreak}
use Rattle.ucd_breaks.specs.declared.SentenceBreak.TheVariants.{Extend, Format, Other}
use Rattle.ucd_breaks.proofs.SentenceBreakLemmas.{sentence_break_stepped, sentence_break_number_injective}
use Rattle.unicode_segmentation.specs.Sentence.{break_by_pair, is_ignored, is_para_sep, is_sa_term, is_a_term, is_cased}
use Rattle.unicode_segmentation.specs.Sentence.{is_letter, is_lower, is_upper, is_numeric, is_close, is_sp, is_s_continue}
use Rattle.unicode_segmentation.specs.Sentence.{significant, skip, value_at, before_close, before_close_sp, reaches_lower, joins, is_sentence_break}
use Rattle.rbbi_model.specs.Words.{IsCharacter, IsText}
use Rattle.rbbi_annexes.specs.Statuses.{sentence_status}
use Rattle.rbbi_annexes.proofs.Ends.{sentences_at_ends}
use Rattle.rbbi_annexes.proofs.Monitors.{Monitor, seen, coming, labelled, Tells}

-- the rules read of Format what they read of Extend
abbrev pub plain_value : SentenceBreak → SentenceBreak
plain_value Format = Extend
plain_value value = value

-- what the rules read of a character
abbrev pub class_of : ℕ → SentenceBreak
class_of c = plain_value (sentence_break c)

abbrev pub class_stepped : Stepped class_of
class_stepped = map_stepped plain_value sentence_break sentence_break_stepped

unfoldable pub same_class : SentenceBreak → SentenceBreak → Bool
same_class a b = eqb (sentence_break_number a) (sentence_break_number b)

pub same_class-true : (a b : SentenceBreak) → same_class a b ≡ true → a ≡ b
unfolding same_class
same_class-true a b is = sentence_break_number_injective a b (eqb-true (sentence_break_number a) (sentence_break_number b) is)

-- What the rules from SB6 on read of the values before a place that SB5 leaves: of the last, of the one before Close*, and of
-- the one before Close* Sp*.
pub record Left : Type 0 where
  pub a_term : Bool
  pub cased_a_term : Bool
  pub cased : Bool
  pub closed_term : Bool
  pub closed_a_term : Bool
  pub spaced_term : Bool
  pub spaced_a_term : Bool

unfoldable pub same_left : Left → Left → Bool
same_left a b =
    beq a.a_term b.a_term && (beq a.cased_a_term b.cased_a_term && (beq a.cased b.cased && (beq a.closed_term b.closed_term
    && (beq a.closed_a_term b.closed_a_term && (beq a.spaced_term b.spaced_term && beq a.spaced_a_term b.spaced_a_term)))))

same_left-true : (a b : Left) → same_left a b ≡ true → a ≡ b
unfolding same_left
same_left-true a b is =
    let p1 = and_parts (beq a.a_term b.a_term) _ is in
    let p2 = and_parts (beq a.cased_a_term b.cased_a_term) _ p1.1 in
    let p3 = and_parts (beq a.cased b.cased) _ p2.1 in
    let p4 = and_parts (beq a.closed_term b.closed_term) _ p3.1 in
    let p5 = and_parts (beq a.closed_a_term b.closed_a_term) _ p4.1 in
    let p6 = and_parts (beq a.spaced_term b.spaced_term) _ p5.1 in
    λ i. record {
      a_term = same_from_beq a.a_term b.a_term p1.0 i;
      cased_a_term = same_from_beq a.cased_a_term b.cased_a_term p2.0 i;
      cased = same_from_beq a.cased b.cased p3.0 i;
      closed_term = same_from_beq a.closed_term b.closed_term p4.0 i;
      closed_a_term = same_from_beq a.closed_a_term b.closed_a_term p5.0 i;
      spaced_term = same_from_beq a.spaced_term b.spaced_term p6.0 i;
      spaced_a_term = same_from_beq a.spaced_a_term b.spaced_a_term p6.1 i;
    }

-- what the rules read of the characters before a place: the value of the last, and of what SB5 leaves
pub record Before : Type 0 where
  pub last : Option SentenceBreak
  pub left : Left

unfoldable pub same_last : Option SentenceBreak → Option SentenceBreak → Bool
same_last None None = true
same_last (Some a) (Some b) = same_class a b
same_last _ _ = false

same_last-true : (a b : Option SentenceBreak) → same_last a b ≡ true → a ≡ b
unfolding same_last
same_last-true None None is = refl
same_last-true (Some a) (Some b) is = ap Some (same_class-true a b is)
same_last-true None (Some b) is = absurd (false≢true is)
same_last-true (Some a) None is = absurd (false≢true is)

unfoldable pub same_before : Before → Before → Bool
same_before a b = same_last a.last b.last && same_left a.left b.left

pub same_before-true : (a b : Before) → same_before a b ≡ true → a ≡ b
unfolding same_before
same_before-true a b is =
    let parts = and_parts (same_last a.last b.last) (same_left a.left b.left) is in
    λ i. record { last = same_last-true a.last b.last parts.0 i; left = same_left-true a.left b.left parts.1 i }

abbrev pub no_left : Left
no_left = record {
  a_term = false;
  cased_a_term = false;
  cased = false;
  closed_term = false;
  closed_a_term = false;
  spaced_term = false;
  spaced_a_term = false;
}

unfoldable pub left_after : Left → SentenceBreak → Left
left_after m value =
    let closed : Bool = cond (is_close value) m.closed_term (is_sa_term value) in
    let closed_a : Bool = cond (is_close value) m.closed_a_term (is_a_term value) in
    let further : Left = record {
      a_term = is_a_term value;
      cased_a_term = m.cased && is_a_term value;
      cased = is_cased value;
      closed_term = closed;
      closed_a_term = closed_a;
      spaced_term = cond (is_sp value) m.spaced_term closed;
      spaced_a_term = cond (is_sp value) m.spaced_a_term closed_a;
    } in
    cond (is_ignored value) m further

-- the right side of SB8, for a value and what its number says of those after it
abbrev pub lower_by : SentenceBreak → Bool → Bool
lower_by value ahead = is_lower value || (not (is_letter value || is_para_sep value || is_sa_term value) && ahead)

abbrev pub number_of : Bool → ℕ
number_of ahead = cond ahead 1 0

unfoldable pub joins_by : Left → SentenceBreak → Bool → Bool
joins_by m right lower_ahead =
    (m.a_term && is_numeric right)
    || (m.cased_a_term && is_upper right)
    || (m.spaced_a_term && lower_ahead)
    || (m.spaced_term && (is_s_continue right || is_sa_term right))
    || (m.closed_term && (is_close right || is_sp right || is_para_sep right))
    || (m.spaced_term && (is_sp right || is_para_sep right))

unfoldable pub breaks_by : Option SentenceBreak → Left → SentenceBreak → Bool → Bool
breaks_by None m value ahead = true
breaks_by (Some last) m value ahead = unwrap_or (break_by_pair last value) (not (joins_by m value (lower_by value ahead)) && m.spaced_term)

-- What the status of a sentence reads of the values that SB5 leaves, as three bits: a terminator stands before Close*, before Close* Sp*, and
-- before Close* Sp* and separators.
abbrev pub tail_number : Bool → Bool → Bool → ℕ
tail_number closed spaced ended = cond closed 1 0 + (cond spaced 2 0 + cond ended 4 0)

unfoldable pub tail_after : ℕ → SentenceBreak → ℕ
tail_after t value =
    let closed : Bool = cond (is_close value) (eqb (t % 2) 1) (is_sa_term value) in
    let spaced : Bool = cond (is_sp value) (eqb (t / 2 % 2) 1) closed in
    let ended : Bool = cond (is_para_sep value) (leb 4 t) spaced in
    cond (is_ignored value) t (tail_number closed spaced ended)

abbrev pub tail_status : ℕ → ℕ
tail_status t = cond (leb 4 t) 0 100

-- the monitor, for the classes of the categories
abbrev pub sentence_monitor : List SentenceBreak → Monitor Before
sentence_monitor classes =
    record {
      start = record { last = None; left = no_left };
      next = λ m k. record { last = Some (get_or classes k Other); left = left_after m.left (get_or classes k Other) };
      nothing = 0;
      ahead = λ k p. number_of (lower_by (get_or classes k Other) (eqb p 1));
      breaks = λ m k p. breaks_by m.last m.left (get_or classes k Other) (eqb p 1);
      label = λ t k. tail_after t (get_or classes k Other);
      status = tail_status;
    }

abbrev pub left_of : List SentenceBreak → Left
left_of vs =
    record {
      a_term = is_a_term (value_at vs 0);
      cased_a_term = is_cased (value_at vs 1) && is_a_term (value_at vs 0);
      cased = is_cased (value_at vs 0);
      closed_term = is_sa_term (before_close vs);
      closed_a_term = is_a_term (before_close vs);
      spaced_term = is_sa_term (before_close_sp vs);
      spaced_a_term = is_a_term (before_close_sp vs);
    }

last_of : List ℕ → Option SentenceBreak
last_of [] = None
last_of (c ∷ before) = Some (plain_value (sentence_break c))

state_of : List ℕ → Before
state_of before = record { last = last_of before; left = left_of (significant before) }

left_step : (v : SentenceBreak) (vs : List SentenceBreak) → left_after (left_of vs) (plain_value v) ≡ left_of (cond (is_ignored v) vs (v ∷ vs))
unfolding left_after skip
left_step Format vs = refl
left_step _ vs = refl

-- the bits for these values
abbrev tail_of : List SentenceBreak → ℕ
tail_of vs = tail_number (is_sa_term (before_close vs)) (is_sa_term (before_close_sp vs)) (is_sa_term (before_close_sp (skip is_para_sep vs)))

tail_bits : (closed spaced ended : Bool) (v : SentenceBreak) → tail_after (tail_number closed spaced ended) v
    ≡ cond (is_ignored v) (tail_number closed spaced ended)
    (tail_number (cond (is_close v) closed (is_sa_term v)) (cond (is_sp v) spaced (cond (is_close v) closed (is_sa_term v)))
    (cond (is_para_sep v) ended (cond (is_sp v) spaced (cond (is_close v) closed (is_sa_term v)))))
unfolding tail_after
tail_bits true true true v = refl
tail_bits true true false v = refl
tail_bits true false true v = refl
tail_bits true false false v = refl
tail_bits false true true v = refl
tail_bits false true false v = refl
tail_bits false false true v = refl
tail_bits false false false v = refl

tail_value : (v : SentenceBreak) (vs : List SentenceBreak) → cond (is_ignored (plain_value v)) (tail_of vs)
    (tail_number (cond (is_close (plain_value v)) (is_sa_term (before_close vs)) (is_sa_term (plain_value v)))
    (cond (is_sp (plain_value v)) (is_sa_term (before_close_sp vs)) (cond (is_close (plain_value v)) (is_sa_term (before_close vs))
    (is_sa_term (plain_value v))))
    (cond (is_para_sep (plain_value v)) (is_sa_term (before_close_sp (skip is_para_sep vs)))
    (cond (is_sp (plain_value v)) (is_sa_term (before_close_sp vs)) (cond (is_close (plain_value v)) (is_sa_term (before_close vs))
    (is_sa_term (plain_value v))))))
    ≡ tail_of (cond (is_ignored v) vs (v ∷ vs))
unfolding skip
tail_value Format vs = refl
tail_value _ vs = refl

tail_step : (v : SentenceBreak) (vs : List SentenceBreak) → tail_after (tail_of vs) (plain_value v) ≡ tail_of (cond (is_ignored v) vs (v ∷ vs))
tail_step v vs =
    tail_bits (is_sa_term (before_close vs)) (is_sa_term (before_close_sp vs)) (is_sa_term (before_close_sp (skip is_para_sep vs))) (plain_value v)
    ∙ tail_value v vs

tail_ends : (closed spaced ended : Bool) → tail_status (tail_number closed spaced ended) ≡ cond ended 0 100
tail_ends true true true = refl
tail_ends true true false = refl
tail_ends true false true = refl
tail_ends true false false = refl
tail_ends false true true = refl
tail_ends false true false = refl
tail_ends false false true = refl
tail_ends false false false = refl

lower_step : (v : SentenceBreak) (b : Bool) → lower_by (plain_value v) b ≡ lower_by v b
lower_step Format b = refl
lower_step _ b = refl

number_is : (b : Bool) → eqb (number_of b) 1 ≡ b
number_is true = refl
number_is false = refl

joins_plain : (m : Left) (right : SentenceBreak) (lower : Bool) → joins_by m (plain_value right) lower ≡ joins_by m right lower
unfolding joins_by
joins_plain m Format lower = refl
joins_plain m _ lower = refl

joins_is : (vs : List SentenceBreak) (right : SentenceBreak) (lower : Bool) → joins_by (left_of vs) right lower ≡ joins vs right lower
unfolding joins_by
joins_is vs right lower = refl

extend_first : (right : SentenceBreak) → break_by_pair Extend right ≡ break_by_pair Format right
extend_first Format = refl
extend_first _ = refl

extend_second : (last : SentenceBreak) → break_by_pair last Extend ≡ break_by_pair last Format
extend_second Format = refl
extend_second _ = refl

first_plain : (last right : SentenceBreak) → break_by_pair (plain_value last) right ≡ break_by_pair last right
first_plain Format right = extend_first right
first_plain _ right = refl

second_plain : (last right : SentenceBreak) → break_by_pair last (plain_value right) ≡ break_by_pair last right
second_plain last Format = extend_second last
second_plain last _ = refl

module _ (classes : List SentenceBreak) (category : ℕ → ℕ) (fits : (c : ℕ) → IsCharacter c → get_or classes (category c) Other ≡ class_of c) where
  seen_state : (before : List ℕ) → IsText before → seen (sentence_monitor classes) category before ≡ state_of before
  unfolding state_of last_of significant skip
  seen_state [] are = refl
  seen_state (c ∷ before) are =
      ap₂ (λ (m : Before) (value : SentenceBreak). record { last = Some value; left = left_after m.left value }) (seen_state before are.1) (fits c are.0)
      ∙ ap (λ l. record { last = Some (plain_value (sentence_break c)); left = l }) (left_step (sentence_break c) (significant before))

  coming_is : (behind : List ℕ) → IsText behind → coming (sentence_monitor classes) category behind ≡ number_of (reaches_lower (map sentence_break behind))
  unfolding reaches_lower
  coming_is [] are = refl
  coming_is (c ∷ behind) are =
      ap₂ (λ (p : ℕ) (value : SentenceBreak). number_of (lower_by value (eqb p 1))) (coming_is behind are.1) (fits c are.0)
      ∙ ap number_of (lower_step (sentence_break c) (eqb (number_of (reaches_lower (map sentence_break behind))) 1)
      ∙ ap (lower_by (sentence_break c)) (number_is (reaches_lower (map sentence_break behind))))

  breaks_is : (before : List ℕ) (c : ℕ) (behind : List ℕ) →
      breaks_by (state_of before).last (state_of before).left (class_of c) (reaches_lower (map sentence_break behind)) ≡ is_sentence_break before (c ∷ behind)
  unfolding is_sentence_break breaks_by state_of last_of reaches_lower
  breaks_is [] c behind = refl
  breaks_is (last ∷ before) c behind =
      let vs : List SentenceBreak = significant (last ∷ before) in
      let ahead : Bool = reaches_lower (map sentence_break behind) in
      let value : SentenceBreak = sentence_break c in
      ap₂ (λ pair (joined : Bool). unwrap_or pair (not joined && is_sa_term (before_close_sp vs)))
      (first_plain (sentence_break last) (plain_value value) ∙ second_plain (sentence_break last) value)
      (joins_plain (left_of vs) value (lower_by (plain_value value) ahead) ∙ joins_is vs value (lower_by (plain_value value) ahead)
      ∙ ap (joins vs value) (lower_step value ahead))

  tail_is : (sentence : List ℕ) → IsText sentence → labelled (sentence_monitor classes) category sentence ≡ tail_of (significant sentence)
  unfolding significant skip
  tail_is [] are = refl
  tail_is (c ∷ before) are = ap₂ tail_after (tail_is before are.1) (fits c are.0) ∙ tail_step (sentence_break c) (significant before)

  ends_so : (sentence : List ℕ) → IsText sentence →
      sentence_status sentence ≡ tail_status (labelled (sentence_monitor classes) category sentence)
  ends_so sentence are =
      let vs : List SentenceBreak = significant sentence in
      sym (ap tail_status (tail_is sentence are)
      ∙ tail_ends (is_sa_term (before_close vs)) (is_sa_term (before_close_sp vs)) (is_sa_term (before_close_sp (skip is_para_sep vs))))

  pub sentence_tells : Tells (sentence_monitor classes) category is_sentence_break sentence_status
  sentence_tells =
      record {
        ends = sentences_at_ends;
        inside = λ before c behind before_are is behind_are.
            sym (breaks_is before c behind)
            ∙ sym (ap₂ (λ (m : Before) (value : SentenceBreak). breaks_by m.last m.left value (reaches_lower (map sentence_break behind)))
            (seen_state before before_are) (fits c is))
            ∙ ap (λ b. breaks_by (seen (sentence_monitor classes) category before).last (seen (sentence_monitor classes) category before).left
            (get_or classes (category c) Other) b)
            (sym (ap (λ p. eqb p 1) (coming_is behind behind_are) ∙ number_is (reaches_lower (map sentence_break behind))));
        status_is = ends_so;
      }

-- `unfolding sentence_tests` lets `refl` compute the tests for the table of sentences
unfoldable pub sentence_tests : Unit {0}
unfolding same_class same_last same_left same_before left_after tail_after joins_by breaks_by
sentence_tests = tt
