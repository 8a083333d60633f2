-- The monitor of the rules on lines.
use Rattle.std.proofs.Common.{◌≡◌, ℕ, zero, suc, Bool, true, false, not, ◌&&◌, ◌||◌, cond, eqb, List, [], ◌∷◌, Option, Some, None, map, get_or}
use Rattle.std.proofs.Common.{slice_get, sym, refl, ap, ap₂, ◌∙◌, ⊎_elim, arith}
use Rattle.std.specs.Prelude.{unwrap_or}
use Rattle.std.specs.Bool.{beq}
use Rattle.std.proofs.lemmas.Bool.{cases_Bool, cases_lt, cond-true, cond-false, and_parts, and_from, and_left, eqb-true, eq-eqb, ne_eqb, false≢true}
use Rattle.ucd_table.specs.Steps.{Step, step_value}
use Rattle.ucd_table.proofs.StepsLemmas.{step_value-nil, step_value-here, step_value-later}
use Rattle.ucd_table.proofs.Stepped.{Stepped, zip_stepped}
use Rattle.ucd_table.proofs.Facts.{same_from_beq}
use Rattle.ucd_breaks.specs.LineBreak.{line_break, line_break_number}
use Rattle.ucd_breaks.specs.declared.LineBreak.{LineBreak}
use Rattle.ucd_breaks.proofs.LineBreakLemmas.{line_break_stepped, line_break_number_injective}
use Rattle.ucd_category.specs.GeneralCategory.{general_category, general_category_eq}
use Rattle.ucd_category.specs.declared.GeneralCategory.{GeneralCategory}
use Rattle.ucd_category.proofs.GeneralCategoryLemmas.{general_category_stepped}
use Rattle.ucd_category.proofs.Computing.{ucd_category}
use Rattle.ucd_east_asian.specs.EastAsianWidth.{east_asian_width}
use Rattle.ucd_east_asian.specs.declared.EastAsianWidth.{EastAsianWidth}
use Rattle.ucd_east_asian.proofs.EastAsianWidthLemmas.{east_asian_width_stepped}
use Rattle.ucd_east_asian.proofs.Computing.{ucd_east_asian}
use Rattle.ucd_emoji.specs.Binary.{is_extended_pictographic}
use Rattle.ucd_emoji.proofs.BinaryLemmas.{is_extended_pictographic_stepped}
use Rattle.rbbi_model.specs.Words.{IsCharacter, IsText}
use Rattle.rbbi_annexes.specs.LineNames.{AL, BK, CL, CM, CP, CR, EX, GL, IS, LF, NL, NU, QU, RI, SP, SY, VF, WJ, ZW, ZWJ, Pi, Pf, Cn}
use Rattle.rbbi_annexes.specs.declared.lines.items.Item.{Item}
use Rattle.rbbi_annexes.specs.declared.lines.rules.Left.{Left}
use Rattle.rbbi_annexes.specs.LineBreaks.{resolved, is_wide, item_of, is, one_of, is_mark, takes_marks, alone, items_before, items_after}
use Rattle.rbbi_annexes.specs.LineBreaks.{past_spaces, ends_number, ends_half_flag, left_of, right_of, line_verdict}
use Rattle.rbbi_annexes.specs.inner.Lefts.{left_with}
use Rattle.rbbi_annexes.specs.LineBoundaries.{breaks_line, is_line_break, line_status}
use Rattle.rbbi_annexes.proofs.Ends.{BreaksAtEnds}
use Rattle.rbbi_annexes.proofs.Monitors.{Monitor, seen, coming, labelled, Tells}
use Rattle.rbbi_annexes.proofs.LineTexts.{with_joiner, left_of-cons, items_after_none, after_mark, after_item}
use Rattle.rbbi_annexes.proofs.LineFacts.{made, read_as, plain_first, LeftFacts, left_facts, RightFacts, right_facts, NextFacts, next_facts}
use Rattle.rbbi_annexes.proofs.LineFacts.{Far, far_by, Second, second_of, Near, near_by, rules_with, rules_by, reads_on, by_rules_is, early_is, unread_is}
use Rattle.rbbi_annexes.proofs.LineFacts.{left_plain, second_plain, right_read, next_read}

-- ---- what the rules read of a character

abbrev pub item_by : LineBreak × GeneralCategory → EastAsianWidth → Bool × Bool → Item
item_by classes width flags =
    made (resolved classes.0 classes.1) (is_wide width) (general_category_eq classes.1 Pi) (general_category_eq classes.1 Pf) flags.0
    (flags.1 && general_category_eq classes.1 Cn)

abbrev pub class_of : ℕ → Item
class_of c = read_as (item_by (line_break c, general_category c) (east_asian_width c) (eqb c 0x25CC, is_extended_pictographic c))

class_is_read : (c : ℕ) → class_of c ≡ read_as (item_of c)
unfolding item_of
class_is_read c = refl

abbrev pub other_class : Item
other_class = made AL false false false false false

pub circle_steps : (c : ℕ) → eqb c 0x25CC ≡ step_value false ((0x25CC, false) ∷ (0x25CD, true) ∷ []) c
circle_steps c =
    let first : Step Bool = (0x25CC, false) in
    let second : Step Bool = (0x25CD, true) in
    ⊎_elim
    (λ below. ne_eqb c 0x25CC (λ same. omega (arith, below, same)) ∙ sym (step_value-here false first (second ∷ []) c below))
    (λ from.
    ⊎_elim
    (λ within. eq-eqb c 0x25CC (omega (arith, from, within)) ∙ sym (step_value-here false second [] c within))
    (λ past.
    ne_eqb c 0x25CC (λ same. omega (arith, past, same))
    ∙ sym (step_value-later false second [] c past ∙ step_value-nil false c))
    (cases_lt c 0x25CD)
    ∙ sym (step_value-later false first (second ∷ []) c from))
    (cases_lt c 0x25CC)

abbrev pub circle_stepped : Stepped (λ c. eqb c 0x25CC)
circle_stepped = record { default = false; steps = (0x25CC, false) ∷ (0x25CD, true) ∷ []; gives = circle_steps }

abbrev pub class_stepped : Stepped class_of
class_stepped =
    zip_stepped (λ (item : (LineBreak × GeneralCategory) × EastAsianWidth) flags. read_as (item_by item.0 item.1 flags))
    (λ c. ((line_break c, general_category c), east_asian_width c)) (λ c. (eqb c 0x25CC, is_extended_pictographic c))
    (zip_stepped (λ classes width. (classes, width)) (λ c. (line_break c, general_category c)) east_asian_width
    (zip_stepped (λ v g. (v, g)) line_break general_category line_break_stepped general_category_stepped) east_asian_width_stepped)
    (zip_stepped (λ a b. (a, b)) (λ c. eqb c 0x25CC) is_extended_pictographic circle_stepped is_extended_pictographic_stepped)

-- ---- the same items and states

unfoldable pub same_bits : List Bool → List Bool → Bool
same_bits [] [] = true
same_bits (a ∷ xs) (b ∷ ys) = beq a b && same_bits xs ys
same_bits _ _ = false

same_bits-true : (xs ys : List Bool) → same_bits xs ys ≡ true → xs ≡ ys
unfolding same_bits
same_bits-true [] [] is = refl
same_bits-true (a ∷ xs) (b ∷ ys) is =
    let parts = and_parts (beq a b) (same_bits xs ys) is in
    ap₂ (λ c cs. c ∷ cs) (same_from_beq a b parts.0) (same_bits-true xs ys parts.1)
same_bits-true [] (b ∷ ys) is = absurd (false≢true is)
same_bits-true (a ∷ xs) [] is = absurd (false≢true is)

abbrev pub item_bits : Item → List Bool
item_bits item = item.is_east_asian ∷ item.is_initial ∷ item.is_final ∷ item.is_circle ∷ item.is_reserved ∷ []

abbrev item_from : LineBreak → List Bool → Item
item_from class (east ∷ initial ∷ final ∷ circle ∷ reserved ∷ []) = made class east initial final circle reserved
item_from class _ = other_class

unfoldable pub same_class : Item → Item → Bool
same_class a b =
    let bits = same_bits (item_bits a) (item_bits b) in
    eqb (line_break_number a.class) (line_break_number b.class) && bits

pub same_class-true : (a b : Item) → same_class a b ≡ true → a ≡ b
unfolding same_class
same_class-true a b is =
    let numbers : Bool = eqb (line_break_number a.class) (line_break_number b.class) in
    let parts = and_parts numbers (same_bits (item_bits a) (item_bits b)) is in
    ap₂ item_from (line_break_number_injective a.class b.class (eqb-true (line_break_number a.class) (line_break_number b.class) parts.0))
    (same_bits-true (item_bits a) (item_bits b) parts.1)

unfoldable pub same_first : Option Item → Option Item → Bool
same_first None None = true
same_first (Some a) (Some b) = same_class a b
same_first _ _ = false

same_first-true : (a b : Option Item) → same_first a b ≡ true → a ≡ b
unfolding same_first
same_first-true None None is = refl
same_first-true (Some a) (Some b) is = ap Some (same_class-true a b is)
same_first-true None (Some b) is = absurd (false≢true is)
same_first-true (Some a) None is = absurd (false≢true is)

abbrev pub near_bits : Near → List Bool
near_bits n =
    n.hyphen ∷ n.hebrew ∷ n.virama ∷ n.narrow ∷ n.zw ∷ n.op ∷ n.quoted ∷ n.closed ∷ n.b2 ∷ n.joiner ∷ n.number ∷ n.closed_number ∷ n.half_flag ∷ []

-- where nothing stands before
abbrev pub no_near : Near
no_near = record {
  first = None;
  hyphen = false;
  hebrew = false;
  virama = false;
  narrow = false;
  zw = false;
  op = false;
  quoted = false;
  closed = false;
  b2 = false;
  joiner = false;
  number = false;
  closed_number = false;
  half_flag = false;
}

abbrev near_from : Option Item → List Bool → Near
near_from first (b0 ∷ b1 ∷ b2 ∷ b3 ∷ b4 ∷ b5 ∷ b6 ∷ b7 ∷ b8 ∷ b9 ∷ b10 ∷ b11 ∷ b12 ∷ []) =
    record {
      first = first;
      hyphen = b0;
      hebrew = b1;
      virama = b2;
      narrow = b3;
      zw = b4;
      op = b5;
      quoted = b6;
      closed = b7;
      b2 = b8;
      joiner = b9;
      number = b10;
      closed_number = b11;
      half_flag = b12;
    }
near_from first _ = no_near

-- the state: what stands before, if something does
unfoldable pub same_before : Option Near → Option Near → Bool
same_before None None = true
same_before (Some a) (Some b) = let bits = same_bits (near_bits a) (near_bits b) in same_first a.first b.first && bits
same_before _ _ = false

pub same_before-true : (a b : Option Near) → same_before a b ≡ true → a ≡ b
unfolding same_before
same_before-true None None is = refl
same_before-true (Some a) (Some b) is =
    let parts = and_parts (same_first a.first b.first) (same_bits (near_bits a) (near_bits b)) is in
    ap Some (ap₂ near_from (same_first-true a.first b.first parts.0) (same_bits-true (near_bits a) (near_bits b) parts.1))
same_before-true None (Some b) is = absurd (false≢true is)
same_before-true (Some a) None is = absurd (false≢true is)

-- ---- one more character before a place

-- an item that counts; over a space what stands before it counts too
unfoldable pub near_with : Bool → Second → Near → NextFacts → Near
near_with space second m next =
    record {
      first = Some next.first;
      hyphen = second.free && next.hyphen;
      hebrew = second.hebrew && next.hyphen;
      virama = second.aksara && next.vi;
      narrow = second.narrow && next.qu;
      zw = cond space m.zw next.zw;
      op = cond space m.op next.op;
      quoted = cond space m.quoted (next.initial && second.opens);
      closed = cond space m.closed next.closes;
      b2 = cond space m.b2 next.b2;
      joiner = next.zwj;
      number = next.nu || (next.separates && m.number);
      closed_number = next.closes && m.number;
      half_flag = next.ri && not m.half_flag;
    }

abbrev pub joined_near : Near → Bool → Near
joined_near m joiner = record m { joiner = joiner }

unfoldable pub near_after : Second → Bool → Near → NextFacts → Near
near_after second takes m next =
    let further = near_with next.space second m next in
    cond (next.mark && takes) (joined_near m next.zwj) further

with_by : (l : Left) (item : Item) (space : Bool) →
    near_by (record {
      first = Some (alone item);
      second = l.first;
      held = cond space l.held (Some (alone item));
      before_held = cond space l.before_held l.first;
      joiner = is ZWJ (Some item);
      number = is NU (Some (alone item)) || (one_of (SY ∷ IS ∷ []) (Some (alone item)) && l.number);
      closed_number = one_of (CL ∷ CP ∷ []) (Some (alone item)) && l.number;
      half_flag = is RI (Some (alone item)) && not l.half_flag;
    })
    ≡ near_with space (second_of l.first) (near_by l) (next_facts item)
unfolding near_by near_with next_facts
with_by l item true = refl
with_by l item false = refl

near_cond : (b : Bool) (x y : Left) → near_by (cond b x y) ≡ cond b (near_by x) (near_by y)
near_cond true x y = refl
near_cond false x y = refl

joined_by : (l : Left) (joiner : Bool) → near_by (with_joiner l joiner) ≡ joined_near (near_by l) joiner
unfolding near_by
joined_by l joiner = refl

mark_read : (item : Item) → is_mark item ≡ is_mark (read_as item)
unfolding right_facts
mark_read item = ap (λ r. r.mark) (sym (right_read item))

takes_plain : (first : Option Item) → takes_marks first ≡ takes_marks (plain_first first)
unfolding left_facts
takes_plain first = ap (λ l. l.takes) (sym (left_plain first))

near_step : (c : ℕ) (before : List ℕ) →
    near_by (left_of (c ∷ before))
    ≡ near_after (second_of (near_by (left_of before)).first) (takes_marks (near_by (left_of before)).first) (near_by (left_of before))
    (next_facts (read_as (item_of c)))
unfolding near_after near_by next_facts
near_step c before =
    let l : Left = left_of before in
    let m : Near = near_by l in
    let item : Item = item_of c in
    let joiner : Bool = is ZWJ (Some item) in
    let b : Bool = is_mark item && takes_marks l.first in
    ap near_by (left_of-cons c before)
    ∙ near_cond b (with_joiner l joiner) (left_with l (alone item) joiner)
    ∙ ap (cond b (joined_near m joiner)) (with_by l item (is SP (Some (alone item))))
    ∙ (λ i. near_after (sym (second_plain l.first) i) (takes_plain l.first i) m (sym (next_read item) i))

start_near : near_by (left_of []) ≡ no_near
unfolding near_by second_of is one_of left_of items_before past_spaces ends_number ends_half_flag
start_near = refl

-- ---- what comes after the next character

abbrev far : Bool → Bool → Bool → Bool → Bool → Far
far free wide number reaches final = record { free = free; wide = wide; number = number; reaches = reaches; final = final }

-- the facts by number; the last three are of items that no character is read as
abbrev pub fars : List Far
fars =
    far true false false false false
    ∷ far false false false false false
    ∷ far false false true true false
    ∷ far false true false false false
    ∷ far false false false false true
    ∷ far true true false false false
    ∷ far true false false true false
    ∷ far true true false true false
    ∷ far false true true true false
    ∷ far false true false false true
    ∷ []

abbrev pub far_of : ℕ → Far
far_of p = get_or fars p (far false false false false false)

-- the number of an item that is no mark; `reaches` says whether a NU comes after it
unfoldable pub number_of : Item → Bool → ℕ
number_of item reaches =
    let east = item.is_east_asian in
    let free = one_of (SP ∷ GL ∷ WJ ∷ CL ∷ QU ∷ CP ∷ EX ∷ IS ∷ SY ∷ BK ∷ CR ∷ LF ∷ NL ∷ ZW ∷ []) (Some item) in
    let others = cond free (cond east 5 0) (cond east 3 1) in
    let separator = cond (is IS (Some item) && reaches) (cond east 7 6) others in
    let final = cond (is VF (Some item)) (cond east 9 4) separator in
    cond (is NU (Some item)) (cond east 8 2) final

unfoldable pub far_after : Item → ℕ → ℕ
far_after item p = let number = number_of item (far_of p).number in cond (is_mark item) p number

abbrev far_with : Item → Bool → Far
far_with item reaches =
    far (one_of (SP ∷ GL ∷ WJ ∷ CL ∷ QU ∷ CP ∷ EX ∷ IS ∷ SY ∷ BK ∷ CR ∷ LF ∷ NL ∷ ZW ∷ []) (Some item)) item.is_east_asian (is NU (Some item))
    (is NU (Some item) || (is IS (Some item) && reaches)) (is VF (Some item))

far_class : (class : LineBreak) (east initial final circle reserved reaches : Bool) →
    is_mark (made class east initial final circle reserved) ≡ false →
    far_of (number_of (read_as (made class east initial final circle reserved)) reaches) ≡ far_with (made class east initial final circle reserved) reaches
unfolding number_of is one_of
far_class CM east initial final circle reserved reaches base = absurd (false≢true (sym base))
far_class ZWJ east initial final circle reserved reaches base = absurd (false≢true (sym base))
far_class _ true initial final circle reserved true base = refl
far_class _ true initial final circle reserved false base = refl
far_class _ false initial final circle reserved true base = refl
far_class _ false initial final circle reserved false base = refl

infix_class : (class : LineBreak) (east initial final circle reserved : Bool) → is IS (Some (made class east initial final circle reserved)) ≡ true →
    takes_marks (Some (made class east initial final circle reserved)) ≡ true
unfolding is one_of
infix_class BK east initial final circle reserved is_infix = absurd (false≢true is_infix)
infix_class CR east initial final circle reserved is_infix = absurd (false≢true is_infix)
infix_class LF east initial final circle reserved is_infix = absurd (false≢true is_infix)
infix_class NL east initial final circle reserved is_infix = absurd (false≢true is_infix)
infix_class SP east initial final circle reserved is_infix = absurd (false≢true is_infix)
infix_class ZW east initial final circle reserved is_infix = absurd (false≢true is_infix)
infix_class _ east initial final circle reserved is_infix = refl

and_then : (x a b : Bool) → (x ≡ true → a ≡ b) → (x && a) ≡ (x && b)
and_then true a b same = same refl
and_then false a b same = refl

far_cons : (item : Item) (rest : List Item) → far_by (item ∷ rest) ≡ far_with item (is NU (slice_get rest 0))
unfolding far_by
far_cons item rest = refl

far_none : far_of 0 ≡ far_by []
unfolding far_by is one_of
far_none = refl

number_by_far : (items : List Item) → (far_by items).number ≡ is NU (slice_get items 0)
unfolding far_by
number_by_far items = refl

far_step : (item : Item) (rest : List Item) (p : ℕ) → is_mark item ≡ false → (takes_marks (Some item) ≡ true → far_of p ≡ far_by rest) →
    far_of (far_after (read_as item) p) ≡ far_by (item ∷ rest)
unfolding far_after
far_step item rest p base same =
    ap far_of (cond-false (is_mark (read_as item)) p (number_of (read_as item) (far_of p).number) (sym (mark_read item) ∙ base))
    ∙ far_class item.class item.is_east_asian item.is_initial item.is_final item.is_circle item.is_reserved (far_of p).number base
    ∙ ap (λ b. far (one_of (SP ∷ GL ∷ WJ ∷ CL ∷ QU ∷ CP ∷ EX ∷ IS ∷ SY ∷ BK ∷ CR ∷ LF ∷ NL ∷ ZW ∷ []) (Some item)) item.is_east_asian (is NU (Some item))
    (is NU (Some item) || b) (is VF (Some item)))
    (and_then (is IS (Some item)) (far_of p).number (is NU (slice_get rest 0)) (λ is_infix.
    ap (λ f. f.number) (same (infix_class item.class item.is_east_asian item.is_initial item.is_final item.is_circle item.is_reserved is_infix))
    ∙ number_by_far rest))
    ∙ sym (far_cons item rest)

-- ---- the monitor

-- whether a line is broken, by what stands before and after
abbrev verdict_by : Near → LeftFacts → RightFacts → Far → Bool
verdict_by n l r f = breaks_line (rules_by n l r f)

unfoldable pub breaks_from : List RightFacts → Option Near → ℕ → ℕ → Bool
breaks_from rights None = λ k p. true
breaks_from rights (Some n) =
    let l = left_facts n.first in
    λ k.
    let r = get_or rights k (right_facts other_class) in
    let read = reads_on r in
    let unread = verdict_by n l r (far_of 0) in
    λ p. let verdict = verdict_by n l r (far_of p) in cond read verdict unread

unfoldable pub next_from : List NextFacts → Near → ℕ → Option Near
next_from nexts m =
    let second = second_of m.first in
    let takes = takes_marks m.first in
    λ k. Some (near_after second takes m (get_or nexts k (next_facts other_class)))

unfoldable pub status_after : Item → ℕ
status_after item = cond (one_of (BK ∷ CR ∷ LF ∷ NL ∷ []) (Some item)) 100 0

-- the monitor, for the classes of the categories
unfoldable pub line_monitor : List Item → Monitor (Option Near)
line_monitor classes =
    let rights = map right_facts classes in
    let nexts = map next_facts classes in
    let statuses = map status_after classes in
    record {
      start = None;
      next = λ m. next_from nexts (unwrap_or m no_near);
      nothing = 0;
      ahead = λ k p. far_after (get_or classes k other_class) p;
      breaks = λ m. breaks_from rights m;
      label = λ t k. get_or statuses k (status_after other_class);
      status = λ t. t;
    }

line_end : (before : List ℕ) → is_line_break before [] ≡ true
unfolding line_verdict
line_end [] = refl
line_end (last ∷ before) = refl

pub lines_at_ends : BreaksAtEnds is_line_break
lines_at_ends = record { start = λ after. refl; end = line_end }

-- ---- it decides as the rules do

state_of : List ℕ → Option Near
state_of [] = None
state_of (c ∷ before) = Some (near_by (left_of (c ∷ before)))

near_of : (before : List ℕ) → unwrap_or (state_of before) no_near ≡ near_by (left_of before)
unfolding state_of
near_of [] = sym start_near
near_of (c ∷ before) = refl

value_at : {X : Type 0} (f : Item → X) (items : List Item) (k : ℕ) → get_or (map f items) k (f other_class) ≡ f (get_or items k other_class)
value_at f [] k = refl
value_at f (item ∷ items) zero = refl
value_at f (item ∷ items) (suc k) = value_at f items k

verdict_is : (n : Near) (l : LeftFacts) (r : RightFacts) (p : ℕ) →
    verdict_by n l r (far_of p) ≡ cond (reads_on r) (verdict_by n l r (far_of p)) (verdict_by n l r (far_of 0))
verdict_is n l r p =
    ⊎_elim
    (λ read. sym (cond-true (reads_on r) (verdict_by n l r (far_of p)) (verdict_by n l r (far_of 0)) read))
    (λ unread.
    ap breaks_line (unread_is n l r (far_of p) (far_of 0) unread)
    ∙ sym (cond-false (reads_on r) (verdict_by n l r (far_of p)) (verdict_by n l r (far_of 0)) unread))
    (cases_Bool (reads_on r))

mark_far : (item : Item) (p : ℕ) → is_mark item ≡ true → far_after (read_as item) p ≡ p
unfolding far_after
mark_far item p mark = cond-true (is_mark (read_as item)) p (number_of (read_as item) (far_of p).number) (sym (mark_read item) ∙ mark)

status_class : (class : LineBreak) (east initial final circle reserved : Bool) →
    status_after (read_as (made class east initial final circle reserved))
    ≡ cond (one_of (BK ∷ CR ∷ LF ∷ NL ∷ []) (Some (made class east initial final circle reserved))) 100 0
unfolding status_after is one_of
status_class NL east initial final circle reserved = refl
status_class _ east initial final circle reserved = refl

module _ (classes : List Item) (category : ℕ → ℕ) (fits : (c : ℕ) → IsCharacter c → get_or classes (category c) other_class ≡ class_of c) where
  read : (c : ℕ) → IsCharacter c → get_or classes (category c) other_class ≡ read_as (item_of c)
  read c is = fits c is ∙ class_is_read c

  seen_state : (before : List ℕ) → IsText before → seen (line_monitor classes) category before ≡ state_of before
  unfolding state_of line_monitor next_from
  seen_state [] are = refl
  seen_state (c ∷ before) are =
      ap₂ (λ (m : Near) (next : NextFacts). Some (near_after (second_of m.first) (takes_marks m.first) m next))
      (ap (λ m. unwrap_or m no_near) (seen_state before are.1) ∙ near_of before)
      (value_at next_facts classes (category c) ∙ ap next_facts (read c are.0))
      ∙ ap Some (sym (near_step c before))

  coming_far : (after : List ℕ) → IsText after → (last : Option Item) → takes_marks last ≡ true →
      far_of (coming (line_monitor classes) category after) ≡ far_by (items_after last after)
  unfolding line_monitor
  coming_far [] are last takes = far_none ∙ ap far_by (sym (items_after_none last))
  coming_far (c ∷ after) are last takes =
      let p : ℕ = coming (line_monitor classes) category after in
      let item : Item = item_of c in
      ap (λ (k : Item). far_of (far_after k p)) (read c are.0)
      ∙ ⊎_elim
      (λ mark.
      ap far_of (mark_far item p mark)
      ∙ coming_far after are.1 last takes
      ∙ ap far_by (sym (after_mark last c after (and_from (is_mark item) (takes_marks last) mark takes))))
      (λ base.
      far_step item (items_after (Some item) after) p base (λ takes_item. coming_far after are.1 (Some item) takes_item)
      ∙ ap far_by (ap (λ (x : Item). x ∷ items_after (Some x) after) (sym (cond-false (is_mark item) (item_of 0x41) item base))
      ∙ sym (after_item last c after (and_left (is_mark item) (takes_marks last) base))))
      (cases_Bool (is_mark item))

  -- the facts of what comes after the next character, as far as the rules read them
  far_is : (n : Near) (l : LeftFacts) (c : ℕ) (after : List ℕ) → IsText after →
      rules_by n l (right_facts (item_of c)) (far_by (items_after (Some (alone (item_of c))) after))
      ≡ rules_by n l (right_facts (item_of c)) (far_of (coming (line_monitor classes) category after))
  unfolding right_facts
  far_is n l c after are =
      let item : Item = item_of c in
      let items : List Item = items_after (Some (alone item)) after in
      let p : ℕ = coming (line_monitor classes) category after in
      ⊎_elim
      (λ early. early_is n l (right_facts item) (far_by items) (far_of p) early)
      (λ taking. ap (λ (f : Far). rules_by n l (right_facts item) f) (sym (coming_far after are (Some (alone item)) (ap not taking))))
      (cases_Bool (right_facts item).early)

  breaks_is : (before : List ℕ) (c : ℕ) (after : List ℕ) → IsText before → IsCharacter c → IsText after →
      is_line_break before (c ∷ after)
      ≡ (line_monitor classes).breaks (state_of before) (category c) (coming (line_monitor classes) category after)
  unfolding line_verdict right_of near_by state_of line_monitor breaks_from
  breaks_is [] c after before_are known after_are = refl
  breaks_is (last ∷ before) c after before_are known after_are =
      let l : Left = left_of (last ∷ before) in
      let item : Item = item_of c in
      let f : Far = far_of (coming (line_monitor classes) category after) in
      ap breaks_line (by_rules_is l item (items_after (Some (alone item)) after) ∙ far_is (near_by l) (left_facts l.first) c after after_are)
      ∙ (λ i. verdict_by (near_by l) (sym (left_plain l.first) i)
      (sym (value_at right_facts classes (category c) ∙ ap right_facts (read c known) ∙ right_read item) i) f)
      ∙ verdict_is (near_by l) (left_facts (plain_first l.first)) (get_or (map right_facts classes) (category c) (right_facts other_class))
      (coming (line_monitor classes) category after)

  status_is : (segment : List ℕ) → IsText segment → line_status segment ≡ labelled (line_monitor classes) category segment
  unfolding line_monitor
  status_is [] are = refl
  status_is (c ∷ segment) are =
      let item : Item = item_of c in
      sym (status_class item.class item.is_east_asian item.is_initial item.is_final item.is_circle item.is_reserved)
      ∙ ap status_after (sym (read c are.0)) ∙ sym (value_at status_after classes (category c))

  pub line_tells : Tells (line_monitor classes) category is_line_break line_status
  unfolding line_monitor
  line_tells =
      record {
        ends = lines_at_ends;
        inside = λ before c after before_are is after_are.
            breaks_is before c after before_are is after_are
            ∙ ap (λ m. (line_monitor classes).breaks m (category c) (coming (line_monitor classes) category after)) (sym (seen_state before before_are));
        status_is = status_is;
      }

-- `unfolding line_tests` lets `refl` compute the tests for the table of lines
unfoldable pub line_tests : Unit {0}
unfolding ucd_category ucd_east_asian is one_of item_of left_facts right_facts next_facts second_of rules_with reads_on same_bits same_class same_first
    same_before near_with near_after number_of far_after breaks_from next_from status_after line_monitor
line_tests = tt
