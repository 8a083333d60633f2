-- Line breaks, by the rules LB1 to LB31 of UAX #14 as of Unicode 17.0, over the properties of 18.0.
use Rattle.std.specs.Prelude.{ℕ, Bool, false, not, ◌&&◌, ◌||◌, ◌==◌, List, [], ◌∷◌, slice_get, Option, Some, None, is_none, if◌then◌else◌}
use Rattle.ucd_breaks.specs.LineBreak.{line_break, line_break_eq}
use Rattle.ucd_breaks.specs.declared.LineBreak.{LineBreak}
use Rattle.rbbi_annexes.specs.LineNames.{AI, AK, AL, AP, AS, B2, BA, BB, BK, CB, CJ, CL, CM, CP, CR, EB, EM, EX, GL, H2, H3, HH, HL, HY, ID, IN, IS, JL, JT, JV}
use Rattle.rbbi_annexes.specs.LineNames.{LF, NL, NS, NU, OP, PO, PR, QU, RI, SA, SG, SP, SY, VF, VI, WJ, XX, ZW, ZWJ, Mn, Mc, Pi, Pf, Cn, F, W, H}
use Rattle.ucd_category.specs.GeneralCategory.{general_category, general_category_eq}
use Rattle.ucd_category.specs.declared.GeneralCategory.{GeneralCategory}
use Rattle.ucd_east_asian.specs.EastAsianWidth.{east_asian_width, east_asian_width_eq}
use Rattle.ucd_east_asian.specs.declared.EastAsianWidth.{EastAsianWidth}
use Rattle.ucd_emoji.specs.Binary.{is_extended_pictographic}
use Rattle.rbbi_annexes.specs.declared.lines.rules.Verdict.{Verdict}
use Rattle.rbbi_annexes.specs.declared.lines.rules.Verdict.TheVariants.{MustBreak, MayBreak, NoBreak}
use Rattle.rbbi_annexes.specs.declared.lines.items.Item.{Item}
use Rattle.rbbi_annexes.specs.declared.lines.rules.Left.{Left}
use Rattle.rbbi_annexes.specs.declared.lines.rules.Right.{Right}

-- ---- items: a character, or one with the marks that count as a part of it

-- LB1
abbrev pub resolved : LineBreak → GeneralCategory → LineBreak
resolved AI of = AL
resolved SG of = AL
resolved XX of = AL
resolved SA of = if general_category_eq of Mn || general_category_eq of Mc then CM else AL
resolved CJ of = NS
resolved class of = class

-- F, W or H
abbrev pub is_wide : EastAsianWidth → Bool
is_wide width = east_asian_width_eq width F || east_asian_width_eq width W || east_asian_width_eq width H

-- what the rules read of a character
unfoldable pub item_of : ℕ → Item
item_of c =
    let of = general_category c in
    record {
      class = resolved (line_break c) of;
      is_east_asian = is_wide (east_asian_width c);
      is_initial = general_category_eq of Pi;
      is_final = general_category_eq of Pf;
      is_circle = c == 0x25CC;
      is_reserved = is_extended_pictographic c && general_category_eq of Cn;
    }

-- there is an item, and it passes the test; it has the class; it has one of the classes
abbrev pub has : (Item → Bool) → Option Item → Bool
has test None = false
has test (Some item) = test item

unfoldable pub is : LineBreak → Option Item → Bool
is class = has (λ item. line_break_eq item.class class)

unfoldable pub one_of : List LineBreak → Option Item → Bool
one_of [] item = false
one_of (class ∷ classes) item = is class item || one_of classes item

-- [Pi & QU], [Pf & QU], $EastAsian and [Extended_Pictographic & Cn]
abbrev pub is_initial_quote : Option Item → Bool
is_initial_quote = has (λ item. line_break_eq item.class QU && item.is_initial)

abbrev pub is_final_quote : Option Item → Bool
is_final_quote = has (λ item. line_break_eq item.class QU && item.is_final)

abbrev pub is_east_asian : Option Item → Bool
is_east_asian = has (λ item. item.is_east_asian)

abbrev pub is_reserved : Option Item → Bool
is_reserved = has (λ item. item.is_reserved)

-- (AK | ◌), and (AK | ◌ | AS)
abbrev pub is_aksara_or_circle : Option Item → Bool
is_aksara_or_circle = has (λ item. line_break_eq item.class AK || item.is_circle)

abbrev pub is_aksara : Option Item → Bool
is_aksara item = is_aksara_or_circle item || is AS item

-- LB9: CM and ZWJ count as a part of the item before them, if there is one and it isn't one of these
abbrev pub is_mark : Item → Bool
is_mark item = is CM (Some item) || is ZWJ (Some item)

abbrev pub takes_marks : Option Item → Bool
takes_marks item = not (is_none item || one_of (BK ∷ CR ∷ LF ∷ NL ∷ SP ∷ ZW ∷ []) item)

-- LB10: else they count as U+0041
abbrev pub alone : Item → Item
alone item = if is_mark item then item_of 0x41 else item

-- the items of the characters before a place, nearest first
unfoldable pub items_before : List ℕ → List Item
items_before [] = []
items_before (c ∷ before) =
    let item = item_of c in
    let items = items_before before in
    if is_mark item && takes_marks (slice_get items 0) then items else alone item ∷ items

-- the items of the characters after an item, but for marks that count as a part of it
unfoldable pub items_after : Option Item → List ℕ → List Item
items_after last [] = []
items_after last (c ∷ after) =
    let item = item_of c in
    let same = items_after last after in
    let further = alone item ∷ items_after (Some (alone item)) after in
    if is_mark item && takes_marks last then same else further

-- ---- what stands on the left and on the right of a place, counted away from it

-- past SP*
unfoldable pub past_spaces : List Item → List Item
past_spaces [] = []
past_spaces (item ∷ items) = let rest = past_spaces items in if is SP (Some item) then rest else item ∷ items

-- NU (SY | IS)*
unfoldable pub ends_number : List Item → Bool
ends_number [] = false
ends_number (item ∷ items) = is NU (Some item) || (one_of (SY ∷ IS ∷ []) (Some item) && ends_number items)

-- NU (SY | IS)* (CL | CP)
abbrev pub ends_closed_number : List Item → Bool
ends_closed_number [] = false
ends_closed_number (item ∷ items) = one_of (CL ∷ CP ∷ []) (Some item) && ends_number items

-- (sot | [^ RI]) (RI RI)* RI
unfoldable pub ends_half_flag : List Item → Bool
ends_half_flag [] = false
ends_half_flag (item ∷ items) = is RI (Some item) && not (ends_half_flag items)

abbrev pub ends_joiner : List ℕ → Bool
ends_joiner [] = false
ends_joiner (c ∷ before) = is ZWJ (Some (item_of c))

unfoldable pub left_of : List ℕ → Left
left_of before =
    let items = items_before before in
    let held = past_spaces items in
    record {
      first = slice_get items 0;
      second = slice_get items 1;
      held = slice_get held 0;
      before_held = slice_get held 1;
      joiner = ends_joiner before;
      number = ends_number items;
      closed_number = ends_closed_number items;
      half_flag = ends_half_flag items;
    }

unfoldable pub right_of : ℕ → List ℕ → Right
right_of next after =
    let item = item_of next in
    let items = items_after (Some (alone item)) after in
    record { mark = is_mark item; first = Some (alone item); second = slice_get items 0; third = slice_get items 1 }

-- ---- the rules

abbrev pub joins_glue : Left → Right → Bool
joins_glue l r =
    l.joiner  -- LB8a
    || (r.mark && takes_marks l.first)  -- LB9
    || is WJ r.first || is WJ l.first  -- LB11
    || is GL l.first  -- LB12
    || (not (one_of (SP ∷ BA ∷ HY ∷ HH ∷ []) l.first) && is GL r.first)  -- LB12a
    || one_of (CL ∷ CP ∷ EX ∷ SY ∷ []) r.first  -- LB13

abbrev pub joins_over_spaces : Left → Right → Bool
joins_over_spaces l r =
    is OP l.held  -- LB14
    || (is_initial_quote l.held  -- LB15a
    && (is_none l.before_held || one_of (BK ∷ CR ∷ LF ∷ NL ∷ OP ∷ QU ∷ GL ∷ SP ∷ ZW ∷ []) l.before_held))
    || (is_final_quote r.first  -- LB15b
    && (is_none r.second || one_of (SP ∷ GL ∷ WJ ∷ CL ∷ QU ∷ CP ∷ EX ∷ IS ∷ SY ∷ BK ∷ CR ∷ LF ∷ NL ∷ ZW ∷ []) r.second))

abbrev pub joins_after_spaces : Left → Right → Bool
joins_after_spaces l r =
    is IS r.first  -- LB15d
    || (one_of (CL ∷ CP ∷ []) l.held && is NS r.first)  -- LB16
    || (is B2 l.held && is B2 r.first)  -- LB17

abbrev pub joins_quote : Left → Right → Bool
joins_quote l r =
    (is QU r.first && not (is_initial_quote r.first))  -- LB19
    || (is QU l.first && not (is_final_quote l.first))  -- LB19
    || (not (is_east_asian l.first) && is QU r.first)  -- LB19a
    || (is QU r.first && not (is_east_asian r.second))  -- LB19a
    || (is QU l.first && not (is_east_asian r.first))  -- LB19a
    || (not (is_east_asian l.second) && is QU l.first)  -- LB19a

abbrev pub joins_hyphen : Left → Right → Bool
joins_hyphen l r =
    ((is_none l.second || one_of (BK ∷ CR ∷ LF ∷ NL ∷ SP ∷ ZW ∷ CB ∷ GL ∷ []) l.second)  -- LB20a
    && one_of (HY ∷ HH ∷ []) l.first && one_of (AL ∷ HL ∷ []) r.first)
    || one_of (BA ∷ HH ∷ HY ∷ NS ∷ []) r.first || is BB l.first  -- LB21
    || (is HL l.second && one_of (HY ∷ HH ∷ []) l.first && not (is HL r.first))  -- LB21a
    || (is SY l.first && is HL r.first)  -- LB21b
    || is IN r.first  -- LB22

abbrev pub joins_number : Left → Right → Bool
joins_number l r =
    (one_of (AL ∷ HL ∷ []) l.first && is NU r.first)  -- LB23
    || (is NU l.first && one_of (AL ∷ HL ∷ []) r.first)  -- LB23
    || (is PR l.first && one_of (ID ∷ EB ∷ EM ∷ []) r.first)  -- LB23a
    || (one_of (ID ∷ EB ∷ EM ∷ []) l.first && is PO r.first)  -- LB23a
    || (one_of (PR ∷ PO ∷ []) l.first && one_of (AL ∷ HL ∷ []) r.first)  -- LB24
    || (one_of (AL ∷ HL ∷ []) l.first && one_of (PR ∷ PO ∷ []) r.first)  -- LB24
    || ((l.closed_number || l.number) && one_of (PO ∷ PR ∷ []) r.first)  -- LB25
    || (one_of (PO ∷ PR ∷ []) l.first && is OP r.first && (is NU r.second || (is IS r.second && is NU r.third)))  -- LB25
    || (one_of (PO ∷ PR ∷ HY ∷ IS ∷ []) l.first && is NU r.first)  -- LB25
    || (l.number && is NU r.first)  -- LB25

abbrev pub joins_syllable : Left → Right → Bool
joins_syllable l r =
    (is JL l.first && one_of (JL ∷ JV ∷ H2 ∷ H3 ∷ []) r.first)  -- LB26
    || (one_of (JV ∷ H2 ∷ []) l.first && one_of (JV ∷ JT ∷ []) r.first)  -- LB26
    || (one_of (JT ∷ H3 ∷ []) l.first && is JT r.first)  -- LB26
    || (one_of (JL ∷ JV ∷ JT ∷ H2 ∷ H3 ∷ []) l.first && is PO r.first)  -- LB27
    || (is PR l.first && one_of (JL ∷ JV ∷ JT ∷ H2 ∷ H3 ∷ []) r.first)  -- LB27
    || (one_of (AL ∷ HL ∷ []) l.first && one_of (AL ∷ HL ∷ []) r.first)  -- LB28
    || (is AP l.first && is_aksara r.first)  -- LB28a
    || (is_aksara l.first && one_of (VF ∷ VI ∷ []) r.first)  -- LB28a
    || (is_aksara l.second && is VI l.first && is_aksara_or_circle r.first)  -- LB28a
    || (is_aksara l.first && is_aksara r.first && is VF r.second)  -- LB28a

abbrev pub joins_letter : Left → Right → Bool
joins_letter l r =
    (is IS l.first && one_of (AL ∷ HL ∷ []) r.first)  -- LB29
    || (one_of (AL ∷ HL ∷ NU ∷ []) l.first && is OP r.first && not (is_east_asian r.first))  -- LB30
    || (is CP l.first && not (is_east_asian l.first) && one_of (AL ∷ HL ∷ NU ∷ []) r.first)  -- LB30
    || (l.half_flag && is RI r.first)  -- LB30a
    || ((is EB l.first || is_reserved l.first) && is EM r.first)  -- LB30b

-- The first rule that applies decides: those up to LB15c, and the others.
unfoldable pub by_later_rules : Left → Right → Verdict
by_later_rules l r =
    if joins_after_spaces l r then NoBreak  -- LB15d to LB17
    else (if is SP l.first then MayBreak  -- LB18
    else (if joins_quote l r then NoBreak  -- LB19, LB19a
    else (if is CB r.first || is CB l.first then MayBreak  -- LB20
    else (if joins_hyphen l r || joins_number l r || joins_syllable l r || joins_letter l r then NoBreak  -- LB20a to LB30b
    else MayBreak))))  -- LB31

unfoldable pub by_rules : Left → Right → Verdict
by_rules l r =
    if is BK l.first then MustBreak  -- LB4
    else (if is CR l.first && is LF r.first then NoBreak  -- LB5
    else (if one_of (CR ∷ LF ∷ NL ∷ []) l.first then MustBreak  -- LB5
    else (if one_of (BK ∷ CR ∷ LF ∷ NL ∷ SP ∷ ZW ∷ []) r.first then NoBreak  -- LB6, LB7
    else (if is ZW l.held then MayBreak  -- LB8
    else (if joins_glue l r || joins_over_spaces l r then NoBreak  -- LB8a to LB15b
    else (if is SP l.first && is IS r.first && is NU r.second then MayBreak  -- LB15c
    else by_later_rules l r))))))

-- whether a line must, may or can't be broken between the characters before a place, nearest first, and those after it
unfoldable pub line_verdict : List ℕ → List ℕ → Verdict
line_verdict [] after = NoBreak  -- LB2
line_verdict (last ∷ before) [] = MustBreak  -- LB3
line_verdict (last ∷ before) (next ∷ after) = by_rules (left_of (last ∷ before)) (right_of next after)
