-- The rules on lines, on facts of what stands next to a place, so that each fact is computed once.
use Rattle.std.proofs.Common.{◌≡◌, Bool, true, false, not, ◌&&◌, ◌||◌, cond, List, [], ◌∷◌, Option, Some, None, slice_get, sym, refl, ap, ◌∙◌}
use Rattle.std.specs.Prelude.{is_none}
use Rattle.std.proofs.lemmas.Bool.{cond-true, and_left, and_right, or_parts}
use Rattle.ucd_breaks.specs.LineBreak.{line_break_eq}
use Rattle.ucd_breaks.specs.declared.LineBreak.{LineBreak}
use Rattle.rbbi_annexes.specs.LineNames.{AL, AP, B2, BA, BB, BK, CB, CL, CP, CR, EB, EM, EX, GL, H2, H3, HH, HL, HY, ID, IN, IS, JL, JT, JV}
use Rattle.rbbi_annexes.specs.LineNames.{LF, NL, NS, NU, OP, PO, PR, QU, RI, SP, SY, VF, VI, WJ, ZW, ZWJ}
use Rattle.rbbi_annexes.specs.declared.lines.items.Item.{Item}
use Rattle.rbbi_annexes.specs.declared.lines.rules.Left.{Left}
use Rattle.rbbi_annexes.specs.declared.lines.rules.Verdict.{Verdict}
use Rattle.rbbi_annexes.specs.declared.lines.rules.Verdict.TheVariants.{MustBreak, MayBreak, NoBreak}
use Rattle.rbbi_annexes.specs.LineBreaks.{is, one_of, is_initial_quote, is_final_quote, is_east_asian, is_reserved, is_aksara_or_circle, is_aksara}
use Rattle.rbbi_annexes.specs.LineBreaks.{is_mark, takes_marks, alone, by_rules, by_later_rules}
use Rattle.rbbi_annexes.specs.LineBoundaries.{must_break}

-- ---- items that the rules don't distinguish

abbrev pub made : LineBreak → Bool → Bool → Bool → Bool → Bool → Item
made class east initial final circle reserved =
    record { class = class; is_east_asian = east; is_initial = initial; is_final = final; is_circle = circle; is_reserved = reserved }

abbrev pub plain_class : LineBreak → LineBreak
plain_class NL = BK
plain_class EB = ID
plain_class class = class

-- NL is read as BK, and EB as an ID that isn't assigned. Only quotes are initial or final.
abbrev pub plain : Item → Item
plain item =
    record {
      class = plain_class item.class;
      is_east_asian = item.is_east_asian;
      is_initial = line_break_eq item.class QU && item.is_initial;
      is_final = line_break_eq item.class QU && item.is_final;
      is_circle = item.is_circle;
      is_reserved = line_break_eq item.class EB || item.is_reserved;
    }

-- and the width of a mark isn't read
abbrev pub read_as : Item → Item
read_as item = record (plain item) { is_east_asian = cond (is_mark item) false item.is_east_asian }

abbrev pub plain_first : Option Item → Option Item
plain_first None = None
plain_first (Some item) = Some (plain item)

-- ---- facts

-- of the first item on the left
pub record LeftFacts : Type 0 where
  pub hard : Bool
  pub cr : Bool
  pub ends : Bool
  pub takes : Bool
  pub wj : Bool
  pub gl : Bool
  pub before_gl : Bool
  pub sp : Bool
  pub qu : Bool
  pub final : Bool
  pub east : Bool
  pub cb : Bool
  pub bb : Bool
  pub sy : Bool
  pub letter : Bool
  pub nu : Bool
  pub pr : Bool
  pub ideograph : Bool
  pub pr_po : Bool
  pub po_pr : Bool
  pub before_nu : Bool
  pub jl : Bool
  pub jv_h2 : Bool
  pub jt_h3 : Bool
  pub jamo : Bool
  pub ap : Bool
  pub aksara : Bool
  pub separator : Bool
  pub letter_or_nu : Bool
  pub cp : Bool
  pub base : Bool

unfoldable pub left_facts : Option Item → LeftFacts
left_facts first =
    record {
      hard = one_of (BK ∷ NL ∷ []) first;
      cr = is CR first;
      ends = one_of (BK ∷ CR ∷ LF ∷ NL ∷ []) first;
      takes = takes_marks first;
      wj = is WJ first;
      gl = is GL first;
      before_gl = one_of (SP ∷ BA ∷ HY ∷ HH ∷ []) first;
      sp = is SP first;
      qu = is QU first;
      final = is_final_quote first;
      east = is_east_asian first;
      cb = is CB first;
      bb = is BB first;
      sy = is SY first;
      letter = one_of (AL ∷ HL ∷ []) first;
      nu = is NU first;
      pr = is PR first;
      ideograph = one_of (ID ∷ EB ∷ EM ∷ []) first;
      pr_po = one_of (PR ∷ PO ∷ []) first;
      po_pr = one_of (PO ∷ PR ∷ []) first;
      before_nu = one_of (PO ∷ PR ∷ HY ∷ IS ∷ []) first;
      jl = is JL first;
      jv_h2 = one_of (JV ∷ H2 ∷ []) first;
      jt_h3 = one_of (JT ∷ H3 ∷ []) first;
      jamo = one_of (JL ∷ JV ∷ JT ∷ H2 ∷ H3 ∷ []) first;
      ap = is AP first;
      aksara = is_aksara first;
      separator = is IS first;
      letter_or_nu = one_of (AL ∷ HL ∷ NU ∷ []) first;
      cp = is CP first;
      base = is EB first || is_reserved first;
    }

-- of the first item on the right
pub record RightFacts : Type 0 where
  pub mark : Bool
  pub zwj : Bool
  pub lf : Bool
  pub early : Bool
  pub wj : Bool
  pub gl : Bool
  pub closers : Bool
  pub final : Bool
  pub separator : Bool
  pub ns : Bool
  pub b2 : Bool
  pub qu : Bool
  pub initial : Bool
  pub east : Bool
  pub cb : Bool
  pub letter : Bool
  pub after_all : Bool
  pub hl : Bool
  pub inseparable : Bool
  pub nu : Bool
  pub ideograph : Bool
  pub po : Bool
  pub pr_po : Bool
  pub po_pr : Bool
  pub op : Bool
  pub after_jl : Bool
  pub jv_jt : Bool
  pub jt : Bool
  pub jamo : Bool
  pub aksara : Bool
  pub aksara_or_circle : Bool
  pub vf_vi : Bool
  pub em : Bool
  pub letter_or_nu : Bool
  pub ri : Bool

unfoldable pub right_facts : Item → RightFacts
right_facts item =
    let first = Some (alone item) in
    record {
      mark = is_mark item;
      zwj = is ZWJ (Some item);
      lf = is LF first;
      early = one_of (BK ∷ CR ∷ LF ∷ NL ∷ SP ∷ ZW ∷ []) first;
      wj = is WJ first;
      gl = is GL first;
      closers = one_of (CL ∷ CP ∷ EX ∷ SY ∷ []) first;
      final = is_final_quote first;
      separator = is IS first;
      ns = is NS first;
      b2 = is B2 first;
      qu = is QU first;
      initial = is_initial_quote first;
      east = is_east_asian first;
      cb = is CB first;
      letter = one_of (AL ∷ HL ∷ []) first;
      after_all = one_of (BA ∷ HH ∷ HY ∷ NS ∷ []) first;
      hl = is HL first;
      inseparable = is IN first;
      nu = is NU first;
      ideograph = one_of (ID ∷ EB ∷ EM ∷ []) first;
      po = is PO first;
      pr_po = one_of (PR ∷ PO ∷ []) first;
      po_pr = one_of (PO ∷ PR ∷ []) first;
      op = is OP first;
      after_jl = one_of (JL ∷ JV ∷ H2 ∷ H3 ∷ []) first;
      jv_jt = one_of (JV ∷ JT ∷ []) first;
      jt = is JT first;
      jamo = one_of (JL ∷ JV ∷ JT ∷ H2 ∷ H3 ∷ []) first;
      aksara = is_aksara first;
      aksara_or_circle = is_aksara_or_circle first;
      vf_vi = one_of (VF ∷ VI ∷ []) first;
      em = is EM first;
      letter_or_nu = one_of (AL ∷ HL ∷ NU ∷ []) first;
      ri = is RI first;
    }

-- of an item that is read before a place
pub record NextFacts : Type 0 where
  pub mark : Bool
  pub zwj : Bool
  pub first : Item
  pub space : Bool
  pub hyphen : Bool
  pub vi : Bool
  pub qu : Bool
  pub zw : Bool
  pub op : Bool
  pub initial : Bool
  pub closes : Bool
  pub b2 : Bool
  pub nu : Bool
  pub separates : Bool
  pub ri : Bool

unfoldable pub next_facts : Item → NextFacts
next_facts item =
    let next = alone item in
    let first = Some next in
    record {
      mark = is_mark item;
      zwj = is ZWJ (Some item);
      first = plain next;
      space = is SP first;
      hyphen = one_of (HY ∷ HH ∷ []) first;
      vi = is VI first;
      qu = is QU first;
      zw = is ZW first;
      op = is OP first;
      initial = is_initial_quote first;
      closes = one_of (CL ∷ CP ∷ []) first;
      b2 = is B2 first;
      nu = is NU first;
      separates = one_of (SY ∷ IS ∷ []) first;
      ri = is RI first;
    }

-- of the items after that
pub record Far : Type 0 where
  pub free : Bool
  pub wide : Bool
  pub number : Bool
  pub reaches : Bool
  pub final : Bool

unfoldable pub far_by : List Item → Far
far_by items =
    record {
      free = is_none (slice_get items 0)
          || one_of (SP ∷ GL ∷ WJ ∷ CL ∷ QU ∷ CP ∷ EX ∷ IS ∷ SY ∷ BK ∷ CR ∷ LF ∷ NL ∷ ZW ∷ []) (slice_get items 0);
      wide = is_east_asian (slice_get items 0);
      number = is NU (slice_get items 0);
      reaches = is NU (slice_get items 0) || (is IS (slice_get items 0) && is NU (slice_get items 1));
      final = is VF (slice_get items 0);
    }

-- of an item that stands before the first, or before the first that isn't a space
pub record Second : Type 0 where
  pub free : Bool
  pub hebrew : Bool
  pub aksara : Bool
  pub narrow : Bool
  pub opens : Bool

unfoldable pub second_of : Option Item → Second
second_of second =
    record {
      free = is_none second || one_of (BK ∷ CR ∷ LF ∷ NL ∷ SP ∷ ZW ∷ CB ∷ GL ∷ []) second;
      hebrew = is HL second;
      aksara = is_aksara second;
      narrow = not (is_east_asian second);
      opens = is_none second || one_of (BK ∷ CR ∷ LF ∷ NL ∷ OP ∷ QU ∷ GL ∷ SP ∷ ZW ∷ []) second;
    }

-- What the rules read of the characters before a place: the first item, what LB20a, LB21a, LB28a and LB19a ask of it and of the one before
-- it, what LB8 and LB14 to LB17 ask of the one before spaces, and the others as in `Left`.
pub record Near : Type 0 where
  pub first : Option Item
  pub hyphen : Bool
  pub hebrew : Bool
  pub virama : Bool
  pub narrow : Bool
  pub zw : Bool
  pub op : Bool
  pub quoted : Bool
  pub closed : Bool
  pub b2 : Bool
  pub joiner : Bool
  pub number : Bool
  pub closed_number : Bool
  pub half_flag : Bool

unfoldable pub near_by : Left → Near
near_by l =
    let second = second_of l.second in
    record {
      first = plain_first l.first;
      hyphen = second.free && one_of (HY ∷ HH ∷ []) l.first;
      hebrew = second.hebrew && one_of (HY ∷ HH ∷ []) l.first;
      virama = second.aksara && is VI l.first;
      narrow = second.narrow && is QU l.first;
      zw = is ZW l.held;
      op = is OP l.held;
      quoted = is_initial_quote l.held && (second_of l.before_held).opens;
      closed = one_of (CL ∷ CP ∷ []) l.held;
      b2 = is B2 l.held;
      joiner = l.joiner;
      number = l.number;
      closed_number = l.closed_number;
      half_flag = l.half_flag;
    }

-- ---- the rules

abbrev glue_by : Near → LeftFacts → RightFacts → Bool
glue_by n l r = n.joiner || (r.mark && l.takes) || r.wj || l.wj || l.gl || (not l.before_gl && r.gl) || r.closers

abbrev quote_by : Near → LeftFacts → RightFacts → Bool → Bool
quote_by n l r before_narrow =
    (r.qu && not r.initial) || (l.qu && not l.final) || (not l.east && r.qu) || before_narrow || (l.qu && not r.east) || n.narrow

abbrev hyphen_by : Near → LeftFacts → RightFacts → Bool
hyphen_by n l r = (n.hyphen && r.letter) || r.after_all || l.bb || (n.hebrew && not r.hl) || (l.sy && r.hl) || r.inseparable

abbrev number_by : Near → LeftFacts → RightFacts → Bool → Bool
number_by n l r before_number =
    (l.letter && r.nu)
    || (l.nu && r.letter)
    || (l.pr && r.ideograph)
    || (l.ideograph && r.po)
    || (l.pr_po && r.letter)
    || (l.letter && r.pr_po)
    || ((n.closed_number || n.number) && r.po_pr)
    || before_number
    || (l.before_nu && r.nu)
    || (n.number && r.nu)

abbrev syllable_by : Near → LeftFacts → RightFacts → Bool → Bool
syllable_by n l r before_final =
    (l.jl && r.after_jl)
    || (l.jv_h2 && r.jv_jt)
    || (l.jt_h3 && r.jt)
    || (l.jamo && r.po)
    || (l.pr && r.jamo)
    || (l.letter && r.letter)
    || (l.ap && r.aksara)
    || (l.aksara && r.vf_vi)
    || (n.virama && r.aksara_or_circle)
    || before_final

abbrev letter_by : Near → LeftFacts → RightFacts → Bool
letter_by n l r =
    (l.separator && r.letter)
    || (l.letter_or_nu && r.op && not r.east)
    || (l.cp && not l.east && r.letter_or_nu)
    || (n.half_flag && r.ri)
    || (l.base && r.em)

-- the rules from LB6 on; the first five are what LB15b, LB15c, LB19a, LB25 and LB28a ask of what comes after the first item on the right
abbrev pub rest_with : Bool → Bool → Bool → Bool → Bool → Near → LeftFacts → RightFacts → Verdict
rest_with before_late before_digit before_narrow before_number before_final n l r =
    let joined = hyphen_by n l r || number_by n l r before_number || syllable_by n l r before_final || letter_by n l r in
    let at_last = cond joined NoBreak MayBreak in
    let from_cb = cond (r.cb || l.cb) MayBreak at_last in
    let from_quotes = let quoted = quote_by n l r before_narrow in cond quoted NoBreak from_cb in
    let from_spaces = cond l.sp MayBreak from_quotes in
    let from_late = cond (r.separator || (n.closed && r.ns) || (n.b2 && r.b2)) NoBreak from_spaces in
    let from_separator = cond before_digit MayBreak from_late in
    let from_glue = let held = glue_by n l r || (n.op || n.quoted || before_late) in cond held NoBreak from_separator in
    let from_zw = cond n.zw MayBreak from_glue in
    cond r.early NoBreak from_zw

unfoldable pub rules_with : Bool → Bool → Bool → Bool → Bool → Near → LeftFacts → RightFacts → Verdict
rules_with before_late before_digit before_narrow before_number before_final n l r =
    let rest = rest_with before_late before_digit before_narrow before_number before_final n l r in
    let from_ends = cond l.ends MustBreak rest in
    let from_cr = cond (l.cr && r.lf) NoBreak from_ends in
    cond l.hard MustBreak from_cr

abbrev pub rules_by : Near → LeftFacts → RightFacts → Far → Verdict
rules_by n l r f =
    rules_with (r.final && f.free) (l.sp && r.separator && f.number) (r.qu && not f.wide) (l.po_pr && r.op && f.reaches)
    (l.aksara && r.aksara && f.final) n l r

abbrev pub rest_by : Near → LeftFacts → RightFacts → Far → Verdict
rest_by n l r f =
    rest_with (r.final && f.free) (l.sp && r.separator && f.number) (r.qu && not f.wide) (l.po_pr && r.op && f.reaches)
    (l.aksara && r.aksara && f.final) n l r

-- whether a rule asks anything of it
unfoldable pub reads_on : RightFacts → Bool
reads_on r = r.final || (r.separator || (r.qu || (r.op || r.aksara)))

-- no rule from LB6 on says that a line must be broken
chain_may : (early zw held digit late space quoted cb joined : Bool) →
    must_break (cond early NoBreak (cond zw MayBreak (cond held NoBreak (cond digit MayBreak (cond late NoBreak (cond space MayBreak
    (cond quoted NoBreak (cond cb MayBreak (cond joined NoBreak MayBreak))))))))) ≡ false
chain_may true zw held digit late space quoted cb joined = refl
chain_may false true held digit late space quoted cb joined = refl
chain_may false false true digit late space quoted cb joined = refl
chain_may false false false true late space quoted cb joined = refl
chain_may false false false false true space quoted cb joined = refl
chain_may false false false false false true quoted cb joined = refl
chain_may false false false false false false true cb joined = refl
chain_may false false false false false false false true joined = refl
chain_may false false false false false false false false true = refl
chain_may false false false false false false false false false = refl

pub rest_may : (a b c d e : Bool) (n : Near) (l : LeftFacts) (r : RightFacts) → must_break (rest_with a b c d e n l r) ≡ false
rest_may a b c d e n l r =
    chain_may r.early n.zw (glue_by n l r || (n.op || n.quoted || a)) b (r.separator || (n.closed && r.ns) || (n.b2 && r.b2)) l.sp (quote_by n l r c)
    (r.cb || l.cb) (hyphen_by n l r || number_by n l r d || syllable_by n l r e || letter_by n l r)

-- ---- they are those of the definition

hard_class : (class : LineBreak) (east initial final circle reserved lf : Bool) (rest : Verdict) →
    let first : Option Item = Some (made class east initial final circle reserved) in
    cond (is BK first) MustBreak (cond (is CR first && lf) NoBreak (cond (one_of (CR ∷ LF ∷ NL ∷ []) first) MustBreak rest))
    ≡ cond (one_of (BK ∷ NL ∷ []) first) MustBreak (cond (is CR first && lf) NoBreak (cond (one_of (BK ∷ CR ∷ LF ∷ NL ∷ []) first) MustBreak rest))
unfolding is one_of
hard_class BK east initial final circle reserved lf rest = refl
hard_class _ east initial final circle reserved lf rest = refl

hard_first : (first : Option Item) (lf : Bool) (rest : Verdict) →
    cond (is BK first) MustBreak (cond (is CR first && lf) NoBreak (cond (one_of (CR ∷ LF ∷ NL ∷ []) first) MustBreak rest))
    ≡ cond (one_of (BK ∷ NL ∷ []) first) MustBreak (cond (is CR first && lf) NoBreak (cond (one_of (BK ∷ CR ∷ LF ∷ NL ∷ []) first) MustBreak rest))
unfolding is one_of
hard_first None lf rest = refl
hard_first (Some item) lf rest =
    hard_class item.class item.is_east_asian item.is_initial item.is_final item.is_circle item.is_reserved lf rest

pub by_rules_is : (l : Left) (item : Item) (items : List Item) →
    by_rules l (record { mark = is_mark item; first = Some (alone item); second = slice_get items 0; third = slice_get items 1 })
    ≡ rules_by (near_by l) (left_facts l.first) (right_facts item) (far_by items)
unfolding by_rules by_later_rules rules_with left_facts right_facts near_by second_of far_by
by_rules_is l item items =
    hard_first l.first (is LF (Some (alone item))) (rest_by (near_by l) (left_facts l.first) (right_facts item) (far_by items))

-- what stands further on isn't read at a line end, a space or ZW
pub early_is : (n : Near) (l : LeftFacts) (r : RightFacts) (f g : Far) → r.early ≡ true → rules_by n l r f ≡ rules_by n l r g
unfolding rules_with
early_is n l r f g early =
    let ends : Verdict → Verdict = λ rest. cond l.hard MustBreak (cond (l.cr && r.lf) NoBreak (cond l.ends MustBreak rest)) in
    ap ends (cond-true r.early NoBreak _ early ∙ sym (cond-true r.early NoBreak _ early))

-- nor where no rule asks anything of it
pub unread_is : (n : Near) (l : LeftFacts) (r : RightFacts) (f g : Far) → reads_on r ≡ false → rules_by n l r f ≡ rules_by n l r g
unfolding reads_on
unread_is n l r f g unread =
    let final = or_parts r.final (r.separator || (r.qu || (r.op || r.aksara))) unread in
    let separator = or_parts r.separator (r.qu || (r.op || r.aksara)) final.1 in
    let quote = or_parts r.qu (r.op || r.aksara) separator.1 in
    let others = or_parts r.op r.aksara quote.1 in
    let same = λ (x y z : Bool) (no : x ≡ false). and_left x y no ∙ sym (and_left x z no) in
    λ i.
    rules_with (same r.final f.free g.free final.0 i)
    (same (l.sp && r.separator) f.number g.number (and_right l.sp r.separator separator.0) i)
    (same r.qu (not f.wide) (not g.wide) quote.0 i)
    (same (l.po_pr && r.op) f.reaches g.reaches (and_right l.po_pr r.op others.0) i)
    (same (l.aksara && r.aksara) f.final g.final (and_right l.aksara r.aksara others.1) i) n l r

-- ---- and they read the same of items that they don't distinguish

left_class : (class : LineBreak) (east initial final circle reserved : Bool) →
    left_facts (Some (plain (made class east initial final circle reserved))) ≡ left_facts (Some (made class east initial final circle reserved))
unfolding left_facts is one_of
left_class NL east initial final circle reserved = refl
left_class _ east initial final circle reserved = refl

pub left_plain : (first : Option Item) → left_facts (plain_first first) ≡ left_facts first
left_plain None = refl
left_plain (Some item) = left_class item.class item.is_east_asian item.is_initial item.is_final item.is_circle item.is_reserved

second_class : (class : LineBreak) (east initial final circle reserved : Bool) →
    second_of (Some (plain (made class east initial final circle reserved))) ≡ second_of (Some (made class east initial final circle reserved))
unfolding second_of is one_of
second_class NL east initial final circle reserved = refl
second_class _ east initial final circle reserved = refl

pub second_plain : (second : Option Item) → second_of (plain_first second) ≡ second_of second
second_plain None = refl
second_plain (Some item) = second_class item.class item.is_east_asian item.is_initial item.is_final item.is_circle item.is_reserved

right_class : (class : LineBreak) (east initial final circle reserved : Bool) →
    right_facts (read_as (made class east initial final circle reserved)) ≡ right_facts (made class east initial final circle reserved)
unfolding right_facts is one_of
right_class NL east initial final circle reserved = refl
right_class _ east initial final circle reserved = refl

pub right_read : (item : Item) → right_facts (read_as item) ≡ right_facts item
right_read item = right_class item.class item.is_east_asian item.is_initial item.is_final item.is_circle item.is_reserved

next_class : (class : LineBreak) (east initial final circle reserved : Bool) →
    next_facts (read_as (made class east initial final circle reserved)) ≡ next_facts (made class east initial final circle reserved)
unfolding next_facts is one_of
next_class NL east initial final circle reserved = refl
next_class _ east initial final circle reserved = refl

pub next_read : (item : Item) → next_facts (read_as item) ≡ next_facts item
next_read item = next_class item.class item.is_east_asian item.is_initial item.is_final item.is_circle item.is_reserved
