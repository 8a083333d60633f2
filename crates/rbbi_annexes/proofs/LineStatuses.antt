-- A line must be broken inside a text exactly where one ends with status 100.
use Rattle.std.proofs.Common.{◌≡◌, ℕ, Bool, true, false, not, ◌&&◌, ◌==◌, cond, List, ◌∷◌, [], Option, Some, None, sym, refl, ap, ap₂, ◌∙◌, ⊎_elim}
use Rattle.std.proofs.lemmas.Bool.{cases_Bool, cond-true, cond-false, and_parts, false≢true}
use Rattle.ucd_breaks.specs.declared.LineBreak.{LineBreak}
use Rattle.ucd_breaks.proofs.Computing.{ucd_breaks}
use Rattle.ucd_category.proofs.Computing.{ucd_category}
use Rattle.rbbi_annexes.specs.LineNames.{BK, CR, LF, NL, ZWJ}
use Rattle.rbbi_annexes.specs.declared.lines.items.Item.{Item}
use Rattle.rbbi_annexes.specs.declared.lines.rules.Left.{Left}
use Rattle.rbbi_annexes.specs.declared.lines.rules.Verdict.{Verdict}
use Rattle.rbbi_annexes.specs.declared.lines.rules.Verdict.TheVariants.{MustBreak, MayBreak, NoBreak}
use Rattle.rbbi_annexes.specs.LineBreaks.{is, one_of, item_of, items_after, is_mark, takes_marks, alone, left_of, right_of, line_verdict}
use Rattle.rbbi_annexes.specs.LineBoundaries.{breaks_line, must_break, MustBreaksHaveStatus100}
use Rattle.rbbi_annexes.specs.inner.Lefts.{left_with}
use Rattle.rbbi_annexes.proofs.LineTexts.{with_joiner, left_of-cons}
use Rattle.rbbi_annexes.proofs.LineFacts.{made, LeftFacts, left_facts, RightFacts, right_facts, Far, far_by, near_by, rest_by, rest_may, rules_with}
use Rattle.rbbi_annexes.proofs.LineFacts.{by_rules_is}

-- after the item a line must be broken, but for a LF after a CR
abbrev ends : Option Item → Bool
ends item = one_of (BK ∷ CR ∷ LF ∷ NL ∷ []) item

taking_class : (class : LineBreak) (east initial final circle reserved : Bool) →
    takes_marks (Some (made class east initial final circle reserved)) ≡ true → ends (Some (made class east initial final circle reserved)) ≡ false
unfolding is one_of
taking_class BK east initial final circle reserved takes = absurd (false≢true takes)
taking_class CR east initial final circle reserved takes = absurd (false≢true takes)
taking_class LF east initial final circle reserved takes = absurd (false≢true takes)
taking_class NL east initial final circle reserved takes = absurd (false≢true takes)
taking_class _ east initial final circle reserved takes = refl

taking : (first : Option Item) → takes_marks first ≡ true → ends first ≡ false
taking None takes = absurd (false≢true takes)
taking (Some item) takes = taking_class item.class item.is_east_asian item.is_initial item.is_final item.is_circle item.is_reserved takes

mark_class : (class : LineBreak) (east initial final circle reserved : Bool) →
    is_mark (made class east initial final circle reserved) ≡ true → ends (Some (made class east initial final circle reserved)) ≡ false
unfolding is one_of
mark_class BK east initial final circle reserved mark = absurd (false≢true mark)
mark_class CR east initial final circle reserved mark = absurd (false≢true mark)
mark_class LF east initial final circle reserved mark = absurd (false≢true mark)
mark_class NL east initial final circle reserved mark = absurd (false≢true mark)
mark_class _ east initial final circle reserved mark = refl

mark_ends : (item : Item) → is_mark item ≡ true → ends (Some item) ≡ false
mark_ends item mark = mark_class item.class item.is_east_asian item.is_initial item.is_final item.is_circle item.is_reserved mark

letter_ends : ends (Some (item_of 0x41)) ≡ false
unfolding ucd_breaks ucd_category item_of is one_of
letter_ends = refl

alone_ends : (item : Item) → ends (Some (alone item)) ≡ ends (Some item)
alone_ends item =
    ⊎_elim
    (λ mark. ap (λ (x : Item). ends (Some x)) (cond-true (is_mark item) (item_of 0x41) item mark) ∙ letter_ends ∙ sym (mark_ends item mark))
    (λ base. ap (λ (x : Item). ends (Some x)) (cond-false (is_mark item) (item_of 0x41) item base))
    (cases_Bool (is_mark item))

-- the last character decides
ends_last : (last : ℕ) (before : List ℕ) → ends (left_of (last ∷ before)).first ≡ ends (Some (item_of last))
ends_last last before =
    let l : Left = left_of before in
    let item : Item = item_of last in
    let joiner : Bool = is ZWJ (Some item) in
    let joins : Bool = is_mark item && takes_marks l.first in
    let of : Left → Bool = λ m. ends m.first in
    ap of (left_of-cons last before)
    ∙ ⊎_elim
    (λ is_joined.
    let both = and_parts (is_mark item) (takes_marks l.first) is_joined in
    ap of (cond-true joins (with_joiner l joiner) (left_with l (alone item) joiner) is_joined)
    ∙ taking l.first both.1 ∙ sym (mark_ends item both.0))
    (λ isnt. ap of (cond-false joins (with_joiner l joiner) (left_with l (alone item) joiner) isnt) ∙ alone_ends item)
    (cases_Bool joins)

hard_class : (class : LineBreak) (east initial final circle reserved : Bool) →
    one_of (BK ∷ NL ∷ []) (Some (made class east initial final circle reserved)) ≡ true → ends (Some (made class east initial final circle reserved)) ≡ true
unfolding is one_of
hard_class BK east initial final circle reserved hard = refl
hard_class NL east initial final circle reserved hard = refl
hard_class _ east initial final circle reserved hard = absurd (false≢true hard)

hard_ends : (first : Option Item) → (left_facts first).hard ≡ true → (left_facts first).ends ≡ true
unfolding left_facts is one_of
hard_ends None hard = absurd (false≢true hard)
hard_ends (Some item) hard = hard_class item.class item.is_east_asian item.is_initial item.is_final item.is_circle item.is_reserved hard

ends_facts : (first : Option Item) → (left_facts first).ends ≡ ends first
unfolding left_facts
ends_facts first = refl

must_by : (hard joins ending : Bool) (rest : Verdict) → (hard ≡ true → ending ≡ true) → must_break rest ≡ false →
    let verdict : Verdict = cond hard MustBreak (cond joins NoBreak (cond ending MustBreak rest)) in
    must_break verdict ≡ (breaks_line verdict && ending)
must_by true joins ending rest ends_so may = sym (ends_so refl)
must_by false true ending rest ends_so may = refl
must_by false false true rest ends_so may = refl
must_by false false false MustBreak ends_so may = absurd (false≢true (sym may))
must_by false false false MayBreak ends_so may = refl
must_by false false false NoBreak ends_so may = refl

is_100 : (b : Bool) → b ≡ (cond b 100 0 == 100)
is_100 true = refl
is_100 false = refl

pub must_breaks : MustBreaksHaveStatus100
unfolding line_verdict right_of rules_with
must_breaks last before next after segment =
    let l : Left = left_of (last ∷ before) in
    let item : Item = item_of next in
    let items : List Item = items_after (Some (alone item)) after in
    let lf : LeftFacts = left_facts l.first in
    let r : RightFacts = right_facts item in
    let f : Far = far_by items in
    let rest : Verdict = rest_by (near_by l) lf r f in
    ap must_break (by_rules_is l item items)
    ∙ must_by lf.hard (lf.cr && r.lf) lf.ends rest (hard_ends l.first)
    (rest_may (r.final && f.free) (lf.sp && r.separator && f.number) (r.qu && not f.wide) (lf.po_pr && r.op && f.reaches)
    (lf.aksara && r.aksara && f.final) (near_by l) lf r)
    ∙ ap₂ (λ verdict b. breaks_line verdict && b) (sym (by_rules_is l item items))
    (ends_facts l.first ∙ ends_last last before ∙ is_100 (ends (Some (item_of last))))
