-- How what stands before a place goes on.
use Rattle.std.proofs.Common.{◌≡◌, ℕ, Bool, true, false, ◌&&◌, ◌||◌, List, [], ◌∷◌, ◌++◌, length, append_assoc, Option, Some, refl, sym, ap, ◌∙◌, cond}
use Rattle.std.proofs.Common.{slice_get}
use Rattle.std.proofs.lemmas.Bool.{cond-true, cond-false, false≢true}
use Rattle.std.proofs.lemmas.List.{nil_from_length}
use Rattle.ucd_breaks.specs.declared.LineBreak.{LineBreak}
use Rattle.ucd_breaks.specs.declared.LineBreak.TheVariants.{Space as SP, Zwj as ZWJ}
use Rattle.rbbi_annexes.specs.declared.lines.items.Item.{Item}
use Rattle.rbbi_annexes.specs.declared.lines.rules.Left.{Left}
use Rattle.rbbi_annexes.specs.declared.lines.rules.Verdict.{Verdict}
use Rattle.rbbi_annexes.specs.declared.lines.rules.Verdict.TheVariants.{MustBreak, NoBreak}
use Rattle.rbbi_annexes.specs.LineBreaks.{is, one_of, items_after, is_mark, takes_marks, alone, item_of, items_before, past_spaces, ends_number}
use Rattle.rbbi_annexes.specs.LineBreaks.{ends_closed_number, ends_half_flag, left_of, line_verdict, by_rules, right_of}
use Rattle.rbbi_annexes.specs.LineTexts.{verdicts_from, line_verdicts}
use Rattle.rbbi_annexes.specs.inner.Lefts.{left_with, is_empty}

-- what stands before a place, by its items
abbrev pub left_by : List Item → Bool → Left
left_by items joiner =
    record {
      first = slice_get items 0;
      second = slice_get items 1;
      held = slice_get (past_spaces items) 0;
      before_held = slice_get (past_spaces items) 1;
      joiner = joiner;
      number = ends_number items;
      closed_number = ends_closed_number items;
      half_flag = ends_half_flag items;
    }

held_by : (space : Bool) (items held : List Item) (item : Item) (joiner : Bool) →
    ◌≡◌ {A = Left} (record {
      first = Some item;
      second = slice_get items 0;
      held = slice_get (cond space held (item ∷ items)) 0;
      before_held = slice_get (cond space held (item ∷ items)) 1;
      joiner = joiner;
      number = ends_number (item ∷ items);
      closed_number = ends_closed_number (item ∷ items);
      half_flag = ends_half_flag (item ∷ items);
    }) (record {
      first = Some item;
      second = slice_get items 0;
      held = cond space (slice_get held 0) (Some item);
      before_held = cond space (slice_get held 1) (slice_get items 0);
      joiner = joiner;
      number = ends_number (item ∷ items);
      closed_number = ends_closed_number (item ∷ items);
      half_flag = ends_half_flag (item ∷ items);
    })
held_by true items held item joiner = refl
held_by false items held item joiner = refl

with_is : (items : List Item) (item : Item) (old joiner : Bool) → left_by (item ∷ items) joiner ≡ left_with (left_by items old) item joiner
unfolding past_spaces ends_number ends_half_flag
with_is items item old joiner = held_by (is SP (Some item)) items (past_spaces items) item joiner

step_by : (joins : Bool) (items : List Item) (raw : Item) (old joiner : Bool) →
    left_by (cond joins items (alone raw ∷ items)) joiner
    ≡ cond joins (record (left_by items old) { joiner = joiner }) (left_with (left_by items old) (alone raw) joiner)
step_by true items raw old joiner = refl
step_by false items raw old joiner = with_is items (alone raw) old joiner

abbrev pub with_joiner : Left → Bool → Left
with_joiner l joiner = record l { joiner = joiner }

pub left_of-cons : (c : ℕ) (before : List ℕ) →
    left_of (c ∷ before)
    ≡ cond (is_mark (item_of c) && takes_marks (left_of before).first) (with_joiner (left_of before) (is ZWJ (Some (item_of c))))
    (left_with (left_of before) (alone (item_of c)) (is ZWJ (Some (item_of c))))
unfolding left_of items_before
left_of-cons c before =
    let items : List Item = items_before before in
    step_by (is_mark (item_of c) && takes_marks (slice_get items 0)) items (item_of c) (left_of before).joiner (is ZWJ (Some (item_of c)))

left_of_next : (l : Left) (c : ℕ) (before : List ℕ) → l ≡ left_of before →
    left_of (c ∷ before)
    ≡ cond (is_mark (item_of c) && takes_marks l.first) (with_joiner l (is ZWJ (Some (item_of c))))
    (left_with l (alone (item_of c)) (is ZWJ (Some (item_of c))))
left_of_next l c before at =
    left_of-cons c before
    ∙ ap (λ (m : Left). cond (is_mark (item_of c) && takes_marks m.first) (with_joiner m (is ZWJ (Some (item_of c))))
    (left_with m (alone (item_of c)) (is ZWJ (Some (item_of c))))) (sym at)

pub left_mark : (l : Left) (c : ℕ) (before : List ℕ) → l ≡ left_of before → (is_mark (item_of c) && takes_marks l.first) ≡ true →
    left_of (c ∷ before) ≡ with_joiner l (is ZWJ (Some (item_of c)))
left_mark l c before at joins = left_of_next l c before at ∙ cond-true (is_mark (item_of c) && takes_marks l.first) _ _ joins

pub left_item : (l : Left) (c : ℕ) (before : List ℕ) → l ≡ left_of before → (is_mark (item_of c) && takes_marks l.first) ≡ false →
    left_of (c ∷ before) ≡ left_with l (alone (item_of c)) (is ZWJ (Some (item_of c)))
left_item l c before at joins = left_of_next l c before at ∙ cond-false (is_mark (item_of c) && takes_marks l.first) _ _ joins

pub one_of_none : (item : Option Item) → one_of [] item ≡ false
unfolding one_of
one_of_none item = refl

pub one_of_more : (class : LineBreak) (classes : List LineBreak) (item : Option Item) →
    one_of (class ∷ classes) item ≡ (is class item || one_of classes item)
unfolding one_of
one_of_more class classes item = refl

pub items_after_none : (last : Option Item) → items_after last [] ≡ []
unfolding items_after
items_after_none last = refl

pub after_mark : (last : Option Item) (c : ℕ) (after : List ℕ) → (is_mark (item_of c) && takes_marks last) ≡ true →
    items_after last (c ∷ after) ≡ items_after last after
unfolding items_after
after_mark last c after joins =
    cond-true (is_mark (item_of c) && takes_marks last) (items_after last after)
    (alone (item_of c) ∷ items_after (Some (alone (item_of c))) after) joins

pub after_item : (last : Option Item) (c : ℕ) (after : List ℕ) → (is_mark (item_of c) && takes_marks last) ≡ false →
    items_after last (c ∷ after) ≡ alone (item_of c) ∷ items_after (Some (alone (item_of c))) after
unfolding items_after
after_item last c after joins =
    cond-false (is_mark (item_of c) && takes_marks last) (items_after last after)
    (alone (item_of c) ∷ items_after (Some (alone (item_of c))) after) joins

pub nothing_left : (last : Option Item) (after rest : List ℕ) → items_after last after ≡ items_after last rest → length rest ≡ 0 →
    items_after last after ≡ []
nothing_left last after rest are none = are ∙ ap (items_after last) (nil_from_length rest none) ∙ items_after_none last

-- ---- the verdicts of a text

pub verdict_at_start : (before after : List ℕ) → is_empty before ≡ true → line_verdict before after ≡ NoBreak
unfolding line_verdict
verdict_at_start [] after is = refl
verdict_at_start (c ∷ before) after is = absurd (false≢true is)

pub verdict_last : (before : List ℕ) → is_empty before ≡ false → line_verdict before [] ≡ MustBreak
unfolding line_verdict
verdict_last [] is = absurd (false≢true (sym is))
verdict_last (c ∷ before) is = refl

pub verdict_inside : (before : List ℕ) (next : ℕ) (after : List ℕ) → is_empty before ≡ false →
    line_verdict before (next ∷ after) ≡ by_rules (left_of before) (right_of next after)
unfolding line_verdict
verdict_inside [] next after is = absurd (false≢true (sym is))
verdict_inside (c ∷ before) next after is = refl

pub grown : (verdicts new : List Verdict) (verdict : Verdict) (before rest after : List ℕ) (next : ℕ) (text : List ℕ) →
    line_verdicts text ≡ verdicts ++ verdicts_from before rest → rest ≡ next ∷ after → verdict ≡ line_verdict before (next ∷ after) →
    new ≡ verdicts ++ verdict ∷ [] → line_verdicts text ≡ new ++ verdicts_from (next ∷ before) after
unfolding verdicts_from
grown verdicts new verdict before rest after next text so is at pushed =
    let further : List Verdict = verdicts_from (next ∷ before) after in
    so
    ∙ ap (λ r. verdicts ++ verdicts_from before r) is
    ∙ ap (λ v. verdicts ++ v ∷ further) (sym at)
    ∙ sym (append_assoc verdicts (verdict ∷ []) further)
    ∙ ap (λ vs. vs ++ further) (sym pushed)

pub ended : (verdicts new : List Verdict) (verdict : Verdict) (before rest text : List ℕ) →
    line_verdicts text ≡ verdicts ++ verdicts_from before rest → rest ≡ [] → verdict ≡ line_verdict before [] → new ≡ verdicts ++ verdict ∷ [] →
    new ≡ line_verdicts text
unfolding verdicts_from
ended verdicts new verdict before rest text so is at pushed =
    pushed
    ∙ ap (λ v. verdicts ++ v ∷ []) at
    ∙ ap (λ r. verdicts ++ verdicts_from before r) (sym is)
    ∙ sym so
