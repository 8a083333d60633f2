-- Answers of a session, by what it found and where it has gone.
use Rattle.std.proofs.Common.{◌≡◌, ℕ, ◌+◌, ◌-◌, ◌<◌, ◌≤◌, Bool, true, false, cond, ltb, leb, eqb, max}
use Rattle.std.proofs.Common.{List, [], ◌∷◌, ◌++◌, Option, Some, None, length, take, get_or}
use Rattle.std.proofs.Common.{sym, refl, ap, ◌∙◌, subst, ⊎_elim, arith}
use Rattle.std.specs.Prelude.{unwrap_or, is_some}
use Rattle.std.specs.List.{AllByRecursion}
use Rattle.std.proofs.lemmas.Bool.{cases_Bool, cond-true, cond-false, ltb-true, lt-ltb, le-ltb, lt-leb, le-leb, eq-eqb, ne_eqb}
use Rattle.std.proofs.lemmas.List.{take_more}
use Rattle.rbbi_model.specs.Places.{largest}
use Rattle.rbbi_model.specs.Boundaries.{Boundary}
use Rattle.rbbi_model.specs.Cover.{end_of, IsPlaceOf, BeginAtZero, CoverText}
use Rattle.rbbi_model.specs.Tables.{Table}
use Rattle.rbbi_model.specs.Searches.{table_boundaries}
use Rattle.rbbi_model.specs.Answers.{Question, Last, Next, Previous, First, Following, Preceding, IsBoundary, Place, Done, Yes, No, Answer, answer, first_place}
use Rattle.rbbi_model.specs.Answers.{first_after, last_place, last_before, first_from, is_place_of, moved}
use Rattle.rbbi_model.proofs.Found.{some_same, none_some}
use Rattle.rbbi_model.proofs.Covering.{table_covers, cover_within}
use Rattle.rbbi_session.specs.Sessions.{Session, boundaries_of, answer_of, MovesTo, Answers, test_reply}
use Rattle.rbbi_session.proofs.Places.{all_through, first_none, last_none}
use Rattle.rbbi_session.proofs.Rises.{from_is_after, place_is_told}

first_holds : (test : ℕ → Bool) (bs : List Boundary) (p : ℕ) → first_place test bs ≡ Some p → test p ≡ true
first_holds test [] p is = absurd (none_some p is)
first_holds test (b ∷ bs) p is =
    ⊎_elim
    (λ holds. subst (λ q. test q ≡ true) (some_same b.at p (sym (cond-true (test b.at) (Some b.at) (first_place test bs) holds) ∙ is)) holds)
    (λ fails. first_holds test bs p (sym (cond-false (test b.at) (Some b.at) (first_place test bs) fails) ∙ is))
    (cases_Bool (test b.at))

-- the first boundary that passes a test, where none lies behind another place
pub first_up_to : (test : ℕ → Bool) (bs : List Boundary) (p most : ℕ) → AllByRecursion (λ b. b.at ≤ most) bs → first_place test bs ≡ Some p → p ≤ most
first_up_to test [] p most each is = absurd (none_some p is)
first_up_to test (b ∷ bs) p most each is =
    ⊎_elim
    (λ holds. let low : b.at ≤ most = each.0 in omega (arith, some_same b.at p (sym (cond-true (test b.at) (Some b.at) (first_place test bs) holds) ∙ is)))
    (λ fails. first_up_to test bs p most each.1 (sym (cond-false (test b.at) (Some b.at) (first_place test bs) fails) ∙ is))
    (cases_Bool (test b.at))

-- a place among boundaries of which none lies behind another place
pub place_within : (bs : List Boundary) (p most : ℕ) → AllByRecursion (λ b. b.at ≤ most) bs → IsPlaceOf bs p → p ≤ most
place_within [] p most each here = absurd here
place_within (b ∷ bs) p most each here =
    ⊎_elim (λ same. let low : b.at ≤ most = each.0 in omega (arith, same)) (λ later. place_within bs p most each.1 later) here

module _ (n : ℕ) (bs : List Boundary) (covers : CoverText n bs) where
  -- no boundary lies behind a text that they cover
  pub none_behind : AllByRecursion (λ b. b.at ≤ n) bs
  none_behind = cover_within n bs covers

  pub none_after : (o : ℕ) → n ≤ o → first_after bs o ≡ None
  none_after o end =
      first_none (λ p. ltb o p) bs (all_through (λ b. b.at ≤ n) (λ b. ltb o b.at ≡ false) (λ b within. le-ltb o b.at (omega (arith, within, end))) bs
      none_behind)

  pub none_from : (o : ℕ) → n < o → first_from bs o ≡ None
  none_from o end =
      first_none (λ p. leb o p) bs (all_through (λ b. b.at ≤ n) (λ b. leb o b.at ≡ false) (λ b within. lt-leb o b.at (omega (arith, within, end))) bs
      none_behind)

  pub none_at : (o : ℕ) → n < o → is_place_of bs o ≡ false
  none_at o end =
      ap is_some (first_none (λ p. eqb p o) bs
      (all_through (λ b. b.at ≤ n) (λ b. eqb b.at o ≡ false) (λ b within. ne_eqb b.at o (λ same. omega (arith, within, end, same))) bs none_behind))

  pub none_before : last_before bs 0 ≡ None
  none_before =
      last_none (λ p. ltb p 0) bs (all_through (λ b. b.at ≤ n) (λ b. ltb b.at 0 ≡ false) (λ b within. le-ltb b.at 0 (omega arith)) bs none_behind)

  end_is_last : (r : ℕ) → 0 < n → first_after bs (n - 1) ≡ Some r → r ≡ end_of bs
  end_is_last r some is =
      let past : n - 1 < r = ltb-true (n - 1) r (first_holds (λ p. ltb (n - 1) p) bs r is) in
      let within : r ≤ n = first_up_to (λ p. ltb (n - 1) p) bs r n none_behind is in
      let same : r ≡ n = omega arith in
      same ∙ sym covers.reach

-- no boundary by a table lies behind the text
pub none_past : (table : Table) (x : List ℕ) → AllByRecursion (λ b. b.at ≤ length x) (table_boundaries table x)
none_past table x = none_behind (length x) (table_boundaries table x) (table_covers table x)

-- where all lie before a place, the last one is the last before it
last_of_all : (before : Option ℕ) (b : Boundary) (bs : List Boundary) (o : ℕ) → AllByRecursion (λ c. c.at < o) (b ∷ bs) →
    last_place (λ n. ltb n o) before (b ∷ bs) ≡ Some (end_of (b ∷ bs))
last_of_all before b [] o each = cond-true (ltb b.at o) (Some b.at) before (lt-ltb b.at o each.0)
last_of_all before b (c ∷ bs) o each = last_of_all (cond (ltb b.at o) (Some b.at) before) c bs o each.1

end_is_before : (bs : List Boundary) (n o : ℕ) → BeginAtZero bs → AllByRecursion (λ b. b.at ≤ n) bs → n < o → last_before bs o ≡ Some (end_of bs)
end_is_before [] n o begins each past = absurd begins
end_is_before (b ∷ bs) n o begins each past =
    last_of_all None b bs o (all_through (λ c. c.at ≤ n) (λ c. c.at < o) (λ c low. omega (arith, low, past)) (b ∷ bs) each)

-- the first boundary is at 0, and so is the first that isn't before 0
starts_at_zero : (bs : List Boundary) → BeginAtZero bs → first_from bs 0 ≡ Some 0
starts_at_zero [] begins = absurd begins
starts_at_zero (b ∷ bs) begins = cond-true (leb 0 b.at) (Some b.at) (first_from bs 0) (le-leb 0 b.at (omega arith)) ∙ ap Some begins

zero_is_place : (bs : List Boundary) → BeginAtZero bs → is_place_of bs 0 ≡ true
zero_is_place [] begins = absurd begins
zero_is_place (b ∷ bs) begins = ap is_some (cond-true (eqb b.at 0) (Some b.at) _ (eq-eqb b.at 0 begins))

-- What is answered by boundaries that cover a text, from any cursor. Below it is told by what was found.
module _ (n : ℕ) (bs : List Boundary) (covers : CoverText n bs) (c : ℕ) where
  pub last_is : (r : ℕ) → r ≡ n → answer bs c Last ≡ record { reply = Place r; cursor = r }
  last_is r end = ap (λ p. record { reply = Place p; cursor = p }) (covers.reach ∙ sym end)

  pub no_next : n ≤ c → answer bs c Next ≡ record { reply = Done; cursor = c }
  no_next end = ap (λ p. moved p c) (none_after n bs covers c end)

  pub no_previous : c ≡ 0 → answer bs c Previous ≡ record { reply = Done; cursor = c }
  no_previous start = ap (λ p. moved p c) (ap (last_before bs) start ∙ none_before n bs covers)

  pub no_following : (o r : ℕ) → n ≤ o → r ≡ n → answer bs c (Following o) ≡ record { reply = Done; cursor = r }
  no_following o r end is = ap (λ p. moved p (end_of bs)) (none_after n bs covers o end) ∙ ap (moved None) (covers.reach ∙ sym is)

  pub no_preceding : (o : ℕ) → o ≡ 0 → answer bs c (Preceding o) ≡ record { reply = Done; cursor = 0 }
  no_preceding o start = ap (λ p. moved p 0) (ap (last_before bs) start ∙ none_before n bs covers)

  -- the text's end is the last before what lies behind it
  pub preceding_end : (o r : ℕ) → n < o → r ≡ n → answer bs c (Preceding o) ≡ record { reply = Place r; cursor = r }
  preceding_end o r past is =
      ap (λ p. moved p 0) (end_is_before bs n o covers.begin (none_behind n bs covers) past ∙ ap Some (covers.reach ∙ sym is))

  pub is_start : (o : ℕ) → o ≡ 0 → answer bs c (IsBoundary o) ≡ record { reply = Yes; cursor = 0 }
  is_start o start =
      ap (λ p. answer bs c (IsBoundary p)) start
      ∙ ap (λ is. record { reply = cond is Yes No; cursor = unwrap_or (first_from bs 0) (end_of bs) }) (zero_is_place bs covers.begin)
      ∙ ap (λ p. record { reply = Yes; cursor = unwrap_or p (end_of bs) }) (starts_at_zero bs covers.begin)

  -- what lies behind the text is no boundary
  pub is_behind : (o r : ℕ) → n < o → r ≡ n → answer bs c (IsBoundary o) ≡ record { reply = No; cursor = r }
  is_behind o r past is =
      ap (λ t. record { reply = cond t Yes No; cursor = unwrap_or (first_from bs o) (end_of bs) }) (none_at n bs covers o past)
      ∙ ap (λ p. record { reply = No; cursor = unwrap_or p (end_of bs) }) (none_from n bs covers o past)
      ∙ ap (λ p. record { reply = No; cursor = p }) (covers.reach ∙ sym is)

  -- the first boundary past the place before it tells whether a place is one
  pub whether : (o r : ℕ) → 1 ≤ o → first_after bs (o - 1) ≡ Some r → answer bs c (IsBoundary o) ≡ record { reply = test_reply (eqb r o); cursor = r }
  whether o r some first =
      let from : first_from bs o ≡ Some r = from_is_after bs o some ∙ first in
      ap (λ t. record { reply = cond t Yes No; cursor = unwrap_or (first_from bs o) (end_of bs) }) (place_is_told bs o r covers.rise from)
      ∙ ap (λ p. record { reply = cond (eqb r o) Yes No; cursor = unwrap_or p (end_of bs) }) from

-- a session that has gone where an answer says answers so
answers_by : (old new : Session) (question : Question) (a : Answer) → answer_of old question ≡ a → MovesTo old a.cursor new →
    Answers old question a.reply new
answers_by old new question a is moves =
    record { replied = sym (ap (λ b. b.reply) is); moved = subst (λ b. MovesTo old b.cursor new) (sym is) moves }

-- it stays where it was
stays : (old : Session) → MovesTo old old.state.cursor old
stays old = record { table_is = refl; state_is = refl }

module _ (old new : Session) where
  all : CoverText (length old.state.text) (boundaries_of old)
  all = table_covers old.table old.state.text

  pub answers_last : (r : ℕ) → 0 < length old.state.text → first_after (boundaries_of old) (length old.state.text - 1) ≡ Some r →
      MovesTo old r new → Answers old Last (Place r) new
  answers_last r some first moves =
      let is : r ≡ end_of (boundaries_of old) = end_is_last (length old.state.text) (boundaries_of old) all r some first in
      answers_by old new Last _ (last_is _ _ all old.state.cursor r (is ∙ all.reach)) moves

  -- nothing is past the text's end
  pub answers_no_following : (o r : ℕ) → length old.state.text ≤ o → Answers old Last (Place r) new → Answers old (Following o) Done new
  answers_no_following o r end last =
      answers_by old new (Following o) _ (no_following _ _ all old.state.cursor o (end_of (boundaries_of old)) end all.reach) last.moved

  -- nothing is before 0
  pub answers_no_preceding : (o r : ℕ) → o ≡ 0 → Answers old First (Place r) new → Answers old (Preceding o) Done new
  answers_no_preceding o r start first = answers_by old new (Preceding o) _ (no_preceding _ _ all old.state.cursor o start) first.moved

  pub answers_behind : (o r : ℕ) → length old.state.text < o → Answers old Last (Place r) new → Answers old (IsBoundary o) No new
  answers_behind o r past last =
      answers_by old new (IsBoundary o) _ (is_behind _ _ all old.state.cursor o (end_of (boundaries_of old)) past all.reach) last.moved

  pub answers_whether : (o r : ℕ) → 1 ≤ o → first_after (boundaries_of old) (o - 1) ≡ Some r → MovesTo old r new →
      Answers old (IsBoundary o) (test_reply (eqb r o)) new
  answers_whether o r some first moves = answers_by old new (IsBoundary o) _ (whether _ _ all old.state.cursor o r some first) moves

-- the cursor stays where nothing is past it, and where nothing is before it
pub answers_no_next : (old : Session) → length old.state.text ≤ old.state.cursor → Answers old Next Done old
answers_no_next old end =
    answers_by old old Next _ (no_next _ _ (table_covers old.table old.state.text) old.state.cursor end) (stays old)

pub answers_no_previous : (old : Session) → old.state.cursor ≡ 0 → Answers old Previous Done old
answers_no_previous old start =
    answers_by old old Previous _ (no_previous _ _ (table_covers old.table old.state.text) old.state.cursor start) (stays old)

-- the largest of some numbers and one more
largest_join : (ns : List ℕ) (n : ℕ) → largest (ns ++ n ∷ []) ≡ max (largest ns) n
largest_join [] n = omega arith
largest_join (m ∷ ns) n = omega (arith, largest_join ns n)

pub largest_more : (ns : List ℕ) (i : ℕ) → i < length ns → largest (take (i + 1) ns) ≡ max (largest (take i ns)) (get_or ns i 0)
largest_more ns i within = ap largest (take_more ns i 0 within) ∙ largest_join (take i ns) (get_or ns i 0)
