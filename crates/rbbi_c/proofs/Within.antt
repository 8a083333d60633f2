-- What is left of the boundaries within a range, from the first of them on.
use Rattle.std.proofs.Common.{◌≡◌, ℕ, ◌<◌, ◌≤◌, Bool, true, false, cond, ltb, leb, List, [], ◌∷◌, ◌++◌, Option, Some, None, reverse, filter, refl, sym, ap, ◌∙◌}
use Rattle.std.proofs.Common.{subst, ⊎_elim, inl, inr, arith, append-nil, append_assoc, zero, suc, ◌+◌, length, drop}
use Rattle.std.specs.Prelude.{◌&&◌, ◌⊎◌, slice_index}
use Rattle.std.specs.List.{AllByRecursion}
use Rattle.std.proofs.lemmas.Bool.{cases_Bool, cond-true, cond-false, ltb-true, ltb-false, leb-true, leb-false, lt-ltb, le-ltb, le-leb, lt-leb}
use Rattle.std.proofs.lemmas.Bool.{and_left, and_right, and_from}
use Rattle.std.proofs.lemmas.List.{reverse-append}
use Rattle.std.proofs.lemmas.List.Elements.{filter-append}
use Rattle.rbbi_model.specs.Lists.{IsRising}
use Rattle.rbbi_model.specs.Boundaries.{Boundary, start}
use Rattle.rbbi_model.specs.Cover.{places, IsPlaceOf}
use Rattle.rbbi_model.specs.Tables.{Table}
use Rattle.rbbi_model.specs.Searches.{next_boundary, follow_by, table_boundaries}
use Rattle.rbbi_model.specs.Answers.{first_place, last_place, first_after, last_before, statuses_at}
use Rattle.rbbi_model.proofs.Found.{some_same, none_some, found_lies}
use Rattle.rbbi_model.proofs.Covering.{table_covers}
use Rattle.rbbi_model.proofs.Lists.{all_through}
use Rattle.rbbi_session.proofs.Places.{statuses_here}
use Rattle.rbbi_session.proofs.Stepping.{first_is_next}
use Rattle.rbbi_session.proofs.Answering.{none_after}
use Rattle.rbbi_session.proofs.Rises.{rises_before, rises_after, rising_right}
use Rattle.rbbi_c.specs.Ranges.{past_up_to, before_down_to}
use Rattle.rbbi_c.specs.inner.Bounds.{boundary_at, up_to, down_to, listed_from}

-- a list of boundaries at one that passes a test of places
record IsSplit (test : ℕ → Bool) (bs : List Boundary) (p : ℕ) : Type 0 where
  before : List Boundary
  here : Boundary
  after : List Boundary
  whole : bs ≡ before ++ here ∷ after
  at_is : here.at ≡ p
  passes : test here.at ≡ true

-- none before it passes, or none after it
record IsFirst (test : ℕ → Bool) (bs : List Boundary) (p : ℕ) : Type 0 where
  split : IsSplit test bs p
  fail : AllByRecursion (λ b. test b.at ≡ false) split.before

record IsLast (test : ℕ → Bool) (bs : List Boundary) (p : ℕ) : Type 0 where
  split : IsSplit test bs p
  fail : AllByRecursion (λ b. test b.at ≡ false) split.after

none_passes : (test : ℕ → Bool) (bs : List Boundary) → first_place test bs ≡ None → AllByRecursion (λ b. test b.at ≡ false) bs
none_passes test [] is = tt
none_passes test (b ∷ bs) is =
    ⊎_elim
    (λ holds. absurd (none_some b.at (sym is ∙ cond-true (test b.at) (Some b.at) (first_place test bs) holds)))
    (λ fails. (fails, none_passes test bs (sym (cond-false (test b.at) (Some b.at) (first_place test bs) fails) ∙ is)))
    (cases_Bool (test b.at))

first_splits : (test : ℕ → Bool) (bs : List Boundary) (p : ℕ) → first_place test bs ≡ Some p → IsFirst test bs p
first_splits test [] p is = absurd (none_some p is)
first_splits test (b ∷ bs) p is =
    ⊎_elim
    (λ holds. record {
      split = record {
        before = [];
        here = b;
        after = bs;
        whole = refl;
        at_is = some_same b.at p (sym (cond-true (test b.at) (Some b.at) (first_place test bs) holds) ∙ is);
        passes = holds;
      };
      fail = tt;
    })
    (λ fails.
    let rest = first_splits test bs p (sym (cond-false (test b.at) (Some b.at) (first_place test bs) fails) ∙ is) in record {
      split = record {
        before = b ∷ rest.split.before;
        here = rest.split.here;
        after = rest.split.after;
        whole = ap (λ cs. b ∷ cs) rest.split.whole;
        at_is = rest.split.at_is;
        passes = rest.split.passes;
      };
      fail = (fails, rest.fail);
    })
    (cases_Bool (test b.at))

-- where one passes, something is found
last_stays : (test : ℕ → Bool) (p : ℕ) (bs : List Boundary) → last_place test (Some p) bs ≡ None → ⊥
last_stays test p [] is = none_some p (sym is)
last_stays test p (b ∷ bs) is =
    ⊎_elim
    (λ holds. last_stays test b.at bs (ap (λ o. last_place test o bs) (sym (cond-true (test b.at) (Some b.at) (Some p) holds)) ∙ is))
    (λ fails. last_stays test p bs (ap (λ o. last_place test o bs) (sym (cond-false (test b.at) (Some b.at) (Some p) fails)) ∙ is))
    (cases_Bool (test b.at))

pub none_passes_last : (test : ℕ → Bool) (bs : List Boundary) → last_place test None bs ≡ None → AllByRecursion (λ b. test b.at ≡ false) bs
none_passes_last test [] is = tt
none_passes_last test (b ∷ bs) is =
    ⊎_elim
    (λ holds. absurd (last_stays test b.at bs (ap (λ o. last_place test o bs) (sym (cond-true (test b.at) (Some b.at) None holds)) ∙ is)))
    (λ fails. (fails, none_passes_last test bs (ap (λ o. last_place test o bs) (sym (cond-false (test b.at) (Some b.at) None fails)) ∙ is)))
    (cases_Bool (test b.at))

-- what is found is the one given, where none passes, or else the last one that passes
last_splits_from : (test : ℕ → Bool) (before : Option ℕ) (bs : List Boundary) (p : ℕ) → last_place test before bs ≡ Some p
    → ((before ≡ Some p) × AllByRecursion (λ b. test b.at ≡ false) bs) ⊎ IsLast test bs p
last_splits_from test before [] p is = inl (is, tt)
last_splits_from test before (b ∷ bs) p is =
    ⊎_elim
    (λ none.
    ⊎_elim
    (λ holds. inr (record {
      split = record {
        before = [];
        here = b;
        after = bs;
        whole = refl;
        at_is = some_same b.at p (sym (cond-true (test b.at) (Some b.at) before holds) ∙ none.0);
        passes = holds;
      };
      fail = none.1;
    }))
    (λ fails. inl (sym (cond-false (test b.at) (Some b.at) before fails) ∙ none.0, (fails, none.1)))
    (cases_Bool (test b.at)))
    (λ later. inr (record {
      split = record {
        before = b ∷ later.split.before;
        here = later.split.here;
        after = later.split.after;
        whole = ap (λ cs. b ∷ cs) later.split.whole;
        at_is = later.split.at_is;
        passes = later.split.passes;
      };
      fail = later.fail;
    }))
    (last_splits_from test (cond (test b.at) (Some b.at) before) bs p is)

last_splits : (test : ℕ → Bool) (bs : List Boundary) (p : ℕ) → last_place test None bs ≡ Some p → IsLast test bs p
last_splits test bs p is = ⊎_elim (λ none. absurd (none_some p none.0)) (λ last. last) (last_splits_from test None bs p is)

-- the first boundary past a place lies past it
pub first_lies : (bs : List Boundary) (i p : ℕ) → first_after bs i ≡ Some p → i < p
first_lies bs i p is =
    let first = first_splits (λ at. ltb i at) bs p is in
    omega (arith, ltb-true i first.split.here.at first.split.passes, first.split.at_is)

-- filters
keeps_none : (test : Boundary → Bool) (bs : List Boundary) → AllByRecursion (λ b. test b ≡ false) bs → filter test bs ≡ []
keeps_none test [] fail = refl
keeps_none test (b ∷ bs) fail = cond-false (test b) (b ∷ filter test bs) (filter test bs) fail.0 ∙ keeps_none test bs fail.1

keeps_same : (test other : Boundary → Bool) (bs : List Boundary) → AllByRecursion (λ b. test b ≡ other b) bs → filter test bs ≡ filter other bs
keeps_same test other [] same = refl
keeps_same test other (b ∷ bs) same =
    ap (λ t. cond t (b ∷ filter test bs) (filter test bs)) same.0 ∙ ap (λ cs. cond (other b) (b ∷ cs) cs) (keeps_same test other bs same.1)

-- a filter of a list at one boundary
keeps_parts : (test : Boundary → Bool) (before : List Boundary) (here : Boundary) (after : List Boundary)
    → filter test (before ++ here ∷ after) ≡ filter test before ++ cond (test here) (here ∷ filter test after) (filter test after)
keeps_parts test before here after = filter-append test before (here ∷ after)

both_true : (x y : Bool) → x ≡ true → (x && y) ≡ y
both_true x y is = ap (λ t. t && y) is

both_true_right : (x y : Bool) → y ≡ true → (x && y) ≡ x
both_true_right true y is = is
both_true_right false y is = refl

module _ (bs : List Boundary) (rising : IsRising (places bs)) where
  module _ (test : ℕ → Bool) (p : ℕ) (split : IsSplit test bs p) where
    split_rises : IsRising (places (split.before ++ split.here ∷ split.after))
    split_rises = subst (λ cs. IsRising (places cs)) split.whole rising

    earlier : AllByRecursion (λ b. b.at < split.here.at) split.before
    earlier = rises_before split.before split.here split.after split_rises

    later : AllByRecursion (λ b. split.here.at < b.at) split.after
    later = rises_after split.here split.after (rising_right split.before (split.here ∷ split.after) split_rises)

    here_is : split.here ≡ boundary_at bs p
    here_is =
        let statuses : split.here.statuses ≡ statuses_at bs p =
        sym (statuses_here split.before split.here split.after earlier)
        ∙ ap (λ cs. statuses_at cs split.here.at) (sym split.whole)
        ∙ ap (statuses_at bs) split.at_is in
        λ i. record { at = split.at_is i; statuses = statuses i }

    -- what a filter keeps that keeps none before it, or none after it
    keeps_from : (kept : Boundary → Bool) → AllByRecursion (λ b. kept b ≡ false) split.before
        → filter kept bs ≡ cond (kept split.here) (split.here ∷ filter kept split.after) (filter kept split.after)
    keeps_from kept none =
        ap (filter kept) split.whole ∙ keeps_parts kept split.before split.here split.after
        ∙ ap (λ cs. cs ++ cond (kept split.here) (split.here ∷ filter kept split.after) (filter kept split.after)) (keeps_none kept split.before none)

    keeps_up_to : (kept : Boundary → Bool) → AllByRecursion (λ b. kept b ≡ false) split.after
        → filter kept bs ≡ filter kept split.before ++ cond (kept split.here) (split.here ∷ []) []
    keeps_up_to kept none =
        ap (filter kept) split.whole ∙ keeps_parts kept split.before split.here split.after
        ∙ ap (λ cs. filter kept split.before ++ cond (kept split.here) (split.here ∷ cs) cs) (keeps_none kept split.after none)

  module _ (last : ℕ) where
    abbrev after : ℕ → List Boundary
    after at = past_up_to at last bs

    -- behind a boundary the list goes on with what follows it
    rest_past : (test : ℕ → Bool) (p : ℕ) (split : IsSplit test bs p) → past_up_to p last bs ≡ filter (λ b. leb b.at last) split.after
    rest_past test p split =
        let here : past_up_to split.here.at last bs ≡ filter (λ b. leb b.at last) split.after =
        keeps_from test p split (λ b. ltb split.here.at b.at && leb b.at last)
        (all_through (λ b. b.at < split.here.at) (λ b. (ltb split.here.at b.at && leb b.at last) ≡ false)
        (λ b less. and_left (ltb split.here.at b.at) (leb b.at last) (le-ltb split.here.at b.at (omega (arith, less)))) split.before (earlier test p split))
        ∙ cond-false (ltb split.here.at split.here.at && leb split.here.at last) _ _
        (and_left (ltb split.here.at split.here.at) (leb split.here.at last) (le-ltb split.here.at split.here.at (omega arith)))
        ∙ keeps_same (λ b. ltb split.here.at b.at && leb b.at last) (λ b. leb b.at last) split.after
        (all_through (λ b. split.here.at < b.at) (λ b. (ltb split.here.at b.at && leb b.at last) ≡ leb b.at last)
        (λ b less. both_true (ltb split.here.at b.at) (leb b.at last) (lt-ltb split.here.at b.at less)) split.after (later test p split)) in
        ap (λ q. past_up_to q last bs) (sym split.at_is) ∙ here

    -- what is past a place begins with the first boundary past it
    past_some : (i p : ℕ) → IsFirst (λ at. ltb i at) bs p → past_up_to i last bs ≡ listed_from bs after (up_to last (Some p))
    past_some i p first =
        let test : ℕ → Bool = λ at. ltb i at in
        let s = first.split in
        let low : i < s.here.at = ltb-true i s.here.at s.passes in
        let behind : filter (λ b. ltb i b.at && leb b.at last) s.after ≡ filter (λ b. leb b.at last) s.after =
        keeps_same (λ b. ltb i b.at && leb b.at last) (λ b. leb b.at last) s.after
        (all_through (λ b. s.here.at < b.at) (λ b. (ltb i b.at && leb b.at last) ≡ leb b.at last)
        (λ b less. both_true (ltb i b.at) (leb b.at last) (lt-ltb i b.at (omega (arith, less, low)))) s.after (later test p s)) in
        let parts : past_up_to i last bs
        ≡ cond (ltb i s.here.at && leb s.here.at last) (s.here ∷ filter (λ b. leb b.at last) s.after) (filter (λ b. leb b.at last) s.after) =
        keeps_from test p s (λ b. ltb i b.at && leb b.at last)
        (all_through (λ b. ltb i b.at ≡ false) (λ b. (ltb i b.at && leb b.at last) ≡ false) (λ b fails. and_left (ltb i b.at) (leb b.at last) fails)
        s.before first.fail)
        ∙ ap (λ cs. cond (ltb i s.here.at && leb s.here.at last) (s.here ∷ cs) cs) behind in
        ⊎_elim
        (λ within.
        parts
        ∙ cond-true (ltb i s.here.at && leb s.here.at last) _ _ (and_from (ltb i s.here.at) (leb s.here.at last) s.passes within)
        ∙ ap (λ b. b ∷ filter (λ c. leb c.at last) s.after) (here_is test p s)
        ∙ ap (λ cs. boundary_at bs p ∷ cs) (sym (rest_past test p s))
        ∙ ap (listed_from bs after) (sym (cond-true (leb p last) (Some p) None (ap (λ q. leb q last) (sym s.at_is) ∙ within))))
        (λ beyond.
        let high : last < s.here.at = leb-false s.here.at last beyond in
        parts
        ∙ cond-false (ltb i s.here.at && leb s.here.at last) _ _ (and_right (ltb i s.here.at) (leb s.here.at last) beyond)
        ∙ keeps_none (λ b. leb b.at last) s.after
        (all_through (λ b. s.here.at < b.at) (λ b. leb b.at last ≡ false) (λ b less. lt-leb b.at last (omega (arith, less, high))) s.after (later test p s))
        ∙ ap (listed_from bs after) (sym (cond-false (leb p last) (Some p) None (ap (λ q. leb q last) (sym s.at_is) ∙ beyond))))
        (cases_Bool (leb s.here.at last))

    past_by : (i : ℕ) (o : Option ℕ) → first_after bs i ≡ o → past_up_to i last bs ≡ listed_from bs after (up_to last o)
    past_by i None is =
        keeps_none (λ b. ltb i b.at && leb b.at last) bs
        (all_through (λ b. ltb i b.at ≡ false) (λ b. (ltb i b.at && leb b.at last) ≡ false) (λ b fails. and_left (ltb i b.at) (leb b.at last) fails) bs
        (none_passes (λ at. ltb i at) bs is))
    past_by i (Some p) is = past_some i p (first_splits (λ at. ltb i at) bs p is)

    pub past_is : (i : ℕ) → past_up_to i last bs ≡ listed_from bs (λ at. past_up_to at last bs) (up_to last (first_after bs i))
    past_is i = past_by i (first_after bs i) refl

  module _ (first : ℕ) where
    abbrev back : ℕ → List Boundary
    back at = before_down_to at first bs

    abbrev kept_before : ℕ → Boundary → Bool
    kept_before i b = leb first b.at && ltb b.at i

    -- before a boundary the list goes on with what comes before it
    rest_before : (test : ℕ → Bool) (p : ℕ) (split : IsSplit test bs p)
        → before_down_to p first bs ≡ reverse (filter (λ b. leb first b.at) split.before)
    rest_before test p split =
        let q : ℕ = split.here.at in
        let here : filter (kept_before q) bs ≡ filter (λ b. leb first b.at) split.before =
        keeps_up_to test p split (kept_before q)
        (all_through (λ b. q < b.at) (λ b. kept_before q b ≡ false)
        (λ b less. and_right (leb first b.at) (ltb b.at q) (le-ltb b.at q (omega (arith, less)))) split.after (later test p split))
        ∙ ap (λ cs. filter (kept_before q) split.before ++ cs)
        (cond-false (kept_before q split.here) (split.here ∷ []) []
        (and_right (leb first q) (ltb q q) (le-ltb q q (omega arith))))
        ∙ append-nil (filter (kept_before q) split.before)
        ∙ keeps_same (kept_before q) (λ b. leb first b.at) split.before
        (all_through (λ b. b.at < q) (λ b. kept_before q b ≡ leb first b.at)
        (λ b less. both_true_right (leb first b.at) (ltb b.at q) (lt-ltb b.at q less)) split.before (earlier test p split)) in
        ap (λ r. before_down_to r first bs) (sym split.at_is) ∙ ap reverse here

    -- what is before a place ends with the last boundary before it
    before_some : (i p : ℕ) → IsLast (λ at. ltb at i) bs p → before_down_to i first bs ≡ listed_from bs back (down_to first (Some p))
    before_some i p is =
        let test : ℕ → Bool = λ at. ltb at i in
        let s = is.split in
        let low : s.here.at < i = ltb-true s.here.at i s.passes in
        let front : filter (kept_before i) s.before ≡ filter (λ b. leb first b.at) s.before =
        keeps_same (kept_before i) (λ b. leb first b.at) s.before
        (all_through (λ b. b.at < s.here.at) (λ b. kept_before i b ≡ leb first b.at)
        (λ b less. both_true_right (leb first b.at) (ltb b.at i) (lt-ltb b.at i (omega (arith, less, low)))) s.before (earlier test p s)) in
        let parts : filter (kept_before i) bs
        ≡ filter (λ b. leb first b.at) s.before ++ cond (kept_before i s.here) (s.here ∷ []) [] =
        keeps_up_to test p s (kept_before i)
        (all_through (λ b. ltb b.at i ≡ false) (λ b. kept_before i b ≡ false) (λ b fails. and_right (leb first b.at) (ltb b.at i) fails) s.after is.fail)
        ∙ ap (λ cs. cs ++ cond (kept_before i s.here) (s.here ∷ []) []) front in
        ⊎_elim
        (λ within.
        ap reverse (parts
        ∙ ap (λ cs. filter (λ b. leb first b.at) s.before ++ cs)
        (cond-true (kept_before i s.here) (s.here ∷ []) [] (and_from (leb first s.here.at) (ltb s.here.at i) within s.passes)))
        ∙ reverse-append (filter (λ b. leb first b.at) s.before) (s.here ∷ [])
        ∙ ap (λ b. b ∷ reverse (filter (λ c. leb first c.at) s.before)) (here_is test p s)
        ∙ ap (λ cs. boundary_at bs p ∷ cs) (sym (rest_before test p s))
        ∙ ap (listed_from bs back) (sym (cond-true (leb first p) (Some p) None (ap (λ q. leb first q) (sym s.at_is) ∙ within))))
        (λ beyond.
        let high : s.here.at < first = leb-false first s.here.at beyond in
        ap reverse (parts
        ∙ ap (λ cs. filter (λ b. leb first b.at) s.before ++ cs)
        (cond-false (kept_before i s.here) (s.here ∷ []) [] (and_left (leb first s.here.at) (ltb s.here.at i) beyond))
        ∙ append-nil (filter (λ b. leb first b.at) s.before)
        ∙ keeps_none (λ b. leb first b.at) s.before
        (all_through (λ b. b.at < s.here.at) (λ b. leb first b.at ≡ false) (λ b less. lt-leb first b.at (omega (arith, less, high))) s.before
        (earlier test p s)))
        ∙ ap (listed_from bs back) (sym (cond-false (leb first p) (Some p) None (ap (λ q. leb first q) (sym s.at_is) ∙ beyond))))
        (cases_Bool (leb first s.here.at))

    before_by : (i : ℕ) (o : Option ℕ) → last_before bs i ≡ o → before_down_to i first bs ≡ listed_from bs back (down_to first o)
    before_by i None is =
        ap reverse (keeps_none (kept_before i) bs
        (all_through (λ b. ltb b.at i ≡ false) (λ b. kept_before i b ≡ false) (λ b fails. and_right (leb first b.at) (ltb b.at i) fails) bs
        (none_passes_last (λ at. ltb at i) bs is)))
    before_by i (Some p) is = before_some i p (last_splits (λ at. ltb at i) bs p is)

    pub before_is : (i : ℕ) → before_down_to i first bs ≡ listed_from bs (λ at. before_down_to at first bs) (down_to first (last_before bs i))
    before_is i = before_by i (last_before bs i) refl

-- A list from a place on is empty, or begins with a boundary and goes on with the list from there.
record Unfolds (listed : ℕ → List Boundary) (i : ℕ) : Type 0 where
  cases : (listed i ≡ []) ⊎ ((b : Boundary) × (listed i ≡ b ∷ listed b.at))

unfolds : (bs : List Boundary) (listed : ℕ → List Boundary) (i : ℕ) (next : Option ℕ) → listed i ≡ listed_from bs listed next → Unfolds listed i
unfolds bs listed i None is = record { cases = inl is }
unfolds bs listed i (Some at) is = record { cases = inr (boundary_at bs at, is) }

-- so what is left after some of it is the list from the last of them on
left_after : (listed : ℕ → List Boundary) → ((i : ℕ) → Unfolds listed i) → (k i : ℕ) → k ≤ length (listed i)
    → listed (slice_index (i ∷ places (listed i)) k) ≡ drop k (listed i)
left_after listed each zero i few = refl
left_after listed each (suc k) i few =
    ⊎_elim
    (λ none. absurd (omega (arith, few, ap length none)))
    (λ some.
    let few' : k ≤ length (listed some.0.at) = omega (arith, few, ap length some.1) in
    ap (λ l. listed (slice_index (i ∷ places l) (suc k))) some.1
    ∙ left_after listed each k some.0.at few'
    ∙ ap (drop (suc k)) (sym some.1))
    (each i).cases

module _ (bs : List Boundary) (rising : IsRising (places bs)) where
  pub rest_is_past : (last k i : ℕ) → k ≤ length (past_up_to i last bs)
      → past_up_to (slice_index (i ∷ places (past_up_to i last bs)) k) last bs ≡ drop k (past_up_to i last bs)
  rest_is_past last =
      left_after (λ at. past_up_to at last bs) (λ i. unfolds bs (λ at. past_up_to at last bs) i (up_to last (first_after bs i)) (past_is bs rising last i))

  pub rest_is_before : (first k i : ℕ) → k ≤ length (before_down_to i first bs)
      → before_down_to (slice_index (i ∷ places (before_down_to i first bs)) k) first bs ≡ drop k (before_down_to i first bs)
  rest_is_before first =
      left_after (λ at. before_down_to at first bs)
      (λ i. unfolds bs (λ at. before_down_to at first bs) i (down_to first (last_before bs i)) (before_is bs rising first i))

-- the boundary that follows one by a table is what its search finds
record GoesOn (next : ℕ → Boundary) (bs : List Boundary) (p : ℕ) : Type 0 where
  before : List Boundary
  here : Boundary
  after : List Boundary
  whole : bs ≡ before ++ here ∷ next p ∷ after
  at_is : here.at ≡ p

module _ (next : ℕ → Boundary) (n : ℕ) (lies : (s : ℕ) → s < n → (s < (next s).at) × ((next s).at ≤ n)) where
  goes_on : (most : ℕ) (last : Boundary) (p : ℕ) → n ≤ last.at + most → p < n → IsPlaceOf (last ∷ follow_by next n most last) p
      → GoesOn next (last ∷ follow_by next n most last) p
  goes_on zero last p enough inside here = ⊎_elim (λ is. absurd (omega (arith, enough, inside, is))) (λ none. absurd none) here
  goes_on (suc most) last p enough inside here =
      ⊎_elim
      (λ is. record {
        before = [];
        here = last;
        after = follow_by next n most (next last.at);
        whole = ap (λ bs. last ∷ bs) (cond-true (ltb last.at n) (next last.at ∷ follow_by next n most (next last.at)) []
            (lt-ltb last.at n (omega (arith, is, inside))))
            ∙ ap (λ q. last ∷ next q ∷ follow_by next n most (next last.at)) is;
        at_is = is;
      })
      (λ further.
      ⊎_elim
      (λ more.
      let rest : List Boundary = next last.at ∷ follow_by next n most (next last.at) in
      let cut = cond-true (ltb last.at n) rest [] more in
      let past = (lies last.at (ltb-true last.at n more)).0 in
      let on = goes_on most (next last.at) p (omega (arith, enough, past)) inside (subst (λ bs. IsPlaceOf bs p) cut further) in record {
        before = last ∷ on.before;
        here = on.here;
        after = on.after;
        whole = ap (λ bs. last ∷ bs) (cut ∙ on.whole);
        at_is = on.at_is;
      })
      (λ end. absurd (subst (λ bs. IsPlaceOf bs p) (cond-false (ltb last.at n) (next last.at ∷ follow_by next n most (next last.at)) [] end) further))
      (cases_Bool (ltb last.at n)))
      here

place_among : (before : List Boundary) (here : Boundary) (after : List Boundary) → IsPlaceOf (before ++ here ∷ after) here.at
place_among [] here after = inl refl
place_among (b ∷ before) here after = inr (place_among before here after)

-- what the search from a boundary finds
pub record IsFollowedBy (bs : List Boundary) (p : ℕ) (next : Boundary) : Type 0 where
  pub first : first_after bs p ≡ Some next.at
  pub is_place : IsPlaceOf bs next.at
  pub statuses : statuses_at bs next.at ≡ next.statuses

module _ (table : Table) (x : List ℕ) where
  rises : IsRising (places (table_boundaries table x))
  rises = (table_covers table x).rise

  followed : (p : ℕ) → GoesOn (next_boundary table x) (table_boundaries table x) p
      → IsFollowedBy (table_boundaries table x) p (next_boundary table x p)
  followed p on =
      let next : Boundary = next_boundary table x p in
      let all = subst (λ cs. IsRising (places cs)) on.whole rises in
      let joined : table_boundaries table x ≡ (on.before ++ on.here ∷ []) ++ next ∷ on.after =
      on.whole ∙ sym (append_assoc on.before (on.here ∷ []) (next ∷ on.after)) in
      let again = subst (λ cs. IsRising (places cs)) joined rises in
      record {
        first = ap (λ q. first_after (table_boundaries table x) q) (sym on.at_is) ∙ ap (λ cs. first_after cs on.here.at) on.whole
            ∙ first_is_next on.before on.here (next ∷ on.after) all;
        is_place = subst (λ cs. IsPlaceOf cs next.at) (sym joined) (place_among (on.before ++ on.here ∷ []) next on.after);
        statuses = ap (λ cs. statuses_at cs next.at) joined
            ∙ statuses_here (on.before ++ on.here ∷ []) next on.after (rises_before (on.before ++ on.here ∷ []) next on.after again);
      }

  pub is_followed : (p : ℕ) → IsPlaceOf (table_boundaries table x) p → p < length x
      → IsFollowedBy (table_boundaries table x) p (next_boundary table x p)
  is_followed p here inside =
      followed p (goes_on (next_boundary table x) (length x) (found_lies table x) (length x) start p (omega arith) inside here)

  -- nothing follows the text's end
  pub none_follows : (p : ℕ) → length x ≤ p → first_after (table_boundaries table x) p ≡ None
  none_follows p past = none_after (length x) (table_boundaries table x) (table_covers table x) p past
