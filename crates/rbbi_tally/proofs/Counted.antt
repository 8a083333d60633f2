-- Counts of segments by status list, before and after some are gone and others are there.
use Rattle.std.proofs.Common.{◌≡◌, ℕ, ◌+◌, ◌<◌, ◌≤◌, cond, eqb, List, [], ◌∷◌, ◌++◌, length, get_or, set, sym, refl, ap, ◌∙◌, subst, arith}
use Rattle.std.proofs.lemmas.Bool.Decides.{nat_tests}
use Rattle.std.proofs.lemmas.List.{get_or-set_same, get_or-set_other, length-set}
use Rattle.std.proofs.lemmas.List.Sums.{sum_by-cons, sum_by-append}
use Rattle.rbbi_tally.specs.inner.Segments.{Segment}
use Rattle.rbbi_tally.specs.inner.Counting.{count_of, AreCountsOf, IsRecounted, AreListed, AreCounted}

pub count-append : (ss ts : List Segment) (list : ℕ) → count_of (ss ++ ts) list ≡ count_of ss list + count_of ts list
count-append ss ts list = sum_by-append (λ s. cond (eqb s.list list) 1 0) ss ts

pub count-cons : (s : Segment) (ss : List Segment) (list : ℕ) → count_of (s ∷ ss) list ≡ cond (eqb s.list list) 1 0 + count_of ss list
count-cons s ss list = sum_by-cons (λ t. cond (eqb t.list list) 1 0) s ss

pub count_same : (s : Segment) (list : ℕ) → s.list ≡ list → count_of (s ∷ []) list ≡ 1
count_same s list same = grind (arith, nat_tests, count-cons s [] list, same)

pub count_few : (ss : List Segment) (list : ℕ) → count_of ss list ≤ length ss
count_few [] list = omega arith
count_few (s ∷ ss) list = grind (arith, nat_tests, count-cons s ss list, count_few ss list)

-- one less of a list
pub one_gone : (s : Segment) (before after : List ℕ) (n : ℕ) → s.list < length before → n + 1 ≡ get_or before s.list 0 →
    after ≡ set before s.list n → IsRecounted (s ∷ []) [] before after
one_gone s before after n within less is = record {
  all = ap length is ∙ length-set before s.list n;
  each = λ list short.
      let at = ap (λ l. get_or l list 0) is in
      grind (arith, nat_tests, at, get_or-set_same before s.list n 0 within, get_or-set_other before s.list list n 0, count-cons s [] list, less);
}

pub recounted_start : (counts : List ℕ) → IsRecounted [] [] counts counts
recounted_start counts = record { all = refl; each = λ list short. refl }

-- one count after another
pub recounted_on : (gone gone' new new' : List Segment) (a b c : List ℕ) → IsRecounted gone new a b → IsRecounted gone' new' b c →
    IsRecounted (gone ++ gone') (new ++ new') a c
recounted_on gone gone' new new' a b c first second = record {
  all = second.all ∙ first.all;
  each = λ list short.
      let short' : list < length b = omega (arith, first.all) in
      omega (arith, first.each list short, second.each list short', count-append gone gone' list, count-append new new' list);
}

-- what is left is still counted
pub counted_on : (gone rest new : List Segment) (before after : List ℕ) → AreCounted (gone ++ rest) before → IsRecounted gone new before after →
    AreCounted rest after
counted_on gone rest new before after counted recounted = record {
  listed = listed_rest (length after) gone rest (subst (λ n. AreListed n (gone ++ rest)) (sym recounted.all) counted.listed);
  each = λ list short.
      let short' : list < length before = omega (arith, recounted.all) in
      omega (arith, counted.each list short', recounted.each list short', count-append gone rest list);
}
  where
    listed_rest : (n : ℕ) (these those : List Segment) → AreListed n (these ++ those) → AreListed n those
    listed_rest n [] those all = all
    listed_rest n (s ∷ these) those all = listed_rest n these those all.1

-- the counts of all segments after an edit
pub counts_after : (lists : ℕ) (kept gone new rest rest' : List Segment) (before after : List ℕ) → AreCountsOf lists (kept ++ (gone ++ rest)) before →
    IsRecounted gone new before after → ((list : ℕ) → count_of rest' list ≡ count_of rest list) → AreCountsOf lists (kept ++ (new ++ rest')) after
counts_after lists kept gone new rest rest' before after are recounted same = record {
  all = recounted.all ∙ are.all;
  each = λ list short.
      let short' : list < length before = omega (arith, are.all) in
      omega (arith, count-append, are.each list short, recounted.each list short', same list);
}

pub counted_part : (lists : ℕ) (kept rest : List Segment) (counts : List ℕ) → AreCountsOf lists (kept ++ rest) counts → AreListed lists rest →
    AreCounted rest counts
counted_part lists kept rest counts are listed = record {
  listed = subst (λ n. AreListed n rest) (sym are.all) listed;
  each = λ list short.
      let short' : list < lists = omega (arith, are.all) in
      omega (arith, are.each list short', count-append kept rest list);
}

-- the first of some segments is counted
pub count_first : (s : Segment) (ss : List Segment) → 1 ≤ count_of (s ∷ ss) s.list
count_first s ss = omega (arith, count-append (s ∷ []) ss s.list, count_same s s.list refl)
