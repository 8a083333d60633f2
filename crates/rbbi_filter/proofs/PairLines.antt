-- The pairs of the lines of a file, from what each line is by itself.
use Rattle.std.proofs.Common.{◌≡◌, ℕ, zero, suc, ◌+◌, ◌⊎◌, true, false, List, [], ◌∷◌, ◌++◌, Option, Some, None, length, take, map, refl, sym, ap, ◌∙◌}
use Rattle.std.proofs.Common.{inl, inr, ⊎_elim, arith}
use Rattle.std.specs.Prelude.{is_some}
use Rattle.std.specs.List.{slice_get}
use Rattle.rbbi_text.specs.LineParts.{is_skipped}
use Rattle.rbbi_text.specs.LineValues.{AreValues}
use Rattle.rbbi_filter.specs.declared.pair.Pair.{Pair}
use Rattle.rbbi_filter.specs.declared.tailoring.PairLine.{PairLine}
use Rattle.rbbi_filter.specs.Pairs.{second_of}
use Rattle.rbbi_filter.specs.PairFiles.{pair_of, IsPairLine, AreDistinct, IsFirstBadPair}
use Rattle.rbbi_filter.specs.inner.PairLines.{IsAnyLine}

-- the pairs that lines write, or don't
abbrev pub written : List PairLine → List (Option Pair)
written lines = map (λ line. line.pair) lines

no_pairs : (pairs : List Pair) → [] ≡ map Some pairs → pairs ≡ []
no_pairs [] none = refl
no_pairs (pair ∷ pairs) none = absurd (nil_some (Some pair) (map Some pairs) none)
  where
    nil_some : (m : Option Pair) (ms : List (Option Pair)) → [] ≡ m ∷ ms → ⊥
    nil_some m ms same = cc

some_pairs : (m : Option Pair) (ms : List (Option Pair)) → m ∷ ms ≡ [] → ⊥
some_pairs m ms same = cc

first_pair : (m n : Option Pair) (ms ns : List (Option Pair)) → m ∷ ms ≡ n ∷ ns → (m ≡ n) × (ms ≡ ns)
first_pair m n ms ns same = (cc, cc)

-- where each of them writes one, these are the pairs of the lines
pub all_pairs : (lines : List (List ℕ)) (n : ℕ) (values : List PairLine) (pairs : List Pair) → AreValues IsAnyLine lines n values →
    written values ≡ map Some pairs → AreValues IsPairLine lines n pairs
all_pairs [] n values pairs none are = no_pairs pairs (sym (ap written none) ∙ are)
all_pairs (line ∷ lines) n values pairs (inl (skipped, rest)) are = inl (skipped, all_pairs lines (n + 1) values pairs rest are)
all_pairs (line ∷ lines) n values [] (inr (value, others, is, rest, same)) are =
    absurd (some_pairs value.pair (written others) (sym (ap written same) ∙ are))
all_pairs (line ∷ lines) n values (pair ∷ pairs) (inr (value, others, is, rest, same)) are =
    let both = first_pair value.pair (Some pair) (written others) (map Some pairs) (sym (ap written same) ∙ are) in
    inr (pair, pairs, (is.0, sym is.2 ∙ both.0), all_pairs lines (n + 1) others pairs rest both.1, refl)

-- The line of one of the values, where each one before it writes a pair.
record IsLineOf (lines : List (List ℕ)) (n : ℕ) (value : PairLine) (pairs : List Pair) : Type 0 where
  pub before : List (List ℕ)
  pub line : List ℕ
  pub after : List (List ℕ)
  pub parts : lines ≡ before ++ line ∷ after
  pub counted : value.number ≡ n + length before + 1
  pub are : AreValues IsPairLine before n pairs
  pub stays : is_skipped line ≡ false
  pub writes : value.pair ≡ pair_of line

no_item : (i : ℕ) (value : PairLine) → slice_get [] i ≡ Some value → ⊥
no_item zero value at = cc
no_item (suc i) value at = cc

same_item : (one other : PairLine) → Some one ≡ Some other → one ≡ other
same_item one other same = cc

line_of : (lines : List (List ℕ)) (n : ℕ) (values : List PairLine) (i : ℕ) (value : PairLine) (pairs : List Pair) → AreValues IsAnyLine lines n values →
    slice_get values i ≡ Some value → written (take i values) ≡ map Some pairs → IsLineOf lines n value pairs
line_of [] n values i value pairs none at are = absurd (no_item i value (sym (ap (λ v. slice_get v i) none) ∙ at))
line_of (line ∷ lines) n values i value pairs (inl (skipped, rest)) at are =
    let found : IsLineOf lines (n + 1) value pairs = line_of lines (n + 1) values i value pairs rest at are in
    record {
      before = line ∷ found.before;
      line = found.line;
      after = found.after;
      parts = ap (λ l. line ∷ l) found.parts;
      counted = omega (arith, found.counted);
      are = inl (skipped, found.are);
      stays = found.stays;
      writes = found.writes;
    }
line_of (line ∷ lines) n values zero value pairs (inr (first, others, is, rest, same)) at are =
    let it : first ≡ value = same_item first value (sym (ap (λ v. slice_get v 0) same) ∙ at) in
    record {
      before = [];
      line = line;
      after = lines;
      parts = refl;
      counted = sym (ap (λ v. v.number) it) ∙ omega (arith, is.1);
      are = no_pairs pairs are;
      stays = is.0;
      writes = sym (ap (λ v. v.pair) it) ∙ is.2;
    }
line_of (line ∷ lines) n values (suc i) value [] (inr (first, others, is, rest, same)) at are =
    absurd (some_pairs first.pair (written (take i others)) (sym (ap (λ v. written (take (suc i) v)) same) ∙ are))
line_of (line ∷ lines) n values (suc i) value (pair ∷ pairs) (inr (first, others, is, rest, same)) at are =
    let both =
    first_pair first.pair (Some pair) (written (take i others)) (map Some pairs) (sym (ap (λ v. written (take (suc i) v)) same) ∙ are) in
    let found : IsLineOf lines (n + 1) value pairs =
    line_of lines (n + 1) others i value pairs rest (sym (ap (λ v. slice_get v (suc i)) same) ∙ at) both.1 in
    record {
      before = line ∷ found.before;
      line = found.line;
      after = found.after;
      parts = ap (λ l. line ∷ l) found.parts;
      counted = omega (arith, found.counted);
      are = inr (pair, pairs, (is.0, sym is.2 ∙ both.0), found.are, refl);
      stays = found.stays;
      writes = found.writes;
    }

pub some_there : {X : Type 0} (m : Option X) → is_some m ≡ true → (x : X) × (m ≡ Some x)
some_there None is = absurd (no_true is)
  where
    no_true : false ≡ true → ⊥
    no_true same = cc
some_there (Some x) is = (x, refl)

pub none_there : {X : Type 0} (m : Option X) → is_some m ≡ false → m ≡ None
none_there None is = refl
none_there (Some x) is = absurd (no_false is)
  where
    no_false : true ≡ false → ⊥
    no_false same = cc

-- one that writes no pair, or one whose first character an earlier one has, is the first bad line
pub first_bad : (lines : List (List ℕ)) (values : List PairLine) (i : ℕ) (value : PairLine) (pairs : List Pair) → AreValues IsAnyLine lines 0 values →
    slice_get values i ≡ Some value → written (take i values) ≡ map Some pairs → AreDistinct pairs →
    ((value.pair ≡ None) ⊎ ((pair : Pair) × (second : ℕ) × (value.pair ≡ Some pair) × (second_of pairs pair.from ≡ Some second))) →
    IsFirstBadPair lines value.number
first_bad lines values i value pairs each at are distinct bad =
    let found : IsLineOf lines 0 value pairs = line_of lines 0 values i value pairs each at are in
    record {
      before = found.before;
      line = found.line;
      after = found.after;
      parts = found.parts;
      counted = omega (arith, found.counted);
      pairs = pairs;
      are = found.are;
      distinct = distinct;
      bad = ⊎_elim (λ none. inl (found.stays, sym found.writes ∙ none))
          (λ twice. inr (twice.0, twice.1, (found.stays, sym found.writes ∙ twice.2), twice.3)) bad;
    }

-- one more that writes a pair
pub more_written : (values : List PairLine) (i : ℕ) (value : PairLine) (pairs : List Pair) (pair : Pair) → slice_get values i ≡ Some value →
    value.pair ≡ Some pair → written (take i values) ≡ map Some pairs → written (take (suc i) values) ≡ map Some (pairs ++ pair ∷ [])
more_written [] i value pairs pair at is are = absurd (no_item i value at)
more_written (first ∷ values) zero value pairs pair at is are =
    ap (λ v. v.pair ∷ []) (same_item first value at) ∙ ap (λ m. m ∷ []) is ∙ ap (λ ps. map Some (ps ++ pair ∷ [])) (sym (no_pairs pairs are))
more_written (first ∷ values) (suc i) value [] pair at is are = absurd (some_pairs first.pair (written (take i values)) are)
more_written (first ∷ values) (suc i) value (p ∷ pairs) pair at is are =
    let both = first_pair first.pair (Some p) (written (take i values)) (map Some pairs) are in
    ap (λ m. m ∷ written (take (suc i) values)) both.0 ∙ ap (λ ms. Some p ∷ ms) (more_written values i value pairs pair at is both.1)
