-- Ranges of joined categories, one by one.
use Rattle.std.proofs.Common.{◌≡◌, ℕ, zero, suc, ◌+◌, ◌<◌, ◌≤◌, leb, cond, List, [], ◌∷◌, ◌++◌, length, take, get_or, refl, ap, sym, ◌∙◌, subst}
use Rattle.std.proofs.Common.{⊎_elim, arith}
use Rattle.std.specs.List.{AllByRecursion}
use Rattle.std.proofs.lemmas.Bool.{cases_lt, cases_eq, le-leb, lt-leb}
use Rattle.std.proofs.lemmas.List.{take_more, take_all, get_or_append_left, get_or_push, length_push, get_or-take}
use Rattle.rbbi_model.specs.Tables.{CategoryRange, category_from, category_of}
use Rattle.rbbi_model.specs.ValidTables.{StartsAtZero, AreApart, IsWithin, AreValidRanges}
use Rattle.rbbi_model.proofs.Categories.{category_within}
use Rattle.rbbi_model.proofs.Lists.{all_append, all_through, all_at, all_by_index}
use Rattle.rbbi_table.specs.inner.Ranges.{start_of}
use Rattle.rbbi_table.proofs.RangeLemmas.{no_range, category_held, rise_next}
use Rattle.rbbi_canon.specs.declared.grid.Grid.{Grid}
use Rattle.rbbi_canon.specs.inner.Grids.{LeadOnAlike, AreRepresentatives, AreJoined}
use Rattle.rbbi_canon.specs.inner.Numberings.{KeepsOrAdds}
use Rattle.rbbi_canon.specs.inner.Ranges.{EndsIn, AddsRange}
use Rattle.rbbi_canon.proofs.Connecting.{holder}
use Rattle.rbbi_canon.proofs.Orders.{AreOnce, few_once, Grows, grows}

-- a further range doesn't count before its start
category_before : (ranges : List CategoryRange) (b c : ℕ) (last : CategoryRange) → c < last.start →
    category_from b (ranges ++ last ∷ []) c ≡ category_from b ranges c
category_before [] b c last less = ap (λ t. cond t last.category b) (lt-leb last.start c less)
category_before (range ∷ ranges) b c last less = ap (λ n. cond (leb range.start c) n b) (category_before ranges range.category c last less)

-- and counts alone from its start on
category_behind : (ranges : List CategoryRange) (b c : ℕ) (last : CategoryRange) → last.start ≤ c →
    AllByRecursion (λ (range : CategoryRange). range.start ≤ c) ranges → category_from b (ranges ++ last ∷ []) c ≡ last.category
category_behind [] b c last from all = ap (λ t. cond t last.category b) (le-leb last.start c from)
category_behind (range ∷ ranges) b c last from all =
    ap (λ t. cond t (category_from range.category (ranges ++ last ∷ []) c) b) (le-leb range.start c all.0) ∙
    category_behind ranges range.category c last from all.1

-- starts rise
pub rises : (ranges : List CategoryRange) (j i : ℕ) → AreApart ranges → j < i → i < length ranges → start_of ranges j < start_of ranges i
rises ranges j zero apart less short = absurd (omega (arith, less))
rises ranges j (suc i) apart less short =
    let one : i + 1 ≡ suc i = omega arith in
    let next : start_of ranges i < start_of ranges (suc i) =
    subst (λ n. start_of ranges i < start_of ranges n) one (rise_next ranges i apart (omega (arith, short))) in
    ⊎_elim (λ same. subst (λ n. start_of ranges n < start_of ranges (suc i)) (sym same) next)
    (λ other. omega (arith, next, rises ranges j i apart (omega (arith, less, other)) (omega (arith, short)))) (cases_eq j i)

-- a range after others that have another category last
apart_push : (made : List CategoryRange) (new : CategoryRange) → AreApart made → AllByRecursion (λ (range : CategoryRange). range.start < new.start) made →
    ¬ EndsIn made new.category → AreApart (made ++ new ∷ [])
apart_push [] new apart below other = tt
apart_push (range ∷ []) new apart below other = (below.0, λ same. other ([], range, refl, same), tt)
apart_push (range ∷ next ∷ made) new apart below other =
    (apart.0, apart.1, apart_push (next ∷ made) new apart.2 below.1 (λ ends. other (range ∷ ends.0, ends.1, (λ i. range ∷ ends.2 i), ends.3)))

zero_push : (made : List CategoryRange) (new : CategoryRange) → StartsAtZero made → StartsAtZero (made ++ new ∷ [])
zero_push [] new h = absurd h
zero_push (range ∷ made) new h = h

-- The ranges so far: the joined category of each code point is that of its old one.
pub record AreRangesSoFar (ranges : List CategoryRange) (found : List ℕ) (i : ℕ) (order : List ℕ) (made : List CategoryRange) : Type 0 where
  pub some : 1 ≤ length order
  pub items : (k : ℕ) → k < length order → (x : ℕ) × (x < length found) × (get_or order k 0 ≡ get_or found x 0)
  pub first : get_or order 0 0 ≡ get_or found 0 0
  pub none : i ≡ 0 → made ≡ []
  pub category : (c : ℕ) → (category_of made c < length order) × (get_or order (category_of made c) 0 ≡ get_or found (category_of (take i ranges) c) 0)
  pub starts : i < length ranges → AllByRecursion (λ (range : CategoryRange). range.start < start_of ranges i) made
  pub apart : AreApart made
  pub from_zero : 1 ≤ i → StartsAtZero made
  pub within : AllByRecursion (IsWithin (length order)) made
  pub met : (k : ℕ) → 1 ≤ k → k < length order → (j : ℕ) × (j < length made) × ((get_or made j no_range).category ≡ k)
  pub numbered : (j k : ℕ) → j < length made → 1 ≤ k → k < (get_or made j no_range).category →
      (e : ℕ) × (e < j) × ((get_or made e no_range).category ≡ k)

module _ (count : ℕ) (ranges : List CategoryRange) (found : List ℕ) (valid : AreValidRanges count ranges) (all : length found ≡ count) where
  -- starts before a range are less than its own
  starts_before : (i c : ℕ) → i < length ranges → start_of ranges i ≤ c → AllByRecursion (λ (range : CategoryRange). range.start ≤ c) (take i ranges)
  starts_before i c short low =
      all_by_index (λ (range : CategoryRange). range.start ≤ c) no_range (take i ranges)
      (λ j less.
      let j_low : j < i = omega (arith, less, length_take i ranges) in
      omega (arith, ap (λ (range : CategoryRange). range.start) (get_or-take i ranges j no_range j_low), rises ranges j i valid.apart j_low short, low))
    where
      length_take : (n : ℕ) (xs : List CategoryRange) → length (take n xs) ≤ n
      length_take zero xs = omega arith
      length_take (suc n) [] = omega arith
      length_take (suc n) (x ∷ xs) = let e = length_take n xs in omega (arith, e)

  module _ (i : ℕ) (order : List ℕ) (made : List CategoryRange) (h : AreRangesSoFar ranges found i order made) (range : CategoryRange)
      (short : i < length ranges)
      (is : range ≡ get_or ranges i no_range) (more : List ℕ) (n : ℕ) (keeps : KeepsOrAdds order (get_or found range.category 0) more) (once : AreOnce more)
      (low : n < length more) (at : get_or more n 0 ≡ get_or found range.category 0) where
    grown : Grows order more n
    grown = grows order more (get_or found range.category 0) n keeps once low at

    start_is : start_of ranges i ≡ range.start
    start_is = ap (λ (r : CategoryRange). r.start) (sym is)

    more_taken : take (i + 1) ranges ≡ take i ranges ++ range ∷ []
    more_taken = take_more ranges i no_range short ∙ ap (λ (r : CategoryRange). take i ranges ++ r ∷ []) (sym is)

    was_before : (c : ℕ) → c < range.start → category_of (take (i + 1) ranges) c ≡ category_of (take i ranges) c
    was_before c less = ap (λ (l : List CategoryRange). category_of l c) more_taken ∙ category_before (take i ranges) 0 c range less

    was_behind : (c : ℕ) → range.start ≤ c → category_of (take (i + 1) ranges) c ≡ range.category
    was_behind c past =
        ap (λ (l : List CategoryRange). category_of l c) more_taken
        ∙ category_behind (take i ranges) 0 c range past (starts_before i c short (omega (arith, past, start_is)))

    code : range.start ≤ 0x10FFFF
    code = let e = all_at (IsWithin count) ranges i no_range short valid.within in omega (arith, e.0, start_is)

    all_below : AllByRecursion (λ (r : CategoryRange). r.start < range.start) made
    all_below = all_through (λ (r : CategoryRange). r.start < start_of ranges i) (λ (r : CategoryRange). r.start < range.start)
        (λ r less. omega (arith, less, start_is)) made (h.starts short)

    next_starts : i + 1 < length ranges → range.start < start_of ranges (i + 1)
    next_starts later = omega (arith, start_is, rise_next ranges i valid.apart later)

    items : (k : ℕ) → k < length more → (x : ℕ) × (x < length found) × (get_or more k 0 ≡ get_or found x 0)
    items k k_low =
        ⊎_elim
        (λ old. let was = h.items k old in (was.0, was.1, grown.old_at k old ∙ was.2))
        (λ new. (
          range.category,
          omega (arith, (all_at (IsWithin count) ranges i no_range short valid.within).1, ap (λ (r : CategoryRange). r.category) is, all),
          ap (λ m. get_or more m 0) new ∙ at,
        ))
        (grown.only k k_low)

    -- the category of a code point, before the range's start and after it
    category : (made' : List CategoryRange) → ((c : ℕ) → c < range.start → category_of made' c ≡ category_of made c) →
        ((c : ℕ) → range.start ≤ c → category_of made' c ≡ n) →
        (c : ℕ) → (category_of made' c < length more) × (get_or more (category_of made' c) 0 ≡ get_or found (category_of (take (i + 1) ranges) c) 0)
    category made' before behind c =
        ⊎_elim
        (λ less.
        let was = h.category c in (
          omega (arith, before c less, was.0, grown.more),
          ap (λ m. get_or more m 0) (before c less) ∙ grown.old_at (category_of made c) was.0 ∙ was.1 ∙ ap (λ m. get_or found m 0) (sym (was_before c less)),
        ))
        (λ past. (
          omega (arith, behind c past, low),
          ap (λ m. get_or more m 0) (behind c past) ∙ at ∙ ap (λ m. get_or found m 0) (sym (was_behind c past)),
        ))
        (cases_lt c range.start)

    within : AllByRecursion (IsWithin (length more)) made
    within = all_through (IsWithin (length order)) (IsWithin (length more)) (λ r w. (w.0, omega (arith, w.1, grown.more))) made h.within

    -- the last range has the category already
    range_kept : EndsIn made n → AreRangesSoFar ranges found (i + 1) more made
    range_kept ends =
        let behind : (c : ℕ) → range.start ≤ c → category_of made c ≡ n =
        λ c past.
        let starts = all_through (λ (r : CategoryRange). r.start < range.start) (λ (r : CategoryRange). r.start ≤ c) (λ r less. omega (arith, less, past))
        (ends.0 ++ ends.1 ∷ []) (subst (λ (l : List CategoryRange). AllByRecursion (λ (r : CategoryRange). r.start < range.start) l) ends.2 all_below) in
        ap (λ (l : List CategoryRange). category_of l c) ends.2
        ∙ category_behind ends.0 0 c ends.1 (last_of ends.0 ends.1 c starts) (front_of ends.0 ends.1 c starts) ∙ ends.3
        in
        record {
          some = omega (arith, h.some, grown.more);
          items = items;
          first = grown.old_at 0 (omega (arith, h.some)) ∙ h.first;
          none = λ e. absurd (omega (arith, e));
          category = category made (λ c less. refl) behind;
          starts = λ later. all_through (λ (r : CategoryRange). r.start < range.start) (λ (r : CategoryRange). r.start < start_of ranges (i + 1))
              (λ r less. omega (arith, less, next_starts later)) made all_below;
          apart = h.apart;
          from_zero = λ one.
              ⊎_elim
              (λ zero'. absurd (empty_ends ends.0 ends.1 (sym (h.none zero') ∙ ends.2)))
              (λ later. h.from_zero (omega (arith, later)))
              (cases_eq i 0);
          within = within;
          met = λ k some k_low.
              ⊎_elim
              (λ old. h.met k some old)
              (λ new. (
                length ends.0,
                omega (arith, ap length ends.2, length_push ends.0 ends.1),
                ap (λ (l : List CategoryRange). (get_or l (length ends.0) no_range).category) ends.2
                    ∙ ap (λ (r : CategoryRange). r.category) (get_or_push ends.0 ends.1 no_range (length ends.0) refl) ∙ ends.3 ∙ sym new,
              ))
              (grown.only k k_low);
          numbered = h.numbered;
        }
      where
        last_of : (front : List CategoryRange) (last : CategoryRange) (c : ℕ) → AllByRecursion (λ (r : CategoryRange). r.start ≤ c) (front ++ last ∷ []) →
            last.start ≤ c
        last_of [] last c all = all.0
        last_of (r ∷ front) last c all = last_of front last c all.1

        front_of : (front : List CategoryRange) (last : CategoryRange) (c : ℕ) → AllByRecursion (λ (r : CategoryRange). r.start ≤ c) (front ++ last ∷ []) →
            AllByRecursion (λ (r : CategoryRange). r.start ≤ c) front
        front_of [] last c all = tt
        front_of (r ∷ front) last c all = (all.0, front_of front last c all.1)

        empty_ends : (front : List CategoryRange) (last : CategoryRange) → [] ≡ front ++ last ∷ [] → ⊥
        empty_ends [] last e = cc
        empty_ends (r ∷ front) last e = cc

    -- a new range
    range_added : (new : CategoryRange) → new.start ≡ range.start → new.category ≡ n → ¬ EndsIn made n → AreRangesSoFar ranges found (i + 1) more
        (made ++ new ∷ [])
    range_added new start cat other =
        let made' : List CategoryRange = made ++ new ∷ [] in
        let long : length made' ≡ length made + 1 = length_push made new in
        let old : (j : ℕ) → j < length made → get_or made' j no_range ≡ get_or made j no_range = λ j less. get_or_append_left made (new ∷ []) no_range j less in
        let last : get_or made' (length made) no_range ≡ new = get_or_push made new no_range (length made) refl in
        let new_below = all_through (λ (r : CategoryRange). r.start < range.start) (λ (r : CategoryRange). r.start < new.start)
        (λ r less. omega (arith, less, start)) made all_below in
        record {
          some = omega (arith, h.some, grown.more);
          items = items;
          first = grown.old_at 0 (omega (arith, h.some)) ∙ h.first;
          none = λ e. absurd (omega (arith, e));
          category = category made' (λ c less. category_before made 0 c new (omega (arith, less, start)))
              (λ c past. category_behind made 0 c new (omega (arith, past, start))
              (all_through (λ (r : CategoryRange). r.start < range.start) (λ (r : CategoryRange). r.start ≤ c)
              (λ r less. omega (arith, less, past)) made all_below)
              ∙ cat);
          starts = λ later. all_append (λ (r : CategoryRange). r.start < start_of ranges (i + 1)) made (new ∷ [])
              (all_through (λ (r : CategoryRange). r.start < range.start) (λ (r : CategoryRange). r.start < start_of ranges (i + 1))
              (λ r less. omega (arith, less, next_starts later)) made all_below) (omega (arith, start, next_starts later), tt);
          apart = apart_push made new h.apart new_below (λ ends. other (ends.0, ends.1, ends.2, ends.3 ∙ cat));
          from_zero = λ one.
              ⊎_elim
              (λ zero'. subst (λ (l : List CategoryRange). StartsAtZero (l ++ new ∷ [])) (sym (h.none zero'))
              (start ∙ sym start_is ∙ ap (λ m. start_of ranges m) zero' ∙ first_start ranges valid.from_zero))
              (λ later. zero_push made new (h.from_zero (omega (arith, later))))
              (cases_eq i 0);
          within = all_append (IsWithin (length more)) made (new ∷ []) within ((omega (arith, start, code), omega (arith, cat, low)), tt);
          met = λ k some k_low.
              ⊎_elim
              (λ was. let j = h.met k some was in (j.0, omega (arith, j.1, long), ap (λ (r : CategoryRange). r.category) (old j.0 j.1) ∙ j.2))
              (λ is_new. (length made, omega (arith, long), ap (λ (r : CategoryRange). r.category) last ∙ cat ∙ sym is_new))
              (grown.only k k_low);
          numbered = λ j k j_low some less.
              ⊎_elim
              (λ before.
              let e = h.numbered j k before some (omega (arith, less, ap (λ (r : CategoryRange). r.category) (old j before))) in
              (e.0, e.1, ap (λ (r : CategoryRange). r.category) (old e.0 (omega (arith, e.1, before))) ∙ e.2))
              (λ most.
              let end : j ≡ length made = omega (arith, most, j_low, long) in
              let is_n : (get_or made' j no_range).category ≡ n = ap (λ m. (get_or made' m no_range).category) end ∙ ap
              (λ (r : CategoryRange). r.category) last ∙ cat
              in
              let e = h.met k some (omega (arith, less, is_n, grown.up_to)) in
              (e.0, omega (arith, e.1, end), ap (λ (r : CategoryRange). r.category) (old e.0 e.1) ∙ e.2))
              (cases_lt j (length made));
        }
      where
        first_start : (ranges : List CategoryRange) → StartsAtZero ranges → start_of ranges 0 ≡ 0
        first_start [] z = absurd z
        first_start (r ∷ rs) z = z

    -- one more range
    pub range_more : (new : CategoryRange) (made' : List CategoryRange) → new.start ≡ range.start → new.category ≡ n → AddsRange made new made' →
        AreRangesSoFar ranges found (i + 1) more made'
    range_more new made' start cat adds =
        ⊎_elim
        (λ kept. subst (λ (l : List CategoryRange). AreRangesSoFar ranges found (i + 1) more l) (sym kept.1)
        (range_kept (subst (λ m. EndsIn made m) cat kept.0)))
        (λ added. subst (λ (l : List CategoryRange). AreRangesSoFar ranges found (i + 1) more l) (sym added.1)
        (range_added new start cat (subst (λ m. ¬ EndsIn made m) cat added.0)))
        adds

  -- all ranges
  pub all_ranges : (grid : Grid) (order : List ℕ) (made : List CategoryRange) → grid.width ≡ count → AreRepresentatives grid found → AreOnce order →
      AreRangesSoFar ranges found (length ranges) order made → AreJoined grid ranges order made
  all_ranges grid order made width stand once h = record {
    valid = valid_made;
    within = below;
    alike = λ c. subst (λ m. LeadOnAlike grid m (category_of ranges c)) (sym (found_at c))
        (stand.alike (category_of ranges c) (omega (arith, category_within count ranges c valid, width)));
    apart = λ j k j_low k_low alike.
        let x = h.items j j_low in
        let y = h.items k k_low in
        let same : get_or found x.0 0 ≡ get_or found y.0 0 =
        stand.same x.0 y.0 (omega (arith, x.1, stand.all)) (omega (arith, y.1, stand.all)) (λ row row_low.
        sym (stand.alike x.0 (omega (arith, x.1, stand.all)) row row_low)
        ∙ subst (λ m. LeadOnAlike grid m (get_or found y.0 0)) x.2 (subst (λ m. LeadOnAlike grid (get_or order j 0) m) y.2 alike) row row_low
        ∙ stand.alike y.0 (omega (arith, y.1, stand.all)) row row_low) in
        once j k j_low k_low (x.2 ∙ same ∙ sym y.2);
    zero = λ c is. once (category_of made c) 0 (h.category c).0 h.some (found_at c ∙ ap (λ m. get_or found m 0) is ∙ sym h.first);
    used = λ k some k_low.
        let j = h.met k some k_low in
        (start_of made j.0, (all_at (IsWithin (length order)) made j.0 no_range j.1 h.within).0, at_start j.0 j.1 ∙ j.2);
    numbered = λ k later d some less code is.
        let j = holder (length order) made d valid_made in
        let own : (get_or made j.0 no_range).category ≡ later = sym (category_held made j.0 d h.apart j.1) ∙ is in
        let e = h.numbered j.0 k j.1.within some (omega (arith, less, own)) in
        (start_of made e.0, omega (arith, rises made e.0 j.0 h.apart e.1 j.1.within, j.1.begins), at_start e.0 (omega (arith, e.1, j.1.within)) ∙ e.2);
  }
    where
      some_ranges : (ranges : List CategoryRange) → StartsAtZero ranges → 1 ≤ length ranges
      some_ranges [] z = absurd z
      some_ranges (r ∷ rs) z = omega arith

      below : (k : ℕ) → k < length order → get_or order k 0 < grid.width
      below k k_low = let x = h.items k k_low in subst (λ m. m < grid.width) (sym x.2) (stand.within x.0 (omega (arith, x.1, stand.all)))

      found_at : (c : ℕ) → get_or order (category_of made c) 0 ≡ get_or found (category_of ranges c) 0
      found_at c = (h.category c).1 ∙ ap (λ (l : List CategoryRange). get_or found (category_of l c) 0) (take_all (length ranges) ranges (omega arith))

      valid_made : AreValidRanges (length order) made
      valid_made = record {
        some_categories = h.some;
        few_categories = omega (arith, few_once order grid.width once below, width, valid.few_categories);
        some_ranges = some_ranges made (h.from_zero valid.some_ranges);
        from_zero = h.from_zero valid.some_ranges;
        apart = h.apart;
        within = h.within;
      }

      at_start : (j : ℕ) → j < length made → category_of made (start_of made j) ≡ (get_or made j no_range).category
      at_start j j_low =
          category_held made j (start_of made j) h.apart (record { within = j_low; begins = omega arith; ends = λ later. rise_next made j h.apart later })
