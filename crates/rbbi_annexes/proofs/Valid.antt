-- A test that a table is valid, for the kernel to compute.
use Rattle.std.proofs.Common.{◌≡◌, ℕ, zero, suc, ◌+◌, ◌*◌, ◌/◌, ◌%◌, ◌^◌, ◌<◌, ◌≤◌, Bool, true}
use Rattle.std.proofs.Common.{false, not, ◌&&◌, ◌||◌, cond, eqb, ltb, leb, List, [], ◌∷◌, ◌++◌, length}
use Rattle.std.proofs.Common.{get_or, drop, take, sym, refl, ap, ◌∙◌, ⊎_elim, inl, inr, IsTrue, arith}
use Rattle.std.specs.Bool.{beq}
use Rattle.std.specs.List.{AllByRecursion}
use Rattle.std.proofs.lemmas.Bool.{cases_Bool, cases_lt, cond_both, cond-true, cond-false, and_parts, and_from, or_cases}
use Rattle.std.proofs.lemmas.Bool.{ltb-true, leb-true, le-leb, lt-ltb, eqb-true, eq-eqb, le-ltb, not-true}
use Rattle.std.proofs.lemmas.Bool.{not_from_false, false_from_ne_true, false≢true}
use Rattle.std.proofs.lemmas.Nat.{mul-add-lt}
use Rattle.std.proofs.lemmas.List.{get_or-drop, get_or_past}
use Rattle.ucd_table.proofs.TrieCheck.{all_below, all_below-at}
use Rattle.ucd_table.proofs.Facts.{same_from_beq}
use Rattle.rbbi_model.specs.Words.{last_code_point}
use Rattle.rbbi_model.specs.Lists.{IsRising}
use Rattle.rbbi_model.specs.Rules.{largest_tag}
use Rattle.rbbi_model.specs.Places.{has_bit}
use Rattle.rbbi_model.specs.Tables.{Table, CategoryRange, RowHead, empty_head, accept_of, fronts_of, list_of, step, row_along}
use Rattle.rbbi_model.specs.SafePairs.{IsOpen, IsSafePair, stored_bit, is_safe}
use Rattle.rbbi_model.specs.ValidTables.{StartsAtZero, AreApart, IsWithin, AreValidRanges, IsValidList, IsBefore, AreInOrder, BeginsWithZeroAlone}
use Rattle.rbbi_model.specs.ValidTables.{AreValidLists, LeadsToZero, IsValidRow, IsPlain, AreValidRows, IsWay, AreFronted, AreValidSafePairs, IsValidTable}
use Rattle.rbbi_annexes.proofs.Checker.{values, get_or-values, each, member, each-member, is_only, is_only-true}

-- ---- lists

each-all : {X : Type 0} (test : X → Bool) (P : X → Type 0) → ((x : X) → test x ≡ true → P x) → (xs : List X) → each test xs ≡ true → AllByRecursion P xs
unfolding each
each-all test P shows [] all = tt
each-all test P shows (x ∷ xs) all =
    let parts = and_parts (test x) (each test xs) all in (shows x parts.0, each-all test P shows xs parts.1)

each-at : {X : Type 0} (test : X → Bool) (d : X) (xs : List X) (i : ℕ) → each test xs ≡ true → i < length xs → test (get_or xs i d) ≡ true
unfolding each
each-at test d [] i all short = absurd (omega (arith, short))
each-at test d (x ∷ xs) zero all short = (and_parts (test x) (each test xs) all).0
each-at test d (x ∷ xs) (suc i) all short = each-at test d xs i (and_parts (test x) (each test xs) all).1 (omega (arith, short))

-- each of these tests passes
unfoldable pub all_of : List Bool → Bool
all_of tests = each (λ test. test) tests

parts_of : (tests : List Bool) → all_of tests ≡ true → AllByRecursion (λ test. test ≡ true) tests
unfolding all_of
parts_of tests all = each-all (λ test. test) (λ test. test ≡ true) (λ test is. is) tests all

-- ---- ranges

unfoldable pub starts_at_zero : List CategoryRange → Bool
starts_at_zero [] = false
starts_at_zero (range ∷ ranges) = eqb range.start 0

starts-true : (ranges : List CategoryRange) → starts_at_zero ranges ≡ true → StartsAtZero ranges
unfolding starts_at_zero
starts-true [] is = false≢true is
starts-true (range ∷ ranges) is = eqb-true range.start 0 is

unfoldable pub are_apart : List CategoryRange → Bool
are_apart [] = true
are_apart (range ∷ []) = true
are_apart (range ∷ next ∷ ranges) = ltb range.start next.start && (not (eqb range.category next.category) && are_apart (next ∷ ranges))

apart-true : (ranges : List CategoryRange) → are_apart ranges ≡ true → AreApart ranges
unfolding are_apart
apart-true [] is = tt
apart-true (range ∷ []) is = tt
apart-true (range ∷ next ∷ ranges) is =
    let parts = and_parts (ltb range.start next.start) (not (eqb range.category next.category) && are_apart (next ∷ ranges)) is in
    let rest = and_parts (not (eqb range.category next.category)) (are_apart (next ∷ ranges)) parts.1 in (
      ltb-true range.start next.start parts.0,
      λ same. false≢true (sym (not-true (eqb range.category next.category) rest.0) ∙ eq-eqb range.category next.category same),
      apart-true (next ∷ ranges) rest.1,
    )

-- ---- status lists

unfoldable pub rises : List ℕ → Bool
rises [] = true
rises (m ∷ []) = true
rises (m ∷ n ∷ ns) = ltb m n && rises (n ∷ ns)

rises-true : (ns : List ℕ) → rises ns ≡ true → IsRising ns
unfolding rises
rises-true [] is = tt
rises-true (m ∷ []) is = tt
rises-true (m ∷ n ∷ ns) is = let parts = and_parts (ltb m n) (rises (n ∷ ns)) is in (ltb-true m n parts.0, rises-true (n ∷ ns) parts.1)

abbrev pub list_tests : List ℕ → List Bool
list_tests statuses = leb 1 (length statuses) ∷ leb (length statuses) 4096 ∷ rises statuses ∷ each (λ status. leb status largest_tag) statuses ∷ []

list-true : (statuses : List ℕ) → all_of (list_tests statuses) ≡ true → IsValidList statuses
list-true statuses is =
    let parts = parts_of (list_tests statuses) is in
    record {
      some = leb-true 1 (length statuses) parts.0;
      few = leb-true (length statuses) 4096 parts.1.0;
      rising = rises-true statuses parts.1.1.0;
      small = each-all (λ status. leb status largest_tag) (λ status. status ≤ largest_tag) (λ status. leb-true status largest_tag) statuses parts.1.1.1.0;
    }

unfoldable pub is_before : List ℕ → List ℕ → Bool
is_before these [] = false
is_before [] (n ∷ those) = true
is_before (m ∷ these) (n ∷ those) = ltb m n || (eqb m n && is_before these those)

before-true : (these those : List ℕ) → is_before these those ≡ true → IsBefore these those
unfolding is_before
before-true [] [] is = false≢true is
before-true (m ∷ these) [] is = false≢true is
before-true [] (n ∷ those) is = tt
before-true (m ∷ these) (n ∷ those) is =
    ⊎_elim (λ less. inl (ltb-true m n less)) (λ same.
    let parts = and_parts (eqb m n) (is_before these those) same in
    inr (eqb-true m n parts.0, before-true these those parts.1)) (or_cases (ltb m n) (eqb m n && is_before these those) is)

unfoldable pub are_in_order : List (List ℕ) → Bool
are_in_order [] = true
are_in_order (statuses ∷ []) = true
are_in_order (statuses ∷ next ∷ lists) = is_before statuses next && are_in_order (next ∷ lists)

order-true : (lists : List (List ℕ)) → are_in_order lists ≡ true → AreInOrder lists
unfolding are_in_order
order-true [] is = tt
order-true (statuses ∷ []) is = tt
order-true (statuses ∷ next ∷ lists) is =
    let parts = and_parts (is_before statuses next) (are_in_order (next ∷ lists)) is in
    (before-true statuses next parts.0, order-true (next ∷ lists) parts.1)

unfoldable pub begins_with_zero : List (List ℕ) → Bool
begins_with_zero [] = false
begins_with_zero (statuses ∷ lists) = is_only 0 statuses

zero-true : (lists : List (List ℕ)) → begins_with_zero lists ≡ true → BeginsWithZeroAlone lists
unfolding begins_with_zero
zero-true [] is = false≢true is
zero-true (statuses ∷ lists) is = is_only-true 0 statuses is

-- ---- pairs

-- the values of f at the numbers below n that pass
unfoldable pub gather : (ℕ → Bool) → (ℕ → ℕ) → ℕ → List ℕ
gather test f zero = []
gather test f (suc n) = let more = gather test f n in cond (test n) (f n ∷ more) more

each-gather : (test holds : ℕ → Bool) (f : ℕ → ℕ) (n i : ℕ) → each holds (gather test f n) ≡ true → i < n → test i ≡ true → holds (f i) ≡ true
unfolding gather each
each-gather test holds f zero i all below passes = absurd (omega (arith, below))
each-gather test holds f (suc n) i all below passes =
    let more : List ℕ = gather test f n in
    ⊎_elim
    (λ earlier. each-gather test holds f n i (cond_both (test n) (f n ∷ more) more (λ xs. each holds xs ≡ true → each holds more ≡ true)
    (λ is all. (and_parts (holds (f n)) (each holds more) all).1) (λ isnt all. all) all) earlier passes)
    (λ past.
    let here : i ≡ n = omega (arith, below, past) in
    ap (λ j. holds (f j)) here
    ∙ (and_parts (holds (f n)) (each holds more) (ap (each holds) (sym (cond-true (test n) (f n ∷ more) more (ap test (sym here) ∙ passes))) ∙ all)).0)
    (cases_lt i n)

gather-each : (test holds : ℕ → Bool) (f : ℕ → ℕ) (n : ℕ) → ((i : ℕ) → i < n → test i ≡ true → holds (f i) ≡ true) →
    each holds (gather test f n) ≡ true
unfolding gather each
gather-each test holds f zero all = refl
gather-each test holds f (suc n) all =
    let more : List ℕ = gather test f n in
    let rest = gather-each test holds f n (λ i below. all i (omega (arith, below))) in
    cond_both (test n) (f n ∷ more) more (λ xs. each holds xs ≡ true)
    (λ is. and_from (holds (f n)) (each holds more) (all n (omega arith) is) rest) (λ isnt. rest)

-- each of the numbers once
unfoldable pub distinct : List ℕ → List ℕ
distinct [] = []
distinct (n ∷ ns) = let others = distinct ns in cond (member eqb n others) others (n ∷ others)

each-distinct : (holds : ℕ → Bool) (ns : List ℕ) → each holds (distinct ns) ≡ true → each holds ns ≡ true
unfolding distinct each
each-distinct holds [] all = refl
each-distinct holds (n ∷ ns) all =
    let others : List ℕ = distinct ns in
    cond_both (member eqb n others) others (n ∷ others) (λ xs. each holds xs ≡ true → each holds (n ∷ ns) ≡ true)
    (λ is rest. and_from (holds n) (each holds ns) (each-member eqb eqb-true holds n others rest is) (each-distinct holds ns rest))
    (λ isnt rest.
    let parts = and_parts (holds n) (each holds others) rest in and_from (holds n) (each holds ns) parts.0 (each-distinct holds ns parts.1))
    all

distinct-each : (holds : ℕ → Bool) (ns : List ℕ) → each holds ns ≡ true → each holds (distinct ns) ≡ true
unfolding distinct each
distinct-each holds [] all = refl
distinct-each holds (n ∷ ns) all =
    let others : List ℕ = distinct ns in
    let parts = and_parts (holds n) (each holds ns) all in
    let rest = distinct-each holds ns parts.1 in
    cond_both (member eqb n others) others (n ∷ others) (λ xs. each holds xs ≡ true)
    (λ is. rest) (λ isnt. and_from (holds n) (each holds others) parts.0 rest)

-- ---- rows

-- what is reached from the first of these, as the bits of a number, and what was found before
unfoldable pub flood : (ℕ → List ℕ) → ℕ → List ℕ → ℕ → ℕ
flood after zero todo found = found
flood after (suc fuel) [] found = found
flood after (suc fuel) (row ∷ todo) found =
    elim (has_bit found row) [
      | true ↦ flood after fuel todo found
      | false ↦ flood after fuel (after row ++ todo) (found + 2 ^ row)
    ]

-- the value at a row, of values that are kept by twelves
abbrev pub look : List (List ℕ) → ℕ → ℕ
look column row = get_or (get_or column (row / 12) []) (row % 12) 0

-- ---- the table

module _ (table : Table) where
  abbrev pub range_tests : List Bool
  range_tests =
      leb 1 table.categories ∷ leb table.categories 1000 ∷ leb 1 (length table.ranges) ∷ starts_at_zero table.ranges ∷ are_apart table.ranges
      ∷ each (λ range. leb range.start last_code_point && ltb range.category table.categories) table.ranges ∷ []

  ranges-true : all_of range_tests ≡ true → AreValidRanges table.categories table.ranges
  ranges-true is =
      let parts = parts_of range_tests is in
      record {
        some_categories = leb-true 1 table.categories parts.0;
        few_categories = leb-true table.categories 1000 parts.1.0;
        some_ranges = leb-true 1 (length table.ranges) parts.1.1.0;
        from_zero = starts-true table.ranges parts.1.1.1.0;
        apart = apart-true table.ranges parts.1.1.1.1.0;
        within = each-all (λ range. leb range.start last_code_point && ltb range.category table.categories) (IsWithin table.categories) (λ range both.
            let within = and_parts (leb range.start last_code_point) (ltb range.category table.categories) both in
            (leb-true range.start last_code_point within.0, ltb-true range.category table.categories within.1)) table.ranges parts.1.1.1.1.1.0;
      }

  abbrev pub lists_tests : List Bool
  lists_tests =
      leb 1 (length table.lists) ∷ leb (length table.lists) 4095 ∷ each (λ statuses. all_of (list_tests statuses)) table.lists
      ∷ begins_with_zero table.lists ∷ are_in_order table.lists ∷ []

  lists-true : all_of lists_tests ≡ true → AreValidLists table.lists
  lists-true is =
      let parts = parts_of lists_tests is in
      record {
        some = leb-true 1 (length table.lists) parts.0;
        few = leb-true (length table.lists) 4095 parts.1.0;
        each = each-all (λ statuses. all_of (list_tests statuses)) IsValidList list-true table.lists parts.1.1.0;
        first = zero-true table.lists parts.1.1.1.0;
        in_order = order-true table.lists parts.1.1.1.1.0;
      }

  -- the numbers at a row are within their bounds
  abbrev pub head_tests : RowHead → List Bool
  head_tests head =
      leb head.accept (table.slashes + 1) ∷ ltb head.fronts (2 ^ table.slashes) ∷ ltb head.list (length table.lists)
      ∷ cond (eqb head.accept 0) (eqb head.list 0) true ∷ cond (leb 2 head.accept) (eqb head.fronts 0) true ∷ []

  unfoldable pub is_plain : RowHead → Bool
  is_plain head = all_of (eqb head.accept 0 ∷ eqb head.fronts 0 ∷ eqb head.list 0 ∷ [])

  plain-true : (head : RowHead) → is_plain head ≡ true → IsPlain head
  unfolding is_plain
  plain-true head is =
      let parts = parts_of (eqb head.accept 0 ∷ eqb head.fronts 0 ∷ eqb head.list 0 ∷ []) is in
      (eqb-true head.accept 0 parts.0, eqb-true head.fronts 0 parts.1.0, eqb-true head.list 0 parts.1.1.0)

  -- the next rows from those of the row on
  abbrev pub cells_from : ℕ → List ℕ
  cells_from row = drop (row * table.categories) table.cells

  cell_is : (row k : ℕ) → get_or (cells_from row) k 0 ≡ step table row k
  cell_is row k = get_or-drop (row * table.categories) table.cells k 0

  -- if so, the row leads to row 0 only
  unfoldable pub leads_to_zero : Bool → ℕ → Bool
  leads_to_zero true row = let cells = cells_from row in all_below (λ k. eqb (get_or cells k 0) 0) table.categories
  leads_to_zero false row = true

  zero-leads : (row : ℕ) → leads_to_zero true row ≡ true → LeadsToZero table row
  unfolding leads_to_zero
  zero-leads row all k few =
      sym (cell_is row k)
      ∙ eqb-true (get_or (cells_from row) k 0) 0 (all_below-at (λ j. eqb (get_or (cells_from row) j 0) 0) table.categories k all few)

  abbrev pub row_tests : List Bool
  row_tests =
      eqb (length table.cells) (length table.rows * table.categories) ∷ leb 2 (length table.rows) ∷ leb (length table.rows) 4095
      ∷ leb table.slashes 32 ∷ each (λ head. all_of (head_tests head)) table.rows ∷ each (λ cell. ltb cell (length table.rows)) table.cells
      ∷ is_plain (get_or table.rows 0 empty_head) ∷ is_plain (get_or table.rows 1 empty_head) ∷ leads_to_zero true 0
      ∷ all_below (λ row. leads_to_zero (leb 2 (accept_of table row)) row) (length table.rows) ∷ []

  -- rows on ways from row 1 on which the front of a look-ahead rule didn't end yet, as bits, as far as they are found
  unfoldable pub unfronted : ℕ → ℕ
  unfronted number = flood (λ row. cond (has_bit (fronts_of table row) number) [] (take table.categories (cells_from row))) 100000 (1 ∷ []) 0

  -- where the front doesn't end, each next row is one of those
  unfoldable pub goes_on_within : Bool → ℕ → ℕ → Bool
  goes_on_within true found row = true
  goes_on_within false found row = let cells = cells_from row in all_below (λ k. has_bit found (get_or cells k 0)) table.categories

  -- a row that is one of those doesn't complete the rule
  unfoldable pub row_stays : ℕ → ℕ → Bool → ℕ → Bool
  row_stays number found true row = not (eqb (accept_of table row) (number + 2)) && goes_on_within (has_bit (fronts_of table row) number) found row
  row_stays number found false row = true

  unfoldable pub stays_unfronted : ℕ → ℕ → Bool
  stays_unfronted number found = has_bit found 1 && all_below (λ row. row_stays number found (has_bit found row) row) (length table.rows)

  unfoldable pub fronts_pass : Bool
  fronts_pass = all_below (λ number. stays_unfronted number (unfronted number)) table.slashes

  -- the next row of each row by category, from what stands from each row on
  abbrev pub column_of : List (List ℕ) → ℕ → List (List ℕ)
  column_of cells k = values (λ i. values (λ j. get_or (get_or cells (i * 12 + j) []) k 0) 0 12) 0 (length table.rows / 12 + 1)

  unfoldable pub columns : List (List ℕ) → List (List (List ℕ))
  columns cells = values (column_of cells) 0 table.categories

  unfoldable pub all_columns : List (List (List ℕ))
  all_columns = columns (values cells_from 0 (length table.rows))

  unfoldable pub is_open : ℕ → Bool
  is_open row = not (eqb row 0) && ltb (accept_of table row) 2

  -- the rows that open rows lead to by a category
  unfoldable pub rows_after : List (List ℕ) → List ℕ
  rows_after column = distinct (gather is_open (look column) (length table.rows))

  -- these rows lead to one row by a category, the one that row 1 leads to by both
  unfoldable pub alike : List ℕ → List (List ℕ) → List (List ℕ) → Bool
  alike after first second = let target = look second (look first 1) in each (λ row. eqb (look second row) target) after

  -- the stored bits are those of the pairs that lead all open rows to one row
  unfoldable pub pairs_pass : List (List (List ℕ)) → Bool
  pairs_pass next =
      all_below (λ first.
      let column = get_or next first [] in
      let after = rows_after column in
      all_below (λ second. beq (is_safe table first second) (alike after column (get_or next second []))) table.categories) table.categories

  abbrev pub pair_tests : List Bool
  pair_tests =
      eqb (length table.safe) ((table.categories * table.categories + 7) / 8) ∷ each (λ byte. ltb byte 256) table.safe
      ∷ all_below (λ i. cond (ltb i (table.categories * table.categories)) true (not (stored_bit table.safe i))) (8 * length table.safe)
      ∷ pairs_pass all_columns ∷ []

  unfoldable pub is_valid : Bool
  is_valid = all_of (all_of range_tests ∷ all_of lists_tests ∷ all_of row_tests ∷ fronts_pass ∷ all_of pair_tests ∷ [])

  module _ (rows_pass : all_of row_tests ≡ true) where
    facts : AllByRecursion (λ test. test ≡ true) row_tests
    facts = parts_of row_tests rows_pass

    cell_count : length table.cells ≡ length table.rows * table.categories
    cell_count = eqb-true (length table.cells) (length table.rows * table.categories) facts.0

    some_rows : 2 ≤ length table.rows
    some_rows = leb-true 2 (length table.rows) facts.1.0

    head_at : (row : ℕ) → row < length table.rows → AllByRecursion (λ test. test ≡ true) (head_tests (get_or table.rows row empty_head))
    head_at row short =
        parts_of (head_tests (get_or table.rows row empty_head))
        (each-at (λ head. all_of (head_tests head)) empty_head table.rows row facts.1.1.1.1.0 short)

    step_within : (row k : ℕ) → row < length table.rows → k < table.categories → step table row k < length table.rows
    step_within row k short few =
        ltb-true (step table row k) (length table.rows)
        (each-at (λ cell. ltb cell (length table.rows)) 0 table.cells (row * table.categories + k) facts.1.1.1.1.1.0
        (omega (arith, mul-add-lt row table.categories k (length table.rows) short few, cell_count)))

    row-true : (row : ℕ) → row < length table.rows → IsValidRow table row
    row-true row short =
        let parts = head_at row short in
        let completed : Bool = leb 2 (accept_of table row) in
        record {
          accept = leb-true (accept_of table row) (table.slashes + 1) parts.0;
          fronts = ltb-true (fronts_of table row) (2 ^ table.slashes) parts.1.0;
          list = ltb-true (list_of table row) (length table.lists) parts.1.1.0;
          next = λ k small. step_within row k short small;
          unended = λ is. eqb-true (list_of table row) 0
              (sym (cond-true (eqb (accept_of table row) 0) (eqb (list_of table row) 0) true (eq-eqb (accept_of table row) 0 is)) ∙ parts.1.1.1.0);
          completed = λ is.
              let so : completed ≡ true = le-leb 2 (accept_of table row) is in (
                eqb-true (fronts_of table row) 0 (sym (cond-true completed (eqb (fronts_of table row) 0) true so) ∙ parts.1.1.1.1.0),
                zero-leads row (ap (λ b. leads_to_zero b row) (sym so)
                    ∙ all_below-at (λ r. leads_to_zero (leb 2 (accept_of table r)) r) (length table.rows) row facts.1.1.1.1.1.1.1.1.1.0 short),
              );
        }

    plain_start : IsPlain (get_or table.rows 1 empty_head)
    plain_start = plain-true (get_or table.rows 1 empty_head) facts.1.1.1.1.1.1.1.0

    valid_rows : AreValidRows table
    valid_rows =
        record {
          some = some_rows;
          few = leb-true (length table.rows) 4095 facts.1.1.0;
          few_slashes = leb-true table.slashes 32 facts.1.1.1.0;
          each = row-true;
          stop = plain-true (get_or table.rows 0 empty_head) facts.1.1.1.1.1.1.0;
          start = plain_start;
          stop_leads = zero-leads 0 facts.1.1.1.1.1.1.1.1.0;
        }

    most_accepts : (row : ℕ) → accept_of table row ≤ table.slashes + 1
    most_accepts row =
        ⊎_elim (λ short. (row-true row short).accept) (λ past. omega (arith, ap (λ head. head.accept) (get_or_past table.rows row empty_head past)))
        (cases_lt row (length table.rows))

    module _ (number found : ℕ) (stays : stays_unfronted number found ≡ true) where
      stays_parts : (has_bit found 1 ≡ true) × (all_below (λ row. row_stays number found (has_bit found row) row) (length table.rows) ≡ true)
      unfolding stays_unfronted
      stays_parts = and_parts (has_bit found 1) (all_below (λ row. row_stays number found (has_bit found row) row) (length table.rows)) stays

      test_at : (row : ℕ) → row < length table.rows → has_bit found row ≡ true →
          (not (eqb (accept_of table row) (number + 2)) ≡ true) × (goes_on_within (has_bit (fronts_of table row) number) found row ≡ true)
      unfolding row_stays
      test_at row short is =
          and_parts (not (eqb (accept_of table row) (number + 2))) (goes_on_within (has_bit (fronts_of table row) number) found row)
          (ap (λ b. row_stays number found b row) (sym is)
          ∙ all_below-at (λ r. row_stays number found (has_bit found r) r) (length table.rows) row stays_parts.1 short)

      next_is : (row k : ℕ) → k < table.categories → goes_on_within false found row ≡ true → has_bit found (step table row k) ≡ true
      unfolding goes_on_within
      next_is row k few all =
          ap (has_bit found) (sym (cell_is row k)) ∙ all_below-at (λ j. has_bit found (get_or (cells_from row) j 0)) table.categories k all few

      fronted_from : (way : List ℕ) (row : ℕ) → row < length table.rows → has_bit found row ≡ true → IsWay table way →
          accept_of table (row_along table row way) ≡ number + 2 →
          (earlier : ℕ) × (earlier < length way) × IsTrue (has_bit (fronts_of table (row_along table row (take earlier way))) number)
      fronted_from [] row short is of completes =
          absurd (false≢true (sym (not-true (eqb (accept_of table row) (number + 2)) (test_at row short is).0)
          ∙ eq-eqb (accept_of table row) (number + 2) completes))
      fronted_from (k ∷ way) row short is of completes =
          ⊎_elim
          (λ ends. (0, omega arith, ends))
          (λ goes.
          let later = fronted_from way (step table row k) (step_within row k short of.0)
          (next_is row k of.0 (ap (λ b. goes_on_within b found row) (sym goes) ∙ (test_at row short is).1)) of.1 completes in
          (suc later.0, omega (arith, later.1), later.2))
          (cases_Bool (has_bit (fronts_of table row) number))

    fronted : fronts_pass ≡ true → AreFronted table
    unfolding fronts_pass
    fronted all way number of completes =
        let below : number < table.slashes = omega (arith, completes, most_accepts (row_along table 1 way)) in
        let found : ℕ = unfronted number in
        let stays : stays_unfronted number found ≡ true = all_below-at (λ n. stays_unfronted n (unfronted n)) table.slashes number all below in
        fronted_from number found stays way 1 (omega (arith, some_rows)) (stays_parts number found stays).0 of completes

    column_at : (k row : ℕ) → k < table.categories → row < length table.rows → look (get_or all_columns k []) row ≡ step table row k
    unfolding all_columns columns
    column_at k row few short =
        let cells : List (List ℕ) = values cells_from 0 (length table.rows) in
        let twelve : ℕ → List ℕ = λ i. values (λ j. get_or (get_or cells (i * 12 + j) []) k 0) 0 12 in
        ap (λ next. look next row) (get_or-values (column_of cells) 0 table.categories k [] few ∙ ap (column_of cells) (let e : 0 + k ≡ k = omega arith in e))
        ∙ ap (λ of. get_or of (row % 12) 0) (get_or-values twelve 0 (length table.rows / 12 + 1) (row / 12) [] (omega (arith, short)))
        ∙ get_or-values (λ j. get_or (get_or cells ((0 + row / 12) * 12 + j) []) k 0) 0 12 (row % 12) 0 (omega arith)
        ∙ ap (λ r. get_or (get_or cells r []) k 0) (let e : (0 + row / 12) * 12 + (0 + row % 12) ≡ row = omega arith in e)
        ∙ ap (λ of. get_or of k 0) (get_or-values cells_from 0 (length table.rows) row [] short ∙ ap cells_from (let e : 0 + row ≡ row = omega arith in e))
        ∙ cell_is row k

    open-true : (row : ℕ) → IsOpen table row → is_open row ≡ true
    unfolding is_open
    open-true row active =
        and_from (not (eqb row 0)) (ltb (accept_of table row) 2)
        (not_from_false (eqb row 0) (false_from_ne_true (eqb row 0) (λ same. active.0 (eqb-true row 0 same))))
        (lt-ltb (accept_of table row) 2 active.1)

    is-open : (row : ℕ) → is_open row ≡ true → IsOpen table row
    unfolding is_open
    is-open row is =
        let parts = and_parts (not (eqb row 0)) (ltb (accept_of table row) 2) is in
        (λ same. false≢true (sym (not-true (eqb row 0) parts.0) ∙ eq-eqb row 0 same), ltb-true (accept_of table row) 2 parts.1)

    starts_open : IsOpen table 1
    starts_open = (λ e. omega (arith, e), omega (arith, plain_start.0))

    module _ (first second : ℕ) (few : first < table.categories) (others : second < table.categories) where
      column : List (List ℕ)
      column = get_or all_columns first []

      next : List (List ℕ)
      next = get_or all_columns second []

      twice : (row : ℕ) → row < length table.rows → look next (look column row) ≡ step table (step table row first) second
      unfolding column next
      twice row short =
          ap (look (get_or all_columns second [])) (column_at first row few short)
          ∙ column_at second (step table row first) others (step_within row first short few)

      target : ℕ
      target = look next (look column 1)

      safe_from : alike (rows_after column) column next ≡ true → IsSafePair table first second
      unfolding alike rows_after target
      safe_from all =
          let holds : ℕ → Bool = λ row. eqb (look next row) target in
          let rows : List ℕ = gather is_open (look column) (length table.rows) in (
            target,
            λ from short active.
                sym (twice from short)
                ∙ eqb-true (look next (look column from)) target
                (each-gather is_open holds (look column) (length table.rows) from (each-distinct holds rows all) short (open-true from active)),
          )

      safe_to : IsSafePair table first second → alike (rows_after column) column next ≡ true
      unfolding alike rows_after target
      safe_to safe =
          let holds : ℕ → Bool = λ row. eqb (look next row) target in
          let rows : List ℕ = gather is_open (look column) (length table.rows) in
          let one : 1 < length table.rows = omega (arith, some_rows) in
          distinct-each holds rows (gather-each is_open holds (look column) (length table.rows) (λ row short is.
          eq-eqb (look next (look column row)) target
          (twice row short ∙ safe.1 row short (is-open row is) ∙ sym (twice 1 one ∙ safe.1 1 one starts_open))))

      bit_is : pairs_pass all_columns ≡ true → is_safe table first second ≡ alike (rows_after column) column next
      unfolding pairs_pass column next
      bit_is all =
          let row : ℕ → ℕ → Bool = λ f s.
          beq (is_safe table f s) (alike (rows_after (get_or all_columns f [])) (get_or all_columns f []) (get_or all_columns s [])) in
          same_from_beq (is_safe table first second)
          (alike (rows_after (get_or all_columns first [])) (get_or all_columns first []) (get_or all_columns second []))
          (all_below-at (row first) table.categories second
          (all_below-at (λ f. all_below (row f) table.categories) table.categories first all few) others)

    valid_pairs : all_of pair_tests ≡ true → AreValidSafePairs table
    valid_pairs pairs =
        let known = parts_of pair_tests pairs in
        record {
          exactly = λ first second few others.
              let bit = bit_is first second few others known.1.1.1.0 in
              (λ is. safe_from first second few others (sym bit ∙ is), λ safe. bit ∙ safe_to first second few others safe);
          filling = λ i past within is.
              let total : ℕ = table.categories * table.categories in
              let test : ℕ → Bool = λ j. cond (ltb j total) true (not (stored_bit table.safe j)) in
              let none : not (stored_bit table.safe i) ≡ true =
              sym (cond-false (ltb i total) true (not (stored_bit table.safe i)) (le-ltb i total past))
              ∙ all_below-at test (8 * length table.safe) i known.1.1.0 within in
              false≢true (sym (not-true (stored_bit table.safe i) none) ∙ is);
        }

  pub valid-true : is_valid ≡ true → IsValidTable table
  unfolding is_valid
  valid-true is =
      let parts = parts_of (all_of range_tests ∷ all_of lists_tests ∷ all_of row_tests ∷ fronts_pass ∷ all_of pair_tests ∷ []) is in
      let pairs = parts_of pair_tests parts.1.1.1.1.0 in
      record {
        well_formed = record {
          cells = cell_count parts.1.1.0;
          safe = eqb-true (length table.safe) ((table.categories * table.categories + 7) / 8) pairs.0;
          bytes = each-all (λ byte. ltb byte 256) (λ byte. byte < 256) (λ byte. ltb-true byte 256) table.safe pairs.1.0;
        };
        ranges = ranges-true parts.0;
        lists = lists-true parts.1.0;
        rows = valid_rows parts.1.1.0;
        fronts = fronted parts.1.1.0 parts.1.1.1.0;
        safe = valid_pairs parts.1.1.0 parts.1.1.1.1.0;
      }

-- `unfolding valid_tests` lets `refl` compute whether a table is valid
unfoldable pub valid_tests : Unit {0}
unfolding values each member is_only all_of starts_at_zero are_apart rises is_before are_in_order begins_with_zero gather distinct flood is_plain
    leads_to_zero unfronted goes_on_within row_stays stays_unfronted fronts_pass columns all_columns is_open rows_after alike pairs_pass is_valid
valid_tests = tt
