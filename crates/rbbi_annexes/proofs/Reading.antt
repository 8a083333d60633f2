-- Reading a table back from its spelling.
use Rattle.std.proofs.Common.{◌≡◌, ℕ, zero, suc, ◌+◌, ◌*◌, ◌/◌, ◌%◌, ◌<◌, ◌≤◌, cond, List, [], ◌∷◌, ◌++◌, length, get_or, take, drop, refl, ap, ap₂, sym}
use Rattle.std.proofs.Common.{◌∙◌, arith}
use Rattle.std.proofs.Common.{append_assoc, mod-eq_of_lt, div-add-mod', ◌^◌, inl, inr, lit<}
use Rattle.std.specs.List.{AllByRecursion, flat_map}
use Rattle.std.proofs.Math.Nat.{pow-le-pow_right}
use Rattle.std.proofs.lemmas.Bool.{le-leb}
use Rattle.std.proofs.lemmas.Nat.{div_below, mod_below}
use Rattle.std.proofs.lemmas.List.{take-append-drop, take-append-le, drop-append-le, length-take-le, length-drop, nil_from_length, take_all, drop_all}
use Rattle.rbbi_model.specs.Rules.{largest_tag}
use Rattle.rbbi_model.specs.Tables.{Table, CategoryRange, RowHead, empty_head}
use Rattle.rbbi_model.specs.ValidTables.{AreApart, IsWithin, IsValidList, IsValidTable}
use Rattle.rbbi_model.specs.TableFile.{little_endian, u32, magic, counts, cell_size, range_bytes, list_bytes, row_bytes, spelling, IsSpelling}
use Rattle.rbbi_model.proofs.Lists.{all_by_index, all_drop, all_take, all_through}

-- a number in two bytes, and in four, the one of least value first
abbrev pub two : ℕ → ℕ → ℕ
two a b = a + 256 * b

abbrev pub four : ℕ → ℕ → ℕ → ℕ → ℕ
four a b c d = a + 256 * b + 65536 * c + 16777216 * d

two_is : (n : ℕ) → n < 65536 → two (n % 256) (n / 256 % 256) ≡ n
two_is n small = omega (arith, small)

four_is : (n : ℕ) → n < 4294967296 → four (n % 256) (n / 256 % 256) (n / 256 / 256 % 256) (n / 256 / 256 / 256 % 256) ≡ n
four_is n small = omega (arith, small)

-- ---- each part, and what stands after it

unfoldable pub ranges_in : ℕ → List ℕ → List CategoryRange
ranges_in zero bytes = []
ranges_in (suc n) (a ∷ b ∷ c ∷ d ∷ e ∷ f ∷ bytes) = record { start = four a b c d; category = two e f } ∷ ranges_in n bytes
ranges_in (suc n) _ = []

unfoldable pub ranges_behind : ℕ → List ℕ → List ℕ
ranges_behind zero bytes = bytes
ranges_behind (suc n) (a ∷ b ∷ c ∷ d ∷ e ∷ f ∷ bytes) = ranges_behind n bytes
ranges_behind (suc n) _ = []

unfoldable pub numbers_in : ℕ → List ℕ → List ℕ
numbers_in zero bytes = []
numbers_in (suc n) (a ∷ b ∷ c ∷ d ∷ bytes) = four a b c d ∷ numbers_in n bytes
numbers_in (suc n) _ = []

unfoldable pub numbers_behind : ℕ → List ℕ → List ℕ
numbers_behind zero bytes = bytes
numbers_behind (suc n) (a ∷ b ∷ c ∷ d ∷ bytes) = numbers_behind n bytes
numbers_behind (suc n) _ = []

unfoldable pub lists_in : ℕ → List ℕ → List (List ℕ)
lists_in zero bytes = []
lists_in (suc n) (a ∷ b ∷ bytes) = numbers_in (two a b) bytes ∷ lists_in n (numbers_behind (two a b) bytes)
lists_in (suc n) _ = []

unfoldable pub lists_behind : ℕ → List ℕ → List ℕ
lists_behind zero bytes = bytes
lists_behind (suc n) (a ∷ b ∷ bytes) = lists_behind n (numbers_behind (two a b) bytes)
lists_behind (suc n) _ = []

unfoldable pub heads_in : ℕ → ℕ → List ℕ → List RowHead
heads_in zero categories bytes = []
heads_in (suc n) categories (a ∷ b ∷ c ∷ d ∷ e ∷ f ∷ g ∷ h ∷ bytes) =
    record { accept = two a b; fronts = four c d e f; list = two g h } ∷ heads_in n categories (drop categories bytes)
heads_in (suc n) categories _ = []

unfoldable pub cells_in : ℕ → ℕ → List ℕ → List ℕ
cells_in zero categories bytes = []
cells_in (suc n) categories (a ∷ b ∷ c ∷ d ∷ e ∷ f ∷ g ∷ h ∷ bytes) = take categories bytes ++ cells_in n categories (drop categories bytes)
cells_in (suc n) categories _ = []

unfoldable pub rows_behind : ℕ → ℕ → List ℕ → List ℕ
rows_behind zero categories bytes = bytes
rows_behind (suc n) categories (a ∷ b ∷ c ∷ d ∷ e ∷ f ∷ g ∷ h ∷ bytes) = rows_behind n categories (drop categories bytes)
rows_behind (suc n) categories _ = []

FitsRange : CategoryRange → Type 0
FitsRange range = (range.start < 4294967296) × (range.category < 65536)

ranges_are : (ranges : List CategoryRange) (rest : List ℕ) → AllByRecursion FitsRange ranges →
    ranges_in (length ranges) (flat_map range_bytes ranges ++ rest) ≡ ranges
unfolding ranges_in FitsRange
ranges_are [] rest fit = refl
ranges_are (range ∷ ranges) rest fit =
    ap₂ (λ (r : CategoryRange) rs. r ∷ rs) (λ i. record { start = four_is range.start fit.0.0 i; category = two_is range.category fit.0.1 i })
    (ranges_are ranges rest fit.1)

behind_ranges : (ranges : List CategoryRange) (rest : List ℕ) → ranges_behind (length ranges) (flat_map range_bytes ranges ++ rest) ≡ rest
unfolding ranges_behind
behind_ranges [] rest = refl
behind_ranges (range ∷ ranges) rest = behind_ranges ranges rest

numbers_are : (ns : List ℕ) (rest : List ℕ) → AllByRecursion (λ n. n < 4294967296) ns → numbers_in (length ns) (flat_map u32 ns ++ rest) ≡ ns
unfolding numbers_in
numbers_are [] rest small = refl
numbers_are (n ∷ ns) rest small = ap₂ (λ m ms. m ∷ ms) (four_is n small.0) (numbers_are ns rest small.1)

behind_numbers : (ns : List ℕ) (rest : List ℕ) → numbers_behind (length ns) (flat_map u32 ns ++ rest) ≡ rest
unfolding numbers_behind
behind_numbers [] rest = refl
behind_numbers (n ∷ ns) rest = behind_numbers ns rest

FitsList : List ℕ → Type 0
FitsList statuses = (length statuses < 65536) × AllByRecursion (λ n. n < 4294967296) statuses

lists_are : (lists : List (List ℕ)) (rest : List ℕ) → AllByRecursion FitsList lists →
    (lists_in (length lists) (flat_map list_bytes lists ++ rest) ≡ lists) × (lists_behind (length lists) (flat_map list_bytes lists ++ rest) ≡ rest)
unfolding lists_in lists_behind FitsList
lists_are [] rest fit = (refl, refl)
lists_are (statuses ∷ lists) rest fit =
    let others : List ℕ = flat_map list_bytes lists ++ rest in
    let count = two_is (length statuses) fit.0.0 in
    let bytes = append_assoc (flat_map u32 statuses) (flat_map list_bytes lists) rest in
    let next = lists_are lists rest fit.1 in (
      ap₂ (λ n bs. numbers_in n bs ∷ lists_in (length lists) (numbers_behind n bs)) count bytes
          ∙ ap₂ (λ (s : List ℕ) ls. s ∷ ls) (numbers_are statuses others fit.0.1)
          (ap (lists_in (length lists)) (behind_numbers statuses others) ∙ next.0),
      ap₂ (λ n bs. lists_behind (length lists) (numbers_behind n bs)) count bytes
          ∙ ap (lists_behind (length lists)) (behind_numbers statuses others) ∙ next.1,
    )

FitsHead : RowHead → Type 0
FitsHead head = (head.accept < 65536) × (head.fronts < 4294967296) × (head.list < 65536)

single_bytes : (cells : List ℕ) → AllByRecursion (λ cell. cell < 256) cells → flat_map (little_endian 1) cells ≡ cells
single_bytes [] small = refl
single_bytes (cell ∷ cells) small = ap₂ (λ c cs. c ∷ cs) (mod-eq_of_lt small.0) (single_bytes cells small.1)

-- the first row is read, and then those after it
module _ (w : ℕ) where
  rows_are : (rows : List RowHead) (cells rest : List ℕ) → length cells ≡ length rows * w → AllByRecursion FitsHead rows →
      AllByRecursion (λ cell. cell < 256) cells →
      (heads_in (length rows) w (row_bytes 1 w rows cells ++ rest) ≡ rows) × (cells_in (length rows) w (row_bytes 1 w rows cells ++ rest) ≡ cells)
      × (rows_behind (length rows) w (row_bytes 1 w rows cells ++ rest) ≡ rest)
  unfolding heads_in cells_in rows_behind FitsHead
  rows_are [] cells rest whole fit small = (refl, sym (nil_from_length cells (omega (arith, whole))), refl)
  rows_are (head ∷ rows) cells rest whole fit small =
      let further : List ℕ = row_bytes 1 w rows (drop w cells) in
      let wide : length (take w cells) ≡ w = length-take-le w cells (omega (arith, whole)) in
      let bytes : List ℕ = (flat_map (little_endian 1) (take w cells) ++ further) ++ rest in
      let are : bytes ≡ take w cells ++ (further ++ rest) =
      ap (λ cs. (cs ++ further) ++ rest) (single_bytes (take w cells) (all_take (λ cell. cell < 256) w cells small))
      ∙ append_assoc (take w cells) further rest in
      let own : take w bytes ≡ take w cells =
      ap (take w) are ∙ take-append-le w (take w cells) (further ++ rest) (omega (arith, wide)) ∙ take_all w (take w cells) (omega (arith, wide)) in
      let others : drop w bytes ≡ further ++ rest =
      ap (drop w) are ∙ drop-append-le w (take w cells) (further ++ rest) (omega (arith, wide))
      ∙ ap (λ cs. cs ++ (further ++ rest)) (drop_all w (take w cells) (omega (arith, wide))) in
      let next = rows_are rows (drop w cells) rest (omega (arith, whole, length-drop w cells)) fit.1 (all_drop (λ cell. cell < 256) w cells small) in (
        ap₂ (λ (r : RowHead) rs. r ∷ rs)
            (λ i. record { accept = two_is head.accept fit.0.0 i; fronts = four_is head.fronts fit.0.1 i; list = two_is head.list fit.0.2 i })
            (ap (heads_in (length rows) w) others ∙ next.0),
        ap₂ (λ cs ds. cs ++ ds) own (ap (cells_in (length rows) w) others ∙ next.1) ∙ take-append-drop w cells,
        ap (rows_behind (length rows) w) others ∙ next.2,
      )

-- ---- the whole

-- by the counts, and the bytes after these
unfoldable pub table_from : ℕ → ℕ → ℕ → ℕ → ℕ → List ℕ → Table
table_from categories ranges lists rows slashes bytes =
    let behind : List ℕ = ranges_behind ranges bytes in
    let further : List ℕ = lists_behind lists behind in
    record {
      categories = categories;
      slashes = slashes;
      ranges = ranges_in ranges bytes;
      lists = lists_in lists behind;
      rows = heads_in rows categories further;
      cells = cells_in rows categories further;
      safe = rows_behind rows categories further;
    }

unfoldable pub table_in : List ℕ → Table
table_in bytes =
    table_from (two (get_or bytes 8 0) (get_or bytes 9 0))
    (four (get_or bytes 10 0) (get_or bytes 11 0) (get_or bytes 12 0) (get_or bytes 13 0)) (two (get_or bytes 14 0) (get_or bytes 15 0))
    (two (get_or bytes 16 0) (get_or bytes 17 0)) (two (get_or bytes 18 0) (get_or bytes 19 0)) (drop 20 bytes)

-- starts rise to the last code point, so there are no more ranges than code points
count_from : (categories : ℕ) (range : CategoryRange) (ranges : List CategoryRange) → AreApart (range ∷ ranges) →
    AllByRecursion (IsWithin categories) (range ∷ ranges) → range.start + length (range ∷ ranges) ≤ 0x11_0000
count_from categories range [] apart within = omega (arith, within.0.0)
count_from categories range (next ∷ ranges) apart within = omega (arith, apart.0, count_from categories next ranges apart.2 within.1)

range_count : (categories : ℕ) (ranges : List CategoryRange) → AreApart ranges → AllByRecursion (IsWithin categories) ranges → length ranges < 4294967296
range_count categories [] apart within = omega arith
range_count categories (range ∷ ranges) apart within = omega (arith, count_from categories range ranges apart within)

module _ (table : Table) (valid : IsValidTable table) where
  in_order : (size : ℕ) → magic 2 ++ counts table ++ flat_map range_bytes table.ranges ++ flat_map list_bytes table.lists
      ++ row_bytes size table.categories table.rows table.cells ++ table.safe
      ≡ (magic 2 ++ counts table) ++ (flat_map range_bytes table.ranges ++ (flat_map list_bytes table.lists
      ++ (row_bytes size table.categories table.rows table.cells ++ table.safe)))
  in_order size =
      let front : List ℕ = magic 2 ++ counts table in
      let ranges : List ℕ = flat_map range_bytes table.ranges in
      let lists : List ℕ = flat_map list_bytes table.lists in
      let rows : List ℕ = row_bytes size table.categories table.rows table.cells in
      append_assoc ((front ++ ranges) ++ lists) rows table.safe
      ∙ append_assoc (front ++ ranges) lists (rows ++ table.safe)
      ∙ append_assoc front ranges (lists ++ (rows ++ table.safe))

  counted : (rest : List ℕ) → length table.ranges < 4294967296 → table_in ((magic 2 ++ counts table) ++ rest)
      ≡ table_from table.categories (length table.ranges) (length table.lists) (length table.rows) table.slashes rest
  unfolding table_in
  counted rest few i =
      table_from (two_is table.categories (omega (arith, valid.ranges.few_categories)) i) (four_is (length table.ranges) few i)
      (two_is (length table.lists) (omega (arith, valid.lists.few)) i) (two_is (length table.rows) (omega (arith, valid.rows.few)) i)
      (two_is table.slashes (omega (arith, valid.rows.few_slashes)) i) rest

  mask_small : (mask : ℕ) → mask < 2 ^ table.slashes → mask < 4294967296
  mask_small mask below =
      omega (arith, below, pow-le-pow_right {n = 2} (lit< tt) {i = table.slashes} {j = 32} valid.rows.few_slashes)

  heads_fit : AllByRecursion FitsHead table.rows
  unfolding FitsHead
  heads_fit =
      all_by_index FitsHead empty_head table.rows (λ i short.
      let is = valid.rows.each i short in
      (omega (arith, is.accept, valid.rows.few_slashes), mask_small (get_or table.rows i empty_head).fronts is.fronts, omega (arith, is.list, valid.lists.few)))

  cells_small : length table.rows ≤ 255 → AllByRecursion (λ cell. cell < 256) table.cells
  cells_small few =
      all_by_index (λ cell. cell < 256) 0 table.cells (λ i short.
      let some : 0 < table.categories = omega (arith, valid.ranges.some_categories) in
      let row : i / table.categories < length table.rows =
      div_below i table.categories (length table.rows) some (omega (arith, short, valid.well_formed.cells)) in
      let next = (valid.rows.each (i / table.categories) row).next (i % table.categories) (mod_below i table.categories some) in
      let cell : get_or table.cells (i / table.categories * table.categories + i % table.categories) 0 ≡ get_or table.cells i 0 =
      ap (λ j. get_or table.cells j 0) (div-add-mod' i table.categories) in
      omega (arith, next, cell, few))

  ranges_fit : AllByRecursion FitsRange table.ranges
  unfolding FitsRange
  ranges_fit =
      all_through (IsWithin table.categories) FitsRange (λ range within. (omega (arith, within.0), omega (arith, within.1, valid.ranges.few_categories)))
      table.ranges valid.ranges.within

  lists_fit : AllByRecursion FitsList table.lists
  unfolding FitsList
  lists_fit =
      all_through IsValidList FitsList (λ statuses is. (
        omega (arith, is.few),
        all_through (λ n. n ≤ largest_tag) (λ n. n < 4294967296) (λ n small. omega (arith, small)) statuses is.small,
      )) table.lists valid.lists.each

  from_parts : length table.rows ≤ 255 →
      table_from table.categories (length table.ranges) (length table.lists) (length table.rows) table.slashes
      (flat_map range_bytes table.ranges ++ (flat_map list_bytes table.lists ++ (row_bytes 1 table.categories table.rows table.cells ++ table.safe)))
      ≡ table
  unfolding table_from
  from_parts few =
      let rows : List ℕ = row_bytes 1 table.categories table.rows table.cells ++ table.safe in
      let lists : List ℕ = flat_map list_bytes table.lists ++ rows in
      let behind = behind_ranges table.ranges lists in
      let lists_read = lists_are table.lists rows lists_fit in
      let further = ap (lists_behind (length table.lists)) behind ∙ lists_read.1 in
      let are = rows_are table.categories table.rows table.cells table.safe valid.well_formed.cells heads_fit (cells_small few) in
      λ i. record {
        categories = table.categories;
        slashes = table.slashes;
        ranges = ranges_are table.ranges lists ranges_fit i;
        lists = (ap (lists_in (length table.lists)) behind ∙ lists_read.0) i;
        rows = (ap (heads_in (length table.rows) table.categories) further ∙ are.0) i;
        cells = (ap (cells_in (length table.rows) table.categories) further ∙ are.1) i;
        safe = (ap (rows_behind (length table.rows) table.categories) further ∙ are.2) i;
      }

  spelled_table : length table.rows ≤ 255 → table_in (spelling table) ≡ table
  spelled_table few =
      let one : cell_size 2 (length table.rows) ≡ 1 = ap (λ b. cond b 1 2) (le-leb (length table.rows) 255 few) in
      ap (λ size. table_in (magic 2 ++ counts table ++ flat_map range_bytes table.ranges ++ flat_map list_bytes table.lists
      ++ row_bytes size table.categories table.rows table.cells ++ table.safe)) one
      ∙ ap table_in (in_order 1)
      ∙ counted (flat_map range_bytes table.ranges ++ (flat_map list_bytes table.lists
      ++ (row_bytes 1 table.categories table.rows table.cells ++ table.safe)))
      (range_count table.categories table.ranges valid.ranges.apart valid.ranges.within)
      ∙ from_parts few

  -- a valid table is read back from each of its spellings in version 2, where it has at most 255 rows
  pub table_is : (bytes : List ℕ) → IsSpelling bytes table → get_or bytes 7 0 ≡ 2 → two (get_or bytes 16 0) (get_or bytes 17 0) ≤ 255 →
      table_in bytes ≡ table
  table_is bytes (inl is) second few =
      let rows : two (get_or bytes 16 0) (get_or bytes 17 0) ≡ length table.rows =
      ap (λ bs. two (get_or bs 16 0) (get_or bs 17 0)) is ∙ two_is (length table.rows) (omega (arith, valid.rows.few)) in
      ap table_in is ∙ spelled_table (omega (arith, rows, few))
  table_is bytes (inr is) second few =
      let first : get_or bytes 7 0 ≡ 1 = ap (λ bs. get_or bs 7 0) is.1 in
      absurd (omega (arith, first, second))
