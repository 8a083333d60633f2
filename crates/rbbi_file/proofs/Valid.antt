-- The numbers of a valid table fit the bytes that a table file has for them, and the file isn't long.
use Rattle.std.proofs.Common.{◌≡◌, ℕ, ◌+◌, ◌*◌, ◌^◌, ◌<◌, ◌≤◌, ◌⊎◌, ◌++◌, length, get_or, refl, ap, sym, subst, inl, inr, arith, lit<, length-append}
use Rattle.std.specs.Prelude.{Bool, true, false, ◌&&◌, ◌==◌, nat_le, if◌then◌else◌}
use Rattle.std.proofs.lemmas.Bool.Decides.{leb_tells}
use Rattle.std.specs.List.{flat_map}
use Rattle.std.proofs.Math.Nat.{pow-le-pow_right}
use Rattle.std.proofs.lemmas.Nat.{mul-le}
use Rattle.rbbi_model.specs.Tables.{Table, empty_head}
use Rattle.rbbi_model.specs.ValidTables.{IsWithin, IsValidList, IsValidTable}
use Rattle.rbbi_model.specs.TableFile.{magic, cell_size, counts, range_bytes, list_bytes, row_bytes, file_bytes}
use Rattle.rbbi_text.specs.Bytes.{most_bytes}
use Rattle.rbbi_model.proofs.Lists.{all_by_index, all_through}
use Rattle.rbbi_file.specs.Lengths.{rows_size}
use Rattle.rbbi_file.specs.Fitting.{FitsRange, FitsList, FitsHead, FitsBytes}
use Rattle.rbbi_table.specs.Parts.{HasFittingParts}
use Rattle.rbbi_table.proofs.RangeLemmas.{few_ranges}
use Rattle.rbbi_table.proofs.RowLemmas.{steps_within}
use Rattle.rbbi_file.proofs.Sizes.{length_ranges, length_lists, length_rows}

-- a next row takes one byte, and then there are few rows, or two
size_cases : (version rows : ℕ) → ((cell_size version rows ≡ 1) × (rows ≤ 255)) ⊎ (cell_size version rows ≡ 2)
size_cases version rows =
    let size : Bool → ℕ = λ b. if b then 1 else 2 in
    elim (version == 2) as (λ b. ((size (b && nat_le rows 255) ≡ 1) × (rows ≤ 255)) ⊎ (size (b && nat_le rows 255) ≡ 2)) [
      | true ↦ elim (leb_tells rows 255) [ inl few ↦ inl (ap size few.0, few.1) | inr many ↦ inr (ap size many.0) ]
      | false ↦ inr refl
    ]

-- so a row's number fits it
below_size : (version rows row : ℕ) → row < rows → rows ≤ 4095 → row < 256 ^ cell_size version rows
below_size version rows row below few =
    elim (size_cases version rows) [
      | inl one ↦ subst (λ k. row < 256 ^ k) (sym one.0) (omega (arith, below, one.1))
      | inr two ↦ subst (λ k. row < 256 ^ k) (sym two) (omega (arith, below, few))
    ]

-- each next row is one of the rows
cell_below : (version : ℕ) (table : Table) → IsValidTable table → (i : ℕ) → i < length table.cells
    → get_or table.cells i 0 < 256 ^ cell_size version (length table.rows)
cell_below version table valid i short =
    let steps = steps_within table table.rows table.cells refl refl valid.well_formed.cells valid.rows in
    below_size version (length table.rows) (get_or table.cells i 0) (steps.within i short) valid.rows.few

-- a front mask has at most 32 bits
mask_below : (mask slashes : ℕ) → slashes ≤ 32 → mask < 2 ^ slashes → mask < 2 ^ 32
mask_below mask slashes few below = omega (arith, below, pow-le-pow_right {n = 2} (lit< tt) {i = slashes} {j = 32} few)

-- the numbers of a valid table fit, in either version
pub fits_valid : (version : ℕ) (table : Table) → IsValidTable table → FitsBytes (cell_size version (length table.rows)) table
fits_valid version table valid = record {
  categories = omega (arith, valid.ranges.few_categories);
  slashes = omega (arith, valid.rows.few_slashes);
  range_count = omega (arith, few_ranges table.categories table.ranges valid.ranges);
  list_count = omega (arith, valid.lists.few);
  row_count = omega (arith, valid.rows.few);
  ranges =
      all_through (IsWithin table.categories) FitsRange
      (λ range within. (omega (arith, within.0), omega (arith, within.1, valid.ranges.few_categories)))
      table.ranges valid.ranges.within;
  lists =
      all_through IsValidList FitsList
      (λ statuses is. (omega (arith, is.few), all_through _ _ (λ status small. omega (arith, small)) statuses is.small))
      table.lists valid.lists.each;
  rows =
      all_by_index FitsHead empty_head table.rows (λ i short.
      let is = valid.rows.each i short in
      (omega (arith, is.accept, valid.rows.few_slashes), mask_below _ table.slashes valid.rows.few_slashes is.fronts, omega (arith, is.list, valid.lists.few)));
  cells = all_by_index (λ cell. cell < 256 ^ cell_size version (length table.rows)) 0 table.cells (cell_below version table valid);
}

-- and its parts fit each other
pub fitting_valid : (table : Table) → IsValidTable table → HasFittingParts table
fitting_valid table valid = record { cells = valid.well_formed.cells; safe = valid.well_formed.safe }

-- a next row takes two bytes at most
size_few : (version rows : ℕ) → cell_size version rows ≤ 2
size_few version rows = elim (size_cases version rows) [ inl one ↦ omega (arith, one.0) | inr two ↦ omega (arith, two) ]

-- the largest table file is shorter than what is read
pub short_valid : (version : ℕ) (table : Table) → IsValidTable table → length (file_bytes version table) ≤ most_bytes
short_valid version table valid =
    let categories : ℕ = table.categories in
    let size : ℕ = cell_size version (length table.rows) in
    let few : categories ≤ 1000 = valid.ranges.few_categories in
    let cells : size * categories ≤ 2 * 1000 = mul-le size categories 2 1000 (size_few version (length table.rows)) few in
    let wide : rows_size size (length table.rows) categories ≤ 4095 * 2008 =
    mul-le (length table.rows) (8 + size * categories) 4095 2008 valid.rows.few (omega (arith, cells)) in
    let squares : categories * categories ≤ 1000 * 1000 = mul-le categories categories 1000 1000 few few in
    omega (
      arith,
      wide,
      squares,
      length-append (magic version ++ counts table ++ flat_map range_bytes table.ranges ++ flat_map list_bytes table.lists
          ++ row_bytes size categories table.rows table.cells) table.safe,
      length-append (magic version ++ counts table ++ flat_map range_bytes table.ranges ++ flat_map list_bytes table.lists)
          (row_bytes size categories table.rows table.cells),
      length-append (magic version ++ counts table ++ flat_map range_bytes table.ranges) (flat_map list_bytes table.lists),
      length-append (magic version ++ counts table) (flat_map range_bytes table.ranges),
      length_ranges table.ranges,
      few_ranges categories table.ranges valid.ranges,
      length_lists table.lists valid.lists.each,
      valid.lists.few,
      length_rows size categories table.rows table.cells valid.well_formed.cells,
      valid.well_formed.safe,
    )
