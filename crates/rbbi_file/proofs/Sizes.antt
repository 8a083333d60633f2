-- How many bytes the parts of a table file take.
use Rattle.std.proofs.Common.{◌≡◌, ℕ, zero, suc, ◌+◌, ◌*◌, ◌/◌, ◌≤◌, List, [], ◌∷◌, ◌++◌, length, take, drop, refl, ap, ◌∙◌, arith, length-append, length-drop}
use Rattle.std.specs.List.{AllByRecursion, flat_map}
use Rattle.std.proofs.lemmas.List.{length-take-le}
use Rattle.rbbi_model.specs.Tables.{CategoryRange, RowHead}
use Rattle.rbbi_model.specs.ValidTables.{IsValidList}
use Rattle.rbbi_model.specs.TableFile.{little_endian, range_bytes, list_bytes, head_bytes, row_bytes}
use Rattle.rbbi_file.specs.Lengths.{rows_size}

length_number : (size n : ℕ) → length (little_endian size n) ≡ size
length_number zero n = refl
length_number (suc size) n = ap (λ m. suc m) (length_number size (n / 256))

pub length_numbers : (size : ℕ) (numbers : List ℕ) → length (flat_map (little_endian size) numbers) ≡ size * length numbers
length_numbers size [] = omega arith
length_numbers size (n ∷ numbers) =
    omega (
      arith,
      length_numbers size numbers,
      length_number size n,
      length-append (little_endian size n) (flat_map (little_endian size) numbers),
    )

pub length_ranges : (ranges : List CategoryRange) → length (flat_map range_bytes ranges) ≡ 6 * length ranges
length_ranges [] = omega arith
length_ranges (range ∷ ranges) = omega (arith, length_ranges ranges)

pub length_list : (statuses : List ℕ) → length (list_bytes statuses) ≡ 2 + 4 * length statuses
length_list statuses = omega (arith, length_numbers 4 statuses)

-- valid lists have at most 4,096 numbers
pub length_lists : (lists : List (List ℕ)) → AllByRecursion IsValidList lists → length (flat_map list_bytes lists) ≤ 16386 * length lists
length_lists [] valid = omega arith
length_lists (statuses ∷ lists) valid =
    let few = valid.0.few in
    omega (arith, few, length_lists lists valid.1, length_list statuses, length-append (list_bytes statuses) (flat_map list_bytes lists))

pub length_rows : (size categories : ℕ) (rows : List RowHead) (cells : List ℕ) → length cells ≡ length rows * categories
    → length (row_bytes size categories rows cells) ≡ rows_size size (length rows) categories
length_rows size categories [] cells all = omega arith
length_rows size categories (head ∷ rows) cells all =
    let enough : categories ≤ length cells = omega (arith, all) in
    let rest : length (drop categories cells) ≡ length rows * categories = omega (arith, all, length-drop categories cells) in
    let wide : length (flat_map (little_endian size) (take categories cells)) ≡ size * categories =
    length_numbers size (take categories cells) ∙ ap (λ n. size * n) (length-take-le categories cells enough) in
    omega (
      arith,
      length-append (head_bytes head ++ flat_map (little_endian size) (take categories cells)) (row_bytes size categories rows (drop categories cells)),
      length-append (head_bytes head) (flat_map (little_endian size) (take categories cells)),
      wide,
      length_rows size categories rows (drop categories cells) rest,
    )
