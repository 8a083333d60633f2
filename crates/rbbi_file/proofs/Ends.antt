-- The parts of a table file end where its counts say.
use Rattle.std.proofs.Common.{◌≡◌, ℕ, zero, suc, ◌+◌, ◌*◌, ◌/◌, ◌%◌, ◌^◌, ◌<◌, ◌≤◌, List, [], ◌∷◌, ◌++◌, length, get_or, take, drop, refl, ap, sym, ◌∙◌}
use Rattle.std.proofs.Common.{inl, inr, arith, length-append, length-drop, append_assoc}
use Rattle.std.specs.List.{AllByRecursion, flat_map}
use Rattle.std.proofs.lemmas.List.{get_or-drop, drop-drop, drop_at}
use Rattle.rbbi_model.specs.Tables.{Table}
use Rattle.rbbi_model.specs.TableFile.{u16, u32, cell_size, range_bytes, list_bytes, row_bytes, IsSpelling}
use Rattle.rbbi_file.specs.Lengths.{u16_at, u32_at, HasMagic, version_in, cell_size_in, lists_end, parts_end, rows_size, pairs_size}
use Rattle.rbbi_file.specs.Fitting.{FitsList, Spell}
use Rattle.rbbi_file.proofs.Sizes.{length_ranges, length_list, length_rows}
use Rattle.rbbi_file.proofs.OneTable.{in_order}

-- lists end where they begin or after
pub lists_go_on : (bytes : List ℕ) (count at : ℕ) → at ≤ lists_end bytes count at
lists_go_on bytes zero at = omega arith
lists_go_on bytes (suc count) at = omega (arith, lists_go_on bytes count (at + 2 + 4 * u16_at bytes at))

-- what stands after the front
pub behind : (bytes front rest : List ℕ) (at end : ℕ) → drop at bytes ≡ front ++ rest → at + length front ≡ end → drop end bytes ≡ rest
behind bytes front rest at end stand long =
    ap (λ (n : ℕ). drop n bytes) (sym long) ∙ sym (drop-drop (length front) at bytes) ∙ ap (λ (l : List ℕ). drop (length front) l) stand
    ∙ drop_at front rest (length front) refl

-- a byte of what stands at a place
byte_of : (bytes these : List ℕ) (at k n : ℕ) → drop at bytes ≡ these → at + k ≡ n → get_or bytes n 0 ≡ get_or these k 0
byte_of bytes these at k n stand place =
    ap (λ (i : ℕ). get_or bytes i 0) (sym place) ∙ sym (get_or-drop at bytes k 0) ∙ ap (λ (l : List ℕ). get_or l k 0) stand

number_in_two : (bytes rest : List ℕ) (at n : ℕ) → n < 2 ^ 16 → drop at bytes ≡ u16 n ++ rest → u16_at bytes at ≡ n
number_in_two bytes rest at n small stand =
    let first : get_or bytes at 0 ≡ n % 256 = byte_of bytes (u16 n ++ rest) at 0 at stand (omega arith) in
    let second : get_or bytes (at + 1) 0 ≡ n / 256 % 256 = byte_of bytes (u16 n ++ rest) at 1 (at + 1) stand refl in
    omega (arith, small, first, second)

number_in_four : (bytes rest : List ℕ) (at n : ℕ) → n < 2 ^ 32 → drop at bytes ≡ u32 n ++ rest → u32_at bytes at ≡ n
number_in_four bytes rest at n small stand =
    let first : get_or bytes at 0 ≡ n % 256 = byte_of bytes (u32 n ++ rest) at 0 at stand (omega arith) in
    let second : get_or bytes (at + 1) 0 ≡ n / 256 % 256 = byte_of bytes (u32 n ++ rest) at 1 (at + 1) stand refl in
    let third : get_or bytes (at + 2) 0 ≡ n / 256 / 256 % 256 = byte_of bytes (u32 n ++ rest) at 2 (at + 2) stand refl in
    let fourth : get_or bytes (at + 2 + 1) 0 ≡ n / 256 / 256 / 256 % 256 = byte_of bytes (u32 n ++ rest) at 3 (at + 2 + 1) stand (omega arith) in
    omega (arith, small, first, second, third, fourth)

-- status lists end where their lengths say
lists_end_is : (bytes rest : List ℕ) (lists : List (List ℕ)) (at : ℕ) → AllByRecursion FitsList lists
    → drop at bytes ≡ flat_map list_bytes lists ++ rest → lists_end bytes (length lists) at ≡ at + length (flat_map list_bytes lists)
lists_end_is bytes rest [] at fit stand = omega arith
lists_end_is bytes rest (statuses ∷ lists) at fit stand =
    let here : drop at bytes ≡ list_bytes statuses ++ (flat_map list_bytes lists ++ rest) =
    stand ∙ append_assoc (list_bytes statuses) (flat_map list_bytes lists) rest in
    let long : u16_at bytes at ≡ length statuses = number_in_two bytes _ at (length statuses) fit.0.0 here in
    let next : at + length (list_bytes statuses) ≡ at + 2 + 4 * u16_at bytes at = omega (arith, long, length_list statuses) in
    lists_end_is bytes rest lists (at + 2 + 4 * u16_at bytes at) fit.1 (behind bytes (list_bytes statuses) _ at _ here next)
    ∙ omega (arith, long, length_list statuses, length-append (list_bytes statuses) (flat_map list_bytes lists))

-- a spelling begins with the magic of its version
pub has_magic : (bytes : List ℕ) (table : Table) → IsSpelling bytes table → HasMagic bytes
has_magic bytes table (inl spelled) = inr (ap (λ (l : List ℕ). take 8 l) (spelled ∙ in_order 2 table))
has_magic bytes table (inr spelled) = inl (ap (λ (l : List ℕ). take 8 l) (spelled.1 ∙ in_order 1 table))

-- and is as long as the counts say
pub ends_there : (bytes : List ℕ) (table : Table) → Spell bytes table → parts_end bytes ≡ length bytes
ends_there bytes table spell =
    let fits = spell.fits in
    let whole = spell.spelled ∙ in_order (version_in bytes) table in
    let at = λ (n : ℕ). ap (λ (l : List ℕ). drop n l) whole in
    let categories : u16_at bytes 8 ≡ table.categories = number_in_two bytes _ 8 table.categories fits.categories (at 8) in
    let ranges : u32_at bytes 10 ≡ length table.ranges = number_in_four bytes _ 10 (length table.ranges) fits.range_count (at 10) in
    let lists : u16_at bytes 14 ≡ length table.lists = number_in_two bytes _ 14 (length table.lists) fits.list_count (at 14) in
    let rows : u16_at bytes 16 ≡ length table.rows = number_in_two bytes _ 16 (length table.rows) fits.row_count (at 16) in
    let size : ℕ = cell_size (version_in bytes) (length table.rows) in
    let tail : List ℕ = flat_map list_bytes table.lists ++ (row_bytes size table.categories table.rows table.cells ++ table.safe) in
    let lists_at : drop (20 + 6 * u32_at bytes 10) bytes ≡ tail =
    behind bytes (flat_map range_bytes table.ranges) tail 20 (20 + 6 * u32_at bytes 10) (at 20)
    (omega (arith, ranges, length_ranges table.ranges)) in
    let listed : lists_end bytes (u16_at bytes 14) (20 + 6 * u32_at bytes 10) ≡ 20 + 6 * u32_at bytes 10 + length (flat_map list_bytes table.lists) =
    ap (λ (n : ℕ). lists_end bytes n (20 + 6 * u32_at bytes 10)) lists ∙ lists_end_is bytes _ table.lists (20 + 6 * u32_at bytes 10) fits.lists lists_at in
    let rest_size : rows_size (cell_size_in bytes) (u16_at bytes 16) (u16_at bytes 8) + pairs_size (u16_at bytes 8)
    ≡ length (row_bytes size table.categories table.rows table.cells) + length table.safe =
    (λ i. rows_size (cell_size (version_in bytes) (rows i)) (rows i) (categories i) + pairs_size (categories i))
    ∙ sym (λ i. length_rows size table.categories table.rows table.cells spell.fitting.cells i + spell.fitting.safe i) in
    let behind_counts : length (drop 20 bytes) ≡ length (flat_map range_bytes table.ranges ++ tail) = ap length (at 20) in
    let over : 20 ≤ length bytes = omega (arith, ap length whole) in
    omega (
      arith,
      listed,
      rest_size,
      ranges,
      over,
      behind_counts,
      length-drop 20 bytes,
      length_ranges table.ranges,
      length-append (flat_map range_bytes table.ranges) tail,
      length-append (flat_map list_bytes table.lists) (row_bytes size table.categories table.rows table.cells ++ table.safe),
      length-append (row_bytes size table.categories table.rows table.cells) table.safe,
    )
