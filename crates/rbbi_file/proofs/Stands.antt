-- Parts that are read one after the other.
use Rattle.std.proofs.Common.{◌≡◌, ℕ, suc, ◌+◌, ◌-◌, ◌*◌, ◌^◌, ◌<◌, ◌≤◌, List, [], ◌∷◌, ◌++◌, length, take, drop, ap, sym, ◌∙◌, subst, arith, length-append}
use Rattle.std.proofs.Common.{length-drop, append_assoc, append-nil}
use Rattle.std.specs.List.{AllByRecursion, flat_map}
use Rattle.std.proofs.lemmas.List.{flat_map_more, take-append-le, drop-append-le, take_all, nil_from_length}
use Rattle.rbbi_model.specs.Tables.{RowHead}
use Rattle.rbbi_model.specs.TableFile.{little_endian, list_bytes, head_bytes, row_bytes}
use Rattle.rbbi_model.proofs.Lists.{all_append}
use Rattle.rbbi_file.specs.Lengths.{u16_at, lists_end, rows_size}
use Rattle.rbbi_file.specs.Fitting.{FitsList, FitsHead}
use Rattle.rbbi_file.specs.inner.Reading.{Stand, AreListsAt, AreCellsAt, AreRowsAt}
use Rattle.rbbi_file.proofs.Ends.{lists_go_on}

-- two parts, one after the other
pub stand_both : (bytes these those : List ℕ) (at middle end : ℕ) → Stand bytes these at middle → Stand bytes those middle end
    → Stand bytes (these ++ those) at end
stand_both bytes these those at middle end first second =
    first ∙ ap (λ (l : List ℕ). these ++ l) second ∙ sym (append_assoc these those (drop end bytes))

-- the end of the lists, from the next list on
pub next_list : (bytes : List ℕ) (count i end : ℕ) → i < count → lists_end bytes (count - i) end ≡ lists_end bytes (count - (i + 1))
    (end + (2 + 4 * u16_at bytes end))
next_list bytes count i end short =
    let left : count - i ≡ suc (count - (i + 1)) = omega (arith, short) in
    ap (λ (n : ℕ). lists_end bytes n end) left ∙ ap (λ (n : ℕ). lists_end bytes (count - (i + 1)) n) (omega arith)

-- a list that is left isn't past the end of all
pub list_within : (bytes : List ℕ) (count i at end : ℕ) → i < count → lists_end bytes (count - i) end ≡ lists_end bytes count at
    → lists_end bytes count at ≤ length bytes → end + (2 + 4 * u16_at bytes end) ≤ length bytes
list_within bytes count i at end short same within =
    omega (arith, within, same, next_list bytes count i end short, lists_go_on bytes (count - (i + 1)) (end + (2 + 4 * u16_at bytes end)))

-- one more list
pub lists_more : (bytes : List ℕ) (lists : List (List ℕ)) (statuses : List ℕ) (at end next : ℕ) → AreListsAt bytes lists at end
    → Stand bytes (list_bytes statuses) end next → FitsList statuses → AreListsAt bytes (lists ++ statuses ∷ []) at next
lists_more bytes lists statuses at end next are stand fits = record {
  stand =
      stand_both bytes (flat_map list_bytes lists) (list_bytes statuses) at end next are.stand stand
      ∙ ap (λ (l : List ℕ). l ++ drop next bytes) (flat_map_more list_bytes [] lists statuses);
  fit = all_append FitsList lists (statuses ∷ []) are.fit (fits, tt);
}

-- the bytes of one more row
row_bytes_more : (size w : ℕ) (rows : List RowHead) (head : RowHead) (cells added : List ℕ) → length cells ≡ length rows * w → length added ≡ w
    → row_bytes size w (rows ++ head ∷ []) (cells ++ added) ≡ row_bytes size w rows cells ++ (head_bytes head ++ flat_map (little_endian size) added)
row_bytes_more size w [] head cells added whole many =
    let none : cells ≡ [] = nil_from_length cells (omega (arith, whole)) in
    let all : take w added ≡ added = take_all w added (omega (arith, many)) in
    ap (λ (cs : List ℕ). row_bytes size w (head ∷ []) (cs ++ added)) none ∙ append-nil (head_bytes head ++ flat_map (little_endian size) (take w added))
    ∙ ap (λ (cs : List ℕ). head_bytes head ++ flat_map (little_endian size) cs) all
row_bytes_more size w (first ∷ rows) head cells added whole many =
    let enough : w ≤ length cells = omega (arith, whole) in
    let front : take w (cells ++ added) ≡ take w cells = take-append-le w cells added enough in
    let back : drop w (cells ++ added) ≡ drop w cells ++ added = drop-append-le w cells added enough in
    ap (λ (cs : List ℕ). head_bytes first ++ flat_map (little_endian size) cs ++ row_bytes size w (rows ++ head ∷ []) (drop w (cells ++ added))) front
    ∙ ap (λ (cs : List ℕ). head_bytes first ++ flat_map (little_endian size) (take w cells) ++ row_bytes size w (rows ++ head ∷ []) cs) back
    ∙ ap (λ (l : List ℕ). head_bytes first ++ flat_map (little_endian size) (take w cells) ++ l)
    (row_bytes_more size w rows head (drop w cells) added (omega (arith, whole, length-drop w cells)) many)
    ∙ sym (append_assoc (head_bytes first ++ flat_map (little_endian size) (take w cells)) (row_bytes size w rows (drop w cells))
    (head_bytes head ++ flat_map (little_endian size) added))

-- one more row
pub rows_more : (size : ℕ) (bytes : List ℕ) (w i : ℕ) (rows : List RowHead) (head : RowHead) (cells cells' : List ℕ) (at start : ℕ)
    → start ≡ at + i * (8 + size * w) → AreRowsAt size bytes w i rows cells at → Stand bytes (head_bytes head) start (start + 8) → FitsHead head
    → AreCellsAt size bytes cells cells' (start + 8) w → AreRowsAt size bytes w (i + 1) (rows ++ head ∷ []) cells' at
rows_more size bytes w i rows head cells cells' at start here are stand fits more =
    let added : List ℕ = more.added in
    let long : length (rows ++ head ∷ []) ≡ i + 1 = omega (arith, are.many, length-append rows (head ∷ [])) in
    let cells_long : length cells' ≡ (i + 1) * w = omega (arith, ap length more.are, length-append cells added, more.many, are.whole) in
    let end : start + 8 + size * w ≡ at + rows_size size (i + 1) w = omega (arith, here) in
    let whole : length cells ≡ length rows * w = are.whole ∙ ap (λ (n : ℕ). n * w) (sym are.many) in
    let bytes_are : row_bytes size w (rows ++ head ∷ []) cells' ≡ row_bytes size w rows cells ++ (head_bytes head ++ flat_map (little_endian size) added) =
    ap (λ (cs : List ℕ). row_bytes size w (rows ++ head ∷ []) cs) more.are ∙ row_bytes_more size w rows head cells added whole more.many in
    let row : Stand bytes (head_bytes head ++ flat_map (little_endian size) added) start (at + rows_size size (i + 1) w) =
    subst (λ (n : ℕ). Stand bytes (head_bytes head ++ flat_map (little_endian size) added) start n) end
    (stand_both bytes (head_bytes head) (flat_map (little_endian size) added) start (start + 8) (start + 8 + size * w) stand more.stand) in
    let before : Stand bytes (row_bytes size w rows cells) at start =
    subst (λ (n : ℕ). Stand bytes (row_bytes size w rows cells) at n) (sym here) are.stand in
    record {
      stand =
          stand_both bytes (row_bytes size w rows cells) (head_bytes head ++ flat_map (little_endian size) added) at start (at + rows_size size (i + 1) w)
          before row
          ∙ ap (λ (l : List ℕ). l ++ drop (at + rows_size size (i + 1) w) bytes) (sym bytes_are);
      many = long;
      whole = cells_long;
      fit = all_append FitsHead rows (head ∷ []) are.fit (fits, tt);
      fit_cells = subst (AllByRecursion (λ cell. cell < 256 ^ size)) (sym more.are) (all_append (λ cell. cell < 256 ^ size) cells added are.fit_cells more.fit);
    }
