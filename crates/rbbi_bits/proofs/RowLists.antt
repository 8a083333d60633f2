-- Vectors of rows, seen as lists of rows.
use Rattle.std.proofs.Common.{◌≡◌, ℕ, ◌<◌, List, [], length, get_or, sym, ap, ◌∙◌, Vec, Global}
use Rattle.std.proofs.lemmas.List.{get_or-map, length-map, get_or_default}
use Rattle.rbbi_bits.specs.NumberedRows.{listed_row, items_of}

pub items_at : (rows : List (Vec ℕ Global)) (i : ℕ) (row : Vec ℕ Global) → i < length rows → row ≡ get_or rows i row → listed_row (items_of rows) i ≡ row.items
items_at rows i row short is = get_or-map (λ r. r.items) rows i row [] short ∙ ap (λ (r : Vec ℕ Global). r.items) (sym is)

pub items_many : (rows : List (Vec ℕ Global)) → length (items_of rows) ≡ length rows
items_many rows = length-map rows (λ r. r.items)

-- the row that was read from a list of rows
pub found_row : (rows : List (List ℕ)) (i : ℕ) (row : List ℕ) → i < length rows → row ≡ get_or rows i row → listed_row rows i ≡ row
found_row rows i row short is = get_or_default rows i [] row short ∙ sym is
