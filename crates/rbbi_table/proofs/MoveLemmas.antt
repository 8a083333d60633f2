-- One more row's moves.
use Rattle.std.proofs.Common.{◌≡◌, ℕ, ◌+◌, ◌-◌, ◌*◌, ◌<◌, ◌≤◌, List, [], ◌∷◌, ◌++◌, length, take, drop, map, get_or, sym, ap, ◌∙◌, subst, ⊎_elim, arith}
use Rattle.std.proofs.lemmas.Bool.{cases_eq}
use Rattle.std.proofs.lemmas.List.{get_or_append_left, get_or-append_right, get_or-take, get_or-drop, get_or-map, length-take, length-drop, length-append}
use Rattle.std.proofs.lemmas.List.{length-map}
use Rattle.std.proofs.Math.Nat.{mul-le-mul_right}
use Rattle.rbbi_model.specs.Tables.{RowHead, Table, empty_head}
use Rattle.rbbi_table.specs.Parts.{rows_of, AreNextRows}
use Rattle.rbbi_table.specs.Kept.{move_flags, HasMoves, AreFirstMoves}
use Rattle.rbbi_table.specs.inner.Moves.{row_moves}

-- the next rows of a row
abbrev pub steps_of : ℕ → List ℕ → ℕ → List ℕ
steps_of categories cells row = take (row * categories + categories - row * categories) (drop (row * categories) cells)

-- rows before another take no more room than those before the next
pub row_end : (row count width : ℕ) → row < count → row * width + width ≤ count * width
row_end row count width short = let up : (row + 1) * width ≤ count * width = mul-le-mul_right width (let e : row + 1 ≤ count = omega arith in e) in omega arith

pub steps_long : (categories : ℕ) (cells : List ℕ) (row count : ℕ) → length cells ≡ count * categories → row < count →
    length (steps_of categories cells row) ≡ categories
steps_long categories cells row count all short =
    omega (
      arith,
      length-take (row * categories + categories - row * categories) (drop (row * categories) cells),
      length-drop (row * categories) cells,
      row_end row count categories short,
      all,
    )

pub steps_are : (categories : ℕ) (cells : List ℕ) (row k : ℕ) → k < categories →
    get_or (steps_of categories cells row) k 0 ≡ get_or cells (row * categories + k) 0
steps_are categories cells row k short =
    get_or-take (row * categories + categories - row * categories) (drop (row * categories) cells) k 0 (omega arith) ∙ get_or-drop (row * categories) cells k 0

module _ (categories : ℕ) (rows : List RowHead) (cells moves : List ℕ) (row : ℕ) (steps : AreNextRows categories rows cells) (within : row < length rows)
    (first : AreFirstMoves (rows_of categories rows cells []) moves row) where
  abbrev grid : Table
  grid = rows_of categories rows cells []

  abbrev own : List ℕ
  own = steps_of categories cells row

  abbrev head : RowHead
  head = get_or rows row empty_head

  abbrev entry : ℕ → ℕ
  entry next = next * (categories + 3) * 8 + move_flags (get_or rows next empty_head) next

  abbrev moved : List ℕ
  moved = map entry own

  abbrev tail : List ℕ
  tail = head.fronts ∷ head.list ∷ head.accept ∷ []

  long : length own ≡ categories
  long = steps_long categories cells row (length rows) steps.all within

  long_moved : length moved ≡ categories
  long_moved = length-map own entry ∙ long

  old_row : (r : ℕ) → r < row → HasMoves grid (moves ++ (moved ++ tail)) r
  old_row r short =
      let has = first.rows r short in
      let room = row_end r row (categories + 3) short in
      let keep = λ (i : ℕ) (inside : i < length moves). get_or_append_left moves (moved ++ tail) 0 i inside in
      record {
        each = λ category low. keep (r * (categories + 3) + category) (omega (arith, first.all, room, low)) ∙ has.each category low;
        fronts = keep (r * (categories + 3) + categories) (omega (arith, first.all, room)) ∙ has.fronts;
        list = keep (r * (categories + 3) + categories + 1) (omega (arith, first.all, room)) ∙ has.list;
        accept = keep (r * (categories + 3) + categories + 2) (omega (arith, first.all, room)) ∙ has.accept;
      }

  -- what stands k places after the rows before
  behind : (k : ℕ) → get_or (moves ++ (moved ++ tail)) (row * (categories + 3) + k) 0 ≡ get_or (moved ++ tail) k 0
  behind k =
      get_or-append_right moves (moved ++ tail) (row * (categories + 3)) (row * (categories + 3) + k) 0 first.all (omega arith)
      ∙ ap (λ n. get_or (moved ++ tail) n 0) (let e : row * (categories + 3) + k - row * (categories + 3) ≡ k = omega arith in e)

  -- what stands k places after the moves of the row
  head_at : (k place : ℕ) → place ≡ row * (categories + 3) + (categories + k) → get_or (moves ++ (moved ++ tail)) place 0 ≡ get_or tail k 0
  head_at k place is =
      ap (λ n. get_or (moves ++ (moved ++ tail)) n 0) is ∙ behind (categories + k)
      ∙ get_or-append_right moved tail categories (categories + k) 0 long_moved (omega arith)
      ∙ ap (λ n. get_or tail n 0) (let e : categories + k - categories ≡ k = omega arith in e)

  new_row : HasMoves grid (moves ++ (moved ++ tail)) row
  new_row = record {
    each = λ category low.
        behind category
        ∙ get_or_append_left moved tail 0 category (omega (arith, low, long_moved))
        ∙ get_or-map entry own category 0 0 (omega (arith, long, low))
        ∙ ap entry (steps_are categories cells row category low);
    fronts = head_at 0 _ (omega arith);
    list = head_at 1 _ (omega arith);
    accept = head_at 2 _ (omega arith);
  }

  more_moves : AreFirstMoves grid (moves ++ (moved ++ tail)) (row + 1)
  more_moves = record {
    all = omega (arith, length-append moves (moved ++ tail), length-append moved tail, long_moved, first.all);
    rows = λ r short.
        ⊎_elim
        (λ same. subst (λ n. HasMoves grid (moves ++ (moved ++ tail)) n) (sym same) new_row)
        (λ other. old_row r (omega arith))
        (cases_eq r row);
  }

  pub push_moves : AreFirstMoves grid (moves ++ row_moves (length own + 3) rows own head) (row + 1)
  push_moves = subst (λ n. AreFirstMoves grid (moves ++ row_moves (n + 3) rows own head) (row + 1)) (sym long) more_moves
