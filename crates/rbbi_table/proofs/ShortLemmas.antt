-- The short moves, row by row, and one search over them.
use Rattle.std.proofs.Common.{◌≡◌, ℕ, ◌+◌, ◌*◌, ◌/◌, ◌%◌, ◌<◌, ◌≤◌, ◌⊎◌, List, [], length}
use Rattle.std.proofs.Common.{get_or, sym, ap, ◌∙◌, subst, inl, ⊎_elim, arith}
use Rattle.std.proofs.lemmas.Bool.{cases_eq}
use Rattle.rbbi_model.specs.Tables.{RowHead, Table, empty_head}
use Rattle.rbbi_table.specs.Parts.{rows_of}
use Rattle.rbbi_table.specs.Kinds.{AreKinds}
use Rattle.rbbi_table.specs.Short.{short_move, HasShortMoves, AreFirstShortMoves}
use Rattle.rbbi_table.proofs.KindLemmas.{same_kinds}
use Rattle.rbbi_table.proofs.MoveLemmas.{row_end, steps_of, steps_are}

-- a stride is a multiple of 4 above the categories
pub stride_above : (categories : ℕ) → categories < (categories + 4) / 4 * 4
stride_above categories = omega arith

-- a multiple of 4 and a kind
pub split_move : (row quarter kind move : ℕ) → kind < 4 → move ≡ row * (quarter * 4) + kind → (move % 4 ≡ kind) × (move / 4 * 4 ≡ row * (quarter * 4))
split_move row quarter kind move few is =
    let same : row * (quarter * 4) ≡ row * quarter * 4 = grind arith in
    let whole : move ≡ row * quarter * 4 + kind = omega (arith, is, same) in (
      omega (arith, whole, few),
      omega (arith, whole, few, same),
    )

-- what a row's numbers are once they are written
pub record IsWritten (moves moves' : List ℕ) (place width stride list : ℕ) (steps kinds : List ℕ) : Type 0 where
  pub list_is : get_or moves' place 0 ≡ list
  pub each : (k : ℕ) → k < width → get_or moves' (place + k + 1) 0 ≡ get_or steps k 0 * stride + get_or kinds k 0
  pub others : (i : ℕ) → (i < place) ⊎ (place + width < i) → get_or moves' i 0 ≡ get_or moves i 0

module _ (categories : ℕ) (rows : List RowHead) (cells moves moves' kinds : List ℕ) (row : ℕ) (within : row < length rows)
    (are : AreKinds categories rows cells (λ k. get_or kinds k 0) row) (stride : ℕ) (stride_is : stride ≡ (categories + 4) / 4 * 4)
    (written : IsWritten moves moves' (row * stride) categories stride (get_or rows row empty_head).list (steps_of categories cells row) kinds) where
  abbrev grid : Table
  grid = rows_of categories rows cells []

  abbrev quarter : ℕ
  quarter = (categories + 4) / 4

  own_move : (k : ℕ) → k < categories →
      short_move grid moves' row k ≡ get_or cells (row * categories + k) 0 * (quarter * 4) + get_or kinds k 0
  own_move k short =
      ap (λ n. get_or moves' (row * n + k + 1) 0) (sym stride_is)
      ∙ written.each k short
      ∙ ap (λ n. n * stride + get_or kinds k 0) (steps_are categories cells row k short)
      ∙ ap (λ n. get_or cells (row * categories + k) 0 * n + get_or kinds k 0) stride_is

  own_row : HasShortMoves grid moves' row
  own_row = record {
    list = ap (λ n. get_or moves' (row * n) 0) (sym stride_is) ∙ written.list_is;
    each = λ k short.
        let split = split_move (get_or cells (row * categories + k) 0) quarter (get_or kinds k 0) (short_move grid moves' row k) (are k short).few
        (own_move k short) in
        own_move k short ∙ ap (λ n. get_or cells (row * categories + k) 0 * (quarter * 4) + n) (sym split.0);
    kinds = same_kinds (λ k. get_or kinds k 0) (λ k. short_move grid moves' row k % 4)
        (λ k short. (split_move (get_or cells (row * categories + k) 0) quarter (get_or kinds k 0) (short_move grid moves' row k) (are k short).few
        (own_move k short)).0) are;
  }

  old_row : (r : ℕ) → r < row → HasShortMoves grid moves r → HasShortMoves grid moves' r
  old_row r less has =
      let room : r * (quarter * 4) + quarter * 4 ≤ row * (quarter * 4) = row_end r row (quarter * 4) less in
      let wide = stride_above categories in
      let place : row * stride ≡ row * (quarter * 4) = ap (λ n. row * n) stride_is in
      let keep = λ (i : ℕ) (low : i < row * (quarter * 4)). written.others i (inl (omega (arith, low, place))) in
      let same = λ (k : ℕ) (short : k < categories). keep (r * (quarter * 4) + k + 1) (omega (arith, room, wide, short)) in
      record {
        list = keep (r * (quarter * 4)) (omega (arith, room, wide)) ∙ has.list;
        each = λ k short.
            same k short ∙ has.each k short
            ∙ ap (λ n. get_or cells (r * categories + k) 0 * (quarter * 4) + n % 4) (sym (same k short));
        kinds = same_kinds (λ k. short_move grid moves r k % 4) (λ k. short_move grid moves' r k % 4) (λ k short. ap (λ n. n % 4) (same k short)) has.kinds;
      }

  pub one_more_row : AreFirstShortMoves grid moves row → AreFirstShortMoves grid moves' (row + 1)
  one_more_row first r short =
      ⊎_elim
      (λ same. subst (λ n. HasShortMoves grid moves' n) (sym same) own_row)
      (λ other. let less : r < row = omega (arith, short, other) in old_row r less (first r less))
      (cases_eq r row)
