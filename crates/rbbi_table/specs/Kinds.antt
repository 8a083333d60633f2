-- The kinds of a row's moves. A search that has come to a row by moves that forget where they came from, and by others that stay,
-- needn't know its row to find the next one.
use Rattle.std.specs.Prelude.{◌≡◌, ℕ, ◌+◌, ◌*◌, ◌<◌, Bool, ◌==◌, nat_lt, List, slice_index, slice_index_or}
use Rattle.rbbi_model.specs.Tables.{RowHead, empty_head}

-- the next row from a row by a category
abbrev pub next_of : ℕ → List ℕ → ℕ → ℕ → ℕ
next_of categories cells row category = slice_index cells (row * categories + category)

-- some rule ends at the row, and no look-ahead rule
abbrev pub ends_plainly : List RowHead → ℕ → Bool
ends_plainly rows row = (slice_index_or rows row empty_head).accept == 1

-- By a move of kind 0 the row leads where the base row does, and by one of kind 1 back to itself.
pub record IsLikeBy (categories : ℕ) (cells : List ℕ) (kind : ℕ → ℕ) (base row category : ℕ) : Type 0 where
  pub forgets : kind category ≡ 0 → next_of categories cells row category ≡ next_of categories cells base category
  pub stays : kind category ≡ 1 → next_of categories cells row category ≡ row

-- a row that is like a base row, by the kinds of the base row's moves
abbrev pub IsLike : ℕ → List ℕ → (ℕ → ℕ) → ℕ → ℕ → Type 0
IsLike categories cells kind base row = (category : ℕ) → category < categories → IsLikeBy categories cells kind base row category

-- Four kinds: below 3 a rule ends at the row that the move leads to. By kind 0 that row is like the row, and by kind 1 it is the row.
pub record IsKind (categories : ℕ) (rows : List RowHead) (cells : List ℕ) (kind : ℕ → ℕ) (row category : ℕ) : Type 0 where
  pub few : kind category < 4
  pub ends : nat_lt (kind category) 3 ≡ ends_plainly rows (next_of categories cells row category)
  pub forgets : kind category ≡ 0 → IsLike categories cells kind row (next_of categories cells row category)
  pub stays : kind category ≡ 1 → next_of categories cells row category ≡ row

-- kinds of all of the row's moves
abbrev pub AreKinds : ℕ → List RowHead → List ℕ → (ℕ → ℕ) → ℕ → Type 0
AreKinds categories rows cells kind row = (category : ℕ) → category < categories → IsKind categories rows cells kind row category
