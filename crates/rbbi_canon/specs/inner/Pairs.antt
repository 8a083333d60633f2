-- Pairs of rows to which texts lead in two tables.
use Rattle.std.specs.Prelude.{◌≡◌, ◌≢◌, ℕ, ◌+◌, ◌<◌, ◌≤◌, List, [], length, slice_index, slice_index_or}
use Rattle.rbbi_model.specs.Words.{IsText}
use Rattle.rbbi_model.specs.Tables.{Table, step, row_after}
use Rattle.rbbi_model.specs.Marks.{marks_of}
use Rattle.rbbi_canon.specs.declared.letters.Letter.{Letter}
use Rattle.rbbi_canon.specs.declared.pairs.Pair.{Pair}
use Rattle.rbbi_canon.specs.inner.Joins.{AreJoinedBy}
use Rattle.rbbi_canon.specs.inner.Letters.{letter_at}

-- the pair with this number
abbrev pub pair_at : List Pair → ℕ → Pair
pair_at pairs k = slice_index_or pairs k (record { this = 0; that = 0; «from» = 0; letter = 0 })

-- a letter leads to the pair from one before it
pub record IsLed (these those : Table) (letters : List Letter) (pairs : List Pair) (k : ℕ) : Type 0 where
  pub before : (pair_at pairs k).from < k
  pub letter : (pair_at pairs k).letter < length letters
  pub this : step these (pair_at pairs (pair_at pairs k).from).this (letter_at letters (pair_at pairs k).letter).this ≡ (pair_at pairs k).this
  pub that : step those (pair_at pairs (pair_at pairs k).from).that (letter_at letters (pair_at pairs k).letter).that ≡ (pair_at pairs k).that

-- the first pair is that of the rows 1, and letters lead to the others
pub record AreReached (these those : Table) (letters : List Letter) (pairs : List Pair) : Type 0 where
  pub some : 1 ≤ length pairs
  pub first_this : (pair_at pairs 0).this ≡ 1
  pub first_that : (pair_at pairs 0).that ≡ 1
  pub rows : (k : ℕ) → k < length pairs → ((pair_at pairs k).this < length these.rows) × ((pair_at pairs k).that < length those.rows)
  pub each : (k : ℕ) → 1 ≤ k → k < length pairs → IsLed these those letters pairs k

-- the text leads to the pair with this number
pub record LeadsToPair (these those : Table) (pairs : List Pair) (number : ℕ) (w : List ℕ) : Type 0 where
  pub is_text : IsText w
  pub this : row_after these w ≡ (pair_at pairs number).this
  pub that : row_after those w ≡ (pair_at pairs number).that
  pub some : 1 ≤ number → w ≢ []

-- the rows to which a letter leads from a pair are joined
abbrev pub AreFollowed : Table → Table → List Letter → List ℕ → Pair → ℕ → Type 0
AreFollowed these those letters labels pair number =
    slice_index labels (step these pair.this (letter_at letters number).this)
    ≡ slice_index labels (length these.rows + step those pair.that (letter_at letters number).that)

-- Rows of pairs are joined and have the same marks, and from the first so many pairs all letters were followed.
pub record AreSearched (these those : Table) (letters : List Letter) (labels : List ℕ) (pairs : List Pair) (next : ℕ) : Type 0 where
  pub reached : AreReached these those letters pairs
  pub joined : AreJoinedBy (length these.rows + length those.rows) labels (length pairs)
      (λ k. (pair_at pairs k).this) (λ k. length these.rows + (pair_at pairs k).that)
  pub marked : (k : ℕ) → k < length pairs → marks_of these (pair_at pairs k).this ≡ marks_of those (pair_at pairs k).that
  pub followed : (k number : ℕ) → k < next → number < length letters → AreFollowed these those letters labels (pair_at pairs k) number
