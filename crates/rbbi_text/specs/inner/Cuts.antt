-- Pieces while they are made, the piece in which a place is found, and what an edit leaves of the pieces that it touches.
use Rattle.std.specs.Prelude.{◌≡◌, ℕ, ◌+◌, ◌-◌, ◌*◌, ◌≤◌, ◌<◌, List, [], ◌++◌, map, length, take, drop, slice_index, slice_index_or}
use Rattle.std.specs.List.{AllByRecursion, splice}
use Rattle.rbbi_model.specs.Spelling.{joined}
use Rattle.rbbi_text.specs.Cuts.{starts_from, IsFilled, AreCut}

-- the pieces make a text, and these are their starts
abbrev pub AreWholeCut : List (List ℕ) → List ℕ → Type 0
AreWholeCut pieces starts = AreCut pieces starts (length (joined pieces))

-- full pieces, and a piece to which characters are added
pub record AreSoFar (pieces : List (List ℕ)) (last : List ℕ) : Type 0 where
  pub full : AllByRecursion IsFilled pieces
  pub long : length (joined pieces) ≡ 1024 * length pieces
  pub few : length pieces ≤ 16383
  pub small : length last ≤ 1024

-- they make the characters, and there is room for one more
pub record HaveRoom (characters : List ℕ) (pieces : List (List ℕ)) (last : List ℕ) : Type 0 where
  pub so_far : AreSoFar pieces last
  pub same : joined pieces ++ last ≡ characters
  pub room : length last < 1024

-- The place is in the piece with this number, or at its end where it is the last.
pub record IsIn (starts : List ℕ) (piece place : ℕ) : Type 0 where
  pub within : piece < length starts
  pub begins : slice_index starts piece ≤ place
  pub ends : piece + 1 < length starts → place < slice_index starts (piece + 1)

-- The place is in the piece with this number, and in none of those before.
pub record IsFound (pieces : List (List ℕ)) (starts : List ℕ) (piece place : ℕ) : Type 0 where
  pub within : piece < length pieces
  pub within_starts : piece < length starts
  pub begins : slice_index starts piece ≤ place
  pub next : piece + 1 < length starts → place < slice_index starts (piece + 1)
  pub at_most : place ≤ slice_index starts piece + length (slice_index_or pieces piece [])
  pub inside : place < length (joined pieces) → place < slice_index starts piece + length (slice_index_or pieces piece [])

-- places after an edit: less those of the characters that were removed, and more by those that were added
abbrev pub shifted : ℕ → ℕ → List ℕ → List ℕ
shifted removed added starts = map (λ start. start - removed + added) starts

-- the pieces with others in place of those from the first to the one past the last
abbrev pub pieces_with : List (List ℕ) → ℕ → ℕ → List (List ℕ) → List (List ℕ)
pieces_with pieces first past new = take first pieces ++ (new ++ drop past pieces)

-- where they start
abbrev pub starts_with_new : List ℕ → ℕ → ℕ → List (List ℕ) → ℕ → ℕ → List ℕ
starts_with_new starts first past new removed added =
    take first starts ++ (starts_from (slice_index starts first) new ++ shifted removed added (drop past starts))

-- the piece with this number, with a word in place of so many characters from a place
abbrev pub edited_piece : List (List ℕ) → ℕ → ℕ → ℕ → List ℕ → List ℕ
edited_piece pieces first from removed inserted = splice (slice_index_or pieces first []) from (from + removed) inserted

-- What an edit leaves of the pieces that it touches: the characters in front, the word, and those from the place `end` on, up to the piece `past`.
pub record IsMiddle (pieces : List (List ℕ)) (starts front inserted : List ℕ) (end : ℕ) (characters : List ℕ) (past : ℕ) : Type 0 where
  pub same : characters ++ joined (drop past pieces) ≡ front ++ (inserted ++ drop end (joined pieces))
  pub past_within : past ≤ length pieces
  pub past_within_starts : past ≤ length starts
  pub behind : end ≤ length (joined (take past pieces))
  pub behind_first : (first : ℕ) → first < length pieces → slice_index starts first ≤ end → first < past
  pub enough : past < length pieces → 256 ≤ length characters
