-- A text cut into pieces, and where each piece starts.
use Rattle.std.specs.Prelude.{◌≡◌, ℕ, ◌+◌, ◌≤◌, List, [], ◌∷◌, length}
use Rattle.rbbi_model.specs.Spelling.{joined}
use Rattle.rbbi_text.specs.Texts.{IsShortText}

-- where the pieces start, the first at the place given
abbrev pub starts_from : ℕ → List (List ℕ) → List ℕ
starts_from start [] = []
starts_from start (piece ∷ pieces) = start ∷ starts_from (start + length piece) pieces

-- the piece is between a quarter full and full
abbrev pub IsFilled : List ℕ → Type 0
IsFilled piece = (256 ≤ length piece) × (length piece ≤ 1024)

-- all pieces but the last are between a quarter full and full, and the last isn't more than full
abbrev pub AreFilled : List (List ℕ) → Type 0
AreFilled [] = Unit {0}
AreFilled (piece ∷ []) = length piece ≤ 1024
AreFilled (piece ∷ next ∷ pieces) = IsFilled piece × AreFilled (next ∷ pieces)

-- One piece or more make a text.
pub record ArePieces (pieces : List (List ℕ)) : Type 0 where
  pub some : 1 ≤ length pieces
  pub filled : AreFilled pieces
  pub text : IsShortText (joined pieces)

-- and these are their starts and the number of their characters
pub record AreCut (pieces : List (List ℕ)) (starts : List ℕ) (len : ℕ) : Type 0 where
  pub whole : ArePieces pieces
  pub begin : starts ≡ starts_from 0 pieces
  pub long : len ≡ length (joined pieces)
