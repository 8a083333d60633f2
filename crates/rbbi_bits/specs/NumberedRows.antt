-- Rows that are numbered by their place in a list.
use Rattle.std.specs.Prelude.{◌≡◌, ◌≢◌, ◌⊎◌, ℕ, ◌<◌, List, [], ◌∷◌, ◌++◌, length, map, slice_index_or, Vec}
use Rattle.std.specs.Global.{Global}

-- the row with this number, or an empty one past the last
abbrev pub listed_row : List (List ℕ) → ℕ → List ℕ
listed_row rows i = slice_index_or rows i []

-- the row isn't among the others
abbrev pub IsUnlisted : List (List ℕ) → List ℕ → Type 0
IsUnlisted rows row = (i : ℕ) → i < length rows → listed_row rows i ≢ row

-- the rows stay, or one that wasn't among them comes last
abbrev pub KeepsOrAdds : List (List ℕ) → List ℕ → List (List ℕ) → Type 0
KeepsOrAdds old row new = (new ≡ old) ⊎ ((new ≡ old ++ row ∷ []) × IsUnlisted old row)

-- the lists that vectors hold
abbrev pub items_of : List (Vec ℕ Global) → List (List ℕ)
items_of vectors = map (λ vector. vector.items) vectors
