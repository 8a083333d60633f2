-- What the ranges of categories promise.
use Rattle.std.specs.Prelude.{◌≡◌, ℕ, ◌<◌, ◌≤◌, List}
use Rattle.rbbi_model.specs.Words.{IsCodePoint}
use Rattle.rbbi_model.specs.Tables.{CategoryRange, category_of}

-- each code point has one of so many categories
abbrev pub HaveCategoriesBelow : ℕ → List CategoryRange → Type 0
HaveCategoriesBelow categories ranges = (c : ℕ) → category_of ranges c < categories

-- each category but 0 is that of some code point
abbrev pub AreUsed : ℕ → List CategoryRange → Type 0
AreUsed categories ranges =
    (category : ℕ) → 1 ≤ category → category < categories → (c : ℕ) × IsCodePoint c × (category_of ranges c ≡ category)
