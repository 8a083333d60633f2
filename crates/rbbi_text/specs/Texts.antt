-- Lists of characters that a text may be.
use Rattle.std.specs.Prelude.{◌≤◌, List, ℕ, length}
use Rattle.rbbi_model.specs.Words.{IsText, most_characters}

-- characters, and no more of them than a text may have
abbrev pub IsShortText : List ℕ → Type 0
IsShortText x = IsText x × (length x ≤ most_characters)
