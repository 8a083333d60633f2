-- Quoted sequences.
use Prim.Native.Char.{code}
use Rattle.std.specs.Prelude.{ℕ, ◌≡◌, ◌+◌, ◌⊎◌, false, ◌==◌, IsTrue, List, [], ◌∷◌}
use Rattle.rbbi_lex.specs.Characters.{is_line_end}
use Rattle.rbbi_lex.specs.Points.{CharacterAt, is_at}

-- within quotes, `''` from one place to another stands for one quote
abbrev pub WritesQuote : List ℕ → ℕ → ℕ → ℕ → Type 0
WritesQuote x i j c = IsTrue (is_at x i (code "'")) × IsTrue (is_at x (i + 1) (code "'")) × (j ≡ i + 2) × (c ≡ code "'")

-- and each other character but a line terminator for itself
abbrev pub WritesItself : List ℕ → ℕ → ℕ → ℕ → Type 0
WritesItself x i j c =
    CharacterAt x i c × ((c == code "'") ≡ false) × (is_line_end c ≡ false) × (j ≡ i + 1)

-- within quotes this character is written from one place to another
abbrev pub IsQuoted : List ℕ → ℕ → ℕ → ℕ → Type 0
IsQuoted x i j c = WritesQuote x i j c ⊎ WritesItself x i j c

-- from the first place on these characters are written, and a quote that is not the first of a pair
-- stands at the second
abbrev pub QuotesUpTo : List ℕ → ℕ → List ℕ → ℕ → Type 0
QuotesUpTo x i [] j = (i ≡ j) × IsTrue (is_at x j (code "'")) × (is_at x (j + 1) (code "'") ≡ false)
QuotesUpTo x i (c ∷ word) j = (next : ℕ) × IsQuoted x i next c × QuotesUpTo x next word j
