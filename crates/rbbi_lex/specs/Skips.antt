-- What is skipped between tokens.
use Prim.Native.Char.{code}
use Rattle.std.specs.Prelude.{ℕ, zero, suc, ◌≡◌, ◌+◌, ◌⊎◌, IsTrue, List, slice_get}
use Rattle.unicode.specs.Binary.{is_pattern_white_space}
use Rattle.rbbi_lex.specs.declared.state.State.{State}
use Rattle.rbbi_lex.specs.declared.stretch.Stretch.TheVariants.{CommentText}
use Rattle.rbbi_lex.specs.Characters.{passes}
use Rattle.rbbi_lex.specs.Stretches.{stretch_end}
use Rattle.rbbi_lex.specs.Points.{is_at}

-- one character of white space
abbrev pub IsWhite : List ℕ → ℕ → ℕ → Type 0
IsWhite x i j = IsTrue (passes is_pattern_white_space (slice_get x i)) × (j ≡ i + 1)

-- a comment, outside of sets: `#` and what follows up to a line terminator, which isn't part of it,
-- or the end
abbrev pub IsComment : List ℕ → State → ℕ → ℕ → Type 0
IsComment x state i j =
    (state.depth ≡ 0) × IsTrue (is_at x i (code "#")) × (j ≡ stretch_end CommentText x (i + 1))

-- the characters from one place to another are skipped at once
abbrev pub Piece : List ℕ → State → ℕ → ℕ → Type 0
Piece x state i j = IsWhite x i j ⊎ IsComment x state i j

-- so many pieces lie between the places, and none begins at the second
abbrev pub SkippedIn : List ℕ → State → ℕ → ℕ → ℕ → Type 0
SkippedIn x state zero i k = (i ≡ k) × ((j : ℕ) → ¬ Piece x state k j)
SkippedIn x state (suc n) i k = (j : ℕ) × Piece x state i j × SkippedIn x state n j k

-- pieces alone lie between the places, and none begins at the second
abbrev pub Skipped : List ℕ → State → ℕ → ℕ → Type 0
Skipped x state i k = (n : ℕ) × SkippedIn x state n i k
