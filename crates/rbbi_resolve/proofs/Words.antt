-- The counts of a quoted sequence are those of its characters.
use Rattle.std.proofs.Common.{◌≡◌, ℕ, ◌<◌, ◌≤◌, false, eqb, List, [], ◌∷◌, length, refl, sym, arith, rules}
use Rattle.rbbi_resolve.specs.Meanings.{leaves_in, spells_empty}
use Rattle.rbbi_resolve.specs.Expressions.{word_of, height_of_word}

pub leaves_in-word_of : (word : List ℕ) → leaves_in (word_of word) ≡ length word
leaves_in-word_of [] = refl
leaves_in-word_of (c ∷ []) = refl
leaves_in-word_of (c ∷ d ∷ word) = let e = leaves_in-word_of (d ∷ word) in omega arith

pub height-long : (word : List ℕ) → 1 < length word → height_of_word word ≡ 1
height-long [] long = absurd (omega arith)
height-long (c ∷ []) long = absurd (omega arith)
height-long (c ∷ d ∷ word) long = refl

pub height-short : (word : List ℕ) → length word ≤ 1 → height_of_word word ≡ 0
height-short [] short = refl
height-short (c ∷ []) short = refl
height-short (c ∷ d ∷ word) short = absurd (omega arith)

pub spells_empty-word_of : (word : List ℕ) → spells_empty (word_of word) ≡ eqb (length word) 0
spells_empty-word_of [] = refl
spells_empty-word_of (c ∷ []) = refl
spells_empty-word_of (c ∷ d ∷ word) = let e : eqb (length (c ∷ d ∷ word)) 0 ≡ false = search rules in sym e
