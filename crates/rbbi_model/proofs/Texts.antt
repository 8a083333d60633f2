-- Parts of texts are texts, and texts are words.
use Rattle.std.proofs.Common.{ℕ, zero, suc, List, [], ◌∷◌, ◌++◌, take, drop}
use Rattle.rbbi_model.specs.Words.{IsWord, IsText}

pub text_take : (n : ℕ) (x : List ℕ) → IsText x → IsText (take n x)
text_take zero x text = tt
text_take (suc n) [] text = tt
text_take (suc n) (c ∷ x) text = (text.0, text_take n x text.1)

pub text_drop : (n : ℕ) (x : List ℕ) → IsText x → IsText (drop n x)
text_drop zero x text = text
text_drop (suc n) [] text = tt
text_drop (suc n) (c ∷ x) text = text_drop n x text.1

pub text_append : (x y : List ℕ) → IsText x → IsText y → IsText (x ++ y)
text_append [] y text text' = text'
text_append (c ∷ x) y text text' = (text.0, text_append x y text.1 text')

pub word_take : (n : ℕ) (x : List ℕ) → IsText x → IsWord (take n x)
word_take zero x text = tt
word_take (suc n) [] text = tt
word_take (suc n) (c ∷ x) text = (text.0.0, word_take n x text.1)
