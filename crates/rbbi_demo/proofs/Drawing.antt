-- States and draws, one behind another, and the text that is drawn.
use Rattle.std.proofs.Common.{◌≡◌, ◌≤◌, ℕ, zero, suc, ◌+◌, ◌/◌, ◌%◌, List, [], ◌∷◌, ◌++◌, length, refl, sym, ap, ◌∙◌, add-one, add-zero, add-suc, get_or}
use Rattle.std.proofs.Common.{length-append, arith}
use Rattle.std.specs.Prelude.{slice_index}
use Rattle.rbbi_model.specs.Words.{IsCharacter, IsText}
use Rattle.rbbi_model.proofs.Texts.{text_append}
use Rattle.std.specs.List.{AllByRecursion}
use Rattle.std.specs.Char.{IsScalar}
use Rattle.rbbi_demo.specs.Generator.{next_state, state_drawn, drawn, characters, drawn_character, drawn_text}

-- before any draw
pub state_none : (s : ℕ) → state_drawn s 0 ≡ s
unfolding state_drawn
state_none s = refl

-- a draw more
pub state_more : (s n : ℕ) → state_drawn s (n + 1) ≡ next_state (state_drawn s n)
unfolding state_drawn
state_more s n = ap (state_drawn s) (add-one n)

-- draws behind draws
pub state_behind : (s m n : ℕ) → state_drawn (state_drawn s m) n ≡ state_drawn s (m + n)
unfolding state_drawn
state_behind s m zero = ap (state_drawn s) (sym (add-zero m))
state_behind s m (suc n) = ap next_state (state_behind s m n) ∙ ap (state_drawn s) (sym (add-suc m n))

-- three draws, one by one
pub third_state : (s : ℕ) → next_state (next_state (next_state s)) ≡ state_drawn s 3
unfolding state_drawn
third_state s = refl

pub drawn_second : (s : ℕ) → drawn (next_state s) 1 ≡ drawn s 2
unfolding drawn state_drawn
drawn_second s = refl

pub drawn_behind : (s m n : ℕ) → drawn (state_drawn s m) n ≡ drawn s (m + n)
unfolding drawn
drawn_behind s m n = ap (λ t. t / 256) (state_behind s m n)

pub character_behind : (s m n : ℕ) → drawn_character (state_drawn s m) n ≡ drawn_character s (m + n)
unfolding drawn_character
character_behind s m n = ap (λ d. slice_index characters (d % 8)) (drawn_behind s m n)

pub character_third : (s : ℕ) → drawn_character (next_state (next_state s)) 1 ≡ drawn_character s 3
unfolding drawn_character drawn state_drawn
character_third s = refl

-- a character more
pub text_more : (s n : ℕ) (x : List ℕ) (c : ℕ) → x ≡ drawn_text s n ++ c ∷ [] → c ≡ drawn_character (state_drawn s n) 1 → x ≡ drawn_text s (n + 1)
text_more s n x c is drawn =
    is ∙ ap (λ d. drawn_text s n ++ d ∷ []) (drawn ∙ character_behind s n 1 ∙ ap (drawn_character s) (add-one n)) ∙ ap (drawn_text s) (sym (add-one n))

pub length-drawn_text : (s n : ℕ) → length (drawn_text s n) ≡ n
length-drawn_text s zero = refl
length-drawn_text s (suc n) = length-append (drawn_text s n) (drawn_character s (suc n) ∷ []) ∙ ap (λ k. k + 1) (length-drawn_text s n) ∙ add-one n

-- what is drawn is characters
one_of : (xs : List ℕ) (k : ℕ) → IsText xs → IsCharacter (get_or xs k 0)
one_of [] k text = (omega arith, λ (low, high). omega arith)
one_of (x ∷ xs) zero text = text.0
one_of (x ∷ xs) (suc k) text = one_of xs k text.1

low_character : (c : ℕ) → c ≤ 0xD7FF → IsCharacter c
low_character c low = (omega arith, λ (from, to). omega arith)

are_characters : IsText characters
are_characters = (
  low_character 97 (omega arith),
  (
    low_character 98 (omega arith),
    (
      low_character 99 (omega arith),
      (
        low_character 49 (omega arith),
        (low_character 50 (omega arith), (low_character 32 (omega arith), (low_character 46 (omega arith), (low_character 776 (omega arith), tt)))),
      ),
    ),
  ),
)

pub is_character : (s n : ℕ) → IsCharacter (drawn_character s n)
unfolding drawn_character
is_character s n = one_of characters (drawn s n % 8) are_characters

pub text_is_drawn : (s n : ℕ) → IsText (drawn_text s n)
text_is_drawn s zero = tt
text_is_drawn s (suc n) = text_append (drawn_text s n) (drawn_character s (suc n) ∷ []) (text_is_drawn s n) (is_character s (suc n), tt)

-- what is drawn is characters of the language
scalar_of : (xs : List ℕ) (k : ℕ) → AllByRecursion IsScalar xs → IsScalar (get_or xs k 0)
scalar_of [] k scalars = refl
scalar_of (x ∷ xs) zero scalars = scalars.0
scalar_of (x ∷ xs) (suc k) scalars = scalar_of xs k scalars.1

are_scalars : AllByRecursion IsScalar characters
are_scalars = (refl, (refl, (refl, (refl, (refl, (refl, (refl, (refl, tt))))))))

pub is_scalar : (s n : ℕ) → IsScalar (drawn_character s n)
unfolding drawn_character
is_scalar s n = scalar_of characters (drawn s n % 8) are_scalars
