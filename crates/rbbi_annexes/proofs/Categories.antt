-- Each character has the properties that its category's first character has.
use Rattle.std.proofs.Common.{◌≡◌, ℕ, Bool, true, false, ◌&&◌, ◌||◌, leb, ltb, ◌<◌, List, [], ◌∷◌, get_or, sym, refl, ap, ◌∙◌, ⊎_elim, arith}
use Rattle.std.proofs.lemmas.Bool.{cases_lt, cond-true, cond-false, le-leb, lt-leb, and_parts, ltb-true}
use Rattle.ucd_table.specs.Steps.{Step, step_value}
use Rattle.ucd_table.proofs.StepsLemmas.{step_value-nil, step_value-here, step_value-later}
use Rattle.ucd_table.proofs.Stepped.{Stepped, zip_stepped}
use Rattle.ucd_table.proofs.Facts.{always, Stepped-always}
use Rattle.rbbi_model.specs.Words.{IsCharacter}
use Rattle.rbbi_model.specs.Tables.{CategoryRange, category_from, category_of}

-- below the start of each range the category of the one before
unfoldable pub steps_of : ℕ → List CategoryRange → List (Step ℕ)
steps_of before [] = []
steps_of before (range ∷ ranges) = (range.start, before) ∷ steps_of range.category ranges

-- the category of the last range
unfoldable pub last_of : ℕ → List CategoryRange → ℕ
last_of before [] = before
last_of before (range ∷ ranges) = last_of range.category ranges

pub category_from-steps : (before : ℕ) (ranges : List CategoryRange) (c : ℕ) →
    category_from before ranges c ≡ step_value (last_of before ranges) (steps_of before ranges) c
unfolding steps_of last_of
category_from-steps before [] c = sym (step_value-nil before c)
category_from-steps before (range ∷ ranges) c =
    let last : ℕ = last_of range.category ranges in
    let later : List (Step ℕ) = steps_of range.category ranges in
    ⊎_elim
    (λ ends.
    cond-false (leb range.start c) (category_from range.category ranges c) before (lt-leb range.start c ends)
    ∙ sym (step_value-here last (range.start, before) later c ends))
    (λ goes.
    cond-true (leb range.start c) (category_from range.category ranges c) before (le-leb range.start c goes)
    ∙ category_from-steps range.category ranges c
    ∙ sym (step_value-later last (range.start, before) later c goes))
    (cases_lt c range.start)

abbrev pub category_stepped : (ranges : List CategoryRange) → Stepped (category_of ranges)
category_stepped ranges = record { default = last_of 0 ranges; steps = steps_of 0 ranges; gives = category_from-steps 0 ranges }

-- the code points that stand for no character
abbrev pub is_surrogate : ℕ → Bool
is_surrogate c = step_value false ((0xD800, false) ∷ (0xE000, true) ∷ []) c

abbrev pub surrogate_stepped : Stepped is_surrogate
surrogate_stepped = record { default = false; steps = (0xD800, false) ∷ (0xE000, true) ∷ []; gives = λ c. refl }

no_surrogate : (c : ℕ) → IsCharacter c → is_surrogate c ≡ false
no_surrogate c is =
    let first : Step Bool = (0xD800, false) in
    let second : Step Bool = (0xE000, true) in
    ⊎_elim
    (λ below. step_value-here false first (second ∷ []) c below)
    (λ from.
    step_value-later false first (second ∷ []) c from
    ∙ ⊎_elim
    (λ within. absurd (is.1 (from, omega (arith, within))))
    (λ past. step_value-later false second [] c past ∙ step_value-nil false c)
    (cases_lt c 0xE000))
    (cases_lt c 0xD800)

module _ {V : Type 0} (same : V → V → Bool) (equal : (v w : V) → same v w ≡ true → v ≡ w) (of : ℕ → V) (stepped : Stepped of) (classes : List V) (other : V)
    (categories : ℕ) (lives : ℕ → Bool) (ranges : List CategoryRange) where
  abbrev pub has_class : ℕ → V → Bool
  has_class k v = ltb k categories && (lives k && same (get_or classes k other) v)

  abbrev pub fits_stepped : Stepped (λ c. is_surrogate c || has_class (category_of ranges c) (of c))
  fits_stepped =
      zip_stepped ◌||◌ is_surrogate (λ c. has_class (category_of ranges c) (of c)) surrogate_stepped
      (zip_stepped has_class (category_of ranges) of (category_stepped ranges) stepped)

  -- each character has the class of its category, and that is used
  abbrev pub classes_fit : Bool
  classes_fit = always (λ c. is_surrogate c || has_class (category_of ranges c) (of c)) fits_stepped

  pub class_is : classes_fit ≡ true → (c : ℕ) → IsCharacter c →
      (category_of ranges c < categories) × (lives (category_of ranges c) ≡ true) × (get_or classes (category_of ranges c) other ≡ of c)
  class_is ok c is =
      let k : ℕ = category_of ranges c in
      let both = Stepped-always (λ d. is_surrogate d || has_class (category_of ranges d) (of d)) fits_stepped ok c is.0 in
      let has = and_parts (ltb k categories) (lives k && same (get_or classes k other) (of c))
      (ap (λ b. b || has_class k (of c)) (sym (no_surrogate c is)) ∙ both) in
      let rest = and_parts (lives k) (same (get_or classes k other) (of c)) has.1 in
      (ltb-true k categories has.0, rest.0, equal (get_or classes k other) (of c) rest.1)
