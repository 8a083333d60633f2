-- The words of a text, taken off one by one.
use Rattle.std.proofs.Common.{◌≡◌, ℕ, suc, ◌+◌, ◌<◌, ◌≤◌, Bool, true, false, not, cond, eqb, List, [], ◌∷◌, length, get_or, take, drop, refl}
use Rattle.std.proofs.Common.{ap, sym, ◌∙◌, inl, inr, drop-cons, add-one, arith}
use Rattle.std.specs.Prelude.{filter}
use Rattle.std.specs.List.{prefix_len, position_or_len, before_first, after_first, slice_split}
use Rattle.std.proofs.lemmas.Bool.{cases_Bool, cases_lt}
use Rattle.std.proofs.lemmas.Bool.Decides.{nat_tests}
use Rattle.std.proofs.lemmas.List.Sums.{fails_before_first, passes_at_first, prefix_len-le-length}
use Rattle.std.proofs.lemmas.List.Splits.{slice_split_none, slice_split_first}
use Rattle.std.proofs.lemmas.List.{drop_all, length-take-le, take_all}
use Rattle.rbbi_text.specs.LineParts.{is_blank}
use Rattle.rbbi_conform.specs.Grammar.{words_of}

abbrev filled : List ℕ → Bool
filled word = not (eqb (length word) 0)

-- a blank at the start is no part of a word
pub words_behind : (b : ℕ) (text : List ℕ) → is_blank b ≡ true → words_of (b ∷ text) ≡ words_of text
words_behind b text blank =
    ap (λ t. filter filled (cond t ([] ∷ slice_split is_blank text) (Rattle.std.specs.List.onto_first b (slice_split is_blank text)))) blank

pub words_trimmed : (text : List ℕ) → words_of text ≡ words_of (drop (prefix_len is_blank text) text)
words_trimmed [] = refl
words_trimmed (b ∷ text) =
    elim (cases_Bool (is_blank b)) [
      | inl blank ↦
          let count : prefix_len is_blank (b ∷ text) ≡ suc (prefix_len is_blank text) = ap (λ t. cond t (1 + prefix_len is_blank text) 0) blank ∙ omega arith in
          words_behind b text blank ∙ words_trimmed text ∙ ap (λ n. words_of (drop n (b ∷ text))) (sym count)
      | inr other ↦ ap (λ n. words_of (drop n (b ∷ text))) (sym (ap (λ t. cond t (1 + prefix_len is_blank text) 0) other))
    ]

-- after the blanks comes nothing, or a byte that is none
pub trimmed : (text : List ℕ) → prefix_len is_blank (drop (prefix_len is_blank text) text) ≡ 0
trimmed [] = refl
trimmed (b ∷ text) =
    elim (cases_Bool (is_blank b)) [
      | inl blank ↦
          let count : prefix_len is_blank (b ∷ text) ≡ suc (prefix_len is_blank text) = ap (λ t. cond t (1 + prefix_len is_blank text) 0) blank ∙ omega arith in
          ap (λ n. prefix_len is_blank (drop n (b ∷ text))) count ∙ trimmed text
      | inr other ↦
          let none : prefix_len is_blank (b ∷ text) ≡ 0 = ap (λ t. cond t (1 + prefix_len is_blank text) 0) other in
          ap (λ n. prefix_len is_blank (drop n (b ∷ text))) none ∙ none
    ]

-- where no word begins, there is none
pub no_word : (text : List ℕ) → prefix_len is_blank text ≡ 0 → position_or_len is_blank text ≡ 0 → words_of text ≡ []
no_word [] trim none = refl
no_word (b ∷ text) trim none =
    elim (cases_Bool (is_blank b)) [
      | inl blank ↦ absurd (let k : 1 + prefix_len is_blank text ≡ 0 = sym (ap (λ t. cond t (1 + prefix_len is_blank text) 0) blank) ∙ trim in omega arith)
      | inr other ↦ absurd (let k : 1 + position_or_len is_blank text ≡ 0 = sym (ap (λ t. cond (not t) (1 + position_or_len is_blank text) 0) other)
          ∙ none in omega arith)
    ]

filled_first : (word : List ℕ) (words : List (List ℕ)) → 0 < length word → filter filled (word ∷ words) ≡ word ∷ filter filled words
filled_first word words l = ap (λ t. cond (not t) (word ∷ filter filled words) (filter filled words)) (nonempty (length word) l)
  where
    nonempty : (n : ℕ) → 0 < n → eqb n 0 ≡ false
    nonempty n l = grind (arith, nat_tests)

-- the first word, and the words after it
pub first_word : (text : List ℕ) (end : ℕ) → end ≡ position_or_len is_blank text → 0 < end → words_of text ≡ take end text ∷ words_of (drop end text)
first_word text end is some =
    elim (cases_lt (position_or_len is_blank text) (length text)) [
      | inl blank ↦
          let at : is_blank (get_or text end 0) ≡ true = ap (λ n. is_blank (get_or text n 0)) is ∙ passes_at_first is_blank text 0 blank in
          ap (filter filled) (slice_split_first is_blank text 0 blank)
          ∙ filled_first (before_first is_blank text) (slice_split is_blank (after_first is_blank text)) (let n =
          length-take-le end text (omega arith) in let m = ap (λ n. length (take n text)) is in omega arith)
          ∙ ap (λ n. take n text ∷ words_of (drop (n + 1) text)) (sym is)
          ∙ ap (λ ws. take end text ∷ ws)
          (ap (λ n. words_of (drop n text)) (add-one end) ∙ sym (words_behind (get_or text end 0) (drop (suc end) text) at)
          ∙ ap words_of (sym (drop-cons text end 0 (omega arith))))
      | inr none ↦
          let all : position_or_len is_blank text ≡ length text = let le = prefix_len-le-length (λ b. not (is_blank b)) text in omega arith in
          let whole : end ≡ length text = is ∙ all in
          ap (filter filled) (slice_split_none is_blank text (λ k d l. fails_before_first is_blank text k d (omega arith)))
          ∙ filled_first text [] (omega arith)
          ∙ ap (λ t. t ∷ []) (sym (take_all end text (omega arith)))
          ∙ ap (λ t. take end text ∷ words_of t) (sym (drop_all end text (omega arith)))
    ]
