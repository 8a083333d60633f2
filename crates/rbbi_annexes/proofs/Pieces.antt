-- The places at which a rule breaks are the ends of the pieces into which the kit cuts the text.
use Rattle.std.proofs.Common.{◌≡◌, ℕ, ◌+◌, true, cond, List, [], ◌∷◌, length, append-nil, ap, sym, ◌∙◌, ⊎_elim, arith}
use Rattle.std.proofs.lemmas.Bool.{cases_Bool, cond-true, cond-false}
use Rattle.unicode_segmentation.specs.Segments.{Rule, prepend, cut}
use Rattle.unicode_segmentation.specs.Grapheme.{is_grapheme_break}
use Rattle.unicode_segmentation.specs.Sentence.{is_sentence_break}
use Rattle.unicode_segmentation.specs.Word.{is_word_break}
use Rattle.rbbi_annexes.specs.Breaks.{breaks_from, ends_from, BreaksAreEnds}
use Rattle.rbbi_annexes.proofs.Ends.{BreaksAtEnds, graphemes_at_ends, words_at_ends, sentences_at_ends}

-- a piece that grows by a character at its start ends where it did
ends_prepend : (at c : ℕ) (pieces : List (List ℕ)) (e : ℕ) (further : List ℕ) → ends_from (at + 1) pieces ≡ e ∷ further →
    ends_from at (prepend (c ∷ []) pieces) ≡ e ∷ further
ends_prepend at c [] e further is = absurd (omega (arith, ap length is))
ends_prepend at c (piece ∷ pieces) e further is =
    ap (λ n. n ∷ ends_from n pieces) (let same : at + length (c ∷ piece) ≡ at + 1 + length piece = omega arith in same) ∙ is

module _ (rule : Rule) (ends : BreaksAtEnds rule) where
  -- the breaks from a place on are one at least
  breaks_some : (behind before : List ℕ) (at : ℕ) → (e : ℕ) × (further : List ℕ) × (breaks_from rule before behind at ≡ e ∷ further)
  breaks_some [] before at = (at, [], cond-true (rule before []) (at ∷ []) [] (ends.end before))
  breaks_some (c ∷ behind) before at =
      let further : List ℕ = breaks_from rule (c ∷ before) behind (at + 1) in
      let rest = breaks_some behind (c ∷ before) (at + 1) in
      ⊎_elim
      (λ breaks. (at, further, cond-true (rule before (c ∷ behind)) (at ∷ further) further breaks))
      (λ joins. (rest.0, rest.1, cond-false (rule before (c ∷ behind)) (at ∷ further) further joins ∙ rest.2))
      (cases_Bool (rule before (c ∷ behind)))

  ends_are : (behind before : List ℕ) (c at : ℕ) → ends_from at (cut rule before (c ∷ behind) []) ≡ breaks_from rule (c ∷ before) behind (at + 1)
  unfolding cut
  ends_are [] before c at =
      ap (ends_from at) (cond-true (rule (c ∷ before) []) ((c ∷ []) ∷ []) ((c ∷ []) ∷ []) (ends.end (c ∷ before)))
      ∙ sym (cond-true (rule (c ∷ before) []) ((at + 1) ∷ []) [] (ends.end (c ∷ before)))
  ends_are (d ∷ behind) before c at =
      let rest : List (List ℕ) = cut rule (c ∷ before) (d ∷ behind) [] in
      let further : List ℕ = breaks_from rule (d ∷ c ∷ before) behind (at + 1 + 1) in
      let some = breaks_some behind (d ∷ c ∷ before) (at + 1 + 1) in
      let later : ends_from (at + 1) rest ≡ further = ends_are behind (c ∷ before) d (at + 1) in
      ap (λ after. ends_from at (cond (rule (c ∷ before) (d ∷ after)) ((c ∷ []) ∷ rest) (prepend (c ∷ []) rest))) (append-nil behind)
      ∙ ⊎_elim
      (λ breaks.
      ap (ends_from at) (cond-true (rule (c ∷ before) (d ∷ behind)) ((c ∷ []) ∷ rest) (prepend (c ∷ []) rest) breaks)
      ∙ ap (λ es. (at + 1) ∷ es) later
      ∙ sym (cond-true (rule (c ∷ before) (d ∷ behind)) ((at + 1) ∷ further) further breaks))
      (λ joins.
      ap (ends_from at) (cond-false (rule (c ∷ before) (d ∷ behind)) ((c ∷ []) ∷ rest) (prepend (c ∷ []) rest) joins)
      ∙ ends_prepend at c rest some.0 some.1 (later ∙ some.2) ∙ sym some.2
      ∙ sym (cond-false (rule (c ∷ before) (d ∷ behind)) ((at + 1) ∷ further) further joins))
      (cases_Bool (rule (c ∷ before) (d ∷ behind)))

  pub breaks_are_ends : BreaksAreEnds rule
  unfolding cut
  breaks_are_ends [] = cond-true (rule [] []) (0 ∷ []) [] (ends.end [])
  breaks_are_ends (c ∷ behind) =
      let further : List ℕ = breaks_from rule (c ∷ []) behind 1 in
      cond-true (rule [] (c ∷ behind)) (0 ∷ further) further (ends.start (c ∷ behind)) ∙ ap (λ es. 0 ∷ es) (sym (ends_are behind [] c 0))

pub graphemes_are_ends : BreaksAreEnds (is_grapheme_break true)
graphemes_are_ends = breaks_are_ends (is_grapheme_break true) graphemes_at_ends

pub words_are_ends : BreaksAreEnds is_word_break
words_are_ends = breaks_are_ends is_word_break words_at_ends

pub sentences_are_ends : BreaksAreEnds is_sentence_break
sentences_are_ends = breaks_are_ends is_sentence_break sentences_at_ends
