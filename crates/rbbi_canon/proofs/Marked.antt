-- Canonical tables are the same exactly where the tables that they are made of have the same marks after every text.
use Rattle.std.proofs.Common.{◌≡◌, ◌⊎◌, ℕ, List, [], ◌∷◌, ◌++◌, map, refl, ap, sym, ◌∙◌, inl, inr, ⊎_elim, arith}
use Rattle.std.proofs.lemmas.Bool.{cases_lt}
use Rattle.rbbi_model.specs.Words.{IsWord, IsText, IsCodePoint, IsCharacter, IsSurrogate}
use Rattle.rbbi_model.specs.Tables.{Table, category_of, step, row_along, row_after}
use Rattle.rbbi_model.specs.ValidTables.{IsValidTable}
use Rattle.rbbi_model.specs.Marks.{no_marks, marks_of}
use Rattle.rbbi_model.specs.Canonical.{HasCanonical, AreMarkedAlike}
use Rattle.rbbi_model.proofs.Lists.{all_through}
use Rattle.rbbi_canon.specs.Laws.{CanonicalTablesTellMarks}
use Rattle.rbbi_canon.proofs.Rows.{after_append, after_within, few_marks, start_marks, stop_along, stop_marks, word_way}
use Rattle.rbbi_canon.proofs.Unique.{SameAfterWords, canonical_same}

-- a word that is no text has a surrogate
record HasSurrogate (w : List ℕ) : Type 0 where
  front : List ℕ
  surrogate : ℕ
  back : List ℕ
  is : w ≡ front ++ surrogate ∷ back
  is_surrogate : IsSurrogate surrogate

surrogate_or_not : (c : ℕ) → IsSurrogate c ⊎ ¬ IsSurrogate c
surrogate_or_not c =
    ⊎_elim (λ low. inr (λ is. omega (arith, is.0, low)))
    (λ from. ⊎_elim (λ high. inl (from, omega (arith, high))) (λ past. inr (λ is. omega (arith, is.1, past))) (cases_lt c 0xE000))
    (cases_lt c 0xD800)

text_or_not : (w : List ℕ) → IsWord w → IsText w ⊎ HasSurrogate w
text_or_not [] is = inl tt
text_or_not (c ∷ w) is =
    ⊎_elim
    (λ surrogate. inr (record { front = []; surrogate = c; back = w; is = refl; is_surrogate = surrogate }))
    (λ none.
    ⊎_elim
    (λ text. inl ((is.0, none), text))
    (λ has. inr (record {
      front = c ∷ has.front;
      surrogate = has.surrogate;
      back = has.back;
      is = λ i. c ∷ has.is i;
      is_surrogate = has.is_surrogate;
    }))
    (text_or_not w is.1))
    (surrogate_or_not c)

-- nothing is marked after a surrogate
module _ (table : Table) (valid : IsValidTable table) (has : HasCanonical table) where
  surrogate_marks : (w : List ℕ) → HasSurrogate w → marks_of table (row_after table w) ≡ no_marks
  surrogate_marks w at =
      ⊎_elim
      (λ stops.
      ap (λ row. marks_of table row)
      (ap (λ l. row_after table l) at.is ∙ after_append table valid at.front (at.surrogate ∷ at.back)
      ∙ ap (λ row. row_along table row (map (category_of table.ranges) at.back))
      (ap (λ n. step table (row_after table at.front) n) (has.surrogates at.surrogate at.is_surrogate)
      ∙ stops (row_after table at.front) (after_within table valid at.front))
      ∙ stop_along table valid (map (category_of table.ranges) at.back) (word_way table valid at.back))
      ∙ stop_marks table valid)
      (λ two. few_marks table valid two (row_after table w) (after_within table valid w))
      has.stops

module _ (these those : Table) (valid : IsValidTable these) (valid' : IsValidTable those) (has : HasCanonical these) (has' : HasCanonical those)
    (alike : AreMarkedAlike these those) where
  same_after_words : SameAfterWords these those
  same_after_words [] is = start_marks these valid ∙ sym (start_marks those valid')
  same_after_words (c ∷ w) is =
      ⊎_elim
      (λ text. alike (c ∷ w) text (λ e. cc))
      (λ surrogate. surrogate_marks these valid has (c ∷ w) surrogate ∙ sym (surrogate_marks those valid' has' (c ∷ w) surrogate))
      (text_or_not (c ∷ w) is)

pub canonical_tables_tell_marks : CanonicalTablesTellMarks
canonical_tables_tell_marks these those canonical other valid valid' has has' is is' = (
  λ equal w text some.
      let word : IsWord w = all_through IsCharacter IsCodePoint (λ c h. h.0) w text in
      sym (is.same w word) ∙ ap (λ (t : Table). marks_of t (row_after t w)) equal ∙ is'.same w word,
  λ alike. canonical_same these those canonical other is is'
      (λ w word. is.same w word ∙ same_after_words these those valid valid' has has' alike w word ∙ sym (is'.same w word)),
)
