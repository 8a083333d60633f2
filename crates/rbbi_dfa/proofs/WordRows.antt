-- The rows of a table that words lead to, where the table has the marks of rules.
use Rattle.std.proofs.Common.{◌≡◌, ◌≢◌, ℕ, ◌<◌, ◌≤◌, List, [], ◌∷◌, ◌++◌, length, map, get_or, ap, sym, ◌∙◌, arith}
use Rattle.std.proofs.lemmas.List.{map-append}
use Rattle.rbbi_model.specs.Words.{IsWord, IsCodePoint}
use Rattle.rbbi_model.specs.Rules.{Rule}
use Rattle.rbbi_model.specs.Tables.{Table, CategoryRange, category_of, step, row_along}
use Rattle.rbbi_model.specs.ValidTables.{IsWay, LeadsToZero}
use Rattle.rbbi_model.specs.Marks.{Marks, no_marks, AreMarks, AreMarksOrNone, marks_of}
use Rattle.rbbi_model.specs.Compiled.{AreToldApart, LeadsSomewhere, Needs}
use Rattle.rbbi_dfa.specs.inner.Partitions.{IsToldApart}
use Rattle.rbbi_dfa.specs.inner.Categories.{HaveCategoriesBelow}
use Rattle.rbbi_model.proofs.SearchFacts.{row_along_append}
use Rattle.rbbi_model.proofs.Lists.{all_append, all_by_index}
use Rattle.rbbi_dfa.proofs.Grouping.{stop_along}
use Rattle.rbbi_dfa.proofs.Lists.{picked}

pub word_IsWay : (table : Table) (ranges : List CategoryRange) → HaveCategoriesBelow table.categories ranges → (w : List ℕ) →
    IsWay table (map (category_of ranges) w)
word_IsWay table ranges within [] = tt
word_IsWay table ranges within (c ∷ w) = (within c, word_IsWay table ranges within w)

pub along_within : (table : Table) →
    ((row category : ℕ) → row < length table.rows → category < table.categories → step table row category < length table.rows) →
    (row : ℕ) (way : List ℕ) → row < length table.rows → IsWay table way → row_along table row way < length table.rows
along_within table next row [] h k = h
along_within table next row (category ∷ way) h k = along_within table next (step table row category) way (next row category h k.0) k.1

-- the row after a word, by these ranges
abbrev pub row_of : Table → List CategoryRange → List ℕ → ℕ
row_of table ranges w = row_along table 1 (map (category_of ranges) w)

-- a word of these categories
abbrev pub WordOf : List CategoryRange → List ℕ → Type 0
WordOf ranges way = (w : List ℕ) × (IsWord w × (map (category_of ranges) w ≡ way))

-- The table has a row after each word, with its marks. Rows 0 and 1 have none, and row 0 leads to itself.
pub record HasRowsOfWords (rules : List Rule) (table : Table) (ranges : List CategoryRange) : Type 0 where
  pub some : 2 ≤ length table.rows
  pub next : (row category : ℕ) → row < length table.rows → category < table.categories → step table row category < length table.rows
  pub stop : marks_of table 0 ≡ no_marks
  pub start : marks_of table 1 ≡ no_marks
  pub stop_leads : LeadsToZero table 0
  pub within : HaveCategoriesBelow table.categories ranges
  pub each : (w : List ℕ) → IsWord w → w ≢ [] → AreMarks rules w (marks_of table (row_of table ranges w))

module _ (rules : List Rule) (table : Table) (ranges : List CategoryRange) (has : HasRowsOfWords rules table ranges) where
  marks_after : (w : List ℕ) → IsWord w → AreMarksOrNone rules w (marks_of table (row_of table ranges w))
  marks_after [] h = has.start
  marks_after (c ∷ w) h = has.each (c ∷ w) h (λ e. cc)

  pub row_of-append : (these those : List ℕ) → row_of table ranges (these ++ those) ≡ row_along table (row_of table ranges these)
      (map (category_of ranges) those)
  row_of-append these those =
      ap (λ way. row_along table 1 way) (map-append (category_of ranges) these those)
      ∙ row_along_append table 1 (map (category_of ranges) these) (map (category_of ranges) those)

  pub row_of-within : (w : List ℕ) → row_of table ranges w < length table.rows
  row_of-within w = along_within table has.next 1 (map (category_of ranges) w) (omega (arith, has.some)) (word_IsWay table ranges has.within w)

  pub rest_marks : (w : List ℕ) (row : ℕ) (way : List ℕ) (rest : WordOf ranges way) → row_of table ranges w ≡ row →
      marks_of table (row_along table row way) ≡ marks_of table (row_of table ranges (w ++ rest.0))
  rest_marks w row way rest at =
      ap (λ r. marks_of table r)
      (ap (λ r. row_along table r way) (sym at) ∙ ap (λ l. row_along table (row_of table ranges w) l) (sym rest.1.1) ∙ sym (row_of-append w rest.0))

  -- Words that lead to rows that are distinguished and lead somewhere are distinguished and lead somewhere.
  pub Needs-from_words : (count : ℕ) (row : ℕ → ℕ) → ((i : ℕ) → i < count → (w : List ℕ) × (IsWord w × (row_of table ranges w ≡ row i))) →
      ((i j : ℕ) → i < j → j < count → (way : List ℕ) × WordOf ranges way ×
      (marks_of table (row_along table (row i) way) ≢ marks_of table (row_along table (row j) way))) →
      ((i : ℕ) → i < count → (way : List ℕ) × WordOf ranges way × (marks_of table (row_along table (row i) way) ≢ no_marks)) → Needs rules count
  Needs-from_words count row word apart lead =
      let words = picked (λ i w. IsWord w × (row_of table ranges w ≡ row i)) count word in
      record {
        words = words.0;
        many = words.1;
        are_words = all_by_index IsWord [] words.0 (λ i h. (words.2 i [] (omega (arith, h, words.1))).0);
        apart = λ i j d less h.
            let below : j < count = omega (arith, h, words.1) in
            let this = words.2 i d (omega (arith, less, below)) in
            let that = words.2 j d below in
            let way = apart i j less below in
            let rest = way.1 in
            record {
              rest = rest.0;
              is_word = rest.1.0;
              marks = marks_of table (row_of table ranges (get_or words.0 i d ++ rest.0));
              others = marks_of table (row_of table ranges (get_or words.0 j d ++ rest.0));
              are_marks = marks_after (get_or words.0 i d ++ rest.0) (all_append IsCodePoint (get_or words.0 i d) rest.0 this.0 rest.1.0);
              are_others = marks_after (get_or words.0 j d ++ rest.0) (all_append IsCodePoint (get_or words.0 j d) rest.0 that.0 rest.1.0);
              differ = λ e. way.2 (rest_marks (get_or words.0 i d) (row i) way.0 rest this.1 ∙ e ∙
                  sym (rest_marks (get_or words.0 j d) (row j) way.0 rest that.1));
            };
        lead = all_by_index (LeadsSomewhere rules) [] words.0 (λ i h.
            let below : i < count = omega (arith, h, words.1) in
            let this = words.2 i [] below in
            let way = lead i below in
            let rest = way.1 in
            record {
              rest = rest.0;
              is_word = rest.1.0;
              marks = marks_of table (row_of table ranges (get_or words.0 i [] ++ rest.0));
              are_marks = marks_after (get_or words.0 i [] ++ rest.0) (all_append IsCodePoint (get_or words.0 i []) rest.0 this.0 rest.1.0);
              some = λ e. way.2 (rest_marks (get_or words.0 i []) (row i) way.0 rest this.1 ∙ e);
            });
      }

  module _ (unique : (w : List ℕ) (these those : Marks) → AreMarks rules w these → AreMarks rules w those → these ≡ those) where
    marks_are : (w : List ℕ) (marks : Marks) → IsWord w → AreMarksOrNone rules w marks → marks ≡ marks_of table (row_of table ranges w)
    marks_are [] marks h k = k ∙ sym (marks_after [] tt)
    marks_are (c ∷ w) marks h k = unique (c ∷ w) marks (marks_of table (row_of table ranges (c ∷ w))) k (marks_after (c ∷ w) h)

    pub not_stop : (w : List ℕ) → IsWord w → LeadsSomewhere rules w → row_of table ranges w ≢ 0
    not_stop w h on z =
        on.some (marks_are (w ++ on.rest) on.marks (all_append IsCodePoint w on.rest h on.is_word) on.are_marks
        ∙ ap (λ row. marks_of table row)
        (row_of-append w on.rest ∙ ap (λ row. row_along table row (map (category_of ranges) on.rest)) z
        ∙ stop_along table has.stop_leads (map (category_of ranges) on.rest) (word_IsWay table ranges has.within on.rest))
        ∙ has.stop)

    pub rows_apart : (this that : List ℕ) → IsWord this → IsWord that → AreToldApart rules this that →
        IsToldApart table (row_of table ranges this) (row_of table ranges that)
    rows_apart this that h k apart = (
      map (category_of ranges) apart.rest,
      word_IsWay table ranges has.within apart.rest,
      λ e. apart.differ
          (marks_are (this ++ apart.rest) apart.marks (all_append IsCodePoint this apart.rest h apart.is_word) apart.are_marks
          ∙ ap (λ row. marks_of table row) (row_of-append this apart.rest) ∙ e ∙ ap (λ row. marks_of table row) (sym (row_of-append that apart.rest))
          ∙ sym (marks_are (that ++ apart.rest) apart.others (all_append IsCodePoint that apart.rest k apart.is_word) apart.are_others)),
    )
