-- The rows that an automaton needs are words that the rules tell apart.
use Rattle.std.proofs.Common.{◌≡◌, ◌≢◌, ℕ, zero, suc, ◌<◌, ◌≤◌, List, [], ◌∷◌, length, map, get_or, refl, ap, sym, ◌∙◌, subst, ⊎_elim, arith}
use Rattle.std.proofs.Common.{slice_index}
use Rattle.std.proofs.lemmas.Bool.{cases_eq, cases_lt}
use Rattle.std.proofs.lemmas.List.{length-map, get_or-map}
use Rattle.rbbi_model.specs.Words.{IsWord}
use Rattle.rbbi_model.specs.Rules.{Rule}
use Rattle.rbbi_model.specs.Tables.{Table, CategoryRange, category_of, step, row_along}
use Rattle.rbbi_model.specs.ValidTables.{IsWay}
use Rattle.rbbi_model.specs.Marks.{Marks, AreMarks, marks_of, HasSameMarks}
use Rattle.rbbi_model.specs.Compiled.{LeadsSomewhere, Needs}
use Rattle.rbbi_model.proofs.Lists.{all_by_index, all_at}
use Rattle.rbbi_dfa.specs.inner.Automata.{IsDetermined, with_ranges}
use Rattle.rbbi_dfa.specs.inner.Partitions.{IsToldApart, NeedsRows}
use Rattle.rbbi_dfa.specs.inner.Categories.{AreUsed, HaveCategoriesBelow}
use Rattle.rbbi_dfa.proofs.Grouping.{row_along-ranges, stop_along, alive}
use Rattle.rbbi_dfa.proofs.WordRows.{row_of, WordOf, HasRowsOfWords, row_of-within, Needs-from_words, not_stop, rows_apart}

module _
    (rules : List Rule)
    (ranges : List CategoryRange)
    (automaton : Table)
    (determined : IsDetermined automaton)
    (same : HasSameMarks (with_ranges automaton ranges) rules)
    (within : HaveCategoriesBelow automaton.categories ranges)
  where
    rows_of_words : HasRowsOfWords rules automaton ranges
    rows_of_words = record {
      some = determined.some;
      next = λ row category h k. (determined.each row h).next category k;
      stop = determined.stop;
      start = determined.start;
      stop_leads = determined.stop_leads;
      within = within;
      each = λ w h some. subst (λ (row : ℕ). AreMarks rules w (marks_of automaton row)) (row_along-ranges automaton ranges 1 (map (category_of ranges) w))
          (same.each w h some);
    }

    module _ (used : AreUsed automaton.categories ranges) where
      -- categories that lead to a row but row 0 are those of a word
      word_along : (row : ℕ) (way : List ℕ) → row < length automaton.rows → IsWay automaton way → row_along automaton row way ≢ 0 → WordOf ranges way
      word_along row [] h k some = ([], (tt, refl))
      word_along row (zero ∷ way) h k some =
          absurd (some (ap (λ next. row_along automaton next way) (determined.each row h).unread ∙ stop_along automaton determined.stop_leads way k.1))
      word_along row (suc category ∷ way) h k some =
          let c = used (suc category) (omega arith) k.0 in
          let rest = word_along (step automaton row (suc category)) way ((determined.each row h).next (suc category) k.0) k.1 some in
          (c.0 ∷ rest.0, ((c.1, rest.1.0), λ i. c.2 i ∷ rest.1.1 i))

      word_to : (row : ℕ) → row ≢ 0 → row < length automaton.rows → (w : List ℕ) × (IsWord w × (row_of automaton ranges w ≡ row))
      word_to row some h =
          let way = determined.reached row some h in
          let w = word_along 1 way.0 (omega (arith, determined.some)) way.1 (λ z. some (sym way.2 ∙ z)) in
          (w.0, (w.1.0, ap (λ xs. row_along automaton 1 xs) w.1.1 ∙ way.2))

      -- marks that differ along some categories differ after some word
      rest_of : (this that : ℕ) → this < length automaton.rows → that < length automaton.rows → (apart : IsToldApart automaton this that) →
          WordOf ranges apart.0
      rest_of this that h k apart =
          ⊎_elim
          (λ (z : row_along automaton this apart.0 ≡ 0).
          word_along that apart.0 k apart.1 (λ y. apart.2 (ap (λ row. marks_of automaton row) (z ∙ sym y))))
          (λ (some : row_along automaton this apart.0 ≢ 0). word_along this apart.0 h apart.1 some)
          (cases_eq (row_along automaton this apart.0) 0)

      pub Needs-from_rows : (count : ℕ) → 2 ≤ count → NeedsRows automaton count → Needs rules count
      Needs-from_rows count two needs =
          Needs-from_words rules automaton ranges rows_of_words count (λ i. slice_index needs.rows i)
          (λ i h. let row = listed_row i (omega (arith, needs.many)) in word_to (slice_index needs.rows i) row.0 row.1)
          (λ i j less h.
          let this = listed_row i (omega (arith, needs.many)) in
          let that = listed_row j (omega (arith, needs.many)) in
          let apart = needs.apart i j 0 less (omega (arith, needs.many)) in
          (apart.0, rest_of (slice_index needs.rows i) (slice_index needs.rows j) this.1 that.1 apart, apart.2))
          (λ i h.
          let row = listed_row i (omega (arith, needs.many)) in
          let on = alive automaton determined.reached determined.lead three (slice_index needs.rows i) row.0 row.1 in (
            on.0,
            word_along (slice_index needs.rows i) on.0 row.1 on.1 (λ z. on.2 (ap (λ row. marks_of automaton row) z ∙ determined.stop)),
            on.2,
          ))
        where
          listed_row : (i : ℕ) → i < length needs.rows → (slice_index needs.rows i ≢ 0) × (slice_index needs.rows i < length automaton.rows)
          listed_row i h = all_at (λ row. (row ≢ 0) × (row < length automaton.rows)) needs.rows i 0 h needs.are_rows

          three : 3 ≤ length automaton.rows
          three =
              ⊎_elim
              (λ (few : length automaton.rows < 3).
              let first = listed_row 0 (omega (arith, needs.many)) in
              let second = listed_row 1 (omega (arith, needs.many)) in
              let apart = needs.apart 0 1 0 (omega arith) (omega (arith, needs.many)) in
              let equal : slice_index needs.rows 0 ≡ slice_index needs.rows 1 = omega (arith, first.0, first.1, second.0, second.1) in
              absurd (apart.2 (ap (λ row. marks_of automaton (row_along automaton row apart.0)) equal)))
              (λ (many : 3 ≤ length automaton.rows). many)
              (cases_lt (length automaton.rows) 3)

    module _ (unique : (w : List ℕ) (these those : Marks) → AreMarks rules w these → AreMarks rules w those → these ≡ those) where
      pub NeedsRows-from_needs : (count : ℕ) → Needs rules count → NeedsRows automaton count
      NeedsRows-from_needs count needs =
          let row : List ℕ → ℕ = λ w. row_of automaton ranges w in
          let at = λ (i d : ℕ) (h : i < length needs.words). get_or-map row needs.words i [] d h in
          record {
            rows = map row needs.words;
            many = length-map needs.words row ∙ needs.many;
            are_rows = all_by_index (λ row. (row ≢ 0) × (row < length automaton.rows)) 0 (map row needs.words) (λ i h.
                let below : i < length needs.words = omega (arith, length-map needs.words row) in
                let word = all_at IsWord needs.words i [] below needs.are_words in
                let on = all_at (LeadsSomewhere rules) needs.words i [] below needs.lead in (
                  λ z. not_stop rules automaton ranges rows_of_words unique (get_or needs.words i []) word on (sym (at i 0 below) ∙ z),
                  omega (arith, at i 0 below, row_of-within rules automaton ranges rows_of_words (get_or needs.words i [])),
                ));
            apart = λ i j d less h.
                let j_below : j < length needs.words = omega (arith, length-map needs.words row) in
                let i_below : i < length needs.words = omega arith in
                subst (λ (this : ℕ). IsToldApart automaton this (get_or (map row needs.words) j d)) (sym (at i d i_below))
                (subst (λ (that : ℕ). IsToldApart automaton (row (get_or needs.words i [])) that) (sym (at j d j_below))
                (rows_apart rules automaton ranges rows_of_words unique (get_or needs.words i []) (get_or needs.words j [])
                (all_at IsWord needs.words i [] i_below needs.are_words) (all_at IsWord needs.words j [] j_below needs.are_words)
                (needs.apart i j [] less j_below)));
          }
