-- A least table for rules has more than so many rows exactly where the rules need so many beside row 0.
use Rattle.std.proofs.Common.{◌≡◌, ◌≢◌, ℕ, zero, suc, ◌+◌, ◌-◌, ◌<◌, ◌≤◌, List, [], ◌∷◌, length, get_or, refl, ap, sym, ◌∙◌, subst, arith}
use Rattle.rbbi_model.specs.Words.{IsWord, IsCodePoint, IsSurrogate}
use Rattle.rbbi_model.specs.Ranges.{Range, Has}
use Rattle.rbbi_model.specs.Rules.{Rule, AreLawful}
use Rattle.rbbi_model.specs.LeafSets.{all_sets}
use Rattle.rbbi_model.specs.Tables.{Table, category_of, head_of, statuses_of, row_along, row_after}
use Rattle.rbbi_model.specs.ValidTables.{IsWay, IsPlain}
use Rattle.rbbi_model.specs.Marks.{Marks, no_marks, AreMarks, marks_of, HasSameMarks}
use Rattle.rbbi_model.specs.Compiled.{IsLeast, IsRead, AreClasses, LeadsSomewhere, Needs}
use Rattle.rbbi_model.proofs.Lists.{all_at}
use Rattle.rbbi_dfa.specs.inner.Automata.{LeadsToMarks}
use Rattle.rbbi_dfa.specs.NeededRows.{HasRows, RowsAreNeeded, ValidTablesHaveRows}
use Rattle.rbbi_dfa.proofs.LawfulLeaves.{each_set}
use Rattle.rbbi_dfa.proofs.Grouping.{marks_by_parts, stop_along, alive}
use Rattle.rbbi_dfa.proofs.Lists.{le_from_choices}
use Rattle.rbbi_dfa.proofs.WordRows.{WordOf, HasRowsOfWords, row_of-within, Needs-from_words, not_stop, rows_apart}
use Rattle.rbbi_dfa.proofs.Compiling.{HaveCategoriesBelow-from_valid, first_zero}

-- no leaf's set holds a surrogate
pub unread : (rules : List Rule) → AreLawful rules → (c : ℕ) → IsSurrogate c → ¬ IsRead rules c
unread rules lawful c surrogate (k, set, below, is, has) =
    let IsWithout : List Range → Type 0 = λ set. ¬ Has set c in
    subst IsWithout is
    (all_at IsWithout (all_sets rules) k set below (each_set IsWithout (λ set of_leaf has. (of_leaf.1 c has).1 surrogate) rules lawful.each)) has

module _ (table : Table) (rules : List Rule) (has : HasRows table) (same : HasSameMarks table rules) where
  pub plain_marks : (row : ℕ) → IsPlain (head_of table row) → marks_of table row ≡ no_marks
  plain_marks row plain =
      marks_by_parts (marks_of table row) no_marks plain.0 plain.1 (ap (λ list. statuses_of table list) plain.2 ∙ first_zero table.lists has.first_list)

  pub rows_of_words : HasRowsOfWords rules table table.ranges
  rows_of_words = record {
    some = has.some;
    next = has.next;
    stop = plain_marks 0 has.stop;
    start = plain_marks 1 has.start;
    stop_leads = has.stop_leads;
    within = HaveCategoriesBelow-from_valid table.categories table.ranges has.ranges;
    each = same.each;
  }

  module _ (unique : (w : List ℕ) (these those : Marks) → AreMarks rules w these → AreMarks rules w those → these ≡ those) where
    -- different rows, none of them row 0, are reached by so many words
    pub rows_from_needs : (count : ℕ) → Needs rules count → count < length table.rows
    rows_from_needs count needs =
        let few = le_from_choices (λ i x. row_after table (get_or needs.words i []) ≡ x + 1) (length needs.words) (length table.rows - 1)
        (λ i h.
        let row : ℕ = row_after table (get_or needs.words i []) in
        let some = some_row i h in
        let below = row_of-within rules table table.ranges rows_of_words (get_or needs.words i []) in
        (row - 1, (omega (arith, some, below), omega (arith, some))))
        (λ i j x less h this that.
        let apart = rows_apart rules table table.ranges rows_of_words unique (get_or needs.words i []) (get_or needs.words j []) (word_at i (omega arith))
        (word_at j h) (needs.apart i j [] less h) in
        apart.2 (ap (λ row. marks_of table (row_along table row apart.0)) (this ∙ sym that))) in
        omega (arith, few, needs.many, has.some)
      where
        word_at : (i : ℕ) → i < length needs.words → IsWord (get_or needs.words i [])
        word_at i h = all_at IsWord needs.words i [] h needs.are_words

        some_row : (i : ℕ) → i < length needs.words → row_after table (get_or needs.words i []) ≢ 0
        some_row i h = not_stop rules table table.ranges rows_of_words unique (get_or needs.words i []) (word_at i h)
            (all_at (LeadsSomewhere rules) needs.words i [] h needs.lead)

  module _ (lawful : AreLawful rules) (least : IsLeast table) (classes : AreClasses rules table.categories table.ranges) where
    -- each category is that of a code point
    pub used : (category : ℕ) → category < table.categories → (c : ℕ) × (IsCodePoint c × (category_of table.ranges c ≡ category))
    used zero h =
        let surrogate : ℕ = 0xD800 in
        (surrogate, (omega arith, (classes.none surrogate (omega arith)).1 (unread rules lawful surrogate (omega arith, omega arith))))
    used (suc category) h = let c = classes.used (suc category) (omega arith) h in (c.0, (c.1, c.2))

    pub word_of : (way : List ℕ) → IsWay table way → WordOf table.ranges way
    word_of [] h = ([], (tt, refl))
    word_of (category ∷ way) h =
        let c = used category h.0 in
        let rest = word_of way h.1 in
        (c.0 ∷ rest.0, ((c.1.0, rest.1.0), λ i. c.1.1 i ∷ rest.1.1 i))

    pub word_to : (row : ℕ) → row ≢ 0 → row < length table.rows → (w : List ℕ) × (IsWord w × (row_after table w ≡ row))
    word_to row some h =
        let way = least.reached row some h in
        let w = word_of way.0 way.1 in
        (w.0, (w.1.0, ap (λ categories. row_along table 1 categories) w.1.1 ∙ way.2))

    -- a row is distinguished from row 0, where nothing ever ends
    pub leads_on : (row : ℕ) → 2 ≤ row → row < length table.rows → LeadsToMarks table row
    leads_on row two h =
        let apart = least.apart 0 row (omega (arith, two)) h (λ e. absurd (omega (arith, e.1, two))) in (
          apart.0,
          apart.1,
          λ none. apart.2 (ap (λ row. marks_of table row) (stop_along table has.stop_leads apart.0 apart.1) ∙ plain_marks 0 has.stop ∙ sym none),
        )

    -- words that lead to rows 1 to count are distinguished, and lead somewhere
    pub needs_from_rows : (count : ℕ) → 2 ≤ count → count < length table.rows → Needs rules count
    needs_from_rows count two many =
        Needs-from_words rules table table.ranges rows_of_words count (λ i. i + 1)
        (λ i h. word_to (i + 1) (λ e. absurd (omega (arith, e))) (omega (arith, h, many)))
        (λ i j less h.
        let apart = least.apart (i + 1) (j + 1) (omega (arith, less)) (omega (arith, h, many)) (λ e. absurd (omega (arith, e.0))) in
        (apart.0, word_of apart.0 apart.1, apart.2))
        (λ i h.
        let on = alive table least.reached leads_on (omega (arith, two, many)) (i + 1) (λ e. absurd (omega (arith, e))) (omega (arith, h, many)) in
        (on.0, word_of on.0 on.1, on.2))

pub rows_are_needed : ((rules : List Rule) (w : List ℕ) (these those : Marks) → AreMarks rules w these → AreMarks rules w those → these ≡ those) → RowsAreNeeded
rows_are_needed unique table rules count lawful has same least classes two = (
  needs_from_rows table rules has same lawful least classes count two,
  rows_from_needs table rules has same (unique rules) count,
)

pub valid_tables_have_rows : ValidTablesHaveRows
valid_tables_have_rows table valid = record {
  ranges = valid.ranges;
  first_list = valid.lists.first;
  some = valid.rows.some;
  next = λ row category within few. (valid.rows.each row within).next category few;
  stop = valid.rows.stop;
  start = valid.rows.start;
  stop_leads = valid.rows.stop_leads;
}
