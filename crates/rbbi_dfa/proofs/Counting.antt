-- The sets that are reached are the leaf sets of words, so there are as many.
use Rattle.std.proofs.Common.{ℕ, ◌<◌, ◌↔◌, List, [], length, map, get_or, ◌∙◌, subst}
use Rattle.std.proofs.Common.{arith}
use Rattle.rbbi_model.specs.Words.{IsWord}
use Rattle.rbbi_model.specs.Rules.{Rule, AreLawful}
use Rattle.rbbi_model.specs.Tables.{Table, CategoryRange, category_of, row_along}
use Rattle.rbbi_model.specs.LeafSets.{InLeafSet, HasLeafSets}
use Rattle.rbbi_model.proofs.Lists.{all_by_index, all_at}
use Rattle.rbbi_bits.specs.BitRows.{Holds}
use Rattle.rbbi_bits.specs.NumberedRows.{listed_row}
use Rattle.rbbi_dfa.specs.inner.PositionRows.{PositionRows}
use Rattle.rbbi_dfa.specs.inner.PositionAutomata.{IsOfRules}
use Rattle.rbbi_dfa.specs.inner.Determinizing.{HasReachedSets, IsDeterminized}
use Rattle.rbbi_dfa.proofs.Lists.{picked, le_from_choices}
use Rattle.rbbi_dfa.proofs.Reading.{ReadBy}
use Rattle.rbbi_dfa.proofs.Words.{nothing_reads}
use Rattle.rbbi_dfa.proofs.Words.{IsSetOf, Ended, Unread, IsRowOf, Stop, Set, row_of_word, reached_word}

module _ (rules : List Rule) (lawful : AreLawful rules) (ranges : List CategoryRange) (rows : PositionRows) (of : IsOfRules rules ranges rows) where
  -- the leaf set of a word of which the set is told
  set_leaves : (w set : List ℕ) → IsSetOf rules lawful ranges rows of w set → (p : ℕ) → Holds set p ↔ InLeafSet rules w p
  set_leaves w set is p = (λ holds. (is.open_before, (is.holds p).0 holds), λ leaf. (is.holds p).1 leaf.1)

  -- as many leaf sets as there are sets that are reached
  pub reached_are_leaf_sets : (count : ℕ) → HasReachedSets rows count → HasLeafSets rules count
  reached_are_leaf_sets count (sets, many, are) =
      let words = picked (λ i w. IsWord w × IsSetOf rules lawful ranges rows of w (listed_row sets i)) (length sets)
      (λ i short.
      let word = reached_word rules lawful ranges rows of (listed_row sets i) (are.reached i short) (are.some i short) in
      (word.w, (word.is_word, word.set_of))) in
      record {
        words = words.0;
        many = words.1 ∙ many;
        are_words = all_by_index IsWord [] words.0 (λ i short. (words.2 i [] (omega (arith, short, words.1))).0);
        not_empty = all_by_index (λ w. (position : ℕ) × InLeafSet rules w position) [] words.0
            (λ i short.
            let short' : i < length sets = omega (arith, short, words.1) in
            let held = are.some i short' in
            (held.0, (set_leaves (get_or words.0 i []) (listed_row sets i) (words.2 i [] short').1 held.0).0 held.1));
        apart = λ i j d less short same.
            let short' : j < length sets = omega (arith, short, words.1) in
            let this = set_leaves (get_or words.0 i d) (listed_row sets i) (words.2 i d (omega (arith, less, short'))).1 in
            let that = set_leaves (get_or words.0 j d) (listed_row sets j) (words.2 j d short').1 in
            are.apart i j less short' (λ p. (λ holds. (that p).1 ((same p).0 ((this p).0 holds)), λ holds. (this p).1 ((same p).1 ((that p).0 holds))));
      }

  module _ (sets : List (List ℕ)) (automaton : Table) (is : IsDeterminized rows sets automaton) where
    -- the number of the word's set
    numbered : (w : List ℕ) → IsWord w × ((p : ℕ) × InLeafSet rules w p) → (n : ℕ) × ((n < length sets) ×
        IsSetOf rules lawful ranges rows of w (listed_row sets n))
    numbered w (word, (p, leaf)) =
        by_row (row_along automaton 1 (map (category_of ranges) w))
        (row_of_word rules lawful ranges rows of sets automaton is w (λ none. nothing_reads rules p (subst (λ l. ReadBy rules l p) none leaf.1)) word)
      where
        by_row : (row : ℕ) → IsRowOf rules lawful ranges rows of sets automaton is w row →
            (n : ℕ) × ((n < length sets) × IsSetOf rules lawful ranges rows of w (listed_row sets n))
        by_row _ (Stop row at (Ended ended)) = absurd (leaf.0 ended)
        by_row _ (Stop row at (Unread before none)) = absurd (none p leaf.1)
        by_row _ (Set row i at short set) = (i, (short, set))

    -- there are no more leaf sets than sets that are reached
    pub no_more_leaf_sets : (count : ℕ) → length sets < count → HasLeafSets rules count → ⊥
    no_more_leaf_sets count few has =
        let most = le_from_choices (λ i n. IsSetOf rules lawful ranges rows of (get_or has.words i []) (listed_row sets n)) (length has.words) (length sets)
        (λ i short. numbered (get_or has.words i []) (
          all_at IsWord has.words i [] short has.are_words,
          all_at (λ w. (p : ℕ) × InLeafSet rules w p) has.words i [] short has.not_empty,
        ))
        (λ i j n less short set set'.
        let this = set_leaves (get_or has.words i []) (listed_row sets n) set in
        let that = set_leaves (get_or has.words j []) (listed_row sets n) set' in
        has.apart i j [] less short (λ p. (λ leaf. (that p).0 ((this p).1 leaf), λ leaf. (this p).0 ((that p).1 leaf)))) in
        omega (arith, most, has.many, few)
