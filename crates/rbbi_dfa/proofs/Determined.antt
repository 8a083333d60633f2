-- The automaton of rules is as what follows wants it: rows within their bounds, each reached, each leading to marks.
use Rattle.std.proofs.Common.{◌≡◌, ◌≢◌, ℕ, ◌+◌, ◌-◌, ◌^◌, ◌<◌, ◌↔◌, List, [], ◌∷◌, length, map, sym, ap, ◌∙◌, subst, inl, inr, ⊎_elim, arith}
use Rattle.std.proofs.lemmas.Bool.{cases_eq, cases_lt, cases_order}
use Rattle.std.proofs.lemmas.List.{take_all}
use Rattle.std.proofs.lemmas.Nat.{pow_pos}
use Rattle.rbbi_model.specs.Lists.{Member, IsRising}
use Rattle.rbbi_model.specs.Rules.{Rule, LooksAhead, look_aheads, AreLawful}
use Rattle.rbbi_model.specs.Chains.{IsRule}
use Rattle.rbbi_model.specs.Tables.{Table, CategoryRange, category_of, accept_of, fronts_of, list_of, statuses_of, step, row_along}
use Rattle.rbbi_model.specs.ValidTables.{IsWay}
use Rattle.rbbi_model.specs.Marks.{Marks, no_marks, look_ahead_number, marks_of}
use Rattle.rbbi_model.proofs.Rising.{rising_same}
use Rattle.rbbi_bits.specs.NumberedRows.{listed_row}
use Rattle.rbbi_dfa.specs.inner.Automata.{IsAutomatonRow}
use Rattle.rbbi_dfa.specs.inner.PositionRows.{PositionRows}
use Rattle.rbbi_dfa.specs.inner.PositionAutomata.{Marked, IsOfRules}
use Rattle.rbbi_dfa.specs.inner.Determinizing.{IsCell, HasMark, IsDeterminized}
use Rattle.rbbi_dfa.proofs.WordRows.{word_IsWay}
use Rattle.rbbi_dfa.proofs.Words.{IsSetOf, Ended, Unread, IsRowOf, Stop, Set, row_of_word, HasWord, reached_word}
use Rattle.rbbi_model.proofs.LookAheadNumbers.{counts}
use Rattle.rbbi_positions.proofs.Leaves.{rule_within}

-- numbers of look-ahead rules are below their count
pub number_small : (rules : List Rule) (number : ℕ) (rule : Rule) → IsRule rules number rule → LooksAhead rule →
    look_ahead_number rules number < length (look_aheads rules)
number_small rules number rule is looks =
    subst (λ l. look_ahead_number rules number < length (look_aheads l)) (take_all (length rules) rules (omega arith))
    (counts rules number (length rules) rule is looks (rule_within rules number rule is))

-- a rising list whose only member is 0
pub zero_alone : (statuses : List ℕ) → IsRising statuses → ((t : ℕ) → Member statuses t ↔ (t ≡ 0)) → statuses ≡ 0 ∷ []
zero_alone statuses rising only =
    rising_same statuses (0 ∷ []) rising tt (λ t member. inl (sym ((only t).0 member)))
    (λ t member. (only t).1 (⊎_elim (λ same. sym same) (λ out. absurd out) member))

module _ (rules : List Rule) (lawful : AreLawful rules) (ranges : List CategoryRange) (rows : PositionRows) (of : IsOfRules rules ranges rows)
    (sets : List (List ℕ)) (automaton : Table) (is : IsDeterminized rows sets automaton) where
  cell_within : (candidates : List ℕ) (category cell : ℕ) → IsCell rows sets candidates category cell → cell < length automaton.rows
  cell_within candidates category cell =
      ⊎_elim (λ none. omega (arith, none.0, is.many)) (λ some. omega (arith, some.1, is.many))

  -- category 0 is read nowhere
  cell_unread : (candidates : List ℕ) (cell : ℕ) → IsCell rows sets candidates 0 cell → cell ≡ 0
  cell_unread candidates cell =
      ⊎_elim (λ none. none.0)
      (λ some.
      let short : cell - 2 < length sets = omega (arith, some.0, some.1) in
      let held = is.reached.some (cell - 2) short in
      absurd (of.unread held.0 ((some.2 held.0).0 held.1).0))

  plain_row : (row : ℕ) → marks_of automaton row ≡ no_marks →
      ((category : ℕ) → category < rows.categories → step automaton row category < length automaton.rows) → step automaton row 0 ≡ 0 →
      row < length automaton.rows → IsAutomatonRow automaton row
  plain_row row plain next unread short =
      let accept : accept_of automaton row ≡ 0 = ap (λ (m : Marks). m.accept) plain in
      let fronts : fronts_of automaton row ≡ 0 = ap (λ (m : Marks). m.fronts) plain in
      record {
        accept = omega (arith, accept);
        fronts = omega (arith, fronts, pow_pos automaton.slashes);
        list = is.lists_within row short;
        next = λ category within. next category (omega (arith, within, is.categories));
        unread = unread;
        unended = λ none. ap (λ (m : Marks). m.statuses) plain;
        completed = λ many. absurd (omega (arith, many, accept));
      }

  set_next : (i category : ℕ) → i < length sets → category < rows.categories → step automaton (i + 2) category < length automaton.rows
  set_next i category short within =
      ⊎_elim
      (λ stops. omega (arith, stops.1 category within, is.many))
      (λ goes. cell_within goes.1.0 category (step automaton (i + 2) category) (goes.1.2 category within))
      (is.each i short)

  set_unread : (i : ℕ) → i < length sets → step automaton (i + 2) 0 ≡ 0
  set_unread i short =
      let within : 0 < rows.categories = of.some_categories in
      ⊎_elim (λ stops. stops.1 0 within) (λ goes. cell_unread goes.1.0 (step automaton (i + 2) 0) (goes.1.2 0 within)) (is.each i short)

  set_row : (i : ℕ) → i < length sets → IsAutomatonRow automaton (i + 2)
  set_row i short =
      let set : List ℕ = listed_row sets i in
      let marks = is.marks i short in
      let row : ℕ = i + 2 in
      let slashes : automaton.slashes ≡ length (look_aheads rules) = is.slashes ∙ of.slashes in
      record {
        accept =
            ⊎_elim
            (λ small. omega (arith, small))
            (λ many.
            let has = marks.accept.is_completed many in
            let number = (of.completed has.0 (accept_of automaton row - 2)).0 has.2 in
            omega (arith, many, number.3, number_small rules number.0 number.1.rule number.1.is_rule number.1.looks_ahead, slashes))
            (cases_lt (accept_of automaton row) 2);
        fronts = subst (λ n. fronts_of automaton row < 2 ^ n) (sym is.slashes) marks.small_fronts;
        list = is.lists_within row (omega (arith, short, is.many));
        next = λ category within. set_next i category short (omega (arith, within, is.categories));
        unread = set_unread i short;
        unended = λ none.
            let no_tag : (tag : ℕ) → HasMark set (Marked rows.tags) tag → ⊥ =
            λ tag has.
            let tagged = (of.tags has.0 tag).0 has.2 in
            let one = marks.accept.ended has.0 has.1 ((of.last has.0).1 (tagged.0, tagged.1)) in
            omega (arith, none, one) in
            zero_alone (statuses_of automaton (list_of automaton row)) marks.tags.rising
            (λ t. (
              λ member. ⊎_elim (λ has. absurd (no_tag t has)) (λ nothing. nothing.0) ((marks.tags.exactly t).0 member),
              λ same. (marks.tags.exactly t).1
                  (inr (same, no_tag)),
            ));
        completed = λ many. (
          marks.no_fronts many,
          λ category within.
              ⊎_elim
              (λ stops. stops.1 category (omega (arith, within, is.categories)))
              (λ goes. let has = marks.accept.is_completed many in absurd (goes.0 (has.0, accept_of automaton row - 2, has.1, has.2)))
              (is.each i short),
        );
      }

  pub each_row : (row : ℕ) → row < length automaton.rows → IsAutomatonRow automaton row
  each_row row short =
      ⊎_elim
      (λ none.
      subst (IsAutomatonRow automaton) (sym none)
      (plain_row 0 is.plain_stop (λ category within. omega (arith, is.stop category within, is.many)) (is.stop 0 of.some_categories) (omega (arith, is.many))))
      (λ some.
      ⊎_elim
      (λ one.
      subst (IsAutomatonRow automaton) (sym one)
      (plain_row 1 is.plain_start (λ category within. cell_within rows.first category (step automaton 1 category) (is.start category within))
      (cell_unread rows.first (step automaton 1 0) (is.start 0 of.some_categories)) (omega (arith, is.many))))
      (λ more.
      let i : ℕ = row - 2 in
      let at : i + 2 ≡ row = omega (arith, some, more) in
      subst (IsAutomatonRow automaton) at (set_row i (omega (arith, short, is.many, at))))
      (cases_eq row 1))
      (cases_eq row 0)

  -- sets of one word are one set
  same_set : (w : List ℕ) (i j : ℕ) → i < length sets → j < length sets → IsSetOf rules lawful ranges rows of w (listed_row sets i) →
      IsSetOf rules lawful ranges rows of w (listed_row sets j) → i ≡ j
  same_set w i j short short' set set' =
      ⊎_elim (λ same. same)
      (⊎_elim
      (λ less. absurd (is.reached.apart i j less short'
      (λ p. (λ holds. (set'.holds p).1 ((set.holds p).0 holds), λ holds. (set.holds p).1 ((set'.holds p).0 holds)))))
      (λ more. absurd (is.reached.apart j i more short
      (λ p. (λ holds. (set.holds p).1 ((set'.holds p).0 holds), λ holds. (set'.holds p).1 ((set.holds p).0 holds))))))
      (cases_order i j)

  -- the row of a word is the one of its set
  row_is : (w : List ℕ) (row i : ℕ) → IsRowOf rules lawful ranges rows of sets automaton is w row → i < length sets →
      IsSetOf rules lawful ranges rows of w (listed_row sets i) → row ≡ i + 2
  row_is w _ i (Stop row at (Ended ended)) short set = absurd (set.open_before ended)
  row_is w _ i (Stop row at (Unread before none)) short set = let held = is.reached.some i short in absurd (none held.0 ((set.holds held.0).0 held.1))
  row_is w _ i (Set row j at short' set') short set = at ∙ ap (λ n. n + 2) (same_set w j i short' short set' set)

  pub set_word : (i : ℕ) → i < length sets → HasWord rules lawful ranges rows of (listed_row sets i)
  set_word i short = reached_word rules lawful ranges rows of (listed_row sets i) (is.reached.reached i short) (is.reached.some i short)

  pub each_reached : (row : ℕ) → row ≢ 0 → row < length automaton.rows → (way : List ℕ) × IsWay automaton way × (row_along automaton 1 way ≡ row)
  each_reached row some short =
      ⊎_elim
      (λ one. ([], tt, sym one))
      (λ more.
      let i : ℕ = row - 2 in
      let at : i + 2 ≡ row = omega (arith, some, more) in
      let short' : i < length sets = omega (arith, short, is.many, at) in
      let word = set_word i short' in (
        map (category_of ranges) word.w,
        word_IsWay automaton ranges (λ c. omega (arith, of.within c, is.categories)) word.w,
        row_is word.w (row_along automaton 1 (map (category_of ranges) word.w)) i
            (row_of_word rules lawful ranges rows of sets automaton is word.w word.some word.is_word) short' word.set_of ∙ at,
      ))
      (cases_eq row 1)
