-- The row that a word leads to has the marks of the rules.
use Rattle.std.proofs.Common.{◌≡◌, ℕ, ◌+◌, ◌-◌, ◌≤◌, List, length, map, sym, refl, ap, ◌∙◌}
use Rattle.std.proofs.Common.{subst, inl, inr, ⊎_elim, arith}
use Rattle.std.proofs.lemmas.Bool.{cases_eq, cases_lt, false≢true}
use Rattle.rbbi_model.specs.Rules.{Rule, AreLawful}
use Rattle.rbbi_model.specs.Chains.{EndsAt, IsTagAt}
use Rattle.rbbi_model.specs.Tables.{Table, CategoryRange, category_of, row_along}
use Rattle.rbbi_model.specs.Marks.{Marks, no_marks, look_ahead_number, HasFront, IsCompleted, IsEnded, IsUnended, AreMarksAtEnd, AreMarks, marks_of}
use Rattle.rbbi_model.specs.Marks.{HasSameMarks}
use Rattle.rbbi_bits.specs.NumberedRows.{listed_row}
use Rattle.rbbi_dfa.specs.inner.Automata.{with_ranges}
use Rattle.rbbi_dfa.specs.inner.PositionRows.{PositionRows}
use Rattle.rbbi_dfa.specs.inner.PositionAutomata.{Marked, IsOfRules}
use Rattle.rbbi_dfa.specs.inner.Determinizing.{HasMark, AreMarksOf, IsDeterminized}
use Rattle.rbbi_model.proofs.LookAheadNumbers.{counts}
use Rattle.rbbi_bits.proofs.WordBits.{no_bit}
use Rattle.rbbi_dfa.proofs.Grouping.{row_along-ranges}
use Rattle.rbbi_dfa.proofs.Reading.{ReadBy, read_ends, ends_read, front_read, read_front}
use Rattle.rbbi_dfa.proofs.Words.{IsSetOf, mark_completed, completed_mark, Ended, Unread, IsRowOf, Stop, Set, row_of_word}

module _ (rules : List Rule) (lawful : AreLawful rules) (ranges : List CategoryRange) (rows : PositionRows) (of : IsOfRules rules ranges rows) where
  module _ (w set : List ℕ) (is : IsSetOf rules lawful ranges rows of w set) where
    tag_mark : (tag : ℕ) → IsTagAt rules w 0 (length w) tag → HasMark set (Marked rows.tags) tag
    tag_mark tag at =
        let read = ends_read rules lawful.each w at.number at.ends in
        (read.0, (is.holds read.0).1 read.1, (of.tags read.0 tag).1 (at.number, read.2, record { rule = at.rule; is_rule = at.is_rule; tagged = at.tagged }))

    mark_tag : (tag : ℕ) → HasMark set (Marked rows.tags) tag → IsTagAt rules w 0 (length w) tag
    mark_tag tag has =
        let last = (of.tags has.0 tag).0 has.2 in
        let ends = read_ends rules lawful.each w last.0 has.0 ((is.holds has.0).0 has.1) last.1 in
        record { number = last.0; rule = last.2.rule; is_rule = last.2.is_rule; ends = ends; tagged = last.2.tagged }

    pub front_mark : (mark : ℕ) → HasFront rules w mark → HasMark set (Marked rows.fronts) mark
    front_mark mark front =
        let read = front_read rules lawful.each w front.number front.front in
        (read.0, (is.holds read.0).1 read.1, (of.fronts read.0 mark).1 (front.number, read.2, front.numbered))

    mark_front : (mark : ℕ) → HasMark set (Marked rows.fronts) mark → HasFront rules w mark
    mark_front mark has =
        let last = (of.fronts has.0 mark).0 has.2 in
        record {
          number = last.0;
          numbered = last.2;
          front =
              read_front rules lawful.each w last.0 has.0 ((is.holds has.0).0 has.1) last.1;
        }

    module _ (marks : Marks) (are : AreMarksOf rows set marks) where
      completed_accept : 2 ≤ marks.accept → IsCompleted rules w marks.accept
      completed_accept many =
          let mark : ℕ = marks.accept - 2 in
          let ends = mark_completed rules lawful ranges rows of w set is mark (are.accept.is_completed many) in
          record {
            number = ends.0;
            ends = ends.1;
            first = λ other ends'.
                let low = (are.accept.completed (look_ahead_number rules other) (completed_mark rules lawful ranges rows of w set is other ends')).1 in
                ⊎_elim (λ less. absurd (omega (arith, low, ends.2, many, counts rules other ends.0 ends'.rule ends'.is_rule ends'.looks_ahead less)))
                (λ most. most) (cases_lt other ends.0);
            numbered = omega (arith, ends.2, many);
          }

      ended_accept : marks.accept ≡ 1 → IsEnded rules w marks.accept
      ended_accept one =
          let last = are.accept.is_ended one in
          let of_rule = (of.last last.0).0 last.2 in
          let ends = read_ends rules lawful.each w of_rule.0 last.0 ((is.holds last.0).0 last.1) of_rule.1 in
          record {
            number = of_rule.0;
            ends = ends;
            no_look_ahead = λ other ends'.
                let mark = completed_mark rules lawful ranges rows of w set is other ends' in
                omega (arith, one, (are.accept.completed (look_ahead_number rules other) mark).0);
            is_one = one;
          }

      unended_accept : marks.accept ≡ 0 → IsUnended rules w marks.accept
      unended_accept none =
          record {
            no_end = λ number ends.
                let read = ends_read rules lawful.each w number ends in
                omega (arith, none, are.accept.ended read.0 ((is.holds read.0).1 read.1) ((of.last read.0).1 (number, read.2)));
            is_zero = none;
          }

      pub marks_at_end : AreMarksAtEnd rules w marks
      marks_at_end = record {
        accept = ⊎_elim (λ small. ⊎_elim (λ none. inr (inr (unended_accept none))) (λ other. inr (inl (ended_accept (omega (arith, small, other)))))
            (cases_eq marks.accept 0)) (λ many. inl (completed_accept many)) (cases_lt marks.accept 2);
        fronts = λ small k. (λ bit. mark_front k ((are.fronts small k).0 bit), λ front. (are.fronts small k).1 (front_mark k front));
        no_fronts = are.no_fronts;
        statuses = record {
          rising = are.tags.rising;
          exactly = λ tag. (
            λ member. ⊎_elim (λ has. inl (mark_tag tag has)) (λ none. inr (none.0, λ other at. none.1 other (tag_mark other at)))
                ((are.tags.exactly tag).0 member),
            λ tagged. (are.tags.exactly tag).1 (⊎_elim (λ at. inl (tag_mark tag at)) (λ none. inr (none.0, λ other has. none.1 other (mark_tag other has)))
                tagged),
          );
        };
      }

  -- where no position reads the last code point nothing is marked
  unread_marks : (w : List ℕ) → ((p : ℕ) → ¬ ReadBy rules w p) → AreMarksAtEnd rules w no_marks
  unread_marks w none =
      let no_end : (number : ℕ) → EndsAt rules w 0 (length w) number → ⊥ =
      λ number ends. let read = ends_read rules lawful.each w number ends in none read.0 read.1 in
      record {
        accept = inr (inr (record { no_end = no_end; is_zero = refl }));
        fronts = λ small k. (
          λ bit. absurd (false≢true (sym (no_bit k) ∙ bit)),
          λ front. let read = front_read rules lawful.each w front.number front.front in absurd (none read.0 read.1),
        );
        no_fronts = λ many. absurd (omega (arith, many));
        statuses = record {
          rising = tt;
          exactly = λ tag. (
            λ member. ⊎_elim (λ same. inr (sym same, λ other at. no_end at.number at.ends)) (λ out. absurd out) member,
            λ tagged. ⊎_elim (λ at. absurd (no_end at.number at.ends)) (λ zero. inl (sym zero.0)) tagged,
          );
        };
      }

  module _ (sets : List (List ℕ)) (automaton : Table) (is : IsDeterminized rows sets automaton) where
    pub row_marks : (w : List ℕ) (row : ℕ) → IsRowOf rules lawful ranges rows of sets automaton is w row → AreMarks rules w (marks_of automaton row)
    row_marks w _ (Stop row at (Ended ended)) = inl (ended, ap (λ r. marks_of automaton r) at ∙ is.plain_stop)
    row_marks w _ (Stop row at (Unread before none)) =
        subst (AreMarks rules w) (sym (ap (λ r. marks_of automaton r) at ∙ is.plain_stop)) (inr (before, unread_marks w none))
    row_marks w _ (Set row i at short set) =
        subst (AreMarks rules w) (sym (ap (λ r. marks_of automaton r) at))
        (inr (set.open_before, marks_at_end w (listed_row sets i) set (marks_of automaton (i + 2)) (is.marks i short)))

    -- after every word that isn't empty the automaton has the marks of the rules
    pub has_same_marks : HasSameMarks (with_ranges automaton ranges) rules
    has_same_marks = record {
      slashes = is.slashes ∙ of.slashes;
      each = λ w word some.
          let here = row_marks w (row_along automaton 1 (map (category_of ranges) w)) (row_of_word rules lawful ranges rows of sets automaton is w some word) in
          subst (λ r. AreMarks rules w (marks_of automaton r)) (sym (row_along-ranges automaton ranges 1 (map (category_of ranges) w))) here;
    }
