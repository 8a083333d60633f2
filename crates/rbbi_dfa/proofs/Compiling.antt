-- A least table with its ranges and safe pairs is compiled from the rules.
use Rattle.std.proofs.Common.{◌≡◌, ◌≢◌, ℕ, ◌+◌, ◌*◌, ◌/◌, ◌<◌, List, [], ◌∷◌, length, map, take, refl, ap, sym, ◌∙◌, subst}
use Rattle.std.proofs.Common.{⊎_elim, arith, slice_index_or}
use Rattle.std.specs.List.{AllByRecursion}
use Rattle.rbbi_model.specs.Places.{has_bit}
use Rattle.rbbi_model.specs.Words.{IsWord}
use Rattle.rbbi_model.specs.Rules.{Rule}
use Rattle.rbbi_model.specs.Tables.{Table, CategoryRange, category_of, accept_of, fronts_of, list_of, step, row_along}
use Rattle.rbbi_model.specs.ValidTables.{IsValidRow, AreValidRanges, BeginsWithZeroAlone, AreValidRows, AreFronted, AreValidSafePairs}
use Rattle.rbbi_model.specs.Marks.{Marks, AreMarks, marks_of, HasSameMarks}
use Rattle.rbbi_model.specs.Compiled.{IsLeast, IsStatusList, HasStatusLists, AreClasses, IsCompiled}
use Rattle.rbbi_dfa.specs.inner.Automata.{IsDetermined, with_ranges}
use Rattle.rbbi_dfa.specs.inner.Categories.{HaveCategoriesBelow}
use Rattle.rbbi_dfa.specs.inner.LeastTables.{IsLeastOf, finished}
use Rattle.rbbi_dfa.proofs.Lists.{le_from_choices}
use Rattle.rbbi_dfa.proofs.Grouping.{row_along-ranges}
use Rattle.rbbi_dfa.proofs.WordRows.{along_within, word_IsWay}
use Rattle.rbbi_model.proofs.Categories.{category_within}
use Rattle.rbbi_model.proofs.Lists.{all_at}

pub HaveCategoriesBelow-from_valid : (categories : ℕ) (ranges : List CategoryRange) → AreValidRanges categories ranges → HaveCategoriesBelow categories ranges
HaveCategoriesBelow-from_valid categories ranges h c = category_within categories ranges c h

pub first_zero : (lists : List (List ℕ)) → BeginsWithZeroAlone lists → slice_index_or lists 0 [] ≡ 0 ∷ []
first_zero [] h = absurd h
first_zero (statuses ∷ lists) h = h

pub row_along-finished : (table : Table) (ranges : List CategoryRange) (safe : List ℕ) (row : ℕ) (way : List ℕ) →
    row_along (finished table ranges safe) row way ≡ row_along table row way
row_along-finished table ranges safe row [] = refl
row_along-finished table ranges safe row (category ∷ way) = row_along-finished table ranges safe (step table row category) way

module _ (table : Table) (ranges : List CategoryRange) (safe : List ℕ) where
  pub IsLeast-finished : IsLeast table → IsLeast (finished table ranges safe)
  IsLeast-finished h = record {
    reached = λ row some l.
        let found = h.reached row some l in
        (found.0, found.1, row_along-finished table ranges safe 1 found.0 ∙ found.2);
    apart = λ this that less l other.
        let found = h.apart this that less l other in (
          found.0,
          found.1,
          λ e. found.2 (ap (λ row. marks_of table row) (sym (row_along-finished table ranges safe this found.0)) ∙ e
              ∙ ap (λ row. marks_of table row) (row_along-finished table ranges safe that found.0)),
        );
    lists = h.lists;
  }

  IsValidRow-finished : (row : ℕ) → IsValidRow table row → IsValidRow (finished table ranges safe) row
  IsValidRow-finished row h = record {
    accept = h.accept;
    fronts = h.fronts;
    list = h.list;
    next = h.next;
    unended = h.unended;
    completed = h.completed;
  }

  pub AreValidRows-finished : AreValidRows table → AreValidRows (finished table ranges safe)
  AreValidRows-finished h = record {
    some = h.some;
    few = h.few;
    few_slashes = h.few_slashes;
    each = λ row l. IsValidRow-finished row (h.each row l);
    stop = h.stop;
    start = h.start;
    stop_leads = h.stop_leads;
  }

  pub AreFronted-finished : AreFronted table → AreFronted (finished table ranges safe)
  AreFronted-finished h way k is_way completed =
      let found = h way k is_way (ap (λ row. accept_of table row) (sym (row_along-finished table ranges safe 1 way)) ∙ completed) in (
        found.0,
        found.1,
        ap (λ row. has_bit (fronts_of table row) k) (row_along-finished table ranges safe 1 (take found.0 way)) ∙ found.2,
      )

module _
    (rules : List Rule)
    (ranges : List CategoryRange)
    (automaton table : Table)
    (determined : IsDetermined automaton)
    (same : HasSameMarks (with_ranges automaton ranges) rules)
    (valid : AreValidRanges automaton.categories ranges)
    (least : IsLeastOf automaton table)
  where
    within : HaveCategoriesBelow automaton.categories ranges
    within = HaveCategoriesBelow-from_valid automaton.categories ranges valid

    marks_after_word : (w : List ℕ) → marks_of table (row_along table 1 (map (category_of ranges) w)) ≡ marks_of automaton
        (row_along automaton 1 (map (category_of ranges) w))
    marks_after_word w = least.marks (map (category_of ranges) w) (word_IsWay automaton ranges within w)

    pub HasSameMarks-finished : (safe : List ℕ) → HasSameMarks (finished table ranges safe) rules
    HasSameMarks-finished safe = record {
      slashes = least.slashes ∙ same.slashes;
      each = λ w h some.
          let way = map (category_of ranges) w in
          subst (λ (marks : Marks). AreMarks rules w marks)
          (ap (λ row. marks_of automaton row) (row_along-ranges automaton ranges 1 (map (category_of ranges) w))
          ∙ sym (marks_after_word w)
          ∙ ap (λ row. marks_of table row) (sym (row_along-finished table ranges safe 1 (map (category_of ranges) w))))
          (same.each w h some);
    }

    -- the parts that aren't proved here: the safe pairs, and the classes of the ranges
    pub IsCompiled-finished : (safe : List ℕ) → length safe ≡ (table.categories * table.categories + 7) / 8 → AllByRecursion (λ byte. byte < 256) safe →
        AreValidSafePairs (finished table ranges safe) → AreClasses rules automaton.categories ranges → IsCompiled (finished table ranges safe) rules
    IsCompiled-finished safe long bytes pairs classes = record {
      valid = record {
        well_formed = record { cells = least.cells; safe = long; bytes = bytes };
        ranges = subst (λ (n : ℕ). AreValidRanges n ranges) (sym least.categories) valid;
        lists = least.lists;
        rows = AreValidRows-finished table ranges safe least.rows;
        fronts = AreFronted-finished table ranges safe least.fronts;
        safe = pairs;
      };
      same = HasSameMarks-finished safe;
      least = IsLeast-finished table ranges safe least.least;
      classes = subst (λ (n : ℕ). AreClasses rules n ranges) (sym least.categories) classes;
    }

    module _ (unique : (w : List ℕ) (these those : Marks) → AreMarks rules w these → AreMarks rules w those → these ≡ those) where
      table_row_within : (w : List ℕ) → row_along table 1 (map (category_of ranges) w) < length table.rows
      table_row_within w =
          along_within table (λ row category h k. (least.rows.each row h).next category k) 1 (map (category_of ranges) w) (omega (arith, least.rows.some))
          (subst (λ (n : ℕ). AllByRecursion (λ category. category < n) (map (category_of ranges) w)) (sym least.categories)
          (word_IsWay automaton ranges within w))

      listed : (statuses : List ℕ) → IsStatusList rules statuses → (i : ℕ) × ((i < length table.lists) × (slice_index_or table.lists i [] ≡ statuses))
      listed statuses h =
          ⊎_elim
          (λ (z : statuses ≡ 0 ∷ []). (0, (omega (arith, least.lists.some), first_zero table.lists least.lists.first ∙ sym z)))
          (λ (after : (w : List ℕ) × (marks : Marks) × IsWord w × (w ≢ []) × AreMarks rules w marks × (marks.statuses ≡ statuses)).
          let w = after.0 in
          let is : after.1 ≡ marks_of automaton (row_along automaton 1 (map (category_of ranges) after.0)) =
          unique after.0 after.1 _ after.4
          (subst (λ (row : ℕ). AreMarks rules after.0 (marks_of automaton row)) (row_along-ranges automaton ranges 1 (map (category_of ranges) after.0))
          (same.each after.0 after.2 after.3)) in
          let row = row_along table 1 (map (category_of ranges) after.0) in (
            list_of table (row_along table 1 (map (category_of ranges) after.0)),
            (
              (least.rows.each (row_along table 1 (map (category_of ranges) after.0)) (table_row_within after.0)).list,
              ap (λ (marks : Marks). marks.statuses) (marks_after_word after.0 ∙ sym is) ∙ after.5,
            ),
          ))
          h

      pub few_status_lists : HasStatusLists rules 4096 → ⊥
      few_status_lists has =
          let few = le_from_choices (λ k i. slice_index_or table.lists i [] ≡ slice_index_or has.lists k []) 4096 (length table.lists)
          (λ k h. listed (slice_index_or has.lists k []) (all_at (IsStatusList rules) has.lists k [] (omega (arith, has.many)) has.each))
          (λ j k i less h this that. has.apart j k [] less (omega (arith, has.many)) (sym this ∙ that)) in
          omega (arith, few, least.lists.few)
