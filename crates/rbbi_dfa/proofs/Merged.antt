-- Merging rows that are alike changes no marks along any categories.
use Rattle.std.proofs.Common.{◌≡◌, ◌≢◌, ℕ, zero, suc, ◌^◌, ◌<◌, ◌≤◌, List, [], ◌∷◌, length, take, refl, ap, sym, ◌∙◌, subst, inl, inr, ⊎_elim, arith}
use Rattle.std.proofs.Common.{slice_index, slice_index_or}
use Rattle.std.specs.List.{AllByRecursion}
use Rattle.std.proofs.lemmas.Bool.{cases_lt}
use Rattle.rbbi_model.specs.Places.{has_bit}
use Rattle.rbbi_model.specs.Tables.{Table, head_of, accept_of, fronts_of, list_of, statuses_of, step, row_along}
use Rattle.rbbi_model.specs.ValidTables.{IsWay, IsBefore, AreInOrder, BeginsWithZeroAlone, LeadsToZero, IsValidRow, IsPlain, AreValidRows, AreFronted}
use Rattle.rbbi_model.specs.Marks.{Marks, no_marks, marks_of}
use Rattle.rbbi_model.specs.Compiled.{IsLeast}
use Rattle.rbbi_dfa.specs.inner.Automata.{IsDetermined}
use Rattle.rbbi_dfa.specs.inner.Partitions.{IsPartition, IsStable, IsMerged}

-- a way for so many categories is one for as many
pub IsWay-same : (this that : Table) (way : List ℕ) → this.categories ≡ that.categories → IsWay this way → IsWay that way
IsWay-same this that way e h = subst (λ (n : ℕ). AllByRecursion (λ category. category < n) way) e h

pub IsWay-take : (table : Table) (count : ℕ) (way : List ℕ) → IsWay table way → IsWay table (take count way)
IsWay-take table zero way h = tt
IsWay-take table (suc count) [] h = tt
IsWay-take table (suc count) (category ∷ way) h = (h.0, IsWay-take table count way h.1)

pub IsBefore-irreflexive : (statuses : List ℕ) → ¬ IsBefore statuses statuses
IsBefore-irreflexive [] h = h
IsBefore-irreflexive (n ∷ ns) (inl h) = absurd (omega arith)
IsBefore-irreflexive (n ∷ ns) (inr h) = IsBefore-irreflexive ns h.1

pub IsBefore-trans : (these those last : List ℕ) → IsBefore these those → IsBefore those last → IsBefore these last
IsBefore-trans these [] last h k = absurd h
IsBefore-trans [] (n ∷ those) [] h k = k
IsBefore-trans [] (n ∷ those) (l ∷ last) h k = tt
IsBefore-trans (m ∷ these) (n ∷ those) [] h k = k
IsBefore-trans (m ∷ these) (n ∷ those) (l ∷ last) (inl h) (inl k) = inl (omega arith)
IsBefore-trans (m ∷ these) (n ∷ those) (l ∷ last) (inl h) (inr k) = inl (omega (arith, k.0))
IsBefore-trans (m ∷ these) (n ∷ those) (l ∷ last) (inr h) (inl k) = inl (omega (arith, h.0))
IsBefore-trans (m ∷ these) (n ∷ those) (l ∷ last) (inr h) (inr k) = inr (h.0 ∙ k.0, IsBefore-trans these those last h.1 k.1)

-- a list that comes before all that follow it stands at no later place
pub before_at : (statuses : List ℕ) (lists : List (List ℕ)) (i : ℕ) → AreInOrder (statuses ∷ lists) → i < length lists →
    IsBefore statuses (slice_index_or lists i [])
before_at statuses [] i h k = absurd (omega arith)
before_at statuses (next ∷ lists) zero h k = h.0
before_at statuses (next ∷ lists) (suc i) h k =
    IsBefore-trans statuses next (slice_index_or lists i []) h.0 (before_at next lists i h.1 (omega arith))

zero_alone_first : (lists : List (List ℕ)) (i : ℕ) → BeginsWithZeroAlone lists → AreInOrder lists → i < length lists → slice_index_or lists i [] ≡ 0 ∷ [] →
    i ≡ 0
zero_alone_first [] i z h k e = absurd z
zero_alone_first (first ∷ lists) zero z h k e = refl
zero_alone_first (first ∷ lists) (suc i) z h k e =
    absurd (IsBefore-irreflexive first (subst (λ (s : List ℕ). IsBefore first s) (e ∙ sym z) (before_at first lists i h (omega arith))))

module _
    (automaton table : Table)
    (classes firsts : List ℕ)
    (determined : IsDetermined automaton)
    (partition : IsPartition automaton classes firsts)
    (merged : IsMerged automaton classes firsts table)
  where
    abbrev First : ℕ → ℕ
    First class = slice_index firsts class

    abbrev Class : ℕ → ℕ
    Class row = slice_index classes row

    row_of : (row : ℕ) → row < length classes → row < length automaton.rows
    row_of row h = omega (arith, partition.rows)

    next_row : (row category : ℕ) → row < length classes → category < automaton.categories → step automaton row category < length classes
    next_row row category h k = subst (λ (n : ℕ). step automaton row category < n) (sym partition.rows) ((determined.each row (row_of row h)).next category k)

    pub class_of_stop : Class 0 ≡ 0
    class_of_stop = ap (λ row. Class row) (sym partition.stop) ∙ partition.first_class 0 (omega (arith, partition.some))

    pub class_of_start : Class 1 ≡ 1
    class_of_start = ap (λ row. Class row) (sym partition.start) ∙ partition.first_class 1 (omega (arith, partition.some))

    start_row : 1 < length classes
    start_row = omega (arith, determined.some, partition.rows)

    pub way_of : (way : List ℕ) → IsWay table way → IsWay automaton way
    way_of way h = IsWay-same table automaton way merged.categories h

    pub way_to : (way : List ℕ) → IsWay automaton way → IsWay table way
    way_to way h = IsWay-same automaton table way (sym merged.categories) h

    row_along_within : (row : ℕ) (way : List ℕ) → row < length classes → IsWay automaton way → row_along automaton row way < length classes
    row_along_within row [] h k = h
    row_along_within row (category ∷ way) h k = row_along_within (step automaton row category) way (next_row row category h k.0) k.1

    module _ (stable : IsStable automaton classes firsts) where
      step_class : (row category : ℕ) → row < length classes → category < automaton.categories →
          step table (Class row) category ≡ Class (step automaton row category)
      step_class row category h k = merged.next (Class row) category (partition.within row h) k ∙ sym (stable row category h k)

      pub row_along_class : (row : ℕ) (way : List ℕ) → row < length classes → IsWay automaton way →
          row_along table (Class row) way ≡ Class (row_along automaton row way)
      row_along_class row [] h k = refl
      row_along_class row (category ∷ way) h k =
          ap (λ next. row_along table next way) (step_class row category h k.0)
          ∙ row_along_class (step automaton row category) way (next_row row category h k.0) k.1

      marks_class : (row : ℕ) → row < length classes → marks_of table (Class row) ≡ marks_of automaton row
      marks_class row h = merged.marks (Class row) (partition.within row h) ∙ sym (partition.alike row h)

      pub marks_along : (row : ℕ) (way : List ℕ) → row < length classes → IsWay automaton way →
          marks_of table (row_along table (Class row) way) ≡ marks_of automaton (row_along automaton row way)
      marks_along row way h k =
          ap (λ next. marks_of table next) (row_along_class row way h k) ∙ marks_class (row_along automaton row way) (row_along_within row way h k)

      pub marks_from_start : (way : List ℕ) → IsWay automaton way → marks_of table (row_along table 1 way) ≡ marks_of automaton (row_along automaton 1 way)
      marks_from_start way k =
          ap (λ row. marks_of table (row_along table row way)) (sym class_of_start) ∙ marks_along 1 way start_row k

      marks_from_first : (class : ℕ) (way : List ℕ) → class < length firsts → IsWay automaton way →
          marks_of table (row_along table class way) ≡ marks_of automaton (row_along automaton (First class) way)
      marks_from_first class way h k =
          ap (λ row. marks_of table (row_along table row way)) (sym (partition.first_class class h))
          ∙ marks_along (First class) way (partition.first_row class h) k

      -- The table is least.

      first_not_stop : (class : ℕ) → class < length firsts → class ≢ 0 → First class ≢ 0
      first_not_stop class h differ e = differ (sym (partition.first_class class h) ∙ ap (λ row. Class row) e ∙ class_of_stop)

      reached : (class : ℕ) → class ≢ 0 → class < length firsts → (way : List ℕ) × IsWay table way × (row_along table 1 way ≡ class)
      reached class differ h =
          let found = determined.reached (First class) (first_not_stop class h differ) (row_of (First class) (partition.first_row class h)) in (
            found.0,
            way_to found.0 found.1,
            ap (λ row. row_along table row found.0) (sym class_of_start) ∙ row_along_class 1 found.0 start_row found.1 ∙ ap (λ row. Class row) found.2
                ∙ partition.first_class class h,
          )

      -- a first row that is row 0 or 1 is that of class 0 or 1
      small_class : (class : ℕ) → class < length firsts → length classes ≤ 2 → class ≤ 1
      small_class class h few =
          ⊎_elim
          (λ (l : First class < 1).
          let e : class ≡ 0 = sym (partition.first_class class h) ∙ ap (λ row. Class row) (omega (arith)) ∙ class_of_stop in
          omega arith)
          (λ (g : 1 ≤ First class).
          let one : First class ≡ 1 = omega (arith, partition.first_row class h) in
          let e : class ≡ 1 = sym (partition.first_class class h) ∙ ap (λ row. Class row) one ∙ class_of_start in
          omega arith)
          (cases_lt (First class) 1)

      apart : (this that : ℕ) → this < that → that < length firsts → ¬ ((this ≡ 0) × (that ≡ 1)) → (way : List ℕ) × IsWay table way ×
          (marks_of table (row_along table this way) ≢ marks_of table (row_along table that way))
      apart this that less h other =
          let this_class : this < length firsts = omega arith in
          ⊎_elim
          (λ (few : length automaton.rows < 3). absurd
          (other (omega (arith, small_class that h (omega (arith, partition.rows))), omega (arith, small_class that h (omega (arith, partition.rows))))))
          (λ (many : 3 ≤ length automaton.rows).
          let found = partition.apart many (First this) (First that) (partition.first_row this this_class) (partition.first_row that h)
          (λ e. absurd (omega (arith, partition.first_class this this_class, partition.first_class that h))) in (
            found.0,
            way_to found.0 found.1,
            λ e. found.2 (sym (marks_from_first this found.0 this_class found.1) ∙ e ∙ marks_from_first that found.0 h found.1),
          ))
          (cases_lt (length automaton.rows) 3)

      pub merged_IsLeast : IsLeast table
      merged_IsLeast = record {
        reached = λ row differ h. reached row differ (omega (arith, merged.rows));
        apart = λ this that less h other. apart this that less (omega (arith, merged.rows)) other;
        lists = λ list differ h.
            let found = merged.named list h in
            (found.0, omega (arith, merged.rows, found.1), found.2);
      }

      -- Its rows are valid.

      head_accept : (class : ℕ) → class < length firsts → accept_of table class ≡ accept_of automaton (First class)
      head_accept class h = ap (λ (marks : Marks). marks.accept) (merged.marks class h)

      head_fronts : (class : ℕ) → class < length firsts → fronts_of table class ≡ fronts_of automaton (First class)
      head_fronts class h = ap (λ (marks : Marks). marks.fronts) (merged.marks class h)

      head_statuses : (class : ℕ) → class < length firsts → statuses_of table (list_of table class) ≡ statuses_of automaton (list_of automaton (First class))
      head_statuses class h = ap (λ (marks : Marks). marks.statuses) (merged.marks class h)

      list_zero : (class : ℕ) → class < length firsts → statuses_of automaton (list_of automaton (First class)) ≡ 0 ∷ [] → list_of table class ≡ 0
      list_zero class h e = zero_alone_first table.lists (list_of table class) merged.first_list merged.in_order (merged.list class h) (head_statuses class h
          ∙ e)

      -- where the first row of a class leads to row 0 only, so does the class
      leads_zero : (class : ℕ) → class < length firsts → LeadsToZero automaton (First class) → LeadsToZero table class
      leads_zero class h zero_only category k =
          let old : category < automaton.categories = omega (arith, merged.categories) in
          merged.next class category h old ∙ ap (λ row. Class row) (zero_only category old) ∙ class_of_stop

      valid_row : (class : ℕ) → class < length firsts → IsValidRow table class
      valid_row class h =
          let row = determined.each (First class) (row_of (First class) (partition.first_row class h)) in
          record {
            accept = omega (arith, head_accept class h, row.accept, merged.slashes);
            fronts = subst (λ (n : ℕ). fronts_of table class < 2 ^ n) (sym merged.slashes) (omega (arith, head_fronts class h, row.fronts));
            list = merged.list class h;
            next = λ category k.
                let old : category < automaton.categories = omega (arith, merged.categories) in
                omega (
                  arith,
                  merged.rows,
                  merged.next class category h old,
                  partition.within (step automaton (First class) category)
                      (next_row (First class) category (partition.first_row class h) old),
                );
            unended = λ e. list_zero class h (row.unended (sym (head_accept class h) ∙ e));
            completed = λ two.
                let done = row.completed (omega (arith, head_accept class h)) in
                (head_fronts class h ∙ done.0, leads_zero class h done.1);
          }

      plain_row : (class : ℕ) → class < length firsts → marks_of automaton (First class) ≡ no_marks → IsPlain (head_of table class)
      plain_row class h e = (
        head_accept class h ∙ ap (λ (marks : Marks). marks.accept) e,
        head_fronts class h ∙ ap (λ (marks : Marks). marks.fronts) e,
        list_zero class h (ap (λ (marks : Marks). marks.statuses) e),
      )

      pub merged_AreValidRows : length firsts ≤ 4095 → AreValidRows table
      merged_AreValidRows few = record {
        some = omega (arith, merged.rows, partition.some);
        few = omega (arith, merged.rows);
        few_slashes = omega (arith, merged.slashes, determined.few_slashes);
        each = λ row h. valid_row row (omega (arith, merged.rows));
        stop = plain_row 0 (omega (arith, partition.some)) (ap (λ row. marks_of automaton row) partition.stop ∙ determined.stop);
        start = plain_row 1 (omega (arith, partition.some)) (ap (λ row. marks_of automaton row) partition.start ∙ determined.start);
        stop_leads = leads_zero 0 (omega (arith, partition.some)) (subst (λ (row : ℕ). LeadsToZero automaton row) (sym partition.stop) determined.stop_leads);
      }

      -- On every way into a row that completes a look-ahead rule its front ends earlier.
      pub merged_AreFronted : AreFronted table
      merged_AreFronted way k h completed =
          let old = way_of way h in
          let found = determined.fronts way k old (ap (λ (marks : Marks). marks.accept) (sym (marks_from_start way old)) ∙ completed) in (
            found.0,
            found.1,
            ap (λ fronts. has_bit fronts k)
                (ap (λ (marks : Marks). marks.fronts) (marks_from_start (take found.0 way) (IsWay-take automaton found.0 way old))) ∙ found.2,
          )
