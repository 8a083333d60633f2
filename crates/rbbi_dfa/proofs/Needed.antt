-- How many rows a table needs: as many as there are classes.
use Rattle.std.proofs.Common.{◌≡◌, ◌≢◌, ℕ, ◌+◌, ◌-◌, ◌<◌, ◌≤◌, List, [], ◌∷◌, length, take, drop, get_or, ap, sym}
use Rattle.std.proofs.Common.{◌∙◌, subst, ⊎_elim, arith, add_comm, slice_index}
use Rattle.std.proofs.lemmas.Bool.{cases_eq, cases_lt}
use Rattle.std.proofs.lemmas.List.{length-take, length-drop, get_or-take, get_or-drop, get_or_default}
use Rattle.rbbi_model.specs.Tables.{Table, step, row_along}
use Rattle.rbbi_model.specs.ValidTables.{IsWay}
use Rattle.rbbi_model.specs.Marks.{marks_of}
use Rattle.rbbi_model.proofs.Lists.{all_by_index, all_at}
use Rattle.rbbi_dfa.specs.inner.Automata.{IsDetermined}
use Rattle.rbbi_dfa.specs.inner.Partitions.{IsPartition, IsToldApart, IsStable, NeedsRows}
use Rattle.rbbi_dfa.proofs.Lists.{le_from_choices}

module _ (automaton : Table) (classes firsts : List ℕ) (determined : IsDetermined automaton) (partition : IsPartition automaton classes firsts) where
  class_stop : slice_index classes 0 ≡ 0
  class_stop = ap (λ row. slice_index classes row) (sym partition.stop) ∙ partition.first_class 0 (omega (arith, partition.some))

  class_start : slice_index classes 1 ≡ 1
  class_start = ap (λ row. slice_index classes row) (sym partition.start) ∙ partition.first_class 1 (omega (arith, partition.some))

  -- a third class has a third row
  third : 3 ≤ length firsts → 3 ≤ length automaton.rows
  third many =
      let row = slice_index firsts 2 in
      let class : slice_index classes row ≡ 2 = partition.first_class 2 (omega arith) in
      let below : row < length classes = partition.first_row 2 (omega arith) in
      ⊎_elim
      (λ (l : row < 2).
      ⊎_elim
      (λ (z : row ≡ 0). absurd (omega (arith, ap (λ k. slice_index classes k) z, class, class_stop)))
      (λ (s : row ≢ 0).
      let one : row ≡ 1 = omega arith in
      absurd (omega (arith, ap (λ k. slice_index classes k) one, class, class_start)))
      (cases_eq row 0))
      (λ (g : 2 ≤ row). omega (arith, partition.rows))
      (cases_lt row 2)

  -- the first rows of the classes but class 0 are distinguished
  pub NeedsRows-from_classes : (count : ℕ) → 2 ≤ count → count < length firsts → NeedsRows automaton count
  NeedsRows-from_classes count two many =
      let rows = take count (drop 1 firsts) in
      let is : length (take count (drop 1 firsts)) ≡ count = omega (arith, length-take count (drop 1 firsts), length-drop 1 firsts) in
      record {
        rows = rows;
        many = is;
        are_rows = all_by_index (λ row. (row ≢ 0) × (row < length automaton.rows)) 0 (take count (drop 1 firsts)) (λ i h.
            let class : i + 1 < length firsts = omega arith in
            let at = first_at i 0 (omega arith) in
            let row_class : slice_index classes (slice_index firsts (i + 1)) ≡ i + 1 = partition.first_class (i + 1) class in (
              (λ z. absurd (omega (arith, ap (λ k. slice_index classes k) (sym at ∙ z), row_class, class_stop))),
              omega (arith, at, partition.first_row (i + 1) class, partition.rows),
            ));
        apart = λ i j d less h.
            let i_class : i + 1 < length firsts = omega arith in
            let j_class : j + 1 < length firsts = omega arith in
            subst (λ (k : ℕ). IsToldApart automaton k (get_or (take count (drop 1 firsts)) j d)) (sym (first_at i d (omega arith)))
            (subst (λ (k : ℕ). IsToldApart automaton (slice_index firsts (i + 1)) k) (sym (first_at j d (omega arith)))
            (partition.apart (third (omega arith)) (slice_index firsts (i + 1)) (slice_index firsts (j + 1)) (partition.first_row (i + 1) i_class)
            (partition.first_row (j + 1) j_class)
            (λ e. absurd (omega (arith, partition.first_class (i + 1) i_class, partition.first_class (j + 1) j_class)))));
      }
    where
      first_at : (i d : ℕ) → i < count → get_or (take count (drop 1 firsts)) i d ≡ slice_index firsts (i + 1)
      first_at i d h =
          get_or-take count (drop 1 firsts) i d h ∙ get_or-drop 1 firsts i d ∙ ap (λ k. get_or firsts k d) (add_comm 1 i)
          ∙ get_or_default firsts (i + 1) d 0 (omega arith)

  module _ (stable : IsStable automaton classes firsts) where
    next_row : (row category : ℕ) → row < length classes → category < automaton.categories → step automaton row category < length classes
    next_row row category h k =
        subst (λ (n : ℕ). step automaton row category < n) (sym partition.rows) ((determined.each row (omega (arith, partition.rows))).next category k)

    -- rows of one class lead on to rows of one class
    along : (this that : ℕ) (way : List ℕ) → this < length classes → that < length classes → IsWay automaton way →
        slice_index classes this ≡ slice_index classes that →
        marks_of automaton (row_along automaton this way) ≡ marks_of automaton (row_along automaton that way)
    along this that [] h k w e =
        partition.alike this h ∙ ap (λ class. marks_of automaton (slice_index firsts class)) e ∙ sym (partition.alike that k)
    along this that (category ∷ way) h k w e =
        along (step automaton this category) (step automaton that category) way (next_row this category h w.0) (next_row that category k w.0) w.1
        (stable this category h w.0 ∙ ap (λ class. slice_index classes (step automaton (slice_index firsts class) category)) e
        ∙ sym (stable that category k w.0))

    -- no more rows are needed than there are classes beside class 0
    pub NeedsRows-at_most : (count : ℕ) → NeedsRows automaton count → count < length firsts
    NeedsRows-at_most count needs =
        let few = le_from_choices (λ i x. slice_index classes (slice_index needs.rows i) ≡ x + 1) (length needs.rows) (length firsts - 1)
        (λ i short.
        let class : ℕ = slice_index classes (slice_index needs.rows i) in
        let within = partition.within (slice_index needs.rows i) (row_within i short) in
        (class - 1, (omega (arith, some i short, within), omega (arith, some i short))))
        (λ i j x less short this that.
        let apart = needs.apart i j 0 less short in
        apart.2 (along (slice_index needs.rows i) (slice_index needs.rows j) apart.0 (row_within i (omega arith)) (row_within j short) apart.1
        (this ∙ sym that))) in
        omega (arith, few, needs.many, partition.some)
      where
        listed_row : (i : ℕ) → i < length needs.rows → (slice_index needs.rows i ≢ 0) × (slice_index needs.rows i < length automaton.rows)
        listed_row i short = all_at (λ row. (row ≢ 0) × (row < length automaton.rows)) needs.rows i 0 short needs.are_rows

        row_within : (i : ℕ) → i < length needs.rows → slice_index needs.rows i < length classes
        row_within i short = omega (arith, (listed_row i short).1, partition.rows)

        some : (i : ℕ) → i < length needs.rows → 1 ≤ slice_index classes (slice_index needs.rows i)
        some i short =
            ⊎_elim
            (λ (z : slice_index classes (slice_index needs.rows i) < 1).
            absurd ((listed_row i short).0 (partition.alone (slice_index needs.rows i) (row_within i short) (omega arith))))
            (λ (g : 1 ≤ slice_index classes (slice_index needs.rows i)). g)
            (cases_lt (slice_index classes (slice_index needs.rows i)) 1)
