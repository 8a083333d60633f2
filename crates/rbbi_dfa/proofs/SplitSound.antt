-- A split of a partition is a partition, whatever was split by.
use Rattle.std.proofs.Common.{◌≡◌, ◌≢◌, ℕ, ◌+◌, ◌<◌, ◌≤◌, Bool, true, false, List, [], ◌∷◌, ◌++◌, length, refl, ap, sym, ◌∙◌, subst, inl, inr, ⊎_elim, arith}
use Rattle.std.proofs.Common.{slice_index}
use Rattle.std.proofs.lemmas.List.{get_or_append_left, get_or_push, length_push}
use Rattle.std.proofs.lemmas.Bool.{cases_eq}
use Rattle.rbbi_model.specs.Tables.{Table, step}
use Rattle.rbbi_model.specs.Marks.{marks_of}
use Rattle.rbbi_dfa.specs.inner.Automata.{IsDetermined}
use Rattle.rbbi_dfa.specs.inner.Partitions.{IsPartition, IsToldApart, AreSides, LeavesClass, leads_inside}
use Rattle.rbbi_dfa.proofs.Splits.{IsMoved, IsSplitUpTo, IsSplitUpTo-same}

-- rows that lead by one category to rows that are distinguished are distinguished
pub IsToldApart-step : (automaton : Table) (this that category : ℕ) → category < automaton.categories → IsToldApart automaton (step automaton this category)
    (step automaton that category) → IsToldApart automaton this that
IsToldApart-step automaton this that category h apart = (category ∷ apart.0, (h, apart.1), apart.2)

-- of a test that isn't on one side, it is on the other
other_side : (this stays that : Bool) → this ≢ stays → ¬ (that ≢ stays) → this ≢ that
other_side true true that h k = absurd (h refl)
other_side false false that h k = absurd (h refl)
other_side true false true h k = absurd (k (λ e. cc))
other_side true false false h k = λ e. cc
other_side false true false h k = absurd (k (λ e. cc))
other_side false true true h k = λ e. cc

module _
    (automaton : Table)
    (classes firsts : List ℕ)
    (inside : List Bool)
    (class category : ℕ)
    (determined : IsDetermined automaton)
    (partition : IsPartition automaton classes firsts)
    (sides : AreSides classes inside)
    (is_class : class < length firsts)
    (is_category : category < automaton.categories)
  where
    abbrev Side : ℕ → Bool
    Side row = leads_inside automaton inside category row

    abbrev First : ℕ
    First = slice_index firsts class

    abbrev Moved : ℕ → ℕ → Type 0
    Moved row after = IsMoved automaton classes inside class category (Side First) (length firsts) row after

    abbrev Goes : ℕ → Type 0
    Goes row = LeavesClass automaton classes inside class category (Side First) row

    next_row : (row : ℕ) → row < length classes → step automaton row category < length classes
    next_row row h =
        subst (λ n. step automaton row category < n) (sym partition.rows)
        ((determined.each row (subst (λ n. row < n) partition.rows h)).next category is_category)

    -- rows that lead to different sides lead to rows of different classes
    apart_by_sides : (this that : ℕ) → this < length classes → that < length classes → Side this ≢ Side that →
        slice_index classes (step automaton this category) ≢ slice_index classes (step automaton that category)
    apart_by_sides this that h k differ e = differ (sides (step automaton this category) (step automaton that category) (next_row this h) (next_row that k) e)

    split_by_sides : 3 ≤ length automaton.rows → (this that : ℕ) → this < length classes → that < length classes → Side this ≢ Side that →
        IsToldApart automaton this that
    split_by_sides many this that h k differ =
        IsToldApart-step automaton this that category is_category
        (partition.apart many (step automaton this category) (step automaton that category) (next_row this h) (next_row that k)
        (apart_by_sides this that h k differ))

    left_apart : 3 ≤ length automaton.rows → (this that : ℕ) → this < length classes → that < length classes → Goes this → ¬ Goes that →
        IsToldApart automaton this that
    left_apart many this that h k goes stays =
        ⊎_elim
        (λ (e : slice_index classes that ≡ class).
        split_by_sides many this that h k (other_side (Side this) (Side First) (Side that) goes.1 (λ differ. stays (e, differ))))
        (λ (differ : slice_index classes that ≢ class).
        partition.apart many this that h k (λ e. differ (sym e ∙ goes.0)))
        (cases_eq (slice_index classes that) class)

    apart_sym : (this that : ℕ) → IsToldApart automaton this that → IsToldApart automaton that this
    apart_sym this that apart = (apart.0, apart.1, λ e. apart.2 (sym e))

    moved_apart : 3 ≤ length automaton.rows → (this that m n : ℕ) → this < length classes → that < length classes → Moved this m → Moved that n → m ≢ n →
        IsToldApart automaton this that
    moved_apart many this that m n h k (inl (goes, e)) (inl (also, f)) differ = absurd (differ (e ∙ sym f))
    moved_apart many this that m n h k (inl (goes, e)) (inr (stays, f)) differ = left_apart many this that h k goes stays
    moved_apart many this that m n h k (inr (stays, e)) (inl (goes, f)) differ = apart_sym that this (left_apart many that this k h goes stays)
    moved_apart many this that m n h k (inr (stays, e)) (inr (also, f)) differ =
        partition.apart many this that h k (λ same. differ (e ∙ same ∙ sym f))

    moved_sides : (this that m n : ℕ) → this < length classes → that < length classes → Moved this m → Moved that n → m ≡ n →
        slice_index classes this ≡ slice_index classes that
    moved_sides this that m n h k (inl (goes, e)) (inl (also, f)) same = goes.0 ∙ sym also.0
    moved_sides this that m n h k (inl (goes, e)) (inr (stays, f)) same = absurd (omega (arith, partition.within that k))
    moved_sides this that m n h k (inr (stays, e)) (inl (goes, f)) same = absurd (omega (arith, partition.within this h))
    moved_sides this that m n h k (inr (stays, e)) (inr (also, f)) same = sym e ∙ same ∙ f

    module _
        (after : List ℕ)
        (left leaver : ℕ)
        (split : IsSplitUpTo automaton classes inside class category (Side First) (length firsts) (length classes) after left leaver)
      where
        pub split_sides : AreSides after inside
        split_sides this that h k same =
            let this_row : this < length classes = omega (arith, split.length_is) in
            let that_row : that < length classes = omega (arith, split.length_is) in
            sides this that this_row that_row
            (moved_sides this that (slice_index after this) (slice_index after that) this_row that_row (split.each this this_row) (split.each that that_row)
            same)

        module _ (some : 0 < left) where
          leaver_row : leaver < length classes
          leaver_row = (split.some some).0

          leaver_goes : Goes leaver
          leaver_goes = (split.some some).1

          more : List ℕ
          more = firsts ++ leaver ∷ []

          pub first_below : (k : ℕ) → k < length firsts → slice_index (firsts ++ leaver ∷ []) k ≡ slice_index firsts k
          first_below k h = get_or_append_left firsts (leaver ∷ []) 0 k h

          pub first_last : (k : ℕ) → k ≡ length firsts → slice_index (firsts ++ leaver ∷ []) k ≡ leaver
          first_last k e = get_or_push firsts leaver 0 k (sym e)

          first_cases : (P : ℕ → ℕ → Type 0) → ((k : ℕ) → k < length firsts → P k (slice_index firsts k)) → P (length firsts) leaver →
              (k : ℕ) → k < length (firsts ++ leaver ∷ []) → P k (slice_index (firsts ++ leaver ∷ []) k)
          first_cases P old new k h =
              ⊎_elim
              (λ (e : k ≡ length firsts). subst (λ row. P k row) (sym (first_last k e)) (subst (λ n. P n leaver) (sym e) new))
              (λ (differ : k ≢ length firsts).
              let below : k < length firsts = omega (arith, length_push firsts leaver) in
              subst (λ row. P k row) (sym (first_below k below)) (old k below))
              (cases_eq k (length firsts))

          -- the first row of a class stays in it
          first_stays : (k : ℕ) → k < length firsts → ¬ Goes (slice_index firsts k)
          first_stays k h goes =
              let same : k ≡ class = sym (partition.first_class k h) ∙ goes.0 in
              goes.1 (ap (λ n. Side (slice_index firsts n)) same)

          class_of_stayer : (row m : ℕ) → Moved row m → ¬ Goes row → m ≡ slice_index classes row
          class_of_stayer row m (inl (goes, e)) stays = absurd (stays goes)
          class_of_stayer row m (inr (_, e)) stays = e

          class_of_goer : (row m : ℕ) → Moved row m → Goes row → m ≡ length firsts
          class_of_goer row m (inl (_, e)) goes = e
          class_of_goer row m (inr (stays, e)) goes = absurd (stays goes)

          moved_within : (row m : ℕ) → row < length classes → Moved row m → m < length firsts + 1
          moved_within row m h (inl (goes, e)) = omega arith
          moved_within row m h (inr (stays, e)) = omega (arith, partition.within row h)

          moved_alone : (row m : ℕ) → row < length classes → Moved row m → m ≡ 0 → row ≡ 0
          moved_alone row m h (inl (goes, e)) z = absurd (omega (arith, partition.some))
          moved_alone row m h (inr (stays, e)) z = partition.alone row h (sym e ∙ z)

          moved_alike : (row m : ℕ) → row < length classes → Moved row m → marks_of automaton row ≡ marks_of automaton (slice_index (firsts ++ leaver ∷ []) m)
          moved_alike row m h (inl (goes, e)) =
              partition.alike row h
              ∙ ap (λ k. marks_of automaton (slice_index firsts k)) (goes.0 ∙ sym leaver_goes.0)
              ∙ sym (partition.alike leaver leaver_row)
              ∙ ap (λ k. marks_of automaton k) (sym (first_last m e))
          moved_alike row m h (inr (stays, e)) =
              partition.alike row h
              ∙ ap (λ k. marks_of automaton k) (sym (first_below (slice_index classes row) (partition.within row h)))
              ∙ ap (λ k. marks_of automaton (slice_index (firsts ++ leaver ∷ []) k)) (sym e)

          pub split_partition : IsPartition automaton after (firsts ++ leaver ∷ [])
          split_partition = record {
            rows = split.length_is ∙ partition.rows;
            some = omega (arith, partition.some, length_push firsts leaver);
            within = λ row h.
                let old : row < length classes = omega (arith, split.length_is) in
                omega (arith, moved_within row (slice_index after row) old (split.each row old), length_push firsts leaver);
            first_row = first_cases (λ _ row. row < length after)
                (λ k h. omega (arith, partition.first_row k h, split.length_is))
                (omega (arith, leaver_row, split.length_is));
            first_class = first_cases (λ k row. slice_index after row ≡ k)
                (λ k h.
                let row = slice_index firsts k in
                class_of_stayer row (slice_index after row) (split.each row (partition.first_row k h)) (first_stays k h) ∙ partition.first_class k h)
                (class_of_goer leaver (slice_index after leaver) (split.each leaver leaver_row) leaver_goes);
            stop = first_below 0 (omega (arith, partition.some)) ∙ partition.stop;
            start = first_below 1 (omega (arith, partition.some)) ∙ partition.start;
            alone = λ row h.
                let old : row < length classes = omega (arith, split.length_is) in
                moved_alone row (slice_index after row) old (split.each row old);
            alike = λ row h.
                let old : row < length classes = omega (arith, split.length_is) in
                moved_alike row (slice_index after row) old (split.each row old);
            apart = λ many this that h k.
                let this_row : this < length classes = omega (arith, split.length_is) in
                let that_row : that < length classes = omega (arith, split.length_is) in
                moved_apart many this that (slice_index after this) (slice_index after that) this_row that_row (split.each this this_row)
                (split.each that that_row);
          }

-- the partition that the code leaves, by the values that it has
pub partition_after : (automaton : Table) (classes firsts : List ℕ) (inside : List Bool) (class category : ℕ) (first : ℕ) (stays : Bool) (new row : ℕ)
    (after : List ℕ) (left leaver : ℕ) (more : List ℕ) →
    IsDetermined automaton → IsPartition automaton classes firsts → AreSides classes inside → class < length firsts → category < automaton.categories →
    first ≡ slice_index firsts class → stays ≡ leads_inside automaton inside category first → new ≡ length firsts → row ≡ length classes →
    IsSplitUpTo automaton classes inside class category stays new row after left leaver → 0 < left → more ≡ firsts ++ leaver ∷ [] →
    IsPartition automaton after more × AreSides after inside
partition_after automaton classes firsts inside class category first stays new row after left leaver grown d p s k c is_first is_stays is_new is_row h some e =
    let whole = IsSplitUpTo-same automaton classes inside class category stays new row after left leaver
    (leads_inside automaton inside category (slice_index firsts class)) (length firsts) (length classes)
    (is_stays ∙ ap (λ n. leads_inside automaton inside category n) is_first) is_new is_row h in (
      subst (λ (xs : List ℕ). IsPartition automaton after xs) (sym e)
          (split_partition automaton classes firsts inside class category d p s k c after left leaver whole some),
      split_sides automaton classes firsts inside class category d p s k c after left leaver whole,
    )

-- where none left, no row leads to the other side
pub none_leave : (automaton : Table) (classes firsts : List ℕ) (inside : List Bool) (class category : ℕ) (first : ℕ) (stays : Bool) (new row : ℕ)
    (after : List ℕ) (left leaver : ℕ) →
    first ≡ slice_index firsts class → stays ≡ leads_inside automaton inside category first → IsSplitUpTo automaton classes inside class category stays new
    row after left leaver → left ≡ 0 →
    (k : ℕ) → k < row → slice_index classes k ≡ class → leads_inside automaton inside category k ≢ leads_inside automaton inside category
    (slice_index firsts class) → ⊥
none_leave automaton classes firsts inside class category first stays new row after left leaver is_first is_stays h none k l of_class differ =
    h.none none k l (of_class, λ e. differ (e ∙ is_stays ∙ ap (λ n. leads_inside automaton inside category n) is_first))
