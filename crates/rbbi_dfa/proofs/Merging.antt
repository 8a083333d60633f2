-- What is made of a partition, part by part, is the merged table.
use Rattle.std.proofs.Common.{◌≡◌, ℕ, zero, suc, ◌+◌, ◌*◌, ◌/◌, ◌%◌, ◌<◌, ◌≤◌, Bool, true, false, List, [], ◌∷◌, ◌++◌, length, refl, ap, sym, ◌∙◌, subst, inl}
use Rattle.std.proofs.Common.{inr, arith, mul_comm, map, Bor, slice_index, slice_index_or}
use Rattle.std.specs.List.{AllByRecursion}
use Rattle.std.proofs.lemmas.Nat.{div-mul-add, mod-mul-add, mul-add-lt}
use Rattle.std.proofs.lemmas.List.{get_or_append_left, get_or_push, length-map, length_push}
use borrow.Author.Count.{below_more}
use Rattle.rbbi_model.specs.Tables.{Table, RowHead, list_of, statuses_of, step}
use Rattle.rbbi_model.specs.ValidTables.{IsValidList, IsBefore, AreInOrder, BeginsWithZeroAlone}
use Rattle.rbbi_model.specs.Marks.{Marks, marks_of}
use Rattle.rbbi_model.proofs.Lists.{all_by_index, all_at}
use Rattle.rbbi_dfa.specs.inner.Automata.{IsDetermined}
use Rattle.rbbi_dfa.specs.inner.Partitions.{IsPartition, IsMerged}
use Rattle.rbbi_dfa.specs.inner.Ranks.{AreOrderedLists, AreRanked}
use Rattle.rbbi_dfa.specs.inner.Numbers.{ArePlacesOf, AreUsed, AreNumbered, HaveCells, HaveHeads}
use Rattle.rbbi_dfa.proofs.Grouping.{marks_by_parts}
use Rattle.rbbi_dfa.proofs.Lists.{le_from_choices}

pub HaveCells-more : (automaton : Table) (classes firsts cells more : List ℕ) (count cell : ℕ) → HaveCells automaton classes firsts count cells →
    cell ≡ slice_index classes (step automaton (slice_index firsts (count / automaton.categories)) (count % automaton.categories)) →
    more ≡ cells ++ cell ∷ [] → HaveCells automaton classes firsts (count + 1) more
HaveCells-more automaton classes firsts cells more count cell h here e =
    subst (λ (xs : List ℕ). HaveCells automaton classes firsts (count + 1) xs) (sym e) (record {
      many = length_push cells cell ∙ ap (λ n. n + 1) h.many;
      each = below_more (λ k. slice_index (cells ++ cell ∷ []) k ≡ slice_index classes
          (step automaton (slice_index firsts (k / automaton.categories)) (k % automaton.categories))) count
          (λ k l. get_or_append_left cells (cell ∷ []) 0 k (omega (arith, h.many)) ∙ h.each k l)
          (get_or_push cells cell 0 count h.many ∙ here);
    })

-- lists of which each comes before all later ones are in order
pub AreInOrder-from_rising : (lists : List (List ℕ)) → AreOrderedLists lists → AreInOrder lists
AreInOrder-from_rising [] h = tt
AreInOrder-from_rising (these ∷ []) h = tt
AreInOrder-from_rising (these ∷ those ∷ lists) h =
    (h 0 1 (omega arith) (omega arith), AreInOrder-from_rising (those ∷ lists) (λ i j l k. h (suc i) (suc j) (omega arith) (omega arith)))

-- only the empty list comes before 0 alone
before_zero_alone : (these : List ℕ) → IsBefore these (0 ∷ []) → length these ≡ 0
before_zero_alone [] h = refl
before_zero_alone (m ∷ these) (inl h) = absurd (omega arith)
before_zero_alone (m ∷ these) (inr h) = absurd h.1

begins_with_zero : (lists : List (List ℕ)) (i : ℕ) → AllByRecursion IsValidList lists → AreOrderedLists lists → i < length lists →
    slice_index_or lists i [] ≡ 0 ∷ [] → BeginsWithZeroAlone lists
begins_with_zero [] i valid rising h e = absurd (omega arith)
begins_with_zero (first ∷ lists) zero valid rising h e = e
begins_with_zero (first ∷ lists) (suc i) valid rising h e =
    let empty = before_zero_alone first (subst (λ (those : List ℕ). IsBefore first those) e (rising 0 (suc i) (omega arith) h)) in
    absurd (omega (arith, valid.0.some))

module _
    (automaton : Table)
    (classes firsts : List ℕ)
    (sorted : List (List ℕ))
    (places class_places : List ℕ)
    (used : List Bool)
    (numbers : List ℕ)
    (lists : List (List ℕ))
    (determined : IsDetermined automaton)
    (partition : IsPartition automaton classes firsts)
    (ranked : AreRanked automaton.lists sorted places)
    (of_classes : ArePlacesOf automaton places firsts class_places)
    (are_used : AreUsed class_places used)
    (numbered : AreNumbered used sorted (length sorted) numbers lists)
  where
    abbrev First : ℕ → ℕ
    First class = slice_index firsts class

    first_list : (class : ℕ) → class < length firsts → list_of automaton (First class) < length automaton.lists
    first_list class h = (determined.each (First class) (omega (arith, partition.first_row class h, partition.rows))).list

    class_place : (class : ℕ) → class < length firsts → slice_index class_places class < length sorted
    class_place class h =
        subst (λ (n : ℕ). n < length sorted) (sym (of_classes.each class h)) (ranked.places.within (list_of automaton (First class)) (first_list class h))

    -- the list at a class's place is that of its first row
    place_list : (class : ℕ) → class < length firsts → slice_index_or sorted (slice_index class_places class) [] ≡ statuses_of automaton
        (list_of automaton (First class))
    place_list class h =
        ap (λ place. slice_index_or sorted place []) (of_classes.each class h) ∙ ranked.places.placed (list_of automaton (First class)) (first_list class h)

    class_used : (class : ℕ) → class < length firsts → slice_index_or used (slice_index class_places class) false ≡ true
    class_used class h = are_used.all class (omega (arith, of_classes.many))

    pub number_within : (class : ℕ) → class < length firsts → slice_index numbers (slice_index class_places class) < length lists
    number_within class h = numbered.within (slice_index class_places class) (class_place class h) (class_used class h)

    number_list : (class : ℕ) → class < length firsts → slice_index_or lists (slice_index numbers (slice_index class_places class)) [] ≡ statuses_of
        automaton (list_of automaton (First class))
    number_list class h = numbered.same (slice_index class_places class) (class_place class h) (class_used class h) ∙ place_list class h

    -- each list is some class's
    named : (list : ℕ) → list < length lists → (class : ℕ) × ((class < length firsts) × (slice_index numbers (slice_index class_places class) ≡ list))
    named list h =
        let place = numbered.only list h in
        let class = are_used.only place.0 place.2 in
        (class.0, (omega (arith, class.1, of_classes.many), ap (λ k. slice_index numbers k) class.2 ∙ place.3))

    pub lists_few : length lists ≤ length firsts
    lists_few = le_from_choices (λ list class. slice_index numbers (slice_index class_places class) ≡ list) (length lists) (length firsts) named
        (λ i j class less short this that. omega arith)

    lists_valid : AllByRecursion IsValidList lists
    lists_valid = all_by_index IsValidList [] lists (λ i h.
        let class = named i h in
        let same : slice_index_or lists i [] ≡ statuses_of automaton (list_of automaton (First class.0)) =
        ap (λ k. slice_index_or lists k []) (sym class.1.1) ∙ number_list class.0 class.1.0 in
        subst (λ (s : List ℕ). IsValidList s) (sym same) (all_at IsValidList automaton.lists (list_of automaton (First class.0)) []
        (first_list class.0 class.1.0) determined.lists))

    module _
        (categories slashes : ℕ)
        (heads : List RowHead)
        (cells : List ℕ)
        (is_categories : categories ≡ automaton.categories)
        (is_slashes : slashes ≡ automaton.slashes)
        (have_heads : HaveHeads automaton firsts class_places numbers (length firsts) heads)
        (have_cells : HaveCells automaton classes firsts (length firsts * automaton.categories) cells)
      where
        abbrev Merged : Table
        Merged = record { categories = categories; slashes = slashes; ranges = []; lists = lists; rows = heads; cells = cells; safe = [] }

        merged_list : (class : ℕ) → class < length firsts → list_of Merged class ≡ slice_index numbers (slice_index class_places class)
        merged_list class h = ap (λ (head : RowHead). head.list) (have_heads.each class h)

        merged_marks : (class : ℕ) → class < length firsts → marks_of Merged class ≡ marks_of automaton (First class)
        merged_marks class h =
            marks_by_parts (marks_of Merged class) (marks_of automaton (First class))
            (ap (λ (head : RowHead). head.accept) (have_heads.each class h))
            (ap (λ (head : RowHead). head.fronts) (have_heads.each class h))
            (ap (λ k. slice_index_or lists k []) (merged_list class h) ∙ number_list class h)

        merged_next : (class category : ℕ) → class < length firsts → category < automaton.categories → step Merged class category ≡ slice_index classes
            (step automaton (First class) category)
        merged_next class category h k =
            ap (λ n. slice_index cells (class * n + category)) is_categories
            ∙ have_cells.each (class * automaton.categories + category) (cell_place class category h k)
            ∙ ap (λ n. slice_index classes (step automaton (First n) ((class * automaton.categories + category) % automaton.categories)))
            (div-mul-add class automaton.categories category k)
            ∙ ap (λ n. slice_index classes (step automaton (First class) n)) (mod-mul-add class automaton.categories category k)
          where
            cell_place : (class category : ℕ) → class < length firsts → category < automaton.categories →
                class * automaton.categories + category < length firsts * automaton.categories
            cell_place class category h k =
                subst (λ (n : ℕ). class * automaton.categories + category < n) (mul_comm automaton.categories (length firsts))
                (mul-add-lt class automaton.categories category (length firsts) h k)

        pub IsMerged-from_parts : IsMerged automaton classes firsts (record {
          categories = categories;
          slashes = slashes;
          ranges = [];
          lists = lists;
          rows =
              heads;
          cells = cells;
          safe = [];
        })
        IsMerged-from_parts =
            let start : 0 < length firsts = omega (arith, partition.some) in
            let stop_list : statuses_of automaton (list_of automaton (First 0)) ≡ 0 ∷ [] =
            ap (λ (marks : Marks). marks.statuses) (ap (λ row. marks_of automaton row) partition.stop ∙ determined.stop) in
            record {
              categories = is_categories;
              slashes = is_slashes;
              rows = have_heads.many;
              cells = have_cells.many;
              marks = merged_marks;
              next = merged_next;
              few_lists = lists_few;
              list = λ class h. subst (λ (n : ℕ). n < length lists) (sym (merged_list class h)) (number_within class h);
              valid = lists_valid;
              first_list = begins_with_zero lists (slice_index numbers (slice_index class_places 0)) lists_valid numbered.rising (number_within 0 start)
                  (number_list 0 start ∙ stop_list);
              in_order = AreInOrder-from_rising lists numbered.rising;
              named = λ list h.
                  let class = named list h in
                  (class.0, class.1.0, merged_list class.0 class.1.0 ∙ class.1.1);
            }

-- the same for lists that the code lends as slices
pub numbered_as : (used lent_used : List Bool) (sorted lent_sorted : List (Bor (List ℕ))) (numbers : List ℕ) (lists : List (List ℕ)) →
    lent_used ≡ used → lent_sorted ≡ sorted →
    AreNumbered lent_used (map (λ statuses. statuses.now) lent_sorted) (length lent_sorted) numbers lists →
    AreNumbered used (map (λ statuses. statuses.now) sorted) (length (map (λ (statuses : Bor (List ℕ)). statuses.now) sorted)) numbers lists
numbered_as used lent_used sorted lent_sorted numbers lists u s h =
    subst (λ (n : ℕ). AreNumbered used (map (λ statuses. statuses.now) sorted) n numbers lists) (sym (length-map sorted (λ statuses. statuses.now)))
    (subst (λ xs. AreNumbered used (map (λ statuses. statuses.now) xs) (length xs) numbers lists) s
    (subst (λ xs. AreNumbered xs (map (λ statuses. statuses.now) lent_sorted) (length lent_sorted) numbers lists) u h))

pub places_as : (automaton : Table) (places lent_places firsts lent_firsts class_places : List ℕ) → lent_places ≡ places → lent_firsts ≡ firsts →
    ArePlacesOf automaton lent_places lent_firsts class_places → ArePlacesOf automaton places firsts class_places
places_as automaton places lent_places firsts lent_firsts class_places p f h =
    subst (λ (xs : List ℕ). ArePlacesOf automaton xs firsts class_places) p (subst (λ (xs : List ℕ). ArePlacesOf automaton lent_places xs class_places) f h)

pub used_as : (class_places lent : List ℕ) (used : List Bool) → lent ≡ class_places → AreUsed lent used → AreUsed class_places used
used_as class_places lent used e h = subst (λ (xs : List ℕ). AreUsed xs used) e h

pub heads_as : (automaton : Table) (firsts class_places lent_places numbers lent_numbers : List ℕ) (heads : List RowHead) → lent_places ≡ class_places →
    lent_numbers ≡ numbers →
    HaveHeads automaton firsts lent_places lent_numbers (length firsts) heads → HaveHeads automaton firsts class_places numbers (length firsts) heads
heads_as automaton firsts class_places lent_places numbers lent_numbers heads p n h =
    subst (λ (xs : List ℕ). HaveHeads automaton firsts xs numbers (length firsts) heads) p
    (subst (λ (xs : List ℕ). HaveHeads automaton firsts lent_places xs (length firsts) heads) n h)
