-- Rows grouped by their marks.
use Rattle.std.proofs.Common.{◌≡◌, ◌≢◌, ◌↔◌, ℕ, zero, suc, ◌+◌, ◌<◌, ◌≤◌, List, [], ◌∷◌, ◌++◌, length, refl, ap, sym, ◌∙◌, subst, ◌⊎◌, ⊎_elim, arith}
use Rattle.std.proofs.Common.{slice_index, slice_index_or}
use Rattle.std.proofs.lemmas.Bool.{cases_eq, cases_order, cases_lt}
use Rattle.std.proofs.lemmas.List.{get_or_append_left, get_or_push, length_push}
use borrow.Author.Count.{below_more}
use Rattle.rbbi_model.specs.Tables.{Table, CategoryRange, accept_of, fronts_of, list_of, step, row_along}
use Rattle.rbbi_model.specs.ValidTables.{IsWay, IsBefore, LeadsToZero}
use Rattle.rbbi_model.specs.Marks.{Marks, marks_of}
use Rattle.rbbi_dfa.specs.inner.Automata.{IsDetermined, LeadsToMarks, with_ranges}
use Rattle.rbbi_dfa.specs.inner.Partitions.{IsPartition, IsToldApart}
use Rattle.rbbi_dfa.specs.inner.Ranks.{AreRanked}
use Rattle.rbbi_model.proofs.SearchFacts.{row_along_append}
use Rattle.rbbi_model.proofs.Lists.{all_append}
use Rattle.rbbi_dfa.proofs.Merged.{IsBefore-irreflexive}

-- lists with one rank are equal, and equal lists have one rank
pub rank_alike : (lists sorted : List (List ℕ)) (places : List ℕ) (i j : ℕ) → AreRanked lists sorted places → i < length lists → j < length lists →
    slice_index places i ≡ slice_index places j → slice_index_or lists i [] ≡ slice_index_or lists j []
rank_alike lists sorted places i j h hi hj e =
    sym (h.places.placed i hi) ∙ ap (λ place. slice_index_or sorted place []) e ∙ h.places.placed j hj

pub alike_rank : (lists sorted : List (List ℕ)) (places : List ℕ) (i j : ℕ) → AreRanked lists sorted places → i < length lists → j < length lists →
    slice_index_or lists i [] ≡ slice_index_or lists j [] → slice_index places i ≡ slice_index places j
alike_rank lists sorted places i j h hi hj e =
    let same : slice_index_or sorted (slice_index places i) [] ≡ slice_index_or sorted (slice_index places j) [] =
    h.places.placed i hi ∙ e ∙ sym (h.places.placed j hj) in
    ⊎_elim
    (λ (x : slice_index places i ≡ slice_index places j). x)
    (λ (x : (slice_index places i < slice_index places j) ⊎ (slice_index places j < slice_index places i)).
    ⊎_elim
    (λ (l : slice_index places i < slice_index places j).
    absurd (IsBefore-irreflexive (slice_index_or sorted (slice_index places j) [])
    (subst (λ (these : List ℕ). IsBefore these (slice_index_or sorted (slice_index places j) [])) same
    (h.order.rising (slice_index places i) (slice_index places j) l (h.places.within j hj)))))
    (λ (g : slice_index places j < slice_index places i).
    absurd (IsBefore-irreflexive (slice_index_or sorted (slice_index places i) [])
    (subst (λ (these : List ℕ). IsBefore these (slice_index_or sorted (slice_index places i) [])) (sym same)
    (h.order.rising (slice_index places j) (slice_index places i) g (h.places.within i hi)))))
    x)
    (cases_order (slice_index places i) (slice_index places j))

-- marks are equal by their parts
pub marks_by_parts : (this that : Marks) → this.accept ≡ that.accept → this.fronts ≡ that.fronts → this.statuses ≡ that.statuses → this ≡ that
marks_by_parts this that a f s = λ i. record { accept = a i; fronts = f i; statuses = s i }

pub row_along-ranges : (table : Table) (ranges : List CategoryRange) (row : ℕ) (way : List ℕ) →
    row_along (with_ranges table ranges) row way ≡ row_along table row way
row_along-ranges table ranges row [] = refl
row_along-ranges table ranges row (category ∷ way) = row_along-ranges table ranges (step table row category) way

-- row 0 stays row 0
pub stop_along : (table : Table) → LeadsToZero table 0 → (way : List ℕ) → IsWay table way → row_along table 0 way ≡ 0
stop_along table stop_leads [] h = refl
stop_along table stop_leads (category ∷ way) h = ap (λ row. row_along table row way) (stop_leads category h.0) ∙ stop_along table stop_leads way h.1

module _
    (table : Table)
    (reached : (row : ℕ) → row ≢ 0 → row < length table.rows → (way : List ℕ) × IsWay table way × (row_along table 1 way ≡ row))
    (lead : (row : ℕ) → 2 ≤ row → row < length table.rows → LeadsToMarks table row)
  where
    -- each row but row 0 leads to marks, where there are more than two
    pub alive : 3 ≤ length table.rows → (row : ℕ) → row ≢ 0 → row < length table.rows → LeadsToMarks table row
    alive many zero some h = absurd (some refl)
    alive many (suc zero) some h =
        let there = reached 2 (λ e. absurd (omega (arith, e))) (omega (arith, many)) in
        let on = lead 2 (omega arith) (omega (arith, many)) in (
          there.0 ++ on.0,
          all_append (λ category. category < table.categories) there.0 on.0 there.1 on.1,
          λ e. on.2 (ap (λ row. marks_of table (row_along table row on.0)) (sym there.2)
              ∙ ap (λ row. marks_of table row) (sym (row_along_append table 1 there.0 on.0)) ∙ e),
        )
    alive many (suc (suc row)) some h = lead (suc (suc row)) (omega arith) h

pub stop_apart : (automaton : Table) → IsDetermined automaton → 3 ≤ length automaton.rows → (row : ℕ) → row ≢ 0 → row < length automaton.rows →
    IsToldApart automaton row 0
stop_apart automaton determined many row some h =
    let on = alive automaton determined.reached determined.lead many row some h in
    (on.0, on.1, λ e. on.2 (e ∙ ap (λ row. marks_of automaton row) (stop_along automaton determined.stop_leads on.0 on.1) ∙ determined.stop))

-- what is known after so many rows
pub record AreGrouped (automaton : Table) (row : ℕ) (classes firsts : List ℕ) : Type 0 where
  pub rows : length classes ≡ row
  pub some : 1 ≤ length firsts
  pub few : length firsts ≤ row
  pub within : (k : ℕ) → k < row → slice_index classes k < length firsts
  pub first_row : (class : ℕ) → class < length firsts → slice_index firsts class < row
  pub first_class : (class : ℕ) → class < length firsts → slice_index classes (slice_index firsts class) ≡ class
  pub stop : slice_index firsts 0 ≡ 0
  pub start : 2 ≤ row → (2 ≤ length firsts) × (slice_index firsts 1 ≡ 1)
  pub alone : (k : ℕ) → k < row → slice_index classes k ≡ 0 → k ≡ 0
  pub alike : (k : ℕ) → k < row → marks_of automaton k ≡ marks_of automaton (slice_index firsts (slice_index classes k))
  pub differ : (class : ℕ) → 1 ≤ class → (later : ℕ) → class < later → later < length firsts →
      marks_of automaton (slice_index firsts class) ≢ marks_of automaton (slice_index firsts later)

module _ (automaton : Table) (row : ℕ) (classes firsts : List ℕ) (h : AreGrouped automaton row classes firsts) where
  class_before : (class k : ℕ) → k < row → slice_index (classes ++ class ∷ []) k ≡ slice_index classes k
  class_before class k l = get_or_append_left classes (class ∷ []) 0 k (omega (arith, h.rows))

  class_here : (class : ℕ) → slice_index (classes ++ class ∷ []) row ≡ class
  class_here class = get_or_push classes class 0 row h.rows

  -- a row with the marks of a class that is there
  pub AreGrouped-known : (class : ℕ) (more : List ℕ) → 2 ≤ row → 1 ≤ class → class < length firsts →
      marks_of automaton (slice_index firsts class) ≡ marks_of automaton row → more ≡ classes ++ class ∷ [] → AreGrouped automaton (row + 1) more firsts
  AreGrouped-known class more two one is_class same e =
      subst (λ (xs : List ℕ). AreGrouped automaton (row + 1) xs firsts) (sym e) (record {
        rows = length_push classes class ∙ ap (λ n. n + 1) h.rows;
        some = h.some;
        few = omega (arith, h.few);
        within = below_more (λ k. slice_index (classes ++ class ∷ []) k < length firsts) row
            (λ k l. omega (arith, class_before class k l, h.within k l)) (omega (arith, class_here class));
        first_row = λ k l. omega (arith, h.first_row k l);
        first_class = λ k l. class_before class (slice_index firsts k) (h.first_row k l) ∙ h.first_class k l;
        stop = h.stop;
        start = λ _. h.start two;
        alone = below_more (λ k. slice_index (classes ++ class ∷ []) k ≡ 0 → k ≡ 0) row
            (λ k l z. h.alone k l (sym (class_before class k l) ∙ z)) (λ z. absurd (omega (arith, class_here class)));
        alike = below_more (λ k. marks_of automaton k ≡ marks_of automaton (slice_index firsts (slice_index (classes ++ class ∷ []) k))) row
            (λ k l. h.alike k l ∙ ap (λ n. marks_of automaton (slice_index firsts n)) (sym (class_before class k l)))
            (sym same ∙ ap (λ n. marks_of automaton (slice_index firsts n)) (sym (class_here class)));
        differ = h.differ;
      })

  first_before : (k : ℕ) → k < length firsts → slice_index (firsts ++ row ∷ []) k ≡ slice_index firsts k
  first_before k l = get_or_append_left firsts (row ∷ []) 0 k l

  first_here : slice_index (firsts ++ row ∷ []) (length firsts) ≡ row
  first_here = get_or_push firsts row 0 (length firsts) refl

  -- a row with marks that no class has
  pub AreGrouped-new : (more others : List ℕ) → 1 ≤ row →
      ((class : ℕ) → 1 ≤ class → class < length firsts → marks_of automaton (slice_index firsts class) ≢ marks_of automaton row) →
      more ≡ classes ++ length firsts ∷ [] → others ≡ firsts ++ row ∷ [] → AreGrouped automaton (row + 1) more others
  AreGrouped-new more others one new e f =
      let class = length firsts in
      let grown : length (firsts ++ row ∷ []) ≡ length firsts + 1 = length_push firsts row in
      subst (λ (xs : List ℕ). AreGrouped automaton (row + 1) xs others) (sym e)
      (subst (λ (xs : List ℕ). AreGrouped automaton (row + 1) (classes ++ class ∷ []) xs) (sym f) (record {
        rows = length_push classes class ∙ ap (λ n. n + 1) h.rows;
        some = omega arith;
        few = omega (arith, h.few);
        within = below_more (λ k. slice_index (classes ++ class ∷ []) k < length (firsts ++ row ∷ [])) row
            (λ k l. omega (arith, class_before class k l, h.within k l, grown)) (omega (arith, class_here class, grown));
        first_row = first_cases (λ _ first. first < row + 1) (λ k l. omega (arith, h.first_row k l)) (omega arith);
        first_class = first_cases (λ k first. slice_index (classes ++ class ∷ []) first ≡ k)
            (λ k l. class_before class (slice_index firsts k) (h.first_row k l) ∙ h.first_class k l)
            (class_here class);
        stop = first_before 0 (omega (arith, h.some)) ∙ h.stop;
        start = λ _. started;
        alone = below_more (λ k. slice_index (classes ++ class ∷ []) k ≡ 0 → k ≡ 0) row
            (λ k l z. h.alone k l (sym (class_before class k l) ∙ z)) (λ z. absurd (omega (arith, class_here class, h.some)));
        alike = below_more (λ k. marks_of automaton k ≡ marks_of automaton (slice_index (firsts ++ row ∷ []) (slice_index (classes ++ class ∷ []) k))) row
            (λ k l. h.alike k l ∙ ap (λ n. marks_of automaton n) (sym (first_before (slice_index classes k) (h.within k l)))
            ∙ ap (λ n. marks_of automaton (slice_index (firsts ++ row ∷ []) n)) (sym (class_before class k l)))
            (ap (λ n. marks_of automaton n) (sym first_here) ∙ ap (λ n. marks_of automaton (slice_index (firsts ++ row ∷ []) n)) (sym (class_here class)));
        differ = λ k l later less m.
            first_cases (λ later first. k < later → marks_of automaton (slice_index (firsts ++ row ∷ []) k) ≢ marks_of automaton first)
            (λ later m less same. h.differ k l later less m (ap (λ n. marks_of automaton n) (sym (first_before k (omega arith))) ∙ same))
            (λ less same. new k l less (ap (λ n. marks_of automaton n) (sym (first_before k less)) ∙ same))
            later m less;
      }))
    where
      first_cases : (P : ℕ → ℕ → Type 0) → ((k : ℕ) → k < length firsts → P k (slice_index firsts k)) → P (length firsts) row →
          (k : ℕ) → k < length (firsts ++ row ∷ []) → P k (slice_index (firsts ++ row ∷ []) k)
      first_cases P old here k l =
          ⊎_elim
          (λ (s : k ≡ length firsts). subst (λ n. P n (slice_index (firsts ++ row ∷ []) n)) (sym s)
          (subst (λ first. P (length firsts) first) (sym first_here) here))
          (λ (d : k ≢ length firsts).
          let below : k < length firsts = omega (arith, length_push firsts row) in
          subst (λ first. P k first) (sym (first_before k below)) (old k below))
          (cases_eq k (length firsts))

      started : (2 ≤ length (firsts ++ row ∷ [])) × (slice_index (firsts ++ row ∷ []) 1 ≡ 1)
      started =
          ⊎_elim
          (λ (l : row < 2).
          let alone : length firsts ≡ 1 = omega (arith, h.few, h.some) in
          let is_one : row ≡ 1 = omega arith in
          (omega (arith, length_push firsts row), get_or_push firsts row 0 1 alone ∙ is_one))
          (λ (g : 2 ≤ row).
          let before = h.start g in
          (omega (arith, length_push firsts row, before.0), first_before 1 before.0 ∙ before.1))
          (cases_lt row 2)

-- all rows are grouped
pub IsPartition-from_grouped : (automaton : Table) (row : ℕ) (classes firsts : List ℕ) → IsDetermined automaton → row ≡ length automaton.rows →
    AreGrouped automaton row classes firsts → IsPartition automaton classes firsts
IsPartition-from_grouped automaton row classes firsts determined e h = record {
  rows = h.rows ∙ e;
  some = (h.start two).0;
  within = λ k l. h.within k (omega (arith, h.rows));
  first_row = λ k l. omega (arith, h.rows, h.first_row k l);
  first_class = h.first_class;
  stop = h.stop;
  start = (h.start two).1;
  alone = λ k l z. h.alone k (omega (arith, h.rows)) z;
  alike = λ k l. h.alike k (omega (arith, h.rows));
  apart = λ many this that l m differ.
      let this_row : this < row = omega (arith, h.rows) in
      let that_row : that < row = omega (arith, h.rows) in
      ⊎_elim
      (λ (z : this ≡ 0).
      let some : that ≢ 0 = λ y. differ (ap (λ k. slice_index classes k) (z ∙ sym y)) in
      let found = stop_apart automaton determined many that some (omega arith) in
      subst (λ (k : ℕ). IsToldApart automaton k that) (sym z) (found.0, found.1, λ same. found.2 (sym same)))
      (λ (s : this ≢ 0).
      ⊎_elim
      (λ (y : that ≡ 0). subst (λ (k : ℕ). IsToldApart automaton this k) (sym y) (stop_apart automaton determined many this s (omega arith)))
      (λ (t : that ≢ 0). ([], tt, by_marks this that this_row that_row s t differ))
      (cases_eq that 0))
      (cases_eq this 0);
}
  where
    two : 2 ≤ row
    two = omega (arith, determined.some)

    some_class : (k : ℕ) → k < row → k ≢ 0 → 1 ≤ slice_index classes k
    some_class k l s = ⊎_elim (λ (z : slice_index classes k < 1). absurd (s (h.alone k l (omega arith)))) (λ (g : 1 ≤ slice_index classes k). g)
        (cases_lt (slice_index classes k) 1)

    by_marks : (this that : ℕ) → this < row → that < row → this ≢ 0 → that ≢ 0 → slice_index classes this ≢ slice_index classes that →
        marks_of automaton this ≢ marks_of automaton that
    by_marks this that l m s t differ same =
        let joined : marks_of automaton (slice_index firsts (slice_index classes this)) ≡ marks_of automaton (slice_index firsts (slice_index classes that)) =
        sym (h.alike this l) ∙ same ∙ h.alike that m in
        ⊎_elim
        (λ (e : slice_index classes this ≡ slice_index classes that). differ e)
        (λ (o : (slice_index classes this < slice_index classes that) ⊎ (slice_index classes that < slice_index classes this)).
        ⊎_elim
        (λ (less : slice_index classes this < slice_index classes that).
        h.differ (slice_index classes this) (some_class this l s) (slice_index classes that) less (h.within that m) joined)
        (λ (more : slice_index classes that < slice_index classes this).
        h.differ (slice_index classes that) (some_class that m t) (slice_index classes this) more (h.within this l) (sym joined))
        o)
        (cases_order (slice_index classes this) (slice_index classes that))

-- whether the status lists have one rank tells whether the marks are the same, where accept numbers and masks are
pub same_marks : (automaton : Table) (sorted : List (List ℕ)) (places : List ℕ) (this that : ℕ) → IsDetermined automaton →
    AreRanked automaton.lists sorted places → this < length automaton.rows → that < length automaton.rows →
    accept_of automaton this ≡ accept_of automaton that → fronts_of automaton this ≡ fronts_of automaton that →
    (slice_index places (list_of automaton this) ≡ slice_index places (list_of automaton that)) ↔ (marks_of automaton this ≡ marks_of automaton that)
same_marks automaton sorted places this that determined ranked h k a f =
    let these = (determined.each this h).list in
    let those = (determined.each that k).list in (
      λ e. marks_by_parts (marks_of automaton this) (marks_of automaton that) a f
          (rank_alike automaton.lists sorted places (list_of automaton this) (list_of automaton that) ranked these those e),
      λ e. alike_rank automaton.lists sorted places (list_of automaton this) (list_of automaton that) ranked these those
          (ap (λ (marks : Marks). marks.statuses) e),
    )
