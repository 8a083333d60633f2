-- A test that the rows of a table agree with the monitor of a rule, for the kernel to compute.
use Rattle.std.proofs.Common.{◌≡◌, ℕ, zero, suc, ◌+◌, ◌-◌, ◌*◌, ◌<◌, Bool, true, false, not, ◌&&◌, cond, eqb, ltb, List, [], ◌∷◌, ◌++◌, Option, Some}
use Rattle.std.proofs.Common.{None, length, get_or, set, take, drop, sym, refl, ap, ap₂, ◌∙◌, subst, ⊎_elim, arith}
use Rattle.std.specs.Bool.{beq}
use Rattle.std.proofs.lemmas.Bool.{cases_Bool, cond-true, cond-false, and_parts, and_from, ltb-true, eqb-true, not-true, false≢true}
use Rattle.std.proofs.lemmas.List.{get_or-drop}
use Rattle.ucd_table.proofs.TrieCheck.{all_below, all_below-at}
use Rattle.ucd_table.proofs.Facts.{same_from_beq}
use Rattle.rbbi_model.specs.Tables.{Table, accept_of, fronts_of, list_of, statuses_of, step, completes}
use Rattle.rbbi_annexes.proofs.Monitors.{Monitor}
use Rattle.rbbi_annexes.proofs.Agreement.{Agree, Mark, Open, Past, mark_after, mark_next, is_exact, has_front, ends_right, fronts_here}

-- ---- lists

-- the values of f at so many numbers from k on
unfoldable pub values : {X : Type 0} → (ℕ → X) → ℕ → ℕ → List X
values f k zero = []
values f k (suc n) = f k ∷ values f (k + 1) n

pub get_or-values : {X : Type 0} (f : ℕ → X) (k n i : ℕ) (d : X) → i < n → get_or (values f k n) i d ≡ f (k + i)
unfolding values
get_or-values f k zero i d short = absurd (omega (arith, short))
get_or-values f k (suc n) zero d short = ap f (omega arith)
get_or-values f k (suc n) (suc i) d short = get_or-values f (k + 1) n i d (omega (arith, short)) ∙ ap f (omega arith)

-- each element passes
unfoldable pub each : {X : Type 0} → (X → Bool) → List X → Bool
each test [] = true
each test (x ∷ xs) = test x && each test xs

pub each-get_or : {X : Type 0} (test : X → Bool) (xs : List X) (i : ℕ) (d : X) → each test xs ≡ true → test d ≡ true → test (get_or xs i d) ≡ true
unfolding each
each-get_or test [] i d all last = last
each-get_or test (x ∷ xs) zero d all last = (and_parts (test x) (each test xs) all).0
each-get_or test (x ∷ xs) (suc i) d all last = each-get_or test xs i d (and_parts (test x) (each test xs) all).1 last

-- so it is enough to test the first n and the others
pub each-parts : {X : Type 0} (test : X → Bool) (n : ℕ) (xs : List X) → each test (take n xs) ≡ true → each test (drop n xs) ≡ true → each test xs ≡ true
unfolding each
each-parts test zero xs first others = others
each-parts test (suc n) [] first others = refl
each-parts test (suc n) (x ∷ xs) first others =
    let parts = and_parts (test x) (each test (take n xs)) first in
    and_from (test x) (each test xs) parts.0 (each-parts test n xs parts.1 others)

-- the list has an element that the test takes for the same
unfoldable pub member : {X : Type 0} → (X → X → Bool) → X → List X → Bool
member same x [] = false
member same x (y ∷ ys) = let later = member same x ys in cond (same x y) true later

pub each-member : {X : Type 0} (same : X → X → Bool) → ((x y : X) → same x y ≡ true → x ≡ y) → (test : X → Bool) (x : X) (ys : List X) →
    each test ys ≡ true → member same x ys ≡ true → test x ≡ true
unfolding each member
each-member same equal test x [] all is = absurd (false≢true is)
each-member same equal test x (y ∷ ys) all is =
    let parts = and_parts (test y) (each test ys) all in
    ⊎_elim
    (λ here. ap test (equal x y here) ∙ parts.0)
    (λ isnt. each-member same equal test x ys parts.1 (sym (cond-false (same x y) true (member same x ys) isnt) ∙ is))
    (cases_Bool (same x y))

-- what is reached from the first of these, and what was found before
unfoldable pub explore : {X D : Type 0} → (X → D → Bool) → (X → D → D) → (X → List X) → ℕ → List X → D → D
explore has add after zero todo done = done
explore has add after (suc fuel) [] done = done
explore has add after (suc fuel) (x ∷ todo) done =
    elim (has x done) [
      | true ↦ explore has add after fuel todo done
      | false ↦ explore has add after fuel (after x ++ todo) (add x done)
    ]

-- the elements of each list
unfoldable pub joined : {X : Type 0} → List (List X) → List X
joined [] = []
joined (xs ∷ xss) = xs ++ joined xss

-- ---- marks

-- for each number of what comes: None where it can't come, or else the search's mark
abbrev pub Marks : Type 0
Marks = List (Option Mark)

unfoldable pub same_rules : List ℕ → List ℕ → Bool
same_rules [] [] = true
same_rules (j ∷ js) (k ∷ ks) = eqb j k && same_rules js ks
same_rules _ _ = false

same_rules-true : (js ks : List ℕ) → same_rules js ks ≡ true → js ≡ ks
unfolding same_rules
same_rules-true [] [] is = refl
same_rules-true (j ∷ js) (k ∷ ks) is =
    let parts = and_parts (eqb j k) (same_rules js ks) is in
    ap₂ (λ n ns. n ∷ ns) (eqb-true j k parts.0) (same_rules-true js ks parts.1)
same_rules-true [] (k ∷ ks) is = absurd (false≢true is)
same_rules-true (j ∷ js) [] is = absurd (false≢true is)

unfoldable pub same_mark : Option Mark → Option Mark → Bool
same_mark None None = true
same_mark (Some Open) (Some Open) = true
same_mark (Some (Past a js)) (Some (Past b ks)) = beq a b && same_rules js ks
same_mark _ _ = false

unfoldable pub same_marks : Marks → Marks → Bool
same_marks [] [] = true
same_marks (a ∷ xs) (b ∷ ys) = let rest = same_marks xs ys in same_mark a b && rest
same_marks _ _ = false

same_mark-true : (a b : Option Mark) → same_mark a b ≡ true → a ≡ b
unfolding same_mark
same_mark-true None None is = refl
same_mark-true (Some Open) (Some Open) is = refl
same_mark-true (Some (Past a js)) (Some (Past b ks)) is =
    let parts = and_parts (beq a b) (same_rules js ks) is in
    ap₂ (λ exact fronts. Some (Past exact fronts)) (same_from_beq a b parts.0) (same_rules-true js ks parts.1)
same_mark-true (Some Open) (Some (Past b ks)) is = absurd (false≢true is)
same_mark-true (Some (Past a js)) (Some Open) is = absurd (false≢true is)
same_mark-true None (Some b) is = absurd (false≢true is)
same_mark-true (Some Open) None is = absurd (false≢true is)
same_mark-true (Some (Past a js)) None is = absurd (false≢true is)

same_marks-true : (xs ys : Marks) → same_marks xs ys ≡ true → xs ≡ ys
unfolding same_marks
same_marks-true [] [] is = refl
same_marks-true (a ∷ xs) (b ∷ ys) is =
    let parts = and_parts (same_mark a b) (same_marks xs ys) is in
    ap₂ (λ m ms. m ∷ ms) (same_mark-true a b parts.0) (same_marks-true xs ys parts.1)
same_marks-true [] (b ∷ ys) is = absurd (false≢true is)
same_marks-true (a ∷ xs) [] is = absurd (false≢true is)

-- the mark passes, if there is one
abbrev pub passed_by : (Mark → Bool) → Option Mark → Bool
passed_by test None = true
passed_by test (Some mark) = test mark

-- each mark that there is passes
pub marks-at : (test : Mark → Bool) (marks : Marks) (p : ℕ) (mark : Mark) → each (passed_by test) marks ≡ true → get_or marks p None ≡ Some mark →
    test mark ≡ true
marks-at test marks p mark all is = ap (passed_by test) (sym is) ∙ each-get_or (passed_by test) marks p None all refl

-- some number can come
unfoldable pub some_mark : Marks → Bool
some_mark [] = false
some_mark (None ∷ marks) = some_mark marks
some_mark (Some mark ∷ marks) = true

some_mark-at : (marks : Marks) (p : ℕ) (mark : Mark) → get_or marks p None ≡ Some mark → some_mark marks ≡ true
unfolding some_mark
some_mark-at [] p mark is = absurd (false≢true (ap (passed_by (λ m. false)) (sym is)))
some_mark-at (None ∷ marks) zero mark is = absurd (false≢true (ap (passed_by (λ m. false)) (sym is)))
some_mark-at (None ∷ marks) (suc p) mark is = some_mark-at marks p mark is
some_mark-at (Some other ∷ marks) p mark is = refl

-- ---- statuses

-- the list has this number alone
unfoldable pub is_only : ℕ → List ℕ → Bool
is_only n (m ∷ []) = eqb m n
is_only n _ = false

pub is_only-true : (n : ℕ) (ms : List ℕ) → is_only n ms ≡ true → ms ≡ n ∷ []
unfolding is_only
is_only-true n [] is = absurd (false≢true is)
is_only-true n (m ∷ []) is = ap (λ k. k ∷ []) (eqb-true m n is)
is_only-true n (m ∷ k ∷ ms) is = absurd (false≢true is)

-- ---- the test

-- a row that a search reaches, with the state of the monitor there and the label of what the search has read
pub record Entry (S : Type 0) : Type 0 where
  pub row : ℕ
  pub label : ℕ
  pub state : S
  pub marks : Marks

module _ {S : Type 0} (same : S → S → Bool) where
  unfoldable pub same_entry : Entry S → Entry S → Bool
  same_entry a b =
      let others = eqb a.label b.label && (same_marks a.marks b.marks && same a.state b.state) in
      eqb a.row b.row && others

  same_entry-true : ((a b : S) → same a b ≡ true → a ≡ b) → (a b : Entry S) → same_entry a b ≡ true → a ≡ b
  unfolding same_entry
  same_entry-true equal a b is =
      let parts = and_parts (eqb a.row b.row) (eqb a.label b.label && (same_marks a.marks b.marks && same a.state b.state)) is in
      let others = and_parts (eqb a.label b.label) (same_marks a.marks b.marks && same a.state b.state) parts.1 in
      let rest = and_parts (same_marks a.marks b.marks) (same a.state b.state) others.1 in
      λ i. record {
        row = eqb-true a.row b.row parts.0 i;
        label = eqb-true a.label b.label others.0 i;
        state = equal a.state b.state rest.1 i;
        marks = same_marks-true a.marks b.marks rest.0 i;
      }

  -- entries by their rows, and whether an entry is one of them
  abbrev pub Entries : Type 0
  Entries = List (List (Entry S))

  unfoldable pub is_found : Entry S → Entries → Bool
  is_found entry entries = member same_entry entry (get_or entries entry.row [])

  unfoldable pub with_entry : Entry S → Entries → Entries
  with_entry entry entries = set entries entry.row (entry ∷ get_or entries entry.row [])

  module _ (table : Table) (monitor : Monitor S) (kinds : ℕ) (lives : ℕ → Bool) where
    -- a category of the table that a character may have
    abbrev pub IsUsed : ℕ → Type 0
    IsUsed k = (k < table.categories) × (lives k ≡ true)

    -- each category that is used passes
    unfoldable pub all_used : (ℕ → Bool) → Bool
    all_used test = all_below (λ k. let passed = test k in cond (lives k) passed true) table.categories

    all_used-at : (test : ℕ → Bool) → all_used test ≡ true → (k : ℕ) → IsUsed k → test k ≡ true
    unfolding all_used
    all_used-at test all k used =
        sym (cond-true (lives k) (test k) true used.1) ∙ all_below-at (λ j. cond (lives j) (test j) true) table.categories k all used.0

    -- what each category that is used gives
    unfoldable pub over_used : {X : Type 0} → (ℕ → List X) → List X
    over_used f = joined (values (λ k. let given = f k in cond (lives k) given []) 0 table.categories)

    -- the next row, by the cells from those of the row on
    abbrev pub cells_of : ℕ → List ℕ
    cells_of row = drop (row * table.categories) table.cells

    -- the mark once the character is read, for a number of what comes before it and after it
    unfoldable pub marked : Bool → List ℕ → ℕ → Bool → Option Mark → Option Mark
    marked accepts here mask breaks None = None
    marked accepts here mask breaks (Some mark) = Some (mark_after accepts here mask breaks mark)

    unfoldable pub marks_after : Entry S → Bool → List ℕ → ℕ → ℕ → Marks
    marks_after entry accepts here mask k =
        let breaks = monitor.breaks entry.state k in
        let ahead = monitor.ahead k in
        values (λ p. marked accepts here mask (breaks p) (get_or entry.marks (ahead p) None)) 0 kinds

    -- the entry after one by each category
    unfoldable pub after_categories : Entry S → ℕ → Entry S
    after_categories entry =
        let cells = cells_of entry.row in
        let accepts = eqb (accept_of table entry.row) 1 in
        let here = fronts_here table monitor entry.row entry.label in
        let mask = fronts_of table entry.row in
        let next = monitor.next entry.state in
        λ k. record { row = get_or cells k 0; label = monitor.label entry.label k; state = next k; marks = marks_after entry accepts here mask k }

    -- the row goes on: it isn't row 0, and no look-ahead rule is completed there
    unfoldable pub goes_on : ℕ → Bool
    goes_on row = let plain = not (completes table row) in not (eqb row 0) && plain

    -- the entries that may follow one
    unfoldable pub after_entry : Entry S → List (Entry S)
    after_entry entry =
        let cells = cells_of entry.row in
        let after = after_categories entry in
        over_used (λ k. let next = after k ∷ [] in cond (goes_on (get_or cells k 0)) next [])

    -- the marks at the start of a search
    unfoldable pub first_marks : S → ℕ → Marks
    first_marks state k = let breaks = monitor.breaks state k in values (λ p. cond (breaks p) (Some Open) None) 0 kinds

    abbrev pub first_entry : S → List ℕ → ℕ → Entry S
    first_entry state cells k =
        record { row = get_or cells k 0; label = monitor.label 0 k; state = monitor.next state k; marks = first_marks state k }

    -- the first entries of searches that begin in a state
    unfoldable pub entries_from : S → List (Entry S)
    entries_from state =
        let cells = cells_of 1 in
        over_used (λ k. let entry = first_entry state cells k in cond (some_mark entry.marks) (entry ∷ []) [])

    unfoldable pub starts : List S → List (Entry S)
    starts [] = []
    starts (state ∷ states) = entries_from state ++ starts states

    -- the states that a text leads to
    unfoldable pub states_found : ℕ → List S
    states_found fuel =
        explore (member same) (λ state states. state ∷ states) (λ state. over_used (λ k. monitor.next state k ∷ [])) fuel (monitor.start ∷ []) []

    -- the entries that searches reach
    unfoldable pub entries_found : ℕ → List S → Entries
    entries_found fuel states = explore is_found with_entry after_entry fuel (starts states) (values (λ row. []) 0 (length table.rows))

    unfoldable pub numbers_pass : Bool
    numbers_pass = ltb monitor.nothing kinds && all_used (λ k. all_below (λ p. ltb (monitor.ahead k p) kinds) kinds)

    module _ (states : List S) (entries : Entries) where
      -- what is tested of the first entry of a search
      unfoldable pub is_begun : Entry S → Bool
      is_begun entry = let found = is_found entry entries in goes_on entry.row && found

      unfoldable pub begins_at : S → List ℕ → ℕ → Bool
      begins_at state cells k =
          let entry = first_entry state cells k in
          let begun = is_begun entry in
          cond (some_mark entry.marks) begun true

      unfoldable pub state_passes : S → Bool
      state_passes state =
          let cells = cells_of 1 in
          all_used (λ k. member same (monitor.next state k) states && begins_at state cells k)

      -- the status at the row is the one by the label
      unfoldable pub is_named : Entry S → Bool
      is_named entry = is_only (monitor.status entry.label) (statuses_of table (list_of table entry.row))

      -- a search that completes a look-ahead rule at the entry has its cut at the first break
      unfoldable pub is_cut : Entry S → Bool
      is_cut entry =
          each (passed_by (has_front (accept_of table entry.row - 2))) entry.marks && is_only 0 (statuses_of table (list_of table entry.row))

      -- what is tested of an entry that a search comes to
      unfoldable pub is_right : Entry S → Bool
      is_right entry =
          let dead = each (passed_by is_exact) entry.marks in
          let cut = is_cut entry in
          let found = is_found entry entries in
          let on = cond (completes table entry.row) cut found in
          cond (eqb entry.row 0) dead on

      unfoldable pub entry_passes : Entry S → Bool
      entry_passes entry =
          let after = after_categories entry in
          let accepts = eqb (accept_of table entry.row) 1 in
          let named = is_named entry in
          passed_by (ends_right accepts) (get_or entry.marks monitor.nothing None)
          && (cond accepts named true && all_used (λ k. is_right (after k)))

      unfoldable pub passes : Bool
      passes = member same monitor.start states && (numbers_pass && (each state_passes states && each (each entry_passes) entries))

      -- the state is one of those
      abbrev pub IsState : S → Type 0
      IsState m = member same m states ≡ true

      -- a search reaches the row in this state, with this mark for p, and with the label t
      abbrev pub IsReached : ℕ → S → ℕ → ℕ → Mark → Type 0
      IsReached row m p t mark =
          (marks : Marks) × (is_found (record { row = row; label = t; state = m; marks = marks }) entries ≡ true) × (get_or marks p None ≡ Some mark)

      module _ (equal : (a b : S) → same a b ≡ true → a ≡ b) (ok : passes ≡ true) where
        parts : (member same monitor.start states ≡ true) × (numbers_pass ≡ true) × (each state_passes states ≡ true)
            × (each (each entry_passes) entries ≡ true)
        unfolding passes
        parts =
            let start = and_parts (member same monitor.start states) (numbers_pass && (each state_passes states && each (each entry_passes) entries)) ok in
            let numbers = and_parts numbers_pass (each state_passes states && each (each entry_passes) entries) start.1 in
            let lists = and_parts (each state_passes states) (each (each entry_passes) entries) numbers.1 in
            (start.0, numbers.0, lists.0, lists.1)

        nothing_within : monitor.nothing < kinds
        unfolding numbers_pass
        nothing_within =
            ltb-true monitor.nothing kinds
            (and_parts (ltb monitor.nothing kinds) (all_used (λ k. all_below (λ p. ltb (monitor.ahead k p) kinds) kinds)) parts.1).0

        ahead_within : (k p : ℕ) → IsUsed k → p < kinds → monitor.ahead k p < kinds
        unfolding numbers_pass
        ahead_within k p of few =
            let all = and_parts (ltb monitor.nothing kinds) (all_used (λ j. all_below (λ q. ltb (monitor.ahead j q) kinds) kinds)) parts.1 in
            ltb-true (monitor.ahead k p) kinds (all_below-at (λ q. ltb (monitor.ahead k q) kinds) kinds p
            (all_used-at (λ j. all_below (λ q. ltb (monitor.ahead j q) kinds) kinds) all.1 k of) few)

        cell_is : (row k : ℕ) → get_or (drop (row * table.categories) table.cells) k 0 ≡ step table row k
        cell_is row k = get_or-drop (row * table.categories) table.cells k 0

        value_at : {X : Type 0} (f : ℕ → X) (p : ℕ) (d : X) → p < kinds → get_or (values f 0 kinds) p d ≡ f p
        value_at f p d few = get_or-values f 0 kinds p d few ∙ ap f (let e : 0 + p ≡ p = omega arith in e)

        goes_on_parts : (row : ℕ) → goes_on row ≡ true → (eqb row 0 ≡ false) × (completes table row ≡ false)
        unfolding goes_on
        goes_on_parts row is =
            let both = and_parts (not (eqb row 0)) (not (completes table row)) is in
            (not-true (eqb row 0) both.0, not-true (completes table row) both.1)

        -- what was tested of a state and a category
        state_at : (m : S) (k : ℕ) → IsUsed k → IsState m →
            (member same (monitor.next m k) states ≡ true) × (begins_at m (cells_of 1) k ≡ true)
        unfolding state_passes
        state_at m k of is =
            let test : ℕ → Bool = λ j. member same (monitor.next m j) states && begins_at m (cells_of 1) j in
            and_parts (member same (monitor.next m k) states) (begins_at m (cells_of 1) k)
            (all_used-at test (each-member same equal state_passes m states parts.2 is) k of)

        begins : (m : S) (k p : ℕ) → IsUsed k → p < kinds → IsState m → monitor.breaks m k p ≡ true →
            (eqb (step table 1 k) 0 ≡ false) × (completes table (step table 1 k) ≡ false)
            × IsReached (step table 1 k) (monitor.next m k) p (monitor.label 0 k) Open
        unfolding begins_at is_begun first_marks
        begins m k p of few is breaks =
            let entry : Entry S = first_entry m (cells_of 1) k in
            let mark : get_or entry.marks p None ≡ Some Open =
            value_at (λ q. cond (monitor.breaks m k q) (Some Open) None) p None few ∙ cond-true (monitor.breaks m k p) (Some Open) None breaks in
            let both = and_parts (goes_on entry.row) (is_found entry entries)
            (sym (cond-true (some_mark entry.marks) (is_begun entry) true (some_mark-at entry.marks p Open mark)) ∙ (state_at m k of is).1) in
            let goes = goes_on_parts entry.row both.0 in (
              ap (λ c. eqb c 0) (sym (cell_is 1 k)) ∙ goes.0,
              ap (completes table) (sym (cell_is 1 k)) ∙ goes.1,
              subst (λ r. IsReached r (monitor.next m k) p (monitor.label 0 k) Open) (cell_is 1 k) (entry.marks, both.1, mark),
            )

        -- what was tested of an entry
        abbrev accepts_at : ℕ → Bool
        accepts_at row = eqb (accept_of table row) 1

        found_passes : (entry : Entry S) → is_found entry entries ≡ true → entry_passes entry ≡ true
        unfolding is_found each
        found_passes entry is =
            each-member same_entry (same_entry-true equal) entry_passes entry (get_or entries entry.row [])
            (each-get_or (each entry_passes) entries entry.row [] parts.3 refl) is

        entry_at : (entry : Entry S) → is_found entry entries ≡ true →
            (passed_by (ends_right (accepts_at entry.row)) (get_or entry.marks monitor.nothing None) ≡ true)
            × (cond (accepts_at entry.row) (is_named entry) true ≡ true)
            × ((k : ℕ) → IsUsed k → is_right (after_categories entry k) ≡ true)
        unfolding entry_passes
        entry_at entry is =
            let right : ℕ → Bool = λ k. is_right (after_categories entry k) in
            let tested = and_parts (passed_by (ends_right (accepts_at entry.row)) (get_or entry.marks monitor.nothing None))
            (cond (accepts_at entry.row) (is_named entry) true && all_used right) (found_passes entry is) in
            let rest = and_parts (cond (accepts_at entry.row) (is_named entry) true) (all_used right) tested.1 in
            (tested.0, rest.0, all_used-at right rest.1)

        abbrev entry_of : (row : ℕ) (m : S) (p t : ℕ) (mark : Mark) → IsReached row m p t mark → Entry S
        entry_of row m p t mark is = record { row = row; label = t; state = m; marks = is.0 }

        names : (row : ℕ) (m : S) (p t : ℕ) (mark : Mark) → IsReached row m p t mark → eqb (accept_of table row) 1 ≡ true →
            statuses_of table (list_of table row) ≡ monitor.status t ∷ []
        unfolding is_named
        names row m p t mark is accepts =
            let entry : Entry S = entry_of row m p t mark is in
            is_only-true (monitor.status t) (statuses_of table (list_of table row))
            (sym (cond-true (accepts_at row) (is_named entry) true accepts) ∙ (entry_at entry is.1).1)

        ends : (row : ℕ) (m : S) (t : ℕ) (mark : Mark) → IsReached row m monitor.nothing t mark → ends_right (eqb (accept_of table row) 1) mark ≡ true
        ends row m t mark is =
            ap (passed_by (ends_right (accepts_at row))) (sym is.2) ∙ (entry_at (entry_of row m monitor.nothing t mark is) is.1).0

        mark_then : (row : ℕ) (m : S) (k p t : ℕ) (mark : Mark) → p < kinds → (is : IsReached row m (monitor.ahead k p) t mark) →
            get_or (after_categories (entry_of row m (monitor.ahead k p) t mark is) k).marks p None ≡ Some (mark_next table monitor row m k p t mark)
        unfolding marked marks_after after_categories
        mark_then row m k p t mark few is =
            value_at (λ q. marked (accepts_at row) (fronts_here table monitor row t) (fronts_of table row) (monitor.breaks m k q)
            (get_or is.0 (monitor.ahead k q) None)) p None few
            ∙ ap (marked (accepts_at row) (fronts_here table monitor row t) (fronts_of table row) (monitor.breaks m k p)) is.2

        dies : (row : ℕ) (m : S) (k p t : ℕ) (mark : Mark) → IsUsed k → p < kinds → IsReached row m (monitor.ahead k p) t mark →
            eqb (step table row k) 0 ≡ true → is_exact (mark_next table monitor row m k p t mark) ≡ true
        unfolding is_right after_categories
        dies row m k p t mark of few is none =
            let entry : Entry S = entry_of row m (monitor.ahead k p) t mark is in
            let next : Entry S = after_categories entry k in
            let dead : Bool = each (passed_by is_exact) next.marks in
            marks-at is_exact next.marks p (mark_next table monitor row m k p t mark)
            (sym (cond-true (eqb next.row 0) dead (cond (completes table next.row) (is_cut next) (is_found next entries))
            (ap (λ c. eqb c 0) (cell_is row k) ∙ none)) ∙ (entry_at entry is.1).2 k of)
            (mark_then row m k p t mark few is)

        -- where the search isn't at row 0
        right_on : (row : ℕ) (m : S) (k p t : ℕ) (mark : Mark) → IsUsed k → (is : IsReached row m (monitor.ahead k p) t mark) →
            eqb (step table row k) 0 ≡ false →
            cond (completes table (get_or (cells_of row) k 0)) (is_cut (after_categories (entry_of row m (monitor.ahead k p) t mark is) k))
            (is_found (after_categories (entry_of row m (monitor.ahead k p) t mark is) k) entries) ≡ true
        unfolding is_right after_categories
        right_on row m k p t mark of is some =
            let entry : Entry S = entry_of row m (monitor.ahead k p) t mark is in
            let next : Entry S = after_categories entry k in
            sym (cond-false (eqb next.row 0) (each (passed_by is_exact) next.marks) (cond (completes table next.row) (is_cut next) (is_found next entries))
            (ap (λ c. eqb c 0) (cell_is row k) ∙ some)) ∙ (entry_at entry is.1).2 k of

        cuts : (row : ℕ) (m : S) (k p t : ℕ) (mark : Mark) → IsUsed k → p < kinds → IsReached row m (monitor.ahead k p) t mark →
            eqb (step table row k) 0 ≡ false → completes table (step table row k) ≡ true →
            (has_front (accept_of table (step table row k) - 2) (mark_next table monitor row m k p t mark) ≡ true)
            × (statuses_of table (list_of table (step table row k)) ≡ 0 ∷ [])
        unfolding is_cut after_categories
        cuts row m k p t mark of few is some completed =
            let entry : Entry S = entry_of row m (monitor.ahead k p) t mark is in
            let next : Entry S = after_categories entry k in
            let later : Mark = mark_next table monitor row m k p t mark in
            let cut = sym (cond-true (completes table next.row) (is_cut next) (is_found next entries) (ap (completes table) (cell_is row k) ∙ completed))
            ∙ right_on row m k p t mark of is some in
            let both = and_parts (each (passed_by (has_front (accept_of table next.row - 2))) next.marks)
            (is_only 0 (statuses_of table (list_of table next.row))) cut in (
              ap (λ r. has_front (accept_of table r - 2) later) (sym (cell_is row k))
                  ∙ marks-at (has_front (accept_of table next.row - 2)) next.marks p later both.0 (mark_then row m k p t mark few is),
              ap (λ r. statuses_of table (list_of table r)) (sym (cell_is row k))
                  ∙ is_only-true 0 (statuses_of table (list_of table next.row)) both.1,
            )

        goes : (row : ℕ) (m : S) (k p t : ℕ) (mark : Mark) → IsUsed k → p < kinds → IsReached row m (monitor.ahead k p) t mark →
            eqb (step table row k) 0 ≡ false → completes table (step table row k) ≡ false →
            IsReached (step table row k) (monitor.next m k) p (monitor.label t k) (mark_next table monitor row m k p t mark)
        unfolding after_categories
        goes row m k p t mark of few is some plain =
            let entry : Entry S = entry_of row m (monitor.ahead k p) t mark is in
            let next : Entry S = after_categories entry k in
            subst (λ r. IsReached r (monitor.next m k) p (monitor.label t k) (mark_next table monitor row m k p t mark)) (cell_is row k) (
              next.marks,
              sym (cond-false (completes table next.row) (is_cut next) (is_found next entries) (ap (completes table) (cell_is row k) ∙ plain))
                  ∙ right_on row m k p t mark of is some,
              mark_then row m k p t mark few is,
            )

        pub agrees : Agree table monitor kinds IsUsed IsState IsReached
        agrees =
            record {
              first = parts.0;
              more = λ m k of is. (state_at m k of is).0;
              nothing = nothing_within;
              ahead = ahead_within;
              begins = begins;
              names = names;
              ends = ends;
              dies = dies;
              cuts = cuts;
              goes = goes;
            }
