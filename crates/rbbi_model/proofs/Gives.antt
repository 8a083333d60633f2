-- A valid table with the marks of the rules gives their boundaries.
use Rattle.std.proofs.Common.{◌≡◌, ℕ, zero, suc, ◌+◌, ◌-◌, ◌<◌, ◌≤◌, ◌⊎◌, Bool, true, false, ◌&&◌, ltb, eqb, List, [], ◌∷◌, Option, Some, None, length, drop}
use Rattle.std.proofs.Common.{sym, refl, ap, ◌∙◌, subst, inl, inr, ⊎_elim, arith}
use Rattle.std.specs.Prelude.{slice_range, slice_index_or}
use Rattle.std.proofs.lemmas.Bool.{cases_Bool, cases_eq, cases_lt, cases_order, cond-true, cond-false, cond_both, or_parts, or_cases, and_parts, and_from}
use Rattle.std.proofs.lemmas.Bool.{leb-true, leb-false, ltb-true, ltb-false, lt-ltb, eqb-true, eq-eqb, false≢true}
use Rattle.rbbi_model.specs.Words.{IsText}
use Rattle.rbbi_model.specs.Places.{has_bit, greatest_below}
use Rattle.rbbi_model.specs.Rules.{Rule, LooksAhead}
use Rattle.rbbi_model.specs.Chains.{EndsAt, FrontEndsAt}
use Rattle.rbbi_model.specs.Boundaries.{Boundary, LookAheadEndsAt, IsNext, Follow, AreBoundaries, start}
use Rattle.rbbi_model.specs.Tables.{Table, accept_of, fronts_of, list_of, statuses_of, completes, stops}
use Rattle.rbbi_model.specs.ValidTables.{IsValidTable, BeginsWithZeroAlone}
use Rattle.rbbi_model.specs.Searches.{Found, row_at, search_end, cut_place, longest_place, found_longest, found, next_boundary, follow_by, table_boundaries}
use Rattle.rbbi_model.specs.Marks.{look_ahead_number, IsCompleted, AreMarksAtEnd, AreMarks, marks_of, HasSameMarks}
use Rattle.rbbi_model.proofs.Texts.{word_take, text_drop}
use Rattle.rbbi_model.proofs.RulesCover.{ends_lie, front_lies}
use Rattle.rbbi_model.proofs.Local.{length_piece, look_ahead_from, ends_to_end, ends_from_end, look_ahead_to_end, look_ahead_from_end, front_to_end}
use Rattle.rbbi_model.proofs.Local.{front_from_end, tags_from_end}
use Rattle.rbbi_model.proofs.LookAheadNumbers.{same_number}
use Rattle.rbbi_model.proofs.Found.{end_lies, greatest_lies, found_lies}
use Rattle.rbbi_model.proofs.SearchFacts.{at_most, least_is, none_passes, greatest_is_most, stays_stopped}
use Rattle.rbbi_model.proofs.Cuts.{cut_is}

first_list : (lists : List (List ℕ)) → BeginsWithZeroAlone lists → (table : Table) → table.lists ≡ lists → statuses_of table 0 ≡ 0 ∷ []
first_list [] begins table same = absurd begins
first_list (statuses ∷ lists) begins table same = ap (λ l. slice_index_or l 0 []) same ∙ begins

module _ (table : Table) (rules : List Rule) (valid : IsValidTable table) (same : HasSameMarks table rules) (x : List ℕ) (text : IsText x) (s : ℕ)
    (short : s < length x) where
  -- the marks at a place of the search are those of the rules
  mark_at : (q : ℕ) → s < q → q ≤ length x → AreMarks rules (slice_range x s q) (marks_of table (row_at table x s q))
  mark_at q past within =
      same.each (slice_range x s q) (word_take (q - s) (drop s x) (text_drop s x text)) (λ none. omega (arith, ap length none, length_piece x s q within))

  -- no look-ahead rule ends before the place
  Quiet : ℕ → Type 0
  Quiet bound = (e number : ℕ) → e < bound → LookAheadEndsAt rules x s e number → ⊥

  marks_at : (q : ℕ) → s < q → q ≤ length x → Quiet q → AreMarksAtEnd rules (slice_range x s q) (marks_of table (row_at table x s q))
  unfolding Quiet
  marks_at q past within quiet =
      ⊎_elim
      (λ ended.
      let before = ended.0.before in
      absurd (quiet (s + ended.0.e) ended.0.number (omega (arith, length_piece x s q within))
      (look_ahead_from rules x s q (omega arith) within ended.0.e ended.0.number ended.0.ends)))
      (λ at. at.1)
      (mark_at q past within)

  -- where the accept number is small, no look-ahead rule ends
  small_accept : (q : ℕ) (past : s < q) (within : q ≤ length x) → AreMarksAtEnd rules (slice_range x s q) (marks_of table (row_at table x s q)) →
      accept_of table (row_at table x s q) < 2 → (number : ℕ) → LookAheadEndsAt rules x s q number → ⊥
  small_accept q past within at small number ends =
      let local = look_ahead_to_end rules x s q (omega arith) within number ends in
      ⊎_elim
      (λ completed. omega (arith, completed.numbered, small))
      (⊎_elim (λ ended. ended.no_look_ahead number local) (λ unended. unended.no_end number local.ends))
      at.accept

  -- where a rule ends and the accept number is small, it is 1
  accept_is_one : (q : ℕ) (past : s < q) (within : q ≤ length x) → AreMarksAtEnd rules (slice_range x s q) (marks_of table (row_at table x s q)) →
      accept_of table (row_at table x s q) < 2 → (number : ℕ) → EndsAt rules x s q number → accept_of table (row_at table x s q) ≡ 1
  accept_is_one q past within at small number ends =
      let local = ends_to_end rules x s q (omega arith) within number ends in
      ⊎_elim
      (λ completed. absurd (omega (arith, completed.numbered, small)))
      (⊎_elim (λ ended. ended.is_one) (λ unended. absurd (unended.no_end number local)))
      at.accept

  -- where it is 1, a rule ends
  one_ends : (q : ℕ) (past : s < q) (within : q ≤ length x) → AreMarksAtEnd rules (slice_range x s q) (marks_of table (row_at table x s q)) →
      accept_of table (row_at table x s q) ≡ 1 → (number : ℕ) × EndsAt rules x s q number
  one_ends q past within at one =
      ⊎_elim
      (λ completed. absurd (omega (arith, completed.numbered, one)))
      (⊎_elim (λ ended. (ended.number, ends_from_end rules x s q (omega arith) within ended.number ended.ends))
      (λ unended. absurd (omega (arith, unended.is_zero, one))))
      at.accept

  -- where the accept numbers are small before a place, no look-ahead rule ends before it
  quiet_below : (bound : ℕ) → bound ≤ length x + 1 → ((q : ℕ) → s < q → q < bound → accept_of table (row_at table x s q) < 2) → Quiet bound
  unfolding Quiet
  quiet_below zero within small e number less ends = omega (arith, less)
  quiet_below (suc bound) within small e number less ends =
      let earlier = quiet_below bound (omega arith) (λ q past below. small q past (omega arith)) in
      ⊎_elim
      (λ is.
      let past : s < e = (ends_lie rules x s e number ends.ends).0 in
      small_accept e past (omega arith) (marks_at e past (omega arith) (λ f n below. earlier f n (omega arith))) (small e past (omega arith)) number ends)
      (λ other. earlier e number (omega arith) ends)
      (cases_eq e bound)

  search_stops : ((q : ℕ) → s + 1 ≤ q → q < search_end table x s → stops table (row_at table x s q) ≡ false) ×
      ((stops table (row_at table x s (search_end table x s)) ≡ true) ⊎ (search_end table x s ≡ s + 1 + (length x - (s + 1))))
  search_stops = least_is (λ z. stops table (row_at table x s z)) (s + 1) (length x - (s + 1))

  -- before the end of the search no look-ahead rule is completed
  small_before : (q : ℕ) → s < q → q < search_end table x s → accept_of table (row_at table x s q) < 2
  small_before q past before =
      leb-false 2 (accept_of table (row_at table x s q)) (or_parts (eqb (row_at table x s q) 0) (completes table (row_at table x s q))
      (search_stops.0 q (omega arith) before)).1

  -- a look-ahead rule is completed at the end of the search

  looks_ahead_of : (q number : ℕ) (ends : FrontEndsAt rules x s q number) → LooksAhead ends.rule
  looks_ahead_of q number ends = ⊎_elim (λ piece. piece.word.0) (λ chained. chained.piece.word.0) ends.front

  greatest_cut : (p number : ℕ) → p < search_end table x s → accept_of table (row_at table x s (search_end table x s)) - 2 ≡ look_ahead_number rules number →
      Quiet (search_end table x s) → FrontEndsAt rules x s p number →
      p ≤ cut_place table x s (search_end table x s) (accept_of table (row_at table x s (search_end table x s)) - 2)
  unfolding Quiet
  greatest_cut p number less numbered quiet ends =
      let z : ℕ = search_end table x s in
      let k : ℕ = accept_of table (row_at table x s z) - 2 in
      let within : z ≤ length x = (end_lies table x s short).1 in
      let test : ℕ → Bool = λ q. ltb s q && has_bit (fronts_of table (row_at table x s q)) k in
      let past : s < p = (front_lies rules x s p number ends).0 in
      let at_p = marks_at p past (omega arith) (λ e n below. quiet e n (omega arith)) in
      let bit = (at_p.fronts (small_before p past less) k).1 (record {
        number = number;
        numbered = sym numbered;
        front =
            front_to_end rules x s p (omega arith) (omega arith) number ends;
      }) in
      at_most test z p (s + 1) (greatest_below test z) refl less (and_from (ltb s p) (has_bit (fronts_of table (row_at table x s p)) k) (lt-ltb s p past) bit)

  cut_next : completes table (row_at table x s (search_end table x s)) ≡ true → IsNext rules x s (next_boundary table x s)
  unfolding Quiet
  cut_next is =
      let z : ℕ = search_end table x s in
      let last : ℕ = row_at table x s z in
      let k : ℕ = accept_of table last - 2 in
      let q : ℕ = cut_place table x s z k in
      let lies = end_lies table x s short in
      let quiet = quiet_below z (omega (arith, lies.1)) small_before in
      let at = marks_at z lies.0 lies.1 quiet in
      let many = leb-true 2 (accept_of table last) is in
      let is_found : found table x s ≡ record { at = q; list = list_of table last } =
      cond-true (completes table last) (record { at = q; list = list_of table last }) (found_longest table x s (longest_place table x s z)) is in
      let cut = cut_is table valid x s short is in
      let by_completed : IsCompleted rules (slice_range x s z) (accept_of table last) →
      IsNext rules x s (record { at = q; statuses = statuses_of table (list_of table last) }) =
      λ completed.
      let number : ℕ = completed.number in
      let ends = look_ahead_from_end rules x s z (omega (arith, lies.0)) lies.1 number completed.ends in
      let numbered : k ≡ look_ahead_number rules number = omega (arith, completed.numbered, many) in
      let quiet_at : (p : ℕ) → p ≤ z → Quiet p = λ p below e n less. quiet e n (omega arith) in
      let at_cut = marks_at q cut.0 (omega (arith, cut.1, lies.1)) (quiet_at q (omega (arith, cut.1))) in
      let front = (at_cut.fronts (small_before q cut.0 cut.1) k).0 cut.2 in
      let front_here = front_from_end rules x s q (omega (arith, cut.0)) (omega (arith, cut.1, lies.1)) front.number front.front in
      let same_rule : front.number ≡ number = same_number rules front.number number front_here.rule ends.rule front_here.is_rule
      (looks_ahead_of q front.number front_here) ends.is_rule ends.looks_ahead (front.numbered ∙ numbered) in
      inl (record {
        e = z;
        number = number;
        ends = ends;
        least = λ e n other. ⊎_elim (λ less. absurd (quiet e n less other)) (λ past. past) (cases_lt e z);
        first = λ n other. completed.first n (look_ahead_to_end rules x s z (omega (arith, lies.0)) lies.1 n other);
        before = cut.1;
        front = subst (λ n. FrontEndsAt rules x s q n) same_rule front_here;
        greatest = λ p less ends_there. greatest_cut p number less numbered quiet ends_there;
        statuses = tags_from_end rules x s z (omega (arith, lies.0)) lies.1 (statuses_of table (list_of table last)) at.statuses;
      }) in
      subst (λ f. IsNext rules x s (record { at = f.at; statuses = statuses_of table f.list })) (sym is_found)
      (⊎_elim by_completed
      (⊎_elim (λ ended. absurd (omega (arith, ended.is_one, many))) (λ unended. absurd (omega (arith, unended.is_zero, many))))
      at.accept)

  -- no look-ahead rule is completed there

  -- past the end of the search the rows have accept number 0
  none_after : completes table (row_at table x s (search_end table x s)) ≡ false → (q : ℕ) → search_end table x s < q → q ≤ length x →
      accept_of table (row_at table x s q) ≡ 0
  none_after isnt q after within =
      let z : ℕ = search_end table x s in
      ⊎_elim
      (λ stopped.
      ⊎_elim
      (λ zero_row.
      ap (λ r. accept_of table r) (stays_stopped table valid x s z q (omega arith) (eqb-true (row_at table x s z) 0 zero_row)) ∙ valid.rows.stop.0)
      (λ completed. absurd (false≢true (sym isnt ∙ completed)))
      (or_cases (eqb (row_at table x s z) 0) (completes table (row_at table x s z)) stopped))
      (λ all. absurd (omega (arith, all)))
      search_stops.1

  small_everywhere : completes table (row_at table x s (search_end table x s)) ≡ false → (q : ℕ) → s < q → q < length x + 1 →
      accept_of table (row_at table x s q) < 2
  small_everywhere isnt q past within =
      let z : ℕ = search_end table x s in
      ⊎_elim
      (λ is. subst (λ p. accept_of table (row_at table x s p) < 2) (sym is) (leb-false 2 (accept_of table (row_at table x s z)) isnt))
      (⊎_elim (λ before. small_before q past before) (λ after. omega (arith, none_after isnt q after (omega arith))))
      (cases_order q z)

  -- past the end of the search no rule ends
  ends_within : completes table (row_at table x s (search_end table x s)) ≡ false → (q : ℕ) → s < q → q ≤ length x → accept_of table (row_at table x s q) ≡ 1 →
      q ≤ search_end table x s
  ends_within isnt q past within one =
      ⊎_elim (λ after. absurd (omega (arith, none_after isnt q after within, one))) (λ before. before) (cases_lt (search_end table x s) q)

  module _ (isnt : completes table (row_at table x s (search_end table x s)) ≡ false) where
    quiet_everywhere : Quiet (length x + 1)
    quiet_everywhere = quiet_below (length x + 1) (omega arith) (small_everywhere isnt)

    none_ahead : (e number : ℕ) → LookAheadEndsAt rules x s e number → ⊥
    unfolding Quiet
    none_ahead e number ends = quiet_everywhere e number (omega (arith, (ends_lie rules x s e number ends.ends).1)) ends

    marks_here : (q : ℕ) → s < q → q ≤ length x → AreMarksAtEnd rules (slice_range x s q) (marks_of table (row_at table x s q))
    unfolding Quiet
    marks_here q past within = marks_at q past within (λ e n below. quiet_everywhere e n (omega arith))

    -- wherever a rule ends, the longest match looks
    passes : (e number : ℕ) → EndsAt rules x s e number → (e < search_end table x s + 1) × ((ltb s e && eqb (accept_of table (row_at table x s e)) 1) ≡ true)
    passes e number ends =
        let lies = ends_lie rules x s e number ends in
        let one = accept_is_one e lies.0 lies.1 (marks_here e lies.0 lies.1) (small_everywhere isnt e lies.0 (omega (arith, lies.1))) number ends in (
          omega (arith, ends_within isnt e lies.0 lies.1 one),
          and_from (ltb s e) (eqb (accept_of table (row_at table x s e)) 1) (lt-ltb s e lies.0)
              (eq-eqb (accept_of table (row_at table x s e)) 1 one),
        )

    boundary_at : Found → Boundary
    boundary_at f = record { at = f.at; statuses = statuses_of table f.list }

    longest_next : (place : Option ℕ) → longest_place table x s (search_end table x s) ≡ place → IsNext rules x s (boundary_at (found_longest table x s place))
    unfolding boundary_at
    longest_next None is =
        inr (inr (record {
          no_end = λ e number ends.
              let there = passes e number ends in
              none_passes (λ q. ltb s q && eqb (accept_of table (row_at table x s q)) 1) (search_end table x s + 1) e is there.0 there.1;
          at = refl;
          statuses = first_list table.lists valid.lists.first table refl;
        }))
    longest_next (Some q) is =
        let test : ℕ → Bool = λ p. ltb s p && eqb (accept_of table (row_at table x s p)) 1 in
        let lies = greatest_lies test (search_end table x s + 1) q is in
        let parts = and_parts (ltb s q) (eqb (accept_of table (row_at table x s q)) 1) lies.1 in
        let past = ltb-true s q parts.0 in
        let within : q ≤ length x = omega (arith, lies.0, (end_lies table x s short).1) in
        let at = marks_here q past within in
        inr (inl (record {
          no_look_ahead = none_ahead;
          ends = one_ends q past within at (eqb-true (accept_of table (row_at table x s q)) 1 parts.1);
          greatest = λ e number ends. let there = passes e number ends in greatest_is_most test (search_end table x s + 1) q e is there.0 there.1;
          statuses = tags_from_end rules x s q (omega arith) within (statuses_of table (list_of table (row_at table x s q))) at.statuses;
        }))

    plain_next : IsNext rules x s (next_boundary table x s)
    unfolding boundary_at
    plain_next =
        let last : ℕ = row_at table x s (search_end table x s) in
        let is_found : found table x s ≡ found_longest table x s (longest_place table x s (search_end table x s)) =
        cond-false (completes table last) (record { at = cut_place table x s (search_end table x s) (accept_of table last - 2); list = list_of table last })
        (found_longest table x s (longest_place table x s (search_end table x s))) isnt in
        subst (λ f. IsNext rules x s (record { at = f.at; statuses = statuses_of table f.list })) (sym is_found)
        (longest_next (longest_place table x s (search_end table x s)) refl)

  -- the next boundary by the table is that by the rules
  pub table_next : IsNext rules x s (next_boundary table x s)
  table_next = ⊎_elim cut_next plain_next (cases_Bool (completes table (row_at table x s (search_end table x s))))

module _ (table : Table) (rules : List Rule) (valid : IsValidTable table) (same : HasSameMarks table rules) (x : List ℕ) (text : IsText x) where
  table_follow : (most : ℕ) (last : Boundary) → last.at ≤ length x → length x ≤ last.at + most →
      Follow rules x last (follow_by (next_boundary table x) (length x) most last)
  table_follow zero last low high = omega arith
  table_follow (suc most) last low high =
      cond_both (ltb last.at (length x)) (next_boundary table x last.at ∷ follow_by (next_boundary table x) (length x) most (next_boundary table x last.at)) []
      (λ bs. Follow rules x last bs)
      (λ is.
      let short = ltb-true last.at (length x) is in
      let lies = found_lies table x last.at short in
      (short, table_next table rules valid same x text last.at short, table_follow most (next_boundary table x last.at) lies.1 (omega (arith, lies.0))))
      (λ isnt. let past = ltb-false last.at (length x) isnt in omega arith)

  pub table_gives : AreBoundaries rules x (table_boundaries table x)
  table_gives = (refl, table_follow (length x) start (omega arith) (omega arith))
