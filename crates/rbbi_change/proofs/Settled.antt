-- A safe pair at which the search from it stops: each search that comes to it stops there too, so none from before looks farther.
use Rattle.std.proofs.Common.{◌≡◌, ℕ, zero, suc, ◌+◌, ◌-◌, ◌<◌, ◌≤◌, true, false, ◌&&◌, eqb, leb, List, [], ◌∷◌, ◌++◌, Option, Some, None, length, take, drop}
use Rattle.std.proofs.Common.{get_or, sym, refl, ap, ◌∙◌, subst, inl, inr, ⊎_elim, arith}
use Rattle.std.specs.Prelude.{unwrap_or}
use Rattle.std.specs.List.{AllByRecursion}
use Rattle.std.proofs.lemmas.Bool.{cases_Bool, cases_lt, cases_eq, false≢true, or_left, or_cases, and_parts, and_from, eqb-true, leb-true, eq-eqb, cond-true, cond-false}
use Rattle.rbbi_model.specs.Places.{greatest_below}
use Rattle.rbbi_model.specs.Tables.{Table, category_of, step, row_after, completes, stops}
use Rattle.rbbi_model.specs.SafePairs.{IsOpen, IsSafePair, is_safe}
use Rattle.rbbi_model.specs.ValidTables.{IsValidTable}
use Rattle.rbbi_model.specs.Searches.{row_at, search_end, look_end, found}
use Rattle.rbbi_model.specs.Runs.{category_at, is_anchor}
use Rattle.rbbi_model.proofs.Categories.{category_within}
use Rattle.rbbi_model.proofs.Found.{end_lies, found_lies, greatest_lies}
use Rattle.rbbi_model.proofs.FoundCases.{found_up_to, row_goes_on, row_within, stopped_leads, going_is_open}
use Rattle.rbbi_model.proofs.Lists.{all_append, all_through}
use Rattle.rbbi_model.proofs.SafeSearch.{next_agrees}
use Rattle.rbbi_model.proofs.SearchFacts.{least_is}
use Rattle.rbbi_cache.proofs.Texts.{end_by_look}
use Rattle.rbbi_change.specs.Costs.{is_barrier, barrier_before}
use Rattle.rbbi_change.specs.inner.Reaching.{Lead, IsQuiet, ends_all}
use Rattle.rbbi_change.proofs.Leads.{lead_on}

zero_stops : (table : Table) (row : ℕ) → row ≡ 0 → stops table row ≡ true
zero_stops table row is = or_left (eqb row 0) (completes table row) (eq-eqb row 0 is)

module _ (table : Table) (valid : IsValidTable table) (x : List ℕ) where
  goes_before : (s q : ℕ) → s < q → q < search_end table x s → stops table (row_at table x s q) ≡ false
  goes_before s q past before = (least_is (λ z. stops table (row_at table x s z)) (s + 1) (length x - (s + 1))).0 q (omega arith) before

  -- a search that ends before the text does stops there
  end_stops : (s : ℕ) → s < length x → search_end table x s < length x → stops table (row_at table x s (search_end table x s)) ≡ true
  end_stops s short early =
      ⊎_elim (λ holds. holds) (λ all. absurd (omega (arith, all))) (least_is (λ z. stops table (row_at table x s z)) (s + 1) (length x - (s + 1))).1

  look_is_end : (s : ℕ) → stops table (row_at table x s (search_end table x s)) ≡ true → look_end table x s ≡ search_end table x s
  look_is_end s holds = cond-true (stops table (row_at table x s (search_end table x s))) (search_end table x s) (length x + 1) holds

  looks_by : (s q : ℕ) → s < length x → s < q → q ≤ length x → stops table (row_at table x s q) ≡ true → look_end table x s ≤ q
  looks_by s q short past within stopped =
      let by : search_end table x s ≤ q =
      ⊎_elim (λ before. absurd (false≢true (sym (goes_before s q past before) ∙ stopped))) (λ by. by) (cases_lt q (search_end table x s)) in
      ⊎_elim
      (λ is. omega (arith, look_is_end s (ap (λ z. stops table (row_at table x s z)) is ∙ stopped), is))
      (λ other. omega (arith, look_is_end s (end_stops s short (omega arith)), by))
      (cases_eq (search_end table x s) q)

  module _ (a : ℕ) (room : a + 2 ≤ length x) where
    short_a : a < length x
    short_a = omega arith

    category_fits : (q : ℕ) → category_at table x q < table.categories
    category_fits q = category_within table.categories table.ranges (get_or x q 0) valid.ranges

    two_on : (s : ℕ) → s ≤ a → row_at table x s (a + 2) ≡ step table (step table (row_at table x s a) (category_at table x a)) (category_at table x (a + 1))
    two_on s before =
        ap (λ q. row_at table x s q) (let e : a + 2 ≡ a + 1 + 1 = omega arith in e)
        ∙ row_goes_on table x s (a + 1) (omega arith) (omega arith)
        ∙ ap (λ row. step table row (category_at table x (a + 1))) (row_goes_on table x s a before short_a)

    at_start : row_at table x a a ≡ 1
    at_start = row_of_nothing (a - a) (omega arith)
      where
        row_of_nothing : (n : ℕ) → n ≡ 0 → row_after table (take n (drop a x)) ≡ 1
        row_of_nothing n is = ap (λ m. row_after table (take m (drop a x))) is

    -- the row after the first two characters of the search from there
    pub row_is : row_at table x a (a + 2) ≡ step table (step table 1 (category_at table x a)) (category_at table x (a + 1))
    row_is =
        two_on a (omega arith)
        ∙ ap (λ row. step table (step table row (category_at table x a)) (category_at table x (a + 1))) at_start

    -- the search ends there, or before
    pub looks_at_two : stops table (row_at table x a (a + 2)) ≡ true → look_end table x a ≤ a + 2
    looks_at_two = looks_by a (a + 2) short_a (omega arith) room

    module _ (settled : look_end table x a ≤ a + 2) where
      ends_by_two : search_end table x a ≤ a + 2
      ends_by_two = omega (arith, end_by_look table x a short_a)

      stops_at_end : stops table (row_at table x a (search_end table x a)) ≡ true
      stops_at_end =
          ⊎_elim
          (λ holds. holds)
          (λ fails. absurd (omega (arith, cond-false (stops table (row_at table x a (search_end table x a))) (search_end table x a) (length x + 1) fails)))
          (cases_Bool (stops table (row_at table x a (search_end table x a))))

      -- where the search from there looks at two characters at most, the row after them is one at which searches stop
      pub pair_stops : stops table (row_at table x a (a + 2)) ≡ true
      pair_stops =
          ⊎_elim
          (λ is. ap (λ q. stops table (row_at table x a q)) (sym is) ∙ stops_at_end)
          (λ other.
          let one : search_end table x a ≡ a + 1 = omega (arith, (end_lies table x a short_a).0, ends_by_two) in
          let there : stops table (row_at table x a (a + 1)) ≡ true = ap (λ q. stops table (row_at table x a q)) (sym one) ∙ stops_at_end in
          zero_stops table (row_at table x a (a + 2))
          (ap (λ q. row_at table x a q) (let e : a + 2 ≡ a + 1 + 1 = omega arith in e)
          ∙ row_goes_on table x a (a + 1) (omega arith) (omega arith)
          ∙ stopped_leads table valid (row_at table x a (a + 1)) (category_at table x (a + 1)) (row_within table valid x a (a + 1))
          (category_fits (a + 1)) there))
          (cases_eq (search_end table x a) (a + 2))

      module _ (safe : IsSafePair table (category_at table x a) (category_at table x (a + 1))) where
        start_open : IsOpen table (row_at table x a a)
        start_open = subst (λ row. IsOpen table row) (sym at_start) (omega arith, omega (arith, valid.rows.start.0))

        from_a : row_at table x a (a + 2) ≡ safe.0
        from_a = two_on a (omega arith) ∙ safe.1 (row_at table x a a) (row_within table valid x a a) start_open

        looks_short : (b : ℕ) → b ≤ a → look_end table x b ≤ a + 2
        looks_short b up_to =
            ⊎_elim
            (λ is. omega (arith, ap (λ q. look_end table x q) is))
            (λ other.
            ⊎_elim
            (λ past.
            let going = goes_before b a (omega arith) past in
            let there : row_at table x b (a + 2) ≡ safe.0 =
            two_on b up_to ∙ safe.1 (row_at table x b a) (row_within table valid x b a) (going_is_open table valid (row_at table x b a) going) in
            looks_by b (a + 2) (omega arith) (omega arith) room (ap (λ row. stops table row) (there ∙ sym from_a) ∙ pair_stops))
            (λ by. omega (arith, look_is_end b (end_stops b (omega arith) (omega (arith, by))), by))
            (cases_lt a (search_end table x b)))
            (cases_eq b a)

        pub record Quiet : Type 0 where
          pub places : List ℕ
          pub lead : Lead table x 0 (found table x a).at places
          pub short : AllByRecursion (λ place. look_end table x place ≤ a + 2) places

        shorts : (b : ℕ) → b ≤ a → (places : List ℕ) → AllByRecursion (λ place. look_end table x place ≤ a + 2) places →
            AllByRecursion (λ place. look_end table x place ≤ a + 2) (places ++ b ∷ [])
        shorts b up_to places short = all_append (λ place. look_end table x place ≤ a + 2) places (b ∷ []) short (looks_short b up_to, tt)

        finish : (b : ℕ) → b ≤ a → (places : List ℕ) → Lead table x 0 b places → AllByRecursion (λ place. look_end table x place ≤ a + 2) places →
            (found table x b).at ≡ (found table x a).at → Quiet
        finish b up_to places lead short same = record {
          places = places ++ b ∷ [];
          lead = subst (λ q. Lead table x 0 q (places ++ b ∷ [])) same (lead_on table x 0 b places lead (omega arith));
          short = shorts b up_to places short;
        }

        go_on : (n b : ℕ) → a ≤ b + n → b ≤ a → (places : List ℕ) → Lead table x 0 b places →
            AllByRecursion (λ place. look_end table x place ≤ a + 2) places → Quiet
        go_on zero b enough up_to places lead short =
            let is : b ≡ a = omega arith in finish b up_to places lead short (ap (λ q. (found table x q).at) is)
        go_on (suc n) b enough up_to places lead short =
            ⊎_elim
            (λ is. finish b up_to places lead short (ap (λ q. (found table x q).at) is))
            (λ other.
            ⊎_elim
            (λ spans.
            let agrees = next_agrees table valid x b a room safe (omega arith) spans in finish b up_to places lead short (sym agrees.0))
            (λ within.
            let further = found_lies table x b (omega arith) in
            go_on n (found table x b).at (omega (arith, further.0)) within (places ++ b ∷ []) (lead_on table x 0 b places lead (omega arith))
            (shorts b up_to places short))
            (cases_lt a (found table x b).at))
            (cases_eq b a)

        quiet : Quiet
        quiet = go_on a 0 (omega arith) (omega arith) [] refl tt

        -- the place that the search from the pair finds is quiet
        pub settles : (at : ℕ) → a + 2 < at → IsQuiet table x at (found table x a).at
        settles at before = record {
          is = record { before = quiet.places; lead = quiet.lead; within = (found_lies table x a short_a).1 };
          short =
              all_through (λ place. look_end table x place ≤ a + 2) (λ place. look_end table x place ≤ at) (λ place near. omega (arith, near))
              quiet.places quiet.short;
          early = inr (omega (arith, found_up_to table valid x a short_a, ends_by_two));
        }

pub quiet_zero : (table : Table) (x : List ℕ) (at : ℕ) → IsQuiet table x at 0
quiet_zero table x at = record { is = record { before = []; lead = refl; within = omega arith }; short = tt; early = inl refl }

-- where a safe pair begins, and the search from it looks at the pair alone
module _ (table : Table) (valid : IsValidTable table) (x : List ℕ) (a here next : ℕ) (room : a + 2 ≤ length x)
    (here_is : here ≡ category_of table.ranges (get_or x a 0)) (next_is : next ≡ category_of table.ranges (get_or x (a + 1) 0)) where
  ends_are : ends_all table here next ≡ ends_all table (category_at table x a) (category_at table x (a + 1))
  ends_are = ap (λ k. ends_all table k next) here_is ∙ ap (λ k. ends_all table (category_at table x a) k) next_is

  pair_row : stops table (row_at table x a (a + 2)) ≡ stops table (step table (step table 1 (category_at table x a)) (category_at table x (a + 1)))
  pair_row = ap (λ row. stops table row) (row_is table valid x a room)

  module _ (ends : ends_all table here next ≡ true) where
    parts : (is_safe table (category_at table x a) (category_at table x (a + 1)) ≡ true)
        × (stops table (step table (step table 1 (category_at table x a)) (category_at table x (a + 1))) ≡ true)
    parts =
        and_parts (is_safe table (category_at table x a) (category_at table x (a + 1)))
        (stops table (step table (step table 1 (category_at table x a)) (category_at table x (a + 1)))) (sym ends_are ∙ ends)

    pub pair_looks : look_end table x a ≤ a + 2
    pair_looks = looks_at_two table valid x a room (pair_row ∙ parts.1)

    pub quiet_at : (at : ℕ) → a + 3 ≤ at → (place : ℕ) → place ≡ (found table x a).at → IsQuiet table x at place
    quiet_at at early place is =
        let pair : IsSafePair table (category_at table x a) (category_at table x (a + 1)) =
        (valid.safe.exactly (category_at table x a) (category_at table x (a + 1)) (category_within table.categories table.ranges (get_or x a 0) valid.ranges)
        (category_within table.categories table.ranges (get_or x (a + 1) 0) valid.ranges)).0 parts.0 in
        subst (λ p. IsQuiet table x at p) (sym is) (settles table valid x a room pair_looks pair at (omega arith))

  -- a barrier is one
  pub barrier_ends : 0 < a → is_barrier table x a ≡ true → ends_all table here next ≡ true
  barrier_ends past barrier =
      let both = and_parts (is_anchor table x a) (leb (look_end table x a) (a + 2)) barrier in
      let pair = leb (a + 2) (length x) && is_safe table (category_at table x a) (category_at table x (a + 1)) in
      let safe = ⊎_elim (λ zero. absurd (omega (arith, eqb-true a 0 zero))) (λ pair_is. (and_parts (leb (a + 2) (length x))
      (is_safe table (category_at table x a) (category_at table x (a + 1))) pair_is).1) (or_cases (eqb a 0) pair both.0) in
      ends_are
      ∙ and_from (is_safe table (category_at table x a) (category_at table x (a + 1)))
      (stops table (step table (step table 1 (category_at table x a)) (category_at table x (a + 1)))) safe
      (sym pair_row ∙ pair_stops table valid x a room (leb-true (look_end table x a) (a + 2) both.1))

-- where no barrier lies past a place, the greatest isn't past it
pub barrier_up_to : (table : Table) (x : List ℕ) (at p : ℕ) → ((q : ℕ) → p < q → q + 3 ≤ at → is_barrier table x q ≡ true → ⊥) →
    barrier_before table x at ≤ p
barrier_up_to table x at p none = up_to (greatest_below (is_barrier table x) (at - 2)) refl
  where
    up_to : (place : Option ℕ) → greatest_below (is_barrier table x) (at - 2) ≡ place → unwrap_or place 0 ≤ p
    up_to None is = omega arith
    up_to (Some top) is =
        let lies = greatest_lies (is_barrier table x) (at - 2) top is in
        ⊎_elim (λ past. absurd (none top past (omega (arith, lies.0)) lies.1)) (λ ok. ok) (cases_lt p top)
