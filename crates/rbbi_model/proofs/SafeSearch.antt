-- From a safe pair of characters on, a search that began there runs along with one that began before.
use Rattle.std.proofs.Common.{◌≡◌, ℕ, zero, suc, ◌+◌, ◌-◌, ◌<◌, ◌≤◌, ◌⊎◌, true, false, cond, eqb, List, length, take, drop, get_or, sym, ap, ◌∙◌, subst, inl}
use Rattle.std.proofs.Common.{inr, ⊎_elim, arith}
use Rattle.std.specs.Prelude.{IsTrue}
use Rattle.std.proofs.lemmas.Bool.{cases_Bool, cases_lt, cases_eq, false≢true, or_left, eq-eqb, cond-true}
use Rattle.rbbi_model.specs.Places.{has_bit}
use Rattle.rbbi_model.specs.Tables.{Table, accept_of, fronts_of, list_of, step, row_after, completes, stops}
use Rattle.rbbi_model.specs.SafePairs.{IsOpen, IsSafePair}
use Rattle.rbbi_model.specs.ValidTables.{IsValidTable}
use Rattle.rbbi_model.specs.Searches.{row_at, search_end, look_end, found}
use Rattle.rbbi_model.specs.Runs.{category_at}
use Rattle.rbbi_model.proofs.Categories.{category_within}
use Rattle.rbbi_model.proofs.Found.{end_lies, found_lies}
use Rattle.rbbi_model.proofs.SearchFacts.{least_is}
use Rattle.rbbi_model.proofs.Cuts.{no_bit}
use Rattle.rbbi_model.proofs.FoundCases.{FoundCut, FoundLongest, FoundSingle, found_cases, found_up_to, row_goes_on, row_within, stopped_leads, going_is_open}

-- the accept number of row 0
zero_accept : (table : Table) → IsValidTable table → (row : ℕ) → row ≡ 0 → accept_of table row ≡ 0
zero_accept table valid row is = ap (λ r. accept_of table r) is ∙ valid.rows.stop.0

zero_stops : (table : Table) (row : ℕ) → row ≡ 0 → stops table row ≡ true
zero_stops table row is = or_left (eqb row 0) (completes table row) (eq-eqb row 0 is)

-- two places past p that agree from two on are the same
agree_at : {p : ℕ} (fb fp : ℕ) → p < fb → p < fp → (p + 2 ≤ fb → fb ≤ fp) → (p + 2 ≤ fp → fp ≤ fb) → fp ≡ fb
agree_at {p} fb fp past past' low high =
    ⊎_elim
    (λ near. ⊎_elim (λ near'. omega arith) (λ from'. let up = high from' in omega arith) (cases_lt fp (p + 2)))
    (λ from. let down = low from in ⊎_elim (λ near'. omega arith) (λ from'. let up = high from' in omega arith) (cases_lt fp (p + 2)))
    (cases_lt fb (p + 2))

module _ (table : Table) (valid : IsValidTable table) (x : List ℕ) where
  -- where a search finds a place past the next one, its row there isn't row 0
  found_alive : (s : ℕ) → s < length x → s + 1 < (found table x s).at → row_at table x s (found table x s).at ≡ 0 → ⊥
  found_alive s short far dead =
      found_cases table valid x s short
      (λ cut. no_bit (fronts_of table (row_at table x s (found table x s).at)) (accept_of table (row_at table x s (search_end table x s)) - 2)
      (ap (λ r. fronts_of table r) dead ∙ valid.rows.stop.1) cut.bit)
      (λ longest. omega (arith, zero_accept table valid (row_at table x s (found table x s).at) dead, longest.one))
      (λ single. omega (arith, single.at, far))

  goes_before : (s q : ℕ) → s < q → q < search_end table x s → stops table (row_at table x s q) ≡ false
  goes_before s q past before = (least_is (λ z. stops table (row_at table x s z)) (s + 1) (length x - (s + 1))).0 q (omega arith) before

  -- a search that stops at a place ends there at the latest
  ends_by : (s q : ℕ) → s < q → stops table (row_at table x s q) ≡ true → search_end table x s ≤ q
  ends_by s q past stopped = ⊎_elim (λ before. absurd (false≢true (sym (goes_before s q past before) ∙ stopped))) (λ by. by) (cases_lt q (search_end table x s))

  -- and looks no farther
  looks_by : (s q : ℕ) → s < length x → s < q → q ≤ length x → stops table (row_at table x s q) ≡ true → look_end table x s ≤ q
  looks_by s q short past within stopped =
      let by = ends_by s q past stopped in
      let is_end : stops table (row_at table x s (search_end table x s)) ≡ true =
      ⊎_elim
      (λ is. ap (λ z. stops table (row_at table x s z)) is ∙ stopped)
      (λ other. ⊎_elim (λ holds. holds) (λ all. absurd (omega (arith, all))) (least_is (λ z. stops table (row_at table x s z)) (s + 1) (length x - (s + 1))).1)
      (cases_eq (search_end table x s) q) in
      omega (arith, cond-true (stops table (row_at table x s (search_end table x s))) (search_end table x s) (length x + 1) is_end)

  module _ (b p : ℕ) (room : p + 2 ≤ length x) (safe : IsSafePair table (category_at table x p) (category_at table x (p + 1))) (order : b < p)
      (spans : p < (found table x b).at) where
    short_b : b < length x
    short_b = omega arith

    short_p : p < length x
    short_p = omega arith

    category_fits : (q : ℕ) → category_at table x q < table.categories
    category_fits q = category_within table.categories table.ranges (get_or x q 0) valid.ranges

    end_past : p < search_end table x b
    end_past = omega (arith, found_up_to table valid x b short_b)

    -- two rows on from an open row at p

    two_on : (s : ℕ) → s ≤ p → row_at table x s (p + 2) ≡ step table (step table (row_at table x s p) (category_at table x p)) (category_at table x (p + 1))
    two_on s before =
        ap (λ q. row_at table x s q) (let e : p + 2 ≡ p + 1 + 1 = omega arith in e)
        ∙ row_goes_on table x s (p + 1) (omega arith) (omega arith)
        ∙ ap (λ row. step table row (category_at table x (p + 1))) (row_goes_on table x s p before short_p)

    from_b : row_at table x b (p + 2) ≡ safe.0
    from_b = two_on b (omega arith) ∙ safe.1 (row_at table x b p) (row_within table valid x b p)
        (going_is_open table valid (row_at table x b p) (goes_before b p order end_past))

    at_start : row_at table x p p ≡ 1
    at_start = row_of_nothing (p - p) (omega arith)
      where
        row_of_nothing : (n : ℕ) → n ≡ 0 → row_after table (take n (drop p x)) ≡ 1
        row_of_nothing n is = ap (λ m. row_after table (take m (drop p x))) is

    start_open : IsOpen table (row_at table x p p)
    start_open = subst (λ row. IsOpen table row) (sym at_start) (omega arith, omega (arith, valid.rows.start.0))

    from_p : row_at table x p (p + 2) ≡ safe.0
    from_p = two_on p (omega arith) ∙ safe.1 (row_at table x p p) (row_within table valid x p p) start_open

    same_on : (d : ℕ) → p + 2 + d ≤ length x → row_at table x b (p + 2 + d) ≡ row_at table x p (p + 2 + d)
    same_on zero within =
        ap (λ q. row_at table x b q) (let e : p + 2 + 0 ≡ p + 2 = omega arith in e) ∙ from_b ∙ sym from_p ∙
        ap (λ q. row_at table x p q) (let e : p + 2 ≡ p + 2 + 0 = omega arith in e)
    same_on (suc d) within =
        let further : p + 2 + suc d ≡ p + 2 + d + 1 = omega arith in
        ap (λ q. row_at table x b q) further
        ∙ row_goes_on table x b (p + 2 + d) (omega arith) (omega arith)
        ∙ ap (λ row. step table row (category_at table x (p + 2 + d))) (same_on d (omega arith))
        ∙ sym (row_goes_on table x p (p + 2 + d) (omega arith) (omega arith))
        ∙ ap (λ q. row_at table x p q) (sym further)

    -- both searches are in the same row from two characters on
    same_row : (q : ℕ) → p + 2 ≤ q → q ≤ length x → row_at table x b q ≡ row_at table x p q
    same_row q from within =
        let there : p + 2 + (q - (p + 2)) ≡ q = omega arith in
        subst (λ n. row_at table x b n ≡ row_at table x p n) there (same_on (q - (p + 2)) (omega arith))

    -- one of them stops after one character, and so both find that place

    dead_after : (s : ℕ) → s ≤ p → stops table (row_at table x s (p + 1)) ≡ true → row_at table x s (p + 2) ≡ 0
    dead_after s before stopped =
        ap (λ q. row_at table x s q) (let e : p + 2 ≡ p + 1 + 1 = omega arith in e)
        ∙ row_goes_on table x s (p + 1) (omega arith) (omega arith)
        ∙ stopped_leads table valid (row_at table x s (p + 1)) (category_at table x (p + 1)) (row_within table valid x s (p + 1))
        (category_fits (p + 1)) stopped

    found_next : (s : ℕ) (short : s < length x) → s ≤ p → p < (found table x s).at → row_at table x s (p + 2) ≡ 0 → (found table x s).at ≡ p + 1
    found_next s short before past dead =
        let by = ends_by s (p + 2) (omega arith) (zero_stops table (row_at table x s (p + 2)) dead) in
        let up_to = found_up_to table valid x s short in
        ⊎_elim
        (λ is. absurd (found_alive s short (omega arith) (ap (λ q. row_at table x s q) is ∙ dead)))
        (λ other. omega arith)
        (cases_eq (found table x s).at (p + 2))

    past_p : p < (found table x p).at
    past_p = (found_lies table x p short_p).0

    both_next : row_at table x b (p + 2) ≡ 0 → (found table x p).at ≡ (found table x b).at
    both_next dead =
        found_next p short_p (omega arith) past_p (from_p ∙ sym from_b ∙ dead) ∙ sym (found_next b short_b (omega arith) spans dead)

    -- both go on after one character, and so end at one place in one row

    module _ (going_b : stops table (row_at table x b (p + 1)) ≡ false) (going_p : stops table (row_at table x p (p + 1)) ≡ false) where
      end_is : (s : ℕ) → s < length x → (stops table (row_at table x s (search_end table x s)) ≡ true) ⊎ (search_end table x s ≡ length x)
      end_is s short =
          ⊎_elim inl (λ all. inr (omega (arith, all))) (least_is (λ z. stops table (row_at table x s z)) (s + 1) (length x - (s + 1))).1

      far : (s : ℕ) → s < length x → p < search_end table x s → stops table (row_at table x s (p + 1)) ≡ false → p + 2 ≤ search_end table x s
      far s short past going =
          ⊎_elim
          (λ near.
          let is : search_end table x s ≡ p + 1 = omega arith in
          ⊎_elim
          (λ stopped. absurd (false≢true (sym going ∙ ap (λ q. stops table (row_at table x s q)) (sym is) ∙ stopped)))
          (λ all. absurd (omega (arith, is, all)))
          (end_is s short))
          (λ ok. ok)
          (cases_lt (search_end table x s) (p + 2))

      far_b : p + 2 ≤ search_end table x b
      far_b = far b short_b end_past going_b

      far_p : p + 2 ≤ search_end table x p
      far_p = far p short_p (end_lies table x p short_p).0 going_p

      not_later : (s t : ℕ) → s < length x → t < length x → s ≤ p → t ≤ p → p + 2 ≤ search_end table x t →
          row_at table x s (search_end table x t) ≡ row_at table x t (search_end table x t) → search_end table x s ≤ search_end table x t
      not_later s t short short' low low' far_t same =
          ⊎_elim
          (λ stopped. ends_by s (search_end table x t) (omega arith) (ap (λ row. stops table row) same ∙ stopped))
          (λ all. omega (arith, all, (end_lies table x s short).1))
          (end_is t short')

      same_end : search_end table x b ≡ search_end table x p
      same_end =
          let lies_b = end_lies table x b short_b in
          let lies_p = end_lies table x p short_p in
          let low = not_later b p short_b short_p (omega arith) (omega arith) far_p (same_row (search_end table x p) far_p lies_p.1) in
          let high = not_later p b short_p short_b (omega arith) (omega arith) far_b (sym (same_row (search_end table x b) far_b lies_b.1)) in
          omega arith

      same_last : row_at table x b (search_end table x b) ≡ row_at table x p (search_end table x p)
      same_last = same_row (search_end table x b) far_b (end_lies table x b short_b).1 ∙ ap (λ q. row_at table x p q) same_end

      Agree : Type 0
      Agree = ((found table x p).at ≡ (found table x b).at) × (p + 2 ≤ (found table x b).at → (found table x p).list ≡ (found table x b).list)

      cut_agrees : FoundCut table x b (found table x b) → FoundCut table x p (found table x p) → Agree
      unfolding Agree
      cut_agrees cut cut' =
          let fb : ℕ = (found table x b).at in
          let fp : ℕ = (found table x p).at in
          let up_b = (found_lies table x b short_b).1 in
          let up_p = (found_lies table x p short_p).1 in
          let same_k = ap (λ row. accept_of table row - 2) same_last in
          let low : p + 2 ≤ fb → fb ≤ fp = λ from.
          cut'.most fb (omega arith) (omega (arith, cut.before, same_end))
          (subst (λ k. IsTrue (has_bit (fronts_of table (row_at table x p fb)) k)) same_k
          (subst (λ row. IsTrue (has_bit (fronts_of table row) (accept_of table (row_at table x b (search_end table x b)) - 2)))
          (same_row fb from up_b) cut.bit)) in
          let high : p + 2 ≤ fp → fp ≤ fb = λ from.
          cut.most fp (omega arith) (omega (arith, cut'.before, same_end))
          (subst (λ k. IsTrue (has_bit (fronts_of table (row_at table x b fp)) k)) (sym same_k)
          (subst (λ row. IsTrue (has_bit (fronts_of table row) (accept_of table (row_at table x p (search_end table x p)) - 2)))
          (sym (same_row fp from up_p)) cut'.bit)) in (
            agree_at fb fp spans past_p low high,
            λ _. cut'.list ∙ ap (λ row. list_of table row) (sym same_last) ∙ sym cut.list,
          )

      longest_agrees : FoundLongest table x b (found table x b) → FoundLongest table x p (found table x p) → Agree
      unfolding Agree
      longest_agrees longest longest' =
          let fb : ℕ = (found table x b).at in
          let fp : ℕ = (found table x p).at in
          let up_b = (found_lies table x b short_b).1 in
          let up_p = (found_lies table x p short_p).1 in
          let low : p + 2 ≤ fb → fb ≤ fp = λ from. longest'.most fb (omega arith) (omega (arith, longest.up_to, same_end))
          (ap (λ row. accept_of table row) (sym (same_row fb from up_b)) ∙ longest.one) in
          let high : p + 2 ≤ fp → fp ≤ fb = λ from. longest.most fp (omega arith) (omega (arith, longest'.up_to, same_end))
          (ap (λ row. accept_of table row) (same_row fp from up_p) ∙ longest'.one) in
          let same : fp ≡ fb = agree_at fb fp spans past_p low high in (
            same,
            λ from. longest'.list ∙ ap (λ q. list_of table (row_at table x p q)) same ∙ ap (λ row. list_of table row) (sym (same_row fb from up_b)) ∙
                sym longest.list,
          )

      single_agrees : FoundLongest table x b (found table x b) → FoundSingle table x p (found table x p) → Agree
      unfolding Agree
      single_agrees longest single =
          let fb : ℕ = (found table x b).at in
          let up_b = (found_lies table x b short_b).1 in
          ⊎_elim
          (λ near. (omega (arith, single.at, spans), λ from. absurd (omega (arith, from, near))))
          (λ from. absurd (single.none fb spans (omega (arith, longest.up_to, same_end))
          (ap (λ row. accept_of table row) (sym (same_row fb from up_b)) ∙ longest.one)))
          (cases_lt fb (p + 2))

      same_completed : completes table (row_at table x b (search_end table x b)) ≡ completes table (row_at table x p (search_end table x p))
      same_completed = ap (λ row. completes table row) same_last

      going_agree : Agree
      unfolding Agree
      going_agree =
          found_cases table valid x b short_b
          (λ cut. found_cases table valid x p short_p (cut_agrees cut) (λ longest. absurd
          (false≢true (sym longest.uncompleted ∙ sym same_completed ∙ cut.completed)))
          (λ single. absurd (false≢true (sym single.uncompleted ∙ sym same_completed ∙ cut.completed))))
          (λ longest. found_cases table valid x p short_p (λ cut. absurd (false≢true (sym longest.uncompleted ∙ same_completed ∙ cut.completed)))
          (longest_agrees longest) (single_agrees longest))
          (λ single. absurd (omega (arith, single.at, spans)))

    -- from both starts the next boundary past p is at one place, and where it lies two characters on, with the same statuses
    pub next_agrees : ((found table x p).at ≡ (found table x b).at) × (p + 2 ≤ (found table x b).at → (found table x p).list ≡ (found table x b).list)
    unfolding Agree
    next_agrees =
        let dead_case : row_at table x b (p + 2) ≡ 0 → ((found table x p).at ≡ (found table x b).at) ×
        (p + 2 ≤ (found table x b).at → (found table x p).list ≡ (found table x b).list) =
        λ dead. (both_next dead, λ from. absurd (omega (arith, from, found_next b short_b (omega arith) spans dead))) in
        ⊎_elim
        (λ stopped. dead_case (dead_after b (omega arith) stopped))
        (λ going_b.
        ⊎_elim
        (λ stopped'. dead_case (from_b ∙ sym from_p ∙ dead_after p (omega arith) stopped'))
        (λ going_p. going_agree going_b going_p)
        (cases_Bool (stops table (row_at table x p (p + 1)))))
        (cases_Bool (stops table (row_at table x b (p + 1))))

    -- the search from the pair looks past the two characters only where the other one does too, and as far
    pub look_agrees : (look_end table x p ≤ p + 2) ⊎ (look_end table x p ≡ look_end table x b)
    look_agrees =
        let by_two : row_at table x p (p + 2) ≡ 0 → (look_end table x p ≤ p + 2) ⊎ (look_end table x p ≡ look_end table x b) =
        λ dead. inl (looks_by p (p + 2) short_p (omega arith) room (zero_stops table (row_at table x p (p + 2)) dead)) in
        ⊎_elim
        (λ stopped. by_two (from_p ∙ sym from_b ∙ dead_after b (omega arith) stopped))
        (λ going_b.
        ⊎_elim
        (λ stopped'. by_two (dead_after p (omega arith) stopped'))
        (λ going_p. inr (ap (λ z. cond (stops table (row_at table x p z)) z (length x + 1)) (sym (same_end going_b going_p))
        ∙ ap (λ row. cond (stops table row) (search_end table x b) (length x + 1))
        (ap (λ z. row_at table x p z) (same_end going_b going_p) ∙ sym (same_last going_b going_p))))
        (cases_Bool (stops table (row_at table x p (p + 1)))))
        (cases_Bool (stops table (row_at table x b (p + 1))))
