-- A search depends on the characters that it reads alone.
use Rattle.std.proofs.Common.{◌≡◌, ℕ, zero, suc, ◌+◌, ◌-◌, ◌<◌, ◌≤◌, ◌⊎◌, Bool, true, false, cond, ◌&&◌, ltb, eqb, List, Option, Some, None, length, take, drop}
use Rattle.std.proofs.Common.{sym, refl, ap, ◌∙◌, subst, inl, inr, ⊎_elim, add-suc, arith}
use Rattle.std.specs.Prelude.{unwrap_or}
use Rattle.std.proofs.lemmas.Bool.{cases_Bool, cases_order, cond-true, cond-false, false≢true, lt-ltb, ltb-true}
use Rattle.std.proofs.lemmas.List.{take-take}
use Rattle.rbbi_model.specs.Places.{least_from, greatest_below, has_bit}
use Rattle.rbbi_model.specs.Tables.{Table, accept_of, fronts_of, list_of, row_after, completes, stops}
use Rattle.rbbi_model.specs.Searches.{Found, row_at, search_end, look_end, cut_place, longest_place, found_longest, found}
use Rattle.rbbi_model.specs.ReadAlike.{ReadsAlike, FindsAlike}
use Rattle.rbbi_model.proofs.Found.{least_lies, end_lies}
use Rattle.rbbi_model.proofs.SearchFacts.{least_is}

-- the least place is the one before which the test fails, and at which it holds or there are no more
pub least_unique : (test : ℕ → Bool) (low count p : ℕ) → low ≤ p → p ≤ low + count → ((q : ℕ) → low ≤ q → q < p → test q ≡ false) →
    ((test p ≡ true) ⊎ (p ≡ low + count)) → least_from test low count ≡ p
least_unique test low count p from to fails here =
    let lies = least_lies test low count in
    let is = least_is test low count in
    ⊎_elim
    (λ same. same)
    (λ other. ⊎_elim
    (λ less. ⊎_elim
    (λ holds. absurd (false≢true (sym (fails (least_from test low count) lies.0 less) ∙ holds)))
    (λ all. absurd (omega arith))
    is.1)
    (λ more. ⊎_elim
    (λ holds. absurd (false≢true (sym (is.0 p from more) ∙ holds)))
    (λ all. absurd (omega (arith, lies.1)))
    here)
    other)
    (cases_order (least_from test low count) p)

-- there is no place below high at which the test holds
pub none_below : (test : ℕ → Bool) (high : ℕ) → ((q : ℕ) → q < high → test q ≡ false) → greatest_below test high ≡ None
none_below test zero fails = refl
none_below test (suc high) fails =
    cond-false (test high) (Some high) (greatest_below test high) (fails high (omega arith))
    ∙ none_below test high (λ q less. fails q (omega arith))

-- both places are there, so far past their starts, or neither is
pub data AreMoved (s t most : ℕ) : Option ℕ → Option ℕ → Type 0 where
  Neither : AreMoved s t most None None
  Both : (k : ℕ) → k ≤ most → AreMoved s t most (Some (s + k)) (Some (t + k))

-- two tests that agree so far past their starts, and hold nowhere up to them
pub record TestsAgree (f g : ℕ → Bool) (s t most : ℕ) : Type 0 where
  pub low : (q : ℕ) → q ≤ s → f q ≡ false
  pub low' : (q : ℕ) → q ≤ t → g q ≡ false
  pub same : (k : ℕ) → 0 < k → k ≤ most → f (s + k) ≡ g (t + k)

at_same : (f g : ℕ → Bool) (s t most j : ℕ) → TestsAgree f g s t most → j ≤ most → f (s + j) ≡ g (t + j)
at_same f g s t most zero agree short = agree.low (s + 0) (omega arith) ∙ sym (agree.low' (t + 0) (omega arith))
at_same f g s t most (suc j) agree short = agree.same (suc j) (omega arith) short

pub greatest_moved : (f g : ℕ → Bool) (s t most j : ℕ) → TestsAgree f g s t most → j ≤ suc most →
    AreMoved s t most (greatest_below f (s + j)) (greatest_below g (t + j))
greatest_moved f g s t most zero agree short =
    let here : greatest_below f (s + 0) ≡ None = none_below f (s + 0) (λ q less. agree.low q (omega arith)) in
    let there : greatest_below g (t + 0) ≡ None = none_below g (t + 0) (λ q less. agree.low' q (omega arith)) in
    subst (λ a. AreMoved s t most a (greatest_below g (t + 0))) (sym here)
    (subst (λ b. AreMoved s t most None b) (sym there) Neither)
greatest_moved f g s t most (suc j) agree short =
    let before = greatest_moved f g s t most j agree (omega arith) in
    let tests : f (s + j) ≡ g (t + j) = at_same f g s t most j agree (omega arith) in
    subst (λ n. AreMoved s t most (greatest_below f n) (greatest_below g (t + suc j))) (sym (add-suc s j))
    (subst (λ n. AreMoved s t most (greatest_below f (suc (s + j))) (greatest_below g n)) (sym (add-suc t j))
    (⊎_elim
    (λ holds.
    subst (λ a. AreMoved s t most a (greatest_below g (suc (t + j)))) (sym (cond-true (f (s + j)) (Some (s + j)) (greatest_below f (s + j)) holds))
    (subst (λ b. AreMoved s t most (Some (s + j)) b) (sym (cond-true (g (t + j)) (Some (t + j)) (greatest_below g (t + j)) (sym tests ∙ holds)))
    (Both j (omega arith))))
    (λ fails.
    subst (λ a. AreMoved s t most a (greatest_below g (suc (t + j)))) (sym (cond-false (f (s + j)) (Some (s + j)) (greatest_below f (s + j)) fails))
    (subst (λ b. AreMoved s t most (greatest_below f (s + j)) b) (sym (cond-false (g (t + j)) (Some (t + j)) (greatest_below g (t + j)) (sym tests ∙ fails)))
    before))
    (cases_Bool (f (s + j)))))

and_first : (a b : Bool) → a ≡ false → a && b ≡ false
and_first a b is = ap (λ v. v && b) is

not_past : (s q : ℕ) → q ≤ s → ltb s q ≡ false
not_past s q low = ⊎_elim (λ holds. absurd (omega (arith, ltb-true s q holds))) (λ fails. fails) (cases_Bool (ltb s q))

module _ (table : Table) (x y : List ℕ) (s t : ℕ) (alike : ReadsAlike table x y s t) where
  -- the rows of the two searches are the same
  same_row : (k : ℕ) → k ≤ search_end table x s - s → row_at table x s (s + k) ≡ row_at table y t (t + k)
  same_row k short =
      let here : s + k - s ≡ k = omega arith in
      let there : t + k - t ≡ k = omega arith in
      let whole : t + (search_end table x s - s) - t ≡ search_end table x s - s = omega arith in
      let characters : take (search_end table x s - s) (drop s x) ≡ take (search_end table x s - s) (drop t y) =
      alike.characters ∙ ap (λ n. take n (drop t y)) whole in
      ap (λ n. row_after table (take n (drop s x))) here
      ∙ ap (row_after table) (sym (take-take k (search_end table x s - s) (drop s x) short) ∙ ap (λ l. take k l) characters ∙
      take-take k (search_end table x s - s) (drop t y) short)
      ∙ ap (λ n. row_after table (take n (drop t y))) (sym there)

  in_x : (s < search_end table x s) × (search_end table x s ≤ length x)
  in_x = end_lies table x s alike.within

  look_stopped : stops table (row_at table x s (search_end table x s)) ≡ true → look_end table x s ≡ search_end table x s
  look_stopped holds = cond-true (stops table (row_at table x s (search_end table x s))) (search_end table x s) (length x + 1) holds

  look_open : stops table (row_at table x s (search_end table x s)) ≡ false → look_end table x s ≡ length x + 1
  look_open fails = cond-false (stops table (row_at table x s (search_end table x s))) (search_end table x s) (length x + 1) fails

  -- where the search reads on at the end of x, y ends as far from t
  ends_as_far : stops table (row_at table x s (search_end table x s)) ≡ false → length y + s ≡ length x + t
  ends_as_far fails = ⊎_elim (λ stopped. absurd (omega (arith, look_open fails, stopped.0))) (λ far. far) alike.end

  room : t + (search_end table x s - s) ≤ length y
  room =
      ⊎_elim
      (λ holds. ⊎_elim (λ stopped. omega (arith, look_stopped holds, stopped.1)) (λ far. omega (arith, far, in_x.0, in_x.1)) alike.end)
      (λ fails. omega (arith, ends_as_far fails, in_x.0, in_x.1))
      (cases_Bool (stops table (row_at table x s (search_end table x s))))

  all_read : stops table (row_at table x s (search_end table x s)) ≡ false → search_end table x s ≡ length x
  all_read fails =
      ⊎_elim
      (λ holds. absurd (false≢true (sym fails ∙ holds)))
      (λ all. omega (arith, all, in_x.0, in_x.1))
      (least_is (λ q. stops table (row_at table x s q)) (s + 1) (length x - (s + 1))).1

  last_row : row_at table x s (search_end table x s) ≡ row_at table y t (t + (search_end table x s - s))
  last_row =
      let there : s + (search_end table x s - s) ≡ search_end table x s = omega (arith, in_x.0) in
      ap (row_at table x s) (sym there) ∙ same_row (search_end table x s - s) (omega arith)

  moved_end : search_end table y t ≡ t + (search_end table x s - s)
  moved_end =
      let is = least_is (λ q. stops table (row_at table x s q)) (s + 1) (length x - (s + 1)) in
      least_unique (λ q. stops table (row_at table y t q)) (t + 1) (length y - (t + 1)) (t + (search_end table x s - s))
      (omega (arith, in_x.0)) (omega (arith, room, in_x.0))
      (λ q low high.
      let k : ℕ = q - t in
      let there : t + (q - t) ≡ q = omega arith in
      ap (λ p. stops table (row_at table y t p)) (sym there)
      ∙ ap (stops table) (sym (same_row (q - t) (omega arith)))
      ∙ is.0 (s + (q - t)) (omega arith) (omega arith))
      (⊎_elim
      (λ holds. inl (ap (stops table) (sym last_row) ∙ holds))
      (λ fails. inr (omega (arith, ends_as_far fails, in_x.0, in_x.1, room, all_read fails)))
      (cases_Bool (stops table (row_at table x s (search_end table x s)))))

  look_moved : look_end table y t + s ≡ look_end table x s + t
  look_moved =
      let look : ℕ → ℕ = λ q. cond (stops table (row_at table y t q)) q (length y + 1) in
      let there : look_end table y t ≡ look (t + (search_end table x s - s)) = ap look moved_end in
      ⊎_elim
      (λ holds. omega (
        arith,
        there,
        in_x.0,
        look_stopped holds,
        cond-true (stops table (row_at table y t (t + (search_end table x s - s))))
            (t + (search_end table x s - s)) (length y + 1) (ap (stops table) (sym last_row) ∙ holds),
      ))
      (λ fails. omega (
        arith,
        there,
        look_open fails,
        ends_as_far fails,
        cond-false (stops table (row_at table y t (t + (search_end table x s - s))))
            (t + (search_end table x s - s)) (length y + 1) (ap (stops table) (sym last_row) ∙ fails),
      ))
      (cases_Bool (stops table (row_at table x s (search_end table x s))))

  tests_agree : (passes : ℕ → Bool) → TestsAgree (λ q. ltb s q && passes (row_at table x s q)) (λ q. ltb t q && passes (row_at table y t q)) s t
      (search_end table x s - s)
  tests_agree passes =
      record {
        low = λ q low. and_first (ltb s q) (passes (row_at table x s q)) (not_past s q low);
        low' = λ q low. and_first (ltb t q) (passes (row_at table y t q)) (not_past t q low);
        same = λ k some short.
            ap (λ b. b && passes (row_at table x s (s + k))) (lt-ltb s (s + k) (omega arith) ∙ sym (lt-ltb t (t + k) (omega arith)))
            ∙ ap (λ row. ltb t (t + k) && passes row) (same_row k short);
      }

  places_moved : (passes : ℕ → Bool) (j : ℕ) → j ≤ suc (search_end table x s - s) →
      AreMoved s t (search_end table x s - s) (greatest_below (λ q. ltb s q && passes (row_at table x s q)) (s + j))
      (greatest_below (λ q. ltb t q && passes (row_at table y t q)) (t + j))
  places_moved passes j short =
      greatest_moved (λ q. ltb s q && passes (row_at table x s q)) (λ q. ltb t q && passes (row_at table y t q)) s t (search_end table x s - s) j
      (tests_agree passes) short

  unwrap_moved : (a b : Option ℕ) → AreMoved s t (search_end table x s - s) a b → unwrap_or b (t + 1) + s ≡ unwrap_or a (s + 1) + t
  unwrap_moved _ _ Neither = omega arith
  unwrap_moved _ _ (Both k short) = omega arith

  AreAlike : Found → Found → Type 0
  AreAlike here there = (there.at + s ≡ here.at + t) × (there.list ≡ here.list)

  longest_alike : (a b : Option ℕ) → AreMoved s t (search_end table x s - s) a b → AreAlike (found_longest table x s a) (found_longest table y t b)
  unfolding AreAlike
  longest_alike _ _ Neither = (omega arith, refl)
  longest_alike _ _ (Both k short) = (omega arith, ap (list_of table) (sym (same_row k short)))

  -- what a search that ends at z finds
  found_to : List ℕ → ℕ → ℕ → Found
  found_to text start z =
      cond (completes table (row_at table text start z)) (record {
        at = cut_place table text start z (accept_of table (row_at table text start z) - 2);
        list =
            list_of table (row_at table text start z);
      }) (found_longest table text start (longest_place table text start z))

  same_place : s + (search_end table x s - s) ≡ search_end table x s
  same_place = omega (arith, in_x.0)

  cut_alike : (k : ℕ) → AreAlike (record { at = cut_place table x s (search_end table x s) k; list = list_of table (row_at table x s (search_end table x s)) })
      (record { at = cut_place table y t (t + (search_end table x s - s)) k; list = list_of table (row_at table y t (t + (search_end table x s - s))) })
  unfolding AreAlike
  cut_alike k =
      let passes : ℕ → Bool = λ row. has_bit (fronts_of table row) k in
      let moved = places_moved passes (search_end table x s - s) (omega arith) in
      let at : unwrap_or (greatest_below (λ q. ltb t q && passes (row_at table y t q)) (t + (search_end table x s - s))) (t + 1) + s ≡ unwrap_or
      (greatest_below (λ q. ltb s q && passes (row_at table x s q)) (s + (search_end table x s - s))) (s + 1) + t =
      unwrap_moved (greatest_below (λ q. ltb s q && passes (row_at table x s q)) (s + (search_end table x s - s)))
      (greatest_below (λ q. ltb t q && passes (row_at table y t q)) (t + (search_end table x s - s))) moved in
      (at ∙ ap (λ n. unwrap_or (greatest_below (λ q. ltb s q && passes (row_at table x s q)) n) (s + 1) + t) same_place, ap (list_of table) (sym last_row))

  longest_place_alike : AreMoved s t (search_end table x s - s) (longest_place table x s (search_end table x s))
      (longest_place table y t (t + (search_end table x s - s)))
  longest_place_alike =
      let passes : ℕ → Bool = λ row. eqb (accept_of table row) 1 in
      let here : s + suc (search_end table x s - s) ≡ search_end table x s + 1 = omega (arith, same_place) in
      let there : t + suc (search_end table x s - s) ≡ t + (search_end table x s - s) + 1 = omega arith in
      subst (λ n. AreMoved s t (search_end table x s - s) (greatest_below (λ q. ltb s q && passes (row_at table x s q)) n)
      (longest_place table y t (t + (search_end table x s - s)))) here
      (subst (λ n. AreMoved s t (search_end table x s - s) (greatest_below (λ q. ltb s q && passes (row_at table x s q)) (s + suc (search_end table x s - s)))
      (greatest_below (λ q. ltb t q && passes (row_at table y t q)) n)) there
      (places_moved passes (suc (search_end table x s - s)) (omega arith)))

  found_alike : AreAlike (found table x s) (found_to y t (t + (search_end table x s - s)))
  unfolding found_to
  found_alike =
      let z : ℕ = t + (search_end table x s - s) in
      let last : ℕ = row_at table x s (search_end table x s) in
      let cut : Found = record { at = cut_place table x s (search_end table x s) (accept_of table last - 2); list = list_of table last } in
      let longest : Found = found_longest table x s (longest_place table x s (search_end table x s)) in
      let cut' : Found = record { at = cut_place table y t z (accept_of table (row_at table y t z) - 2); list = list_of table (row_at table y t z) } in
      let longest' : Found = found_longest table y t (longest_place table y t z) in
      ⊎_elim
      (λ holds.
      subst (λ f. AreAlike f (found_to y t z)) (sym (cond-true (completes table last) cut longest holds))
      (subst (λ f. AreAlike cut f) (sym (cond-true (completes table (row_at table y t z)) cut' longest' (ap (completes table) (sym last_row) ∙ holds)))
      (subst (λ row. AreAlike cut (record { at = cut_place table y t z (accept_of table row - 2); list = list_of table (row_at table y t z) })) last_row
      (cut_alike (accept_of table last - 2)))))
      (λ fails.
      subst (λ f. AreAlike f (found_to y t z)) (sym (cond-false (completes table last) cut longest fails))
      (subst (λ f. AreAlike longest f) (sym (cond-false (completes table (row_at table y t z)) cut' longest' (ap (completes table) (sym last_row) ∙ fails)))
      (longest_alike (longest_place table x s (search_end table x s)) (longest_place table y t z) longest_place_alike)))
      (cases_Bool (completes table last))

  -- the search from t in y finds and looks like the one from s in x
  pub finds_alike : FindsAlike table x y s t
  unfolding AreAlike found_to
  finds_alike =
      let there : found table y t ≡ found_to y t (t + (search_end table x s - s)) = ap (found_to y t) moved_end in
      record {
        at = ap (λ f. f.at + s) there ∙ found_alike.0;
        list = ap (λ f. f.list) there ∙ found_alike.1;
        look = look_moved;
      }
