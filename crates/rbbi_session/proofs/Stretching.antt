-- Stretches of a text: where one begins, what is searched on the way, and what that costs.
use Rattle.std.proofs.Common.{◌≡◌, ◌≢◌, ℕ, ◌+◌, ◌-◌, ◌<◌, ◌≤◌, ◌⊎◌, inl, inr, ⊎_elim, Bool, true, false, cond, ◌&&◌, ◌||◌, eqb, ltb, leb, List, [], ◌∷◌, ◌++◌}
use Rattle.std.proofs.Common.{Some, length, filter, sym, refl, ap, ◌∙◌, subst, append_assoc, arith}
use Rattle.std.specs.Prelude.{sum_by, unwrap_or}
use Rattle.std.specs.List.{AllByRecursion, list_any}
use Rattle.std.proofs.lemmas.Bool.{cases_Bool, cases_eq, cases_lt, cond-true, cond-false, lt-ltb, le-ltb, le-leb, lt-leb, ltb-true, ltb-false, eq-eqb}
use Rattle.std.proofs.lemmas.Bool.{ne_eqb, or_left, or_right, and_from}
use Rattle.std.proofs.lemmas.List.Sums.{sum_by-cons}
use Rattle.rbbi_model.specs.Lists.{IsRising}
use Rattle.rbbi_model.specs.Boundaries.{Boundary}
use Rattle.rbbi_model.specs.Cover.{places}
use Rattle.rbbi_model.specs.Tables.{Table}
use Rattle.rbbi_model.specs.ValidTables.{IsValidTable}
use Rattle.rbbi_model.specs.Searches.{found, next_boundary, follow_by, fresh, table_boundaries}
use Rattle.rbbi_model.specs.Runs.{IsAnchor, is_anchor, low, from_place}
use Rattle.rbbi_model.specs.Answers.{First, Place, first_after}
use Rattle.rbbi_model.specs.Costs.{characters_read, anchor_below, searches_cost, forward_cost, settles, back_cost}
use Rattle.rbbi_model.proofs.Rising.{rising_tail}
use Rattle.rbbi_model.proofs.Found.{some_same, none_some}
use Rattle.rbbi_model.proofs.Covering.{table_covers}
use Rattle.rbbi_model.proofs.Anchors.{anchors_stored}
use Rattle.rbbi_model.proofs.FreshTrue.{fresh_true}
use Rattle.rbbi_model.proofs.Lists.{all_through}
use Rattle.rbbi_cache.specs.inner.Ready.{HasNoneBefore}
use Rattle.rbbi_cache.specs.inner.Scans.{Reached}
use Rattle.rbbi_cache.proofs.Lists.{all_by_test, all_filter}
use Rattle.rbbi_cache.proofs.Paths.{reached_of}
use Rattle.rbbi_cache.proofs.Reached.{reached_step, rises_after}
use Rattle.rbbi_cache.proofs.Backward.{none_settles, zero_settles}
use Rattle.rbbi_cache.proofs.TriedBack.{Tried, last_cost_is, start_is_last}
use Rattle.rbbi_cache.proofs.Walks.{greatest_is}
use Rattle.rbbi_session.specs.Scans.{boundary_at, IsBoundaryWith}
use Rattle.rbbi_session.specs.Sessions.{Session, boundaries_of, MovesTo, Answers}
use Rattle.rbbi_session.specs.Questions.{Past}
use Rattle.rbbi_session.specs.Asking.{IsAsked}
use Rattle.rbbi_session.specs.Stretches.{stretch_cost, BeginsStretch}
use Rattle.rbbi_session.proofs.Reaching.{found_within}
use Rattle.rbbi_session.proofs.Stepping.{first_is_next}

-- one search from a boundary
module _ (table : Table) (valid : IsValidTable table) (x : List ℕ) (at list : ℕ) (reached : IsBoundaryWith table x at list) (short : at < length x) where
  here : Boundary
  here = boundary_at table at list

  step : Reached table x 0 (reached.before ++ here ∷ []) (next_boundary table x at)
  unfolding here
  step = reached_step table x 0 reached.before here (reached_of table x 0 reached.before here reached.after reached.whole) short

  reached_next : IsBoundaryWith table x (found table x at).at (found table x at).list
  reached_next = record {
    before = reached.before ++ here ∷ [];
    after = follow_by (next_boundary table x) (length x) step.most (next_boundary table x at);
    whole = step.whole;
    within = found_within table valid x at;
  }

  first_is_found : first_after (table_boundaries table x) at ≡ Some (found table x at).at
  unfolding here
  first_is_found =
      let rest : List Boundary = next_boundary table x at ∷ follow_by (next_boundary table x) (length x) step.most (next_boundary table x at) in
      let whole : table_boundaries table x ≡ reached.before ++ here ∷ rest = step.whole ∙ append_assoc reached.before (here ∷ []) rest in
      ap (λ bs. first_after bs at) whole
      ∙ first_is_next reached.before here rest (subst (λ bs. IsRising (places bs)) whole (table_covers table x).rise)

  -- a search in the same text
  pub found_is : (y : List ℕ) → y ≡ x → (to status : ℕ) → to ≡ (found table y at).at → status ≡ (found table y at).list →
      IsBoundaryWith table x to status × (first_after (table_boundaries table x) at ≡ Some to)
  found_is y same to status to_is status_is =
      let to_is' : to ≡ (found table x at).at = to_is ∙ ap (λ z. (found table z at).at) same in
      let status_is' : status ≡ (found table x at).list = status_is ∙ ap (λ z. (found table z at).list) same in (
        subst (λ n. IsBoundaryWith table x n status) (sym to_is') (subst (λ n. IsBoundaryWith table x (found table x at).at n) (sym status_is') reached_next),
        first_is_found ∙ ap Some (sym to_is'),
      )

-- the first boundary past a place lies past it
first_past : (bs : List Boundary) (a r : ℕ) → first_after bs a ≡ Some r → a < r
first_past [] a r is = absurd (none_some r is)
first_past (b ∷ bs) a r is =
    ⊎_elim
    (λ past.
    subst (λ n. a < n) (some_same b.at r (sym (cond-true (ltb a b.at) (Some b.at) (first_after bs a) past) ∙ is)) (ltb-true a b.at past))
    (λ up. first_past bs a r (sym (cond-false (ltb a b.at) (Some b.at) (first_after bs a) up) ∙ is))
    (cases_Bool (ltb a b.at))

-- the boundaries up to a place, and those from the first one past it on
pub apart : (bs : List Boundary) (a r : ℕ) → IsRising (places bs) → first_after bs a ≡ Some r → AllByRecursion (λ b. (b.at ≤ a) ⊎ (r ≤ b.at)) bs
apart [] a r rising is = tt
apart (b ∷ bs) a r rising is =
    ⊎_elim
    (λ past.
    let same : b.at ≡ r = some_same b.at r (sym (cond-true (ltb a b.at) (Some b.at) (first_after bs a) past) ∙ is) in (
      inr (omega arith),
      all_through (λ c. b.at < c.at) (λ c. (c.at ≤ a) ⊎ (r ≤ c.at)) (λ c less. inr (omega (arith, same))) bs (rises_after b bs rising),
    ))
    (λ up. (
      inl (ltb-false a b.at up),
      apart bs a r (rising_tail b.at (places bs) rising) (sym (cond-false (ltb a b.at) (Some b.at) (first_after bs a) up) ∙ is),
    ))
    (cases_Bool (ltb a b.at))

-- a test holds of some boundary that is kept, and so of some boundary
any_kept : (test keeps : Boundary → Bool) (bs : List Boundary) → list_any test (filter keeps bs) ≡ true → list_any test bs ≡ true
any_kept test keeps [] is = is
any_kept test keeps (b ∷ bs) is =
    ⊎_elim
    (λ kept.
    ⊎_elim
    (λ holds. or_left (test b) (list_any test bs) holds)
    (λ fails. or_right (test b) (list_any test bs) (any_kept test keeps bs
    (ap (λ t. t || list_any test (filter keeps bs)) (sym fails) ∙ ap (list_any test) (sym (cond-true (keeps b) (b ∷ filter keeps bs) (filter keeps bs) kept))
    ∙ is)))
    (cases_Bool (test b)))
    (λ left. or_right (test b) (list_any test bs)
    (any_kept test keeps bs (ap (list_any test) (sym (cond-false (keeps b) (b ∷ filter keeps bs) (filter keeps bs) left)) ∙ is)))
    (cases_Bool (keeps b))

-- a test that holds of the first boundary past a place
any_first : (test : ℕ → Bool) (bs : List Boundary) (a r : ℕ) → first_after bs a ≡ Some r → test r ≡ true →
    list_any (λ b. test b.at) (from_place (a + 1) bs) ≡ true
any_first test [] a r is holds = absurd (none_some r is)
any_first test (b ∷ bs) a r is holds =
    ⊎_elim
    (λ past.
    let same : b.at ≡ r = some_same b.at r (sym (cond-true (ltb a b.at) (Some b.at) (first_after bs a) past) ∙ is) in
    ap (list_any (λ (c : Boundary). test c.at)) (cond-true (leb (a + 1) b.at) (b ∷ from_place (a + 1) bs) (from_place (a + 1) bs)
    (le-leb (a + 1) b.at (omega (arith, ltb-true a b.at past))))
    ∙ or_left (test b.at) (list_any (λ c. test c.at) (from_place (a + 1) bs)) (ap test same ∙ holds))
    (λ up.
    ap (list_any (λ (c : Boundary). test c.at)) (cond-false (leb (a + 1) b.at) (b ∷ from_place (a + 1) bs) (from_place (a + 1) bs)
    (lt-leb (a + 1) b.at (omega (arith, ltb-false a b.at up))))
    ∙ any_first test bs a r (sym (cond-false (ltb a b.at) (Some b.at) (first_after bs a) up) ∙ is) holds)
    (cases_Bool (ltb a b.at))

module _ (f : Boundary → ℕ) where
  sum_kept : (test : Boundary → Bool) (b : Boundary) (bs : List Boundary) → test b ≡ true → sum_by f (filter test (b ∷ bs)) ≡ f b + sum_by f (filter test bs)
  sum_kept test b bs holds = ap (sum_by f) (cond-true (test b) (b ∷ filter test bs) (filter test bs) holds) ∙ sum_by-cons f b (filter test bs)

  sum_left : (test : Boundary → Bool) (b : Boundary) (bs : List Boundary) → test b ≡ false → sum_by f (filter test (b ∷ bs)) ≡ sum_by f (filter test bs)
  sum_left test b bs fails = ap (sum_by f) (cond-false (test b) (b ∷ filter test bs) (filter test bs) fails)

  -- a sum up to a place, parted at another one
  parted : (a i : ℕ) → a ≤ i → (bs : List Boundary) → sum_by f (filter (λ b. leb b.at i) bs)
      ≡ sum_by f (filter (λ b. leb b.at a) bs) + sum_by f (filter (λ b. leb b.at i) (from_place (a + 1) bs))
  parted a i order [] = refl
  parted a i order (b ∷ bs) =
      let more = parted a i order bs in
      ⊎_elim
      (λ past.
      let kept = ap (λ cs. sum_by f (filter (λ (c : Boundary). leb c.at i) cs)) (cond-true (leb (a + 1) b.at) (b ∷ from_place (a + 1) bs)
      (from_place (a + 1) bs)
      (le-leb (a + 1) b.at (omega (arith, past)))) in
      let none = sum_left (λ c. leb c.at a) b bs (lt-leb b.at a past) in
      ⊎_elim
      (λ far. omega (
        arith,
        more,
        kept,
        none,
        sum_left (λ c. leb c.at i) b bs (lt-leb b.at i far),
        sum_left (λ c. leb c.at i) b (from_place (a + 1) bs)
            (lt-leb b.at i far),
      ))
      (λ near. omega (
        arith,
        more,
        kept,
        none,
        sum_kept (λ c. leb c.at i) b bs (le-leb b.at i near),
        sum_kept (λ c. leb c.at i) b (from_place (a + 1) bs)
            (le-leb b.at i near),
      ))
      (cases_lt i b.at))
      (λ up.
      let left = ap (λ cs. sum_by f (filter (λ (c : Boundary). leb c.at i) cs)) (cond-false (leb (a + 1) b.at) (b ∷ from_place (a + 1) bs)
      (from_place (a + 1) bs)
      (lt-leb (a + 1) b.at (omega (arith, up)))) in
      omega (arith, more, left, sum_kept (λ c. leb c.at a) b bs (le-leb b.at a up), sum_kept (λ c. leb c.at i) b bs (le-leb b.at i (omega (arith, up, order)))))
      (cases_lt a b.at)

-- from the first boundary past a place on
from_first : (a r i : ℕ) → 0 < i → a < r → (bs : List Boundary) → AllByRecursion (λ b. (b.at ≤ a) ⊎ (r ≤ b.at)) bs →
    filter (λ b. leb b.at (i - 1)) (from_place (a + 1) bs) ≡ filter (λ b. leb r b.at && ltb b.at i) bs
from_first a r i some past [] each = refl
from_first a r i some past (b ∷ bs) each =
    let more = from_first a r i some past bs each.1 in
    ⊎_elim
    (λ up.
    ap (filter (λ (c : Boundary). leb c.at (i - 1))) (cond-false (leb (a + 1) b.at) (b ∷ from_place (a + 1) bs) (from_place (a + 1) bs)
    (lt-leb (a + 1) b.at (omega (arith, up))))
    ∙ more
    ∙ sym (ap (λ t. cond (t && ltb b.at i) (b ∷ filter (λ (c : Boundary). leb r c.at && ltb c.at i) bs)
    (filter (λ (c : Boundary). leb r c.at && ltb c.at i) bs))
    (lt-leb r b.at (omega (arith, up, past)))))
    (λ from.
    ap (filter (λ (c : Boundary). leb c.at (i - 1))) (cond-true (leb (a + 1) b.at) (b ∷ from_place (a + 1) bs) (from_place (a + 1) bs)
    (le-leb (a + 1) b.at (omega (arith, from, past))))
    ∙ ap (λ cs. cond (leb b.at (i - 1)) (b ∷ cs) cs) more
    ∙ ap (λ t. cond t (b ∷ filter (λ (c : Boundary). leb r c.at && ltb c.at i) bs) (filter (λ (c : Boundary). leb r c.at && ltb c.at i) bs)) (same b)
    ∙ sym (ap (λ t. cond (t && ltb b.at i) (b ∷ filter (λ (c : Boundary). leb r c.at && ltb c.at i) bs)
    (filter (λ (c : Boundary). leb r c.at && ltb c.at i) bs))
    (le-leb r b.at from)))
    each.0
  where
    same : (b : Boundary) → leb b.at (i - 1) ≡ ltb b.at i
    same b =
        ⊎_elim
        (λ less. le-leb b.at (i - 1) (omega (arith, less)) ∙ sym (lt-ltb b.at i less))
        (λ far. lt-leb b.at (i - 1) (omega (arith, far, some)) ∙ sym (le-ltb b.at i far))
        (cases_lt b.at i)

-- A try from an anchor q has found r, the first boundary past a, which is one below the low place of q.
pub record FindsFirst (old : Session) (q a r : ℕ) (new : Session) (before after : ℕ) : Type 0 where
  pub anchor : IsAnchor old.table old.state.text q
  pub low_is : low q ≡ a + 1
  pub first : first_after (table_boundaries old.table old.state.text) a ≡ Some r
  pub moved : MovesTo old r new
  pub more : before ≤ after
  pub cost : after ≤ before + forward_cost old.table old.state.text a

pub finds_first : (old now new : Session) (q a r before after : ℕ) → now.table ≡ old.table → now.state.text ≡ old.state.text →
    IsAnchor old.table old.state.text q → low q ≡ a + 1 → first_after (boundaries_of now) a ≡ Some r → MovesTo now r new →
    IsAsked now (Past a) (forward_cost now.table now.state.text a) new before after → FindsFirst old q a r new before after
finds_first old now new q a r before after table_is text_is anchor low_is first moved asked = record {
  anchor = anchor;
  low_is = low_is;
  first = ap (λ t. first_after (table_boundaries t old.state.text) a) (sym table_is) ∙ ap (λ y. first_after (table_boundaries now.table y) a) (sym text_is)
      ∙ first;
  moved = record {
    table_is = moved.table_is ∙ table_is;
    state_is = moved.state_is ∙ ap (λ y. record { text = y; cursor = r }) text_is;
  };
  more = asked.more;
  cost = omega (arith, asked.cost, ap (λ t. forward_cost t now.state.text a) table_is, ap (λ y. forward_cost old.table y a) text_is);
}

module _ (table : Table) (valid : IsValidTable table) (x : List ℕ) (i q a r : ℕ) (some : 0 < i) (anchor : IsAnchor table x q) (low_is : low q ≡ a + 1)
    (first : first_after (table_boundaries table x) a ≡ Some r) where
  same_from : from_place (a + 1) (fresh table x q) ≡ from_place (a + 1) (table_boundaries table x)
  same_from = subst (λ n. from_place n (fresh table x q) ≡ from_place n (table_boundaries table x)) low_is (fresh_true table valid x q anchor).1

  each_apart : AllByRecursion (λ b. (b.at ≤ a) ⊎ (r ≤ b.at)) (table_boundaries table x)
  each_apart = apart (table_boundaries table x) a r (table_covers table x).rise first

  cases_low : ((q ≡ 0) × (a ≡ 0)) ⊎ ((q ≢ 0) × (a ≡ q + 1))
  cases_low =
      ⊎_elim
      (λ zero. inl (zero, omega (arith, low_is, cond-true (eqb q 0) 1 (q + 2) (eq-eqb q 0 zero))))
      (λ other. inr (other, omega (arith, low_is, cond-false (eqb q 0) 1 (q + 2) (ne_eqb q 0 other))))
      (cases_eq q 0)

  -- the greatest anchor below the low place is this one
  walks_to : anchor_below table x a ≡ q
  walks_to =
      ⊎_elim
      (λ zero. ap (anchor_below table x) zero.1 ∙ sym zero.0)
      (λ other. ap (λ p. unwrap_or p 0)
      (greatest_is (is_anchor table x) a q (omega (arith, other.1)) ((anchors_stored table valid x q).1 anchor)
      (λ p past below. absurd (omega (arith, other.1)))))
      cases_low

  -- what it costs to go there
  walk_cost : forward_cost table x a ≡ a - q + 1 + searches_cost table x q a
  walk_cost = ap (λ p. a - p + 1 + searches_cost table x p a) walks_to

  -- it lies past i, and nothing is found from the anchor before i
  none_found : i ≤ r → HasNoneBefore table x q i
  none_found far =
      all_by_test (λ b. low q ≤ b.at → i ≤ b.at) (λ b. leb (a + 1) b.at) (fresh table x q)
      (subst (λ bs. AllByRecursion (λ b. low q ≤ b.at → i ≤ b.at) bs) (sym same_from)
      (all_filter (λ (b : Boundary). low q ≤ b.at → i ≤ b.at) (λ b. leb (a + 1) b.at) (table_boundaries table x)
      (all_through (λ b. (b.at ≤ a) ⊎ (r ≤ b.at)) (λ b. low q ≤ b.at → i ≤ b.at)
      (λ b lies from. ⊎_elim (λ up. absurd (omega (arith, up, from, low_is))) (λ past. omega (arith, past, far)) lies) (table_boundaries table x) each_apart)))
      (below_fails (fresh table x q))
    where
      below_fails : (bs : List Boundary) → AllByRecursion (λ b. leb (a + 1) b.at ≡ false → low q ≤ b.at → i ≤ b.at) bs
      below_fails [] = tt
      below_fails (b ∷ bs) = (
        λ fails from. absurd (true_false (sym (le-leb (a + 1) b.at (omega (arith, from, low_is))) ∙ fails)),
        below_fails bs,
      )
        where
          true_false : true ≡ false → ⊥
          true_false is = cc

  searches_rise : a < i → searches_cost table x q a ≤ searches_cost table x q (i - 1)
  searches_rise short = omega (arith, parted (λ b. characters_read table x b.at) a (i - 1) (omega (arith, short)) (fresh table x q))

  module _ (short : r < i) (past : a < r) where
    try_settles : settles table x i q ≡ true
    try_settles =
        let test : ℕ → Bool = λ n. leb (q + 2) n && ltb n i in
        ⊎_elim
        (λ zero. or_left (eqb q 0) (list_any (λ (b : Boundary). leb (q + 2) b.at && ltb b.at i) (fresh table x q)) (eq-eqb q 0 zero.0))
        (λ other.
        or_right (eqb q 0) (list_any (λ (b : Boundary). leb (q + 2) b.at && ltb b.at i) (fresh table x q))
        (any_kept (λ b. leb (q + 2) b.at && ltb b.at i) (λ b. leb (a + 1) b.at) (fresh table x q)
        (ap (list_any (λ (b : Boundary). leb (q + 2) b.at && ltb b.at i)) same_from
        ∙ any_first (λ n. leb (q + 2) n && ltb n i) (table_boundaries table x) a r first
        (and_from (leb (q + 2) r) (ltb r i) (le-leb (q + 2) r (omega (arith, other.1, past))) (lt-ltb r i short)))))
        cases_low

    -- the searches of the try, those from r on apart
    try_parted : searches_cost table x q (i - 1) ≡ searches_cost table x q a + stretch_cost table x r i
    try_parted =
        let f : Boundary → ℕ = λ b. characters_read table x b.at in
        parted f a (i - 1) (omega (arith, short, past)) (fresh table x q)
        ∙ ap (λ bs. searches_cost table x q a + sum_by f (filter (λ (b : Boundary). leb b.at (i - 1)) bs)) same_from
        ∙ ap (λ bs. searches_cost table x q a + sum_by f bs) (from_first a r i some past (table_boundaries table x) each_apart)

module _ (old new : Session) (valid : IsValidTable old.table) (i q a r start before after : ℕ) (some : 0 < i) (begun : start ≤ before)
    (tried : Tried old.table old.state.text i q (before - start)) (finds : FindsFirst old q a r new before after) where
  cases : ((q ≡ 0) × (a ≡ 0)) ⊎ ((q ≢ 0) × (a ≡ q + 1))
  cases = cases_low old.table valid old.state.text i q a r some finds.anchor finds.low_is finds.first

  walked : forward_cost old.table old.state.text a ≡ a - q + 1 + searches_cost old.table old.state.text q a
  walked = walk_cost old.table valid old.state.text i q a r some finds.anchor finds.low_is finds.first

  -- it lies before i, and the stretch begins there
  pub begins_there : r < i → BeginsStretch old i r new start after
  begins_there short =
      let past : a < r = first_past (table_boundaries old.table old.state.text) a r finds.first in
      let left = left_of_cost past in
      record {
        short = short;
        moved = finds.moved;
        start = λ zero. absurd (omega (arith, past, zero));
        more = omega (arith, begun, finds.more);
        cost = omega (arith, left);
        left = λ _. left;
      }
    where
      left_of_cost : a < r →
          after + stretch_cost old.table old.state.text r i + (i - 1 - r) ≤ start + back_cost old.table old.state.text i
      left_of_cost past =
          let settled = try_settles old.table valid old.state.text i q a r some finds.anchor finds.low_is finds.first short past in
          let paid = tried.cost in
          let cost = finds.cost in
          let whole = last_cost_is old.table valid old.state.text i q (before - start) tried settled in
          let parts = try_parted old.table valid old.state.text i q a r some finds.anchor finds.low_is finds.first short past in
          let walk = walked in
          ⊎_elim
          (λ zero. omega (arith, begun, cost, paid, whole, parts, walk, zero.0, zero.1, past, short))
          (λ other. ⊎_elim
          (λ zero. absurd (other.0 zero))
          (λ far. omega (arith, begun, cost, paid, whole, parts, walk, other.1, past, short, far))
          tried.far)
          cases

  -- it doesn't, and no other boundary than 0 lies before i
  pub begins_at_start : i ≤ r → q ≡ 0 → (place : ℕ) (last : Session) → Answers new First (Place place) last → BeginsStretch old i place last start after
  begins_at_start far zero place last answers =
      let same : place ≡ 0 = cc (answers.replied) in
      let paid = tried.cost in
      let cost = finds.cost in
      let whole = last_cost_is old.table valid old.state.text i q (before - start) tried (zero_settles old.table old.state.text i q zero) in
      let walk = walked in
      let at_low : a ≡ 0 = ⊎_elim (λ low. low.1) (λ other. absurd (other.0 zero)) cases in
      let rise = searches_rise old.table valid old.state.text i q a r some finds.anchor finds.low_is finds.first (omega (arith, at_low, some)) in
      record {
        short = omega (arith, same, some);
        moved = record {
          table_is = answers.moved.table_is ∙ finds.moved.table_is;
          state_is = answers.moved.state_is ∙ ap (λ s. record { text = s.text; cursor = 0 }) finds.moved.state_is
              ∙ ap (λ n. record { text = old.state.text; cursor = n }) (sym same);
        };
        start = λ _. (start_is_last old.table valid old.state.text i some
            (subst (λ p. HasNoneBefore old.table old.state.text p i) zero
            (none_found old.table valid old.state.text i q a r some finds.anchor finds.low_is finds.first far))).last;
        more = omega (arith, begun, finds.more);
        cost = omega (arith, begun, some, cost, paid, whole, walk, at_low, rise, zero);
        left = λ past. absurd (omega (arith, past, same));
      }

  -- it doesn't, and the next try is made
  pub settles_nothing : i ≤ r → q ≢ 0 → settles old.table old.state.text i q ≡ false
  settles_nothing far other =
      none_settles old.table old.state.text i q other
      (none_found old.table valid old.state.text i q a r some finds.anchor finds.low_is finds.first far)

  pub tried_cost : q ≢ 0 → after - start ≤ (before - start) + searches_cost old.table old.state.text q (i - 1) + 2
  tried_cost other =
      let cost = finds.cost in
      let walk = walked in
      let low_at : a ≡ q + 1 = ⊎_elim (λ low. absurd (other low.0)) (λ low. low.1) cases in
      ⊎_elim
      (λ zero. absurd (other zero))
      (λ far.
      let rise = searches_rise old.table valid old.state.text i q a r some finds.anchor finds.low_is finds.first (omega (arith, low_at, far)) in
      omega (arith, begun, cost, walk, low_at, rise))
      tried.far
