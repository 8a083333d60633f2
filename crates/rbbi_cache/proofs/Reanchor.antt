-- The entries of a true run after a safe pair are a true run of that pair.
use Rattle.std.proofs.Common.{◌≡◌, ℕ, ◌+◌, ◌<◌, ◌≤◌, ◌⊎◌, true, false, eqb, leb, ltb, List, [], ◌∷◌, ◌++◌, length, length-append, map, filter, sym, refl, ap}
use Rattle.std.proofs.Common.{◌∙◌, subst, inr, ⊎_elim, append_assoc, arith}
use Rattle.std.specs.Prelude.{IsTrue}
use Rattle.std.specs.List.{AllByRecursion}
use Rattle.std.proofs.lemmas.Bool.{cases_Bool, cases_lt, cases_eq, cond-true, cond-false, le-leb, lt-leb, leb-true, leb-false, ltb-true, ne_eqb, eq-eqb}
use Rattle.std.proofs.lemmas.List.Elements.{filter-append}
use Rattle.rbbi_model.specs.Lists.{IsRising}
use Rattle.rbbi_model.specs.Boundaries.{Boundary}
use Rattle.rbbi_model.specs.Cover.{places}
use Rattle.rbbi_model.specs.Tables.{Table}
use Rattle.rbbi_model.specs.SafePairs.{IsSafePair}
use Rattle.rbbi_model.specs.ValidTables.{IsValidTable}
use Rattle.rbbi_model.specs.Searches.{look_end, next_boundary, follow_by, fresh, table_boundaries}
use Rattle.rbbi_model.specs.Runs.{Entry, Run, category_at, low, boundary_of, farthest_look, look_ends, ReachesRise, from_place, IsAnchor, IsTrueRun}
use Rattle.rbbi_model.proofs.Rising.{rising_tail}
use Rattle.rbbi_model.proofs.Found.{found_lies}
use Rattle.rbbi_model.proofs.Covering.{follow_rise}
use Rattle.rbbi_model.proofs.FreshTrue.{fresh_true}
use Rattle.rbbi_model.proofs.SafeSearch.{look_agrees}
use Rattle.rbbi_model.proofs.Lists.{all_append, all_right, all_through}
use Rattle.rbbi_cache.proofs.Lists.{all_map, all_unmap, all_filter, all_by_test, filter_all, filter_twice}
use Rattle.rbbi_cache.proofs.Reached.{first_member, rest_after, rises_after, rising_right}
use Rattle.rbbi_cache.proofs.Paths.{Path, Here, Then}
use Rattle.rbbi_cache.proofs.RunFacts.{all_by_splits, reaches_right}
use Rattle.rbbi_cache.proofs.RunFacts as facts
use Rattle.rbbi_cache.proofs.Moving.{largest_least}

-- the places from one on
from : ℕ → List ℕ → List ℕ
from k ns = filter (λ n. leb k n) ns

places_from : (k : ℕ) (bs : List Boundary) → places (from_place k bs) ≡ from k (places bs)
unfolding from
places_from k [] = refl
places_from k (b ∷ bs) =
    ⊎_elim
    (λ holds.
    ap places (cond-true (leb k b.at) (b ∷ from_place k bs) (from_place k bs) holds)
    ∙ ap (λ l. b.at ∷ l) (places_from k bs)
    ∙ sym (cond-true (leb k b.at) (b.at ∷ from k (places bs)) (from k (places bs)) holds))
    (λ fails.
    ap places (cond-false (leb k b.at) (b ∷ from_place k bs) (from_place k bs) fails)
    ∙ places_from k bs
    ∙ sym (cond-false (leb k b.at) (b.at ∷ from k (places bs)) (from k (places bs)) fails))
    (cases_Bool (leb k b.at))

from_later : (k l : ℕ) → k ≤ l → (ns : List ℕ) → from l (from k ns) ≡ from l ns
unfolding from
from_later k l order ns = filter_twice (λ n. leb l n) (λ n. leb k n) (λ n holds. let past = leb-true l n holds in le-leb k n (omega arith)) ns

place_later : (k l : ℕ) → k ≤ l → (bs : List Boundary) → from_place l (from_place k bs) ≡ from_place l bs
place_later k l order bs = filter_twice (λ b. leb l b.at) (λ b. leb k b.at) (λ b holds. let past = leb-true l b.at holds in le-leb k b.at (omega arith)) bs

tail_rises : (b : Boundary) (bs : List Boundary) → IsRising (places (b ∷ bs)) → IsRising (places bs)
tail_rises b bs rising = rising_tail b.at (places bs) rising

no_lead : IsTrue false → ⊥
no_lead is = cc

-- a rising list is what lies before a place, and what lies from it on
parted : (k : ℕ) (bs : List Boundary) → IsRising (places bs) → (before : List Boundary) × (bs ≡ before ++ from_place k bs)
parted k [] rising = ([], refl)
parted k (b ∷ bs) rising =
    ⊎_elim
    (λ past.
    let rest = parted k bs (tail_rises b bs rising) in
    (b ∷ rest.0, ap (λ l. b ∷ l) (rest.1 ∙ ap (λ l. rest.0 ++ l) (sym (cond-false (leb k b.at) (b ∷ from_place k bs) (from_place k bs) (lt-leb k b.at past))))))
    (λ from.
    let each : AllByRecursion (λ (c : Boundary). leb k c.at ≡ true) (b ∷ bs) =
    (le-leb k b.at from, all_through (λ c. b.at < c.at) (λ c. leb k c.at ≡ true) (λ c less. le-leb k c.at (omega arith)) bs (rises_after b bs rising)) in
    ([], sym (filter_all (λ c. leb k c.at) (b ∷ bs) each)))
    (cases_lt b.at k)

pub low_is : (p : ℕ) → low p ≤ p + 2
low_is p =
    ⊎_elim
    (λ zero. omega (arith, cond-true (eqb p 0) 1 (p + 2) (eq-eqb p 0 zero)))
    (λ other. omega (arith, cond-false (eqb p 0) 1 (p + 2) (ne_eqb p 0 other)))
    (cases_eq p 0)

-- a path that passes a place has a search that passes it
pub record Passes (table : Table) (x : List ℕ) (q k : ℕ) : Type 0 where
  pub m : ℕ
  pub short : m < length x
  pub starts : m ≤ q
  pub spans : q < (next_boundary table x m).at
  pub look : look_end table x m ≤ k

passing : (table : Table) (x : List ℕ) (q k : ℕ) (b : Boundary) (done : List Boundary) (c : Boundary) → Path table x b done c →
    AllByRecursion (λ m. look_end table x m.at ≤ k) done → b.at ≤ q → q < c.at → Passes table x q k
passing table x q k _ _ _ (Here b) looks starts ends = absurd (omega arith)
passing table x q k _ _ _ (Then b done c short path) looks starts ends =
    ⊎_elim
    (λ spans. record { m = b.at; short = short; starts = starts; spans = spans; look = looks.0 })
    (λ later. passing table x q k (next_boundary table x b.at) done c path looks.1 later ends)
    (cases_lt q (next_boundary table x b.at).at)

pub fresh_rises : (table : Table) (x : List ℕ) (p : ℕ) → IsRising (places (fresh table x p))
fresh_rises table x p = follow_rise (next_boundary table x) (length x) (λ s short. found_lies table x s short) (length x) (first_member p)

-- two characters past an anchor the searches from it find what those from an earlier one find
pub same_beyond : (table : Table) → IsValidTable table → (x : List ℕ) (p : ℕ) → IsAnchor table x p → (q : ℕ) → IsAnchor table x q → low p ≤ q + 2 →
    from_place (q + 2) (fresh table x q) ≡ from_place (q + 2) (fresh table x p)
same_beyond table valid x p anchor q other order =
    let here = (fresh_true table valid x q other).1 in
    let there = (fresh_true table valid x p anchor).1 in
    sym (place_later (low q) (q + 2) (low_is q) (fresh table x q))
    ∙ ap (from_place (q + 2)) here
    ∙ place_later (low q) (q + 2) (low_is q) (table_boundaries table x)
    ∙ sym (place_later (low p) (q + 2) order (table_boundaries table x))
    ∙ ap (from_place (q + 2)) (sym there)
    ∙ place_later (low p) (q + 2) order (fresh table x p)

module _ (table : Table) (valid : IsValidTable table) (x : List ℕ) (run : Run) (is_true : IsTrueRun table x run) (q : ℕ) (room : q + 2 ≤ length x)
    (safe : IsSafePair table (category_at table x q) (category_at table x (q + 1))) (order : run.anchor ≤ q) where
  -- past the pair the searches from it find the places that those from the anchor find
  same_places : places (from_place (q + 1) (fresh table x q)) ≡ places (from_place (q + 1) (fresh table x run.anchor))
  same_places =
      let here = (fresh_true table valid x q (inr (room, safe))).0 in
      let there = (fresh_true table valid x run.anchor is_true.anchor).0 in
      let back : places (from_place (q + 1) (fresh table x run.anchor)) ≡ places (from_place (q + 1) (table_boundaries table x)) =
      places_from (q + 1) (fresh table x run.anchor)
      ∙ sym (from_later (run.anchor + 1) (q + 1) (omega arith) (places (fresh table x run.anchor)))
      ∙ ap (from (q + 1)) (sym (places_from (run.anchor + 1) (fresh table x run.anchor)) ∙ there ∙ places_from (run.anchor + 1) (table_boundaries table x))
      ∙ from_later (run.anchor + 1) (q + 1) (omega arith) (places (table_boundaries table x))
      ∙ sym (places_from (q + 1) (table_boundaries table x)) in
      here ∙ sym back

  -- and two characters on the boundaries
  pub same_boundaries : from_place (q + 2) (fresh table x q) ≡ from_place (q + 2) (fresh table x run.anchor)
  same_boundaries = let least = low_is run.anchor in same_beyond table valid x run.anchor is_true.anchor q (inr (room, safe)) (omega arith)

  module _ (front : List Entry) (entry : Entry) (rest : List Entry) (whole : run.entries ≡ front ++ entry ∷ rest) (past : q + 2 ≤ entry.at) where
    -- the search from the pair looks no farther than the entry reaches
    look_here : look_end table x q ≤ entry.reach
    look_here =
        let passes = passing table x q entry.reach (first_member run.anchor) (is_true.consecutive.before ++ map (boundary_of table) front)
        (boundary_of table entry)
        (facts.path_is table valid x run is_true front entry rest whole) (facts.looks table valid x run is_true front entry rest whole) order (omega arith) in
        ⊎_elim
        (λ is. omega (arith, ap (look_end table x) is, passes.look))
        (λ other. ⊎_elim
        (λ near. omega (arith, near, facts.at_by_reach table valid x run is_true front entry rest whole))
        (λ same. omega (arith, same, passes.look))
        (look_agrees table valid x passes.m q room safe (omega (arith, passes.starts)) passes.spans))
        (cases_eq passes.m q)

    -- nor do the searches up to the entry
    looks_here : AllByRecursion (λ m. m.at < entry.at → look_end table x m.at ≤ entry.reach) (fresh table x q)
    looks_here =
        let Ok : ℕ → Type 0 = λ n. n < entry.at → look_end table x n ≤ entry.reach in
        let b : Entry → Boundary = boundary_of table in
        let done : List Boundary = is_true.consecutive.before ++ map b front in
        let reached = facts.reached_is table valid x run is_true front entry rest whole in
        let follow : List Boundary = follow_by (next_boundary table x) (length x) reached.most (b entry) in
        let there : AllByRecursion (λ m. Ok m.at) (fresh table x run.anchor) =
        subst (λ bs. AllByRecursion (λ m. Ok m.at) bs) (sym reached.whole)
        (all_append (λ m. Ok m.at) done (b entry ∷ follow)
        (all_through (λ m. look_end table x m.at ≤ entry.reach) (λ m. Ok m.at) (λ m look _. look) done
        (facts.looks table valid x run is_true front entry rest whole)) (
          λ less. absurd (omega arith),
          all_through (λ m. entry.at < m.at) (λ m. Ok m.at) (λ m later less. absurd (omega arith)) follow
              (rest_after table x run.anchor done (b entry) reached),
        )) in
        let kept : AllByRecursion (λ m. Ok m.at) (from_place (q + 1) (fresh table x q)) =
        all_unmap (λ m. m.at) Ok (from_place (q + 1) (fresh table x q))
        (subst (λ ns. AllByRecursion Ok ns) (sym same_places)
        (all_map (λ m. m.at) Ok (from_place (q + 1) (fresh table x run.anchor))
        (all_filter (λ m. Ok m.at) (λ m. leb (q + 1) m.at) (fresh table x run.anchor) there))) in
        all_by_test (λ m. Ok m.at) (λ m. leb (q + 1) m.at) (fresh table x q) kept
        (all_through (λ m. q ≤ m.at) (λ m. leb (q + 1) m.at ≡ false → Ok m.at)
        (λ m from fails less.
        let is : m.at ≡ q = omega (arith, leb-false (q + 1) m.at fails) in
        omega (arith, ap (look_end table x) is, look_here))
        (fresh table x q) (
          omega arith,
          all_through (λ m. q < m.at) (λ m. q ≤ m.at) (λ m less. omega arith) (follow_by (next_boundary table x) (length x) (length x) (first_member q))
              (rises_after (first_member q) (follow_by (next_boundary table x) (length x) (length x) (first_member q)) (fresh_rises table x q)),
        ))

    pub farthest_here : farthest_look table x q entry.at ≤ entry.reach
    farthest_here =
        largest_least entry.reach (look_ends table x q entry.at)
        (all_map (λ m. look_end table x m.at) (λ n. n ≤ entry.reach) (filter (λ m. ltb m.at entry.at) (fresh table x q))
        (kept_less (fresh table x q) looks_here))
      where
        kept_less : (bs : List Boundary) → AllByRecursion (λ m. m.at < entry.at → look_end table x m.at ≤ entry.reach) bs →
            AllByRecursion (λ m. look_end table x m.at ≤ entry.reach) (filter (λ m. ltb m.at entry.at) bs)
        kept_less [] each = tt
        kept_less (b ∷ bs) each =
            let more = kept_less bs each.1 in
            ⊎_elim
            (λ holds. subst (λ l. AllByRecursion (λ m. look_end table x m.at ≤ entry.reach) l)
            (sym (cond-true (ltb b.at entry.at) (b ∷ filter (λ m. ltb m.at entry.at) bs) (filter (λ m. ltb m.at entry.at) bs) holds))
            (each.0 (ltb-true b.at entry.at holds), more))
            (λ fails. subst (λ l. AllByRecursion (λ m. look_end table x m.at ≤ entry.reach) l)
            (sym (cond-false (ltb b.at entry.at) (b ∷ filter (λ m. ltb m.at entry.at) bs) (filter (λ m. ltb m.at entry.at) bs) fails)) more)
            (cases_Bool (ltb b.at entry.at))

  -- the entries from two characters after the pair on are a true run of it
  pub true_behind : (front : List Entry) (first : Entry) (more : List Entry) → run.entries ≡ front ++ first ∷ more →
      AllByRecursion (λ e. q + 2 ≤ e.at) (first ∷ more) → IsTrueRun table x (record { anchor = q; entries = first ∷ more; leads = false })
  true_behind front first more whole past =
      let b : Entry → Boundary = boundary_of table in
      let before : List Boundary = is_true.consecutive.before in
      let after : List Boundary = is_true.consecutive.after in
      let own : (P : Entry → Type 0) → AllByRecursion P run.entries → AllByRecursion P (first ∷ more) =
      λ P all. all_right P front (first ∷ more) (subst (λ l. AllByRecursion P l) whole all) in
      let few = is_true.few in
      let part = parted (q + 2) (fresh table x q) (fresh_rises table x q) in
      let done : List Boundary = before ++ map b front in
      let tail : List Boundary = map b (first ∷ more) ++ after in
      let reached = facts.reached_is table valid x run is_true front first more whole in
      let fresh_is : fresh table x run.anchor ≡ done ++ tail = facts.fresh_is table valid x run is_true front first more whole in
      let rises : AllByRecursion (λ (m : Boundary). q + 2 ≤ m.at) tail = (
        past.0,
        all_through (λ m. first.at < m.at) (λ m. q + 2 ≤ m.at) (λ m less. omega (arith, past.0)) (map b more ++ after)
            (rises_after (b first) (map b more ++ after)
            (rising_right done tail (subst (λ bs. IsRising (places bs)) fresh_is (fresh_rises table x run.anchor)))),
      ) in
      let kept : from_place (q + 2) (done ++ tail) ≡ from_place (q + 2) done ++ tail =
      filter-append (λ (m : Boundary). leb (q + 2) m.at) done tail
      ∙ ap (λ bs. from_place (q + 2) done ++ bs)
      (filter_all (λ (m : Boundary). leb (q + 2) m.at) tail
      (all_through (λ m. q + 2 ≤ m.at) (λ m. leb (q + 2) m.at ≡ true) (λ m from. le-leb (q + 2) m.at from) tail rises)) in
      record {
        anchor = inr (room, safe);
        some = omega arith;
        few = omega (arith, ap length whole, length-append front (first ∷ more));
        consecutive = record {
          before = part.0 ++ from_place (q + 2) done;
          after = after;
          whole =
              part.1
              ∙ ap (λ bs. part.0 ++ bs) (same_boundaries ∙ ap (from_place (q + 2)) fresh_is ∙ kept)
              ∙ sym (append_assoc part.0 (from_place (q + 2) done) tail)
              ∙ sym (append_assoc (part.0 ++ from_place (q + 2) done) (map b (first ∷ more)) after);
        };
        places = all_through (λ e. q + 2 ≤ e.at) (λ e. (q ≡ 0) ⊎ (q + 2 ≤ e.at)) (λ e far. inr far) (first ∷ more) past;
        reach_enough = all_by_splits (λ e. farthest_look table x q e.at ≤ e.reach) (first ∷ more)
            (λ front' e rest is.
            farthest_here (front ++ front') e rest (whole ∙ ap (λ l. front ++ l) is ∙ sym (append_assoc front front' (e ∷ rest)))
            (all_right (λ f. q + 2 ≤ f.at) front' (e ∷ rest) (subst (λ l. AllByRecursion (λ f. q + 2 ≤ f.at) l) is past)).0);
        reach_within = own (λ e. e.reach ≤ length x + 1) is_true.reach_within;
        reaches_rise = reaches_right front (first ∷ more) (subst ReachesRise whole is_true.reaches_rise);
        leads = λ is. absurd (no_lead is);
      }
