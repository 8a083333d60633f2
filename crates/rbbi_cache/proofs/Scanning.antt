-- Each search of a scan adds what it should.
use Rattle.std.proofs.Common.{◌≡◌, ℕ, ◌+◌, ◌-◌, ◌<◌, ◌≤◌, max, ◌⊎◌, ◌↔◌, false, eqb, List, [], ◌∷◌, ◌++◌, length, length-append, length-drop, drop, map, sym}
use Rattle.std.proofs.Common.{refl, ap, ◌∙◌, subst, inl, inr, ⊎_elim, append_assoc, arith}
use Rattle.std.specs.Prelude.{IsTrue}
use Rattle.std.specs.List.{AllByRecursion}
use Rattle.std.proofs.lemmas.Bool.{cond-true, cond-false, cases_eq, eq-eqb, ne_eqb}
use Rattle.std.proofs.lemmas.List.{map-append, append-nil, drop-drop, drop-append-le}
use Rattle.rbbi_model.specs.Boundaries.{Boundary}
use Rattle.rbbi_model.specs.Tables.{Table, statuses_of}
use Rattle.rbbi_model.specs.Searches.{found, look_end, next_boundary}
use Rattle.rbbi_model.specs.Runs.{Entry, Run, low, boundary_of, farthest_look, ReachesRise}
use Rattle.rbbi_model.proofs.Found.{found_lies, look_lies}
use Rattle.rbbi_model.proofs.Lists.{all_append, all_right}
use Rattle.rbbi_cache.specs.Kept.{HaveLeastReaches, last_reach}
use Rattle.rbbi_cache.specs.inner.Pushed.{pushed}
use Rattle.rbbi_cache.specs.inner.Scans.{Reached, Scan, IsScan, IsNextEntry}
use Rattle.rbbi_cache.proofs.Reached.{reached_step, farthest_step}

pub nonempty : {X : Type 0} (xs : List X) (x : X) (ys : List X) → xs ++ x ∷ ys ≡ [] → ⊥
nonempty [] x ys is = cc
nonempty (z ∷ xs) x ys is = cc

-- the reach of the last entry after one that reaches so far
reach_after : ℕ → List Entry → ℕ
reach_after reach [] = reach
reach_after reach (e ∷ entries) = reach_after e.reach entries

reach_after_is : (known found : List Entry) → reach_after (last_reach known) found ≡ last_reach (known ++ found)
unfolding reach_after
reach_after_is [] [] = refl
reach_after_is [] (e ∷ found) = reach_after_is (e ∷ []) found
reach_after_is (e ∷ []) [] = refl
reach_after_is (e ∷ []) (f ∷ found) = reach_after_is (f ∷ []) found
reach_after_is (e ∷ f ∷ known) found = reach_after_is (f ∷ known) found

pub last_is : (front : List Entry) (e : Entry) → last_reach (front ++ e ∷ []) ≡ e.reach
last_is [] e = refl
last_is (f ∷ []) e = refl
last_is (f ∷ g ∷ front) e = last_is (g ∷ front) e

least_push : (table : Table) (x : List ℕ) (p reach : ℕ) (entries : List Entry) (next : Entry) → HaveLeastReaches table x p reach entries →
    next.reach ≡ max (reach_after reach entries) (farthest_look table x p next.at) → HaveLeastReaches table x p reach (entries ++ next ∷ [])
unfolding reach_after
least_push table x p reach [] next least is = (is, tt)
least_push table x p reach (e ∷ entries) next least is = (least.0, least_push table x p e.reach entries next least.1 is)

rise_push : (front : List Entry) (here next : Entry) → ReachesRise (front ++ here ∷ []) → here.reach ≤ next.reach →
    ReachesRise ((front ++ here ∷ []) ++ next ∷ [])
rise_push [] here next rise more = (more, tt)
rise_push (e ∷ []) here next rise more = (rise.0, (more, tt))
rise_push (e ∷ f ∷ front) here next rise more = (rise.0, rise_push (f ∷ front) here next rise.1 more)

module _ (table : Table) (x : List ℕ) (p i : ℕ) (scan : Scan) (run : Run) (is : IsScan table x p i scan run) (from : scan.here.at ≤ i)
    (short : scan.here.at < length x) (next : Entry) (next_is : IsNextEntry table x scan.here next) where
  boundary_is : boundary_of table next ≡ next_boundary table x scan.here.at
  boundary_is = λ j. record { at = next_is.at j; statuses = statuses_of table (next_is.status j) }

  reached : Reached table x p (scan.done ++ boundary_of table scan.here ∷ []) (boundary_of table next)
  reached = subst (λ b. Reached table x p (scan.done ++ boundary_of table scan.here ∷ []) b) (sym boundary_is)
      (reached_step table x p scan.done (boundary_of table scan.here) is.reached short)

  farthest_next : farthest_look table x p next.at ≡ max (farthest_look table x p scan.here.at) (look_end table x scan.here.at)
  farthest_next = ap (farthest_look table x p) next_is.at ∙ farthest_step table x p scan.done (boundary_of table scan.here) is.reached short

  up_to : AllByRecursion (λ b. b.at ≤ i) (scan.done ++ boundary_of table scan.here ∷ [])
  up_to = all_append (λ b. b.at ≤ i) scan.done (boundary_of table scan.here ∷ []) is.up_to (from, tt)

  next_enough : farthest_look table x p next.at ≤ next.reach
  next_enough = omega (arith, farthest_next, next_is.reach, is.here_enough)

  next_within : next.reach ≤ length x + 1
  next_within = omega (arith, next_is.reach, is.reach_within, (look_lies table x scan.here.at short).1)

  -- the reach of the last entry, and the least that is allowed after it
  least_next : next.reach ≡ max (reach_after (last_reach scan.known) scan.found) (farthest_look table x p next.at)
  least_next =
      let enough = is.here_enough in
      ⊎_elim
      (λ nothing.
      let none = is.none nothing in
      omega (arith, farthest_next, next_is.reach, none.1, reach_after_is scan.known scan.found, ap last_reach nothing))
      (λ last. omega (arith, farthest_next, next_is.reach, reach_after_is scan.known scan.found, ap last_reach last.1, last_is last.0 scan.here))
      is.last

  grown : scan.known ++ (scan.found ++ next ∷ []) ≡ (scan.known ++ scan.found) ++ next ∷ []
  grown = sym (append_assoc scan.known scan.found (next ∷ []))

  rise_next : ReachesRise ((scan.known ++ scan.found) ++ next ∷ [])
  rise_next =
      ⊎_elim
      (λ nothing. subst (λ l. ReachesRise (l ++ next ∷ [])) (sym nothing) tt)
      (λ last. subst (λ l. ReachesRise (l ++ next ∷ [])) (sym last.1)
      (rise_push last.0 scan.here next (subst ReachesRise last.1 is.rise) (omega (arith, next_is.reach))))
      is.last

  -- an entry is found
  module _ (high : low p ≤ next.at) where
    abbrev found_scan : Scan
    found_scan = record {
      done = scan.done ++ boundary_of table scan.here ∷ [];
      skipped = scan.skipped;
      known = scan.known;
      found =
          scan.found ++ next ∷ [];
      here = next;
    }

    full_run : Run
    full_run = record { anchor = run.anchor; entries = drop 128 run.entries ++ next ∷ []; leads = false }

    more_run : Run
    more_run = record { anchor = run.anchor; entries = run.entries ++ next ∷ []; leads = run.leads }

    next_place : (p ≡ 0) ⊎ (p + 2 ≤ next.at)
    next_place = ⊎_elim (λ zero. inl zero) (λ other. inr (omega (arith, cond-false (eqb p 0) 1 (p + 2) (ne_eqb p 0 other)))) (cases_eq p 0)

    whole_next : (scan.done ++ boundary_of table scan.here ∷ []) ++ boundary_of table next ∷ [] ≡ scan.skipped ++ map (boundary_of table)
        (scan.known ++ (scan.found ++ next ∷ []))
    whole_next =
        let b : Entry → Boundary = boundary_of table in
        ap (λ bs. bs ++ b next ∷ []) is.whole
        ∙ append_assoc scan.skipped (map b (scan.known ++ scan.found)) (b next ∷ [])
        ∙ ap (λ bs. scan.skipped ++ bs) (sym (map-append b (scan.known ++ scan.found) (next ∷ [])) ∙ ap (map b) (sym grown))

    each : (P : Entry → Type 0) → AllByRecursion P (scan.known ++ scan.found) → P next → AllByRecursion P (scan.known ++ (scan.found ++ next ∷ []))
    each P all holds = subst (λ l. AllByRecursion P l) (sym grown) (all_append P (scan.known ++ scan.found) (next ∷ []) all (holds, tt))

    -- the run keeps the entries from a place on
    kept_so : (run' : Run) (cut : ℕ) → run'.anchor ≡ p → cut ≤ length ((scan.known ++ scan.found) ++ next ∷ []) →
        run'.entries ≡ drop cut ((scan.known ++ scan.found) ++ next ∷ []) → ((cut ≡ 0) ⊎ (2 ≤ length run'.entries)) → length run'.entries ≤ 256 →
        (IsTrue run'.leads ↔ (cut ≡ 0)) → IsScan table x p i found_scan run'
    kept_so run' cut anchor cut_within entries enough_left few leads =
        record {
          reached = reached;
          up_to = up_to;
          within = omega (arith, next_is.at, (found_lies table x scan.here.at short).1);
          whole = whole_next;
          last = inr (scan.known ++ scan.found, grown);
          places = each (λ e. (p ≡ 0) ⊎ (p + 2 ≤ e.at)) is.places next_place;
          none = λ nothing. absurd (nonempty (scan.known ++ scan.found) next [] (sym grown ∙ nothing));
          skipped_low = is.skipped_low;
          enough = each (λ e. farthest_look table x p e.at ≤ e.reach) is.enough next_enough;
          here_enough = next_enough;
          reach_within = next_within;
          reaches_within = each (λ e. e.reach ≤ length x + 1) is.reaches_within next_within;
          rise = subst ReachesRise (sym grown) rise_next;
          least = least_push table x p (last_reach scan.known) scan.found next is.least least_next;
          anchor = anchor;
          cut = cut;
          cut_within = omega (arith, cut_within, ap length grown);
          entries = entries ∙ ap (drop cut) (sym grown);
          enough_left = enough_left;
          few = few;
          leads = leads;
        }

    pub found_next : IsScan table x p i found_scan (pushed run next)
    unfolding full_run more_run
    found_next =
        let cut_within = is.cut_within in
        let few = is.few in
        let kept_length : length run.entries ≡ length (scan.known ++ scan.found) - is.cut =
        ap length is.entries ∙ length-drop is.cut (scan.known ++ scan.found) in
        ⊎_elim
        (λ full.
        let pushed_is : pushed run next ≡ full_run = cond-true (eqb (length run.entries) 256) full_run more_run (eq-eqb (length run.entries) 256 full) in
        let cut' : ℕ = is.cut + 128 in
        let entries : drop 128 run.entries ++ next ∷ [] ≡ drop (is.cut + 128) ((scan.known ++ scan.found) ++ next ∷ []) =
        ap (λ l. drop 128 l ++ next ∷ []) is.entries
        ∙ ap (λ l. l ++ next ∷ []) (drop-drop 128 is.cut (scan.known ++ scan.found))
        ∙ sym (drop-append-le (is.cut + 128) (scan.known ++ scan.found) (next ∷ []) (omega arith)) in
        let long : length (drop 128 run.entries ++ next ∷ []) ≡ 129 =
        omega (arith, length-append (drop 128 run.entries) (next ∷ []), length-drop 128 run.entries, full) in
        subst (λ r. IsScan table x p i found_scan r) (sym pushed_is)
        (kept_so full_run (is.cut + 128) is.anchor (omega (arith, length-append (scan.known ++ scan.found) (next ∷ []))) entries (inr (omega (arith, long)))
        (omega (arith, long))
        (λ so. absurd (never so), λ zero. absurd (omega arith))))
        (λ room.
        let pushed_is : pushed run next ≡ more_run = cond-false (eqb (length run.entries) 256) full_run more_run (ne_eqb (length run.entries) 256 room) in
        let entries : run.entries ++ next ∷ [] ≡ drop is.cut ((scan.known ++ scan.found) ++ next ∷ []) =
        ap (λ l. l ++ next ∷ []) is.entries ∙ sym (drop-append-le is.cut (scan.known ++ scan.found) (next ∷ []) is.cut_within) in
        let long : length (run.entries ++ next ∷ []) ≡ length run.entries + 1 = length-append run.entries (next ∷ []) in
        subst (λ r. IsScan table x p i found_scan r) (sym pushed_is)
        (kept_so more_run is.cut is.anchor (omega (arith, length-append (scan.known ++ scan.found) (next ∷ []))) entries
        (⊎_elim inl (λ more. inr (omega (arith, long, more))) is.enough_left) (omega (arith, long)) is.leads))
        (cases_eq (length run.entries) 256)
      where
        never : IsTrue false → ⊥
        never so = cc

  -- a member before the low place is no entry
  module _ (near : next.at < low p) where
    abbrev skipped_scan : Scan
    skipped_scan = record {
      done = scan.done ++ boundary_of table scan.here ∷ [];
      skipped = scan.skipped ++ boundary_of table next ∷ [];
      known =
          scan.known;
      found = scan.found;
      here = next;
    }

    still_none : scan.known ++ scan.found ≡ []
    still_none =
        ⊎_elim
        (λ nothing. nothing)
        (λ last.
        let place : (p ≡ 0) ⊎ (p + 2 ≤ scan.here.at) =
        (all_right (λ e. (p ≡ 0) ⊎ (p + 2 ≤ e.at)) last.0 (scan.here ∷ [])
        (subst (λ l. AllByRecursion (λ e. (p ≡ 0) ⊎ (p + 2 ≤ e.at)) l) last.1 is.places)).0 in
        ⊎_elim
        (λ zero. absurd (omega (arith, cond-true (eqb p 0) 1 (p + 2) (eq-eqb p 0 zero), next_is.at, (found_lies table x scan.here.at short).0)))
        (λ past. absurd (⊎_elim
        (λ zero. omega (arith, cond-true (eqb p 0) 1 (p + 2) (eq-eqb p 0 zero), next_is.at, (found_lies table x scan.here.at short).0))
        (λ other. omega (arith, cond-false (eqb p 0) 1 (p + 2) (ne_eqb p 0 other), next_is.at, (found_lies table x scan.here.at short).0))
        (cases_eq p 0)))
        place)
        is.last

    pub skipped_next : IsScan table x p i skipped_scan run
    skipped_next =
        let b : Entry → Boundary = boundary_of table in
        let none = is.none still_none in
        record {
          reached = reached;
          up_to = up_to;
          within = omega (arith, next_is.at, (found_lies table x scan.here.at short).1);
          whole =
              ap (λ bs. bs ++ b next ∷ []) (is.whole ∙ ap (λ l. scan.skipped ++ map b l) still_none ∙ append-nil scan.skipped)
              ∙ sym (append-nil (scan.skipped ++ b next ∷ []))
              ∙ ap (λ l. (scan.skipped ++ b next ∷ []) ++ map b l) (sym still_none);
          last = inl still_none;
          places = is.places;
          none = λ _. (near, omega (arith, farthest_next, next_is.reach, none.1));
          skipped_low = λ unknown. all_append (λ c. c.at < low p) scan.skipped (b next ∷ []) (is.skipped_low unknown) (near, tt);
          enough = is.enough;
          here_enough = next_enough;
          reach_within = next_within;
          reaches_within = is.reaches_within;
          rise = is.rise;
          least = is.least;
          anchor = is.anchor;
          cut = is.cut;
          cut_within = is.cut_within;
          entries = is.entries;
          enough_left = is.enough_left;
          few = is.few;
          leads = is.leads;
        }
