-- A kept run that goes on is true.
use Rattle.std.proofs.Common.{◌≡◌, ℕ, ◌+◌, ◌≤◌, ◌⊎◌, List, [], ◌∷◌, ◌++◌, length, length-append, map, sym, refl, ap, ◌∙◌, subst, inr, append_assoc, arith}
use Rattle.std.specs.List.{AllByRecursion}
use Rattle.std.proofs.lemmas.List.{map-append}
use Rattle.rbbi_model.specs.Boundaries.{Boundary}
use Rattle.rbbi_model.specs.Tables.{Table}
use Rattle.rbbi_model.specs.ValidTables.{IsValidTable}
use Rattle.rbbi_model.specs.Searches.{next_boundary, follow_by, fresh}
use Rattle.rbbi_model.specs.Runs.{Entry, Run, boundary_of, farthest_look, ReachesRise, LeadsTruly, IsTrueRun}
use Rattle.rbbi_model.proofs.Lists.{all_append}
use Rattle.rbbi_cache.specs.Kept.{HaveLeastReaches, last_reach, HasLeastReaches, IsExtendedBy}
use Rattle.rbbi_cache.specs.inner.Scans.{Scan, IsScan}
use Rattle.rbbi_cache.proofs.Among.{among_more}
use Rattle.rbbi_cache.proofs.Reached.{done_is}
use Rattle.rbbi_cache.proofs.Paths.{reached_of}
use Rattle.rbbi_cache.proofs.RunFacts as facts
use Rattle.rbbi_cache.proofs.Scanning.{last_is}
use Rattle.rbbi_cache.proofs.Scanned.{fresh_is}

rise_join : (front : List Entry) (from : Entry) (found : List Entry) → ReachesRise (front ++ from ∷ []) → ReachesRise (from ∷ found) →
    ReachesRise (front ++ from ∷ found)
rise_join [] from found rise more = more
rise_join (e ∷ []) from found rise more = (rise.0, more)
rise_join (e ∷ f ∷ front) from found rise more = (rise.0, rise_join (f ∷ front) from found rise.1 more)

module _ (table : Table) (valid : IsValidTable table) (x : List ℕ) (i : ℕ) (former : Run) (is_true : IsTrueRun table x former)
    (front : List Entry) (from : Entry) (whole : former.entries ≡ front ++ from ∷ [])
    (scan : Scan) (run : Run) (is : IsScan table x former.anchor i scan run) (known : scan.known ≡ from ∷ []) where
  scanned_is : fresh table x former.anchor ≡ scan.skipped ++ boundary_of table from ∷
      (map (boundary_of table) scan.found ++ follow_by (next_boundary table x) (length x) is.reached.most (boundary_of table scan.here))
  scanned_is =
      let rest : List Boundary = follow_by (next_boundary table x) (length x) is.reached.most (boundary_of table scan.here) in
      fresh_is table valid x former.anchor i scan run is
      ∙ ap (λ l. (scan.skipped ++ map (boundary_of table) (l ++ scan.found)) ++ rest) known
      ∙ append_assoc scan.skipped (map (boundary_of table) (from ∷ scan.found)) rest

  -- what the scan passed over is what the run had found before
  same_done : scan.skipped ≡ is_true.consecutive.before ++ map (boundary_of table) front
  same_done =
      let rest : List Boundary = follow_by (next_boundary table x) (length x) is.reached.most (boundary_of table scan.here) in
      sym (done_is table x former.anchor scan.skipped (boundary_of table from)
      (reached_of table x former.anchor scan.skipped (boundary_of table from) (map (boundary_of table) scan.found ++ rest) scanned_is))
      ∙ done_is table x former.anchor (is_true.consecutive.before ++ map (boundary_of table) front) (boundary_of table from)
      (facts.reached_is table valid x former is_true front from [] whole)

  abbrev pub extended : Run
  extended = record { anchor = former.anchor; entries = former.entries ++ scan.found; leads = former.leads }

  pub extended_fresh : fresh table x former.anchor ≡ (is_true.consecutive.before ++ map (boundary_of table) (former.entries ++ scan.found)) ++ follow_by
      (next_boundary table x) (length x) is.reached.most (boundary_of table scan.here)
  extended_fresh =
      let b : Entry → Boundary = boundary_of table in
      let before : List Boundary = is_true.consecutive.before in
      let rest : List Boundary = follow_by (next_boundary table x) (length x) is.reached.most (b scan.here) in
      scanned_is
      ∙ ap (λ bs. bs ++ b from ∷ (map b scan.found ++ rest)) same_done
      ∙ sym (append_assoc (before ++ map b front) (map b (from ∷ scan.found)) rest)
      ∙ ap (λ bs. bs ++ rest)
      (append_assoc before (map b front) (map b (from ∷ scan.found))
      ∙ ap (λ bs. before ++ bs) (sym (map-append b front (from ∷ scan.found))
      ∙ ap (map b) (sym (append_assoc front (from ∷ []) scan.found) ∙ ap (λ l. l ++ scan.found) (sym whole))))

  pub extended_true : length (former.entries ++ scan.found) ≤ 256 →
      IsTrueRun table x (record { anchor = former.anchor; entries = former.entries ++ scan.found; leads = former.leads })
  extended_true few =
      let some = is_true.some in
      let found : (P : Entry → Type 0) → AllByRecursion P (scan.known ++ scan.found) → AllByRecursion P scan.found =
      λ P each. (subst (λ l. AllByRecursion P (l ++ scan.found)) known each).1 in
      let both : (P : Entry → Type 0) → AllByRecursion P former.entries → AllByRecursion P (scan.known ++ scan.found) →
      AllByRecursion P (former.entries ++ scan.found) =
      λ P old new. all_append P former.entries scan.found old (found P new) in
      record {
        anchor = is_true.anchor;
        some = omega (arith, length-append former.entries scan.found);
        few = few;
        consecutive = record {
          before = is_true.consecutive.before;
          after =
              follow_by (next_boundary table x) (length x) is.reached.most (boundary_of table scan.here);
          whole = extended_fresh;
        };
        places = both (λ e. (former.anchor ≡ 0) ⊎ (former.anchor + 2 ≤ e.at)) is_true.places is.places;
        reach_enough = both (λ e. farthest_look table x former.anchor e.at ≤ e.reach) is_true.reach_enough is.enough;
        reach_within = both (λ e. e.reach ≤ length x + 1) is_true.reach_within is.reaches_within;
        reaches_rise = subst ReachesRise (sym (ap (λ l. l ++ scan.found) whole ∙ append_assoc front (from ∷ []) scan.found))
            (rise_join front from scan.found (subst ReachesRise whole is_true.reaches_rise) (subst (λ l. ReachesRise (l ++ scan.found)) known is.rise));
        leads = λ so. leads_on former.entries is_true.some (is_true.leads so);
      }
    where
      leads_on : (entries : List Entry) → 1 ≤ length entries → LeadsTruly table x former.anchor entries →
          LeadsTruly table x former.anchor (entries ++ scan.found)
      leads_on [] some leads = absurd (omega arith)
      leads_on (first ∷ more) some leads = leads

  -- the entries that were found after the run's own have the least reaches
  pub extended_least : (earlier later kept : List Run) → kept ≡ earlier ++ former ∷ later →
      HasLeastReaches table x kept (record { anchor = former.anchor; entries = former.entries ++ scan.found; leads = former.leads })
  extended_least earlier later kept among =
      let b : Entry → Boundary = boundary_of table in
      record {
        known = former.entries;
        found = scan.found;
        are_known = inr (record { earlier = earlier; run = former; later = later; kept = among; same = refl; before = []; whole = refl });
        consecutive = record {
          before = is_true.consecutive.before;
          after =
              follow_by (next_boundary table x) (length x) is.reached.most (b scan.here);
          whole = extended_fresh;
        };
        least = subst (λ reach. HaveLeastReaches table x former.anchor reach scan.found) (ap last_reach known
            ∙ sym (ap last_reach whole ∙ last_is front from)) is.least;
        cut = 0;
        are_last = refl;
      }

  pub extends : IsExtendedBy former (record { anchor = former.anchor; entries = former.entries ++ scan.found; leads = former.leads })
  extends = record { anchor = refl; entries = among_more former.entries scan.found; leads = λ so. so }
