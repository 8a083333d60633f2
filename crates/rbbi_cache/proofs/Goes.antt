-- A scan goes on search by search.
use Rattle.std.proofs.Common.{◌≡◌, ℕ, ◌+◌, ◌-◌, ◌<◌, ◌≤◌, max, min, ltb, eqb, false, drop, List, [], ◌∷◌, ◌++◌, length, sym, refl, ap, ◌∙◌, subst}
use Rattle.std.proofs.Common.{append_assoc, arith}
use Rattle.std.proofs.lemmas.Bool.{cond-true, cond_both, lt-ltb}
use Rattle.std.proofs.lemmas.List.Sums.{sum_by_push}
use Rattle.rbbi_model.specs.Boundaries.{Boundary}
use Rattle.rbbi_model.specs.Tables.{Table}
use Rattle.rbbi_model.specs.Searches.{found, look_end}
use Rattle.rbbi_model.specs.Runs.{Entry, Run, low, boundary_of}
use Rattle.rbbi_model.specs.Costs.{characters_read}
use Rattle.rbbi_model.proofs.Found.{found_lies}
use Rattle.rbbi_cache.specs.inner.Pushed.{pushed}
use Rattle.rbbi_cache.specs.inner.Scans.{Scan, IsScan, IsNextEntry, HasGoneOn, ContinuesScan}
use Rattle.rbbi_cache.proofs.Scanning.{found_next, skipped_next}

-- One search more was made from an entry, whose place and reach are given, and it found the next one.
module _ (table : Table) (x : List ℕ) (p i : ℕ) (from : Entry) (first : Run) (here : Entry) (run : Run) (before now : ℕ)
    (gone : ContinuesScan table x p i from first here run before now) (short : i < length x)
    (at reach : ℕ) (at_is : at ≡ here.at) (reach_is : reach ≡ here.reach) (up_to : at ≤ i)
    (next : Entry) (look : ℕ) (next_at : next.at ≡ (found table x at).at) (next_status : next.status ≡ (found table x at).list)
    (look_is : look ≡ look_end table x at) (next_reach : next.reach ≡ max reach look)
    (now' : ℕ) (read : now' ≡ now + (min (look_end table x at) (length x) - at)) where
  next_is : IsNextEntry table x here next
  next_is = record {
    at = next_at ∙ ap (λ s. (found table x s).at) at_is;
    status = next_status ∙ ap (λ s. (found table x s).list) at_is;
    reach = next_reach ∙ ap (λ r. max r look) reach_is ∙ ap (λ l. max here.reach l) (look_is ∙ ap (look_end table x) at_is);
  }

  read_is : now' ≡ now + characters_read table x here.at
  read_is =
      read
      ∙ ap (λ s. now + (min (look_end table x s) (length x) - s)) at_is
      ∙ ap (λ n. now + n)
      (sym (cond-true (ltb here.at (length x)) (min (look_end table x here.at) (length x) - here.at) 0 (lt-ltb here.at (length x) (omega arith))))

  module _ (start : Scan) (is_start : IsScan table x p i start first) (here_start : start.here ≡ from) where
    next_here : IsNextEntry table x (gone start is_start here_start).scan.here next
    next_here = subst (λ e. IsNextEntry table x e next) (sym (gone start is_start here_start).here_is) next_is

    up_to_here : (gone start is_start here_start).scan.here.at ≤ i
    up_to_here = omega (arith, ap (λ e. e.at) (gone start is_start here_start).here_is)

    short_here : (gone start is_start here_start).scan.here.at < length x
    short_here = omega (arith, ap (λ e. e.at) (gone start is_start here_start).here_is)

    one_more : (skipped : List Boundary) (found' : List Entry) (run' : Run) → IsScan table x p i (record {
      done = (gone start is_start here_start).scan.done ++ boundary_of table (gone start is_start here_start).scan.here ∷ [];
      skipped = skipped;
      known = (gone start is_start here_start).scan.known;
      found = found';
      here = next;
    }) run' → HasGoneOn table x p i start next run' before now'
    one_more skipped found' run' is =
        let so = gone start is_start here_start in
        record {
          scan = record {
            done = so.scan.done ++ boundary_of table so.scan.here ∷ [];
            skipped = skipped;
            known = so.scan.known;
            found = found';
            here = next;
          };
          is = is;
          here_is = refl;
          known = so.known;
          searched = so.searched ++ boundary_of table here ∷ [];
          done =
              ap (λ bs. bs ++ boundary_of table so.scan.here ∷ []) so.done
              ∙ append_assoc start.done so.searched (boundary_of table so.scan.here ∷ [])
              ∙ ap (λ e. start.done ++ (so.searched ++ boundary_of table e ∷ [])) so.here_is;
          read = omega (arith, read_is, so.read, sum_by_push (λ (b : Boundary). characters_read table x b.at) so.searched (boundary_of table here));
        }

  pub goes_found : low p ≤ next.at → ContinuesScan table x p i from first next (pushed run next) before now'
  goes_found high start is here_start =
      let so = gone start is here_start in
      one_more start is here_start so.scan.skipped (so.scan.found ++ next ∷ []) (pushed run next)
      (found_next table x p i so.scan run so.is (up_to_here start is here_start) (short_here start is here_start) next (next_here start is here_start) high)

  pub goes_skipped : next.at < low p → ContinuesScan table x p i from first next run before now'
  goes_skipped near start is here_start =
      let so = gone start is here_start in
      one_more start is here_start (so.scan.skipped ++ boundary_of table next ∷ []) so.scan.found run
      (skipped_next table x p i so.scan run so.is (up_to_here start is here_start) (short_here start is here_start) next (next_here start is here_start) near)

pub pushed_anchor : (run : Run) (entry : Entry) → (pushed run entry).anchor ≡ run.anchor
pushed_anchor run entry =
    cond_both {A = Run} (eqb (length run.entries) 256) (record { anchor = run.anchor; entries = drop 128 run.entries ++ entry ∷ []; leads = false })
    (record { anchor = run.anchor; entries = run.entries ++ entry ∷ []; leads = run.leads })
    (λ r. r.anchor ≡ run.anchor) (λ _. refl) (λ _. refl)

-- up to a place there is less to search from the next entry on
pub falls : (table : Table) (x : List ℕ) (i at here next : ℕ) → at ≡ here → at ≤ i → i < length x → next ≡ (found table x at).at →
    i + 1 - next < i + 1 - here
falls table x i at here next same up_to short is = omega (arith, (found_lies table x at (omega arith)).0)

pub past_here : (table : Table) (x : List ℕ) (here next : Entry) → IsNextEntry table x here next → here.at < length x → here.at < next.at
past_here table x here next is short = omega (arith, is.at, (found_lies table x here.at short).0)
