-- Searches from an anchor farther back than another, and what they read past that.
use Rattle.std.proofs.Common.{◌≡◌, ℕ, zero, suc, ◌+◌, ◌-◌, ◌<◌, ◌≤◌, ◌⊎◌, max, min, true, leb, ltb, List, [], ◌∷◌, ◌++◌, length, filter, sym, refl, ap, ◌∙◌, subst, inl, inr, ⊎_elim, arith}
use Rattle.std.specs.Prelude.{sum_by}
use Rattle.std.proofs.lemmas.Bool.{cases_lt, cond-true, cond-false, le-leb, lt-leb, lt-ltb}
use Rattle.std.proofs.lemmas.List.{append-nil}
use Rattle.std.proofs.lemmas.List.Elements.{filter-append}
use Rattle.std.proofs.lemmas.List.Sums.{sum_by-append, sum_by-cons}
use Rattle.rbbi_model.specs.Lists.{Member}
use Rattle.rbbi_model.specs.Boundaries.{Boundary}
use Rattle.rbbi_model.specs.Cover.{IsPlaceOf}
use Rattle.rbbi_model.specs.Tables.{Table}
use Rattle.rbbi_model.specs.ValidTables.{IsValidTable}
use Rattle.rbbi_model.specs.Searches.{found, look_end, next_boundary, follow_by, fresh, table_boundaries}
use Rattle.rbbi_model.specs.Runs.{Entry, Run, IsAnchor, low, boundary_of, from_place}
use Rattle.rbbi_model.specs.Costs.{characters_read, searches_cost}
use Rattle.rbbi_model.proofs.Found.{found_lies}
use Rattle.rbbi_model.proofs.FoundCases.{found_up_to}
use Rattle.rbbi_model.proofs.FreshTrue.{fresh_true, same_follow}
use Rattle.rbbi_cache.specs.inner.Scans.{Reached, IsScan, ContinuesScan}
use Rattle.rbbi_cache.specs.inner.Back.{IsFilledPast}
use Rattle.rbbi_cache.proofs.Reached.{first_member, reached_start, reached_step}
use Rattle.rbbi_cache.proofs.Paths.{Path, Here, Then, path_to, reached_of}
use Rattle.rbbi_cache.proofs.Texts.{end_by_look}
use Rattle.rbbi_cache.proofs.Members.{SomeMember, standing, member_kept, member_of_kept, by_place, place_of}
use Rattle.rbbi_cache.proofs.Nearer.{member}
use Rattle.rbbi_cache.specs.inner.Pushed.{pushed}
use Rattle.rbbi_table.specs.Reading.{IsFoundFrom}
use Rattle.rbbi_cache.proofs.Begins.{at_anchor, starts}
use Rattle.rbbi_cache.proofs.Goes.{goes_found, goes_skipped, pushed_anchor}

module _ (table : Table) (x : List ℕ) (i : ℕ) where
  -- what the searches from these members up to i read
  abbrev read_by : List Boundary → ℕ
  read_by bs = sum_by (λ b. characters_read table x b.at) (filter (λ b. leb b.at i) bs)

  joined : (bs cs : List Boundary) → read_by (bs ++ cs) ≡ read_by bs + read_by cs
  joined bs cs =
      ap (sum_by (λ b. characters_read table x b.at)) (filter-append (λ b. leb b.at i) bs cs)
      ∙ sum_by-append (λ (b : Boundary). characters_read table x b.at) (filter (λ b. leb b.at i) bs) (filter (λ b. leb b.at i) cs)

  -- the first of them counts if it isn't past i
  counts : (b : Boundary) (bs : List Boundary) → b.at ≤ i → read_by (b ∷ bs) ≡ characters_read table x b.at + read_by bs
  counts b bs low =
      ap (sum_by (λ b. characters_read table x b.at)) (cond-true (leb b.at i) (b ∷ filter (λ b. leb b.at i) bs) (filter (λ b. leb b.at i) bs) (le-leb b.at i low))
      ∙ sum_by-cons (λ (b : Boundary). characters_read table x b.at) b (filter (λ b. leb b.at i) bs)

  passes : (b : Boundary) (bs : List Boundary) → i < b.at → read_by (b ∷ bs) ≡ read_by bs
  passes b bs past =
      ap (sum_by (λ b. characters_read table x b.at)) (cond-false (leb b.at i) (b ∷ filter (λ b. leb b.at i) bs) (filter (λ b. leb b.at i) bs) (lt-leb b.at i past))

  -- only its place tells what the search from a member reads
  same_first : (b c : Boundary) (bs : List Boundary) → b.at ≡ c.at → read_by (b ∷ bs) ≡ read_by (c ∷ bs)
  same_first b c bs same =
      ⊎_elim
      (λ low. counts b bs (omega arith) ∙ ap (λ n. characters_read table x n + read_by bs) same ∙ sym (counts c bs (omega arith)))
      (λ past. passes b bs (omega arith) ∙ sym (passes c bs (omega arith)))
      (cases_lt b.at (i + 1))

  -- what the searches from an anchor read is what those up to a member read, and those from there
  cost_from : (q : ℕ) (done : List Boundary) (m : Boundary) → Reached table x q done m → searches_cost table x q i ≡ read_by done + searches_cost table x m.at i
  cost_from q done m reached =
      ap read_by reached.whole
      ∙ joined done (m ∷ follow_by (next_boundary table x) (length x) reached.most m)
      ∙ ap (λ bs. read_by done + read_by (m ∷ bs)) (same_follow (next_boundary table x) (length x) (λ s short. found_lies table x s short) reached.most (length x)
      m (first_member m.at) refl reached.enough (omega arith))
      ∙ ap (λ n. read_by done + n) (same_first m (first_member m.at) (follow_by (next_boundary table x) (length x) (length x) (first_member m.at)) refl)

  -- one search and those from what it finds
  cost_step : (y : ℕ) → y < length x → y ≤ i → searches_cost table x y i ≡ characters_read table x y + searches_cost table x (found table x y).at i
  cost_step y short low =
      omega (
        arith,
        cost_from y (first_member y ∷ []) (next_boundary table x y) (reached_step table x y [] (first_member y) (reached_start table x y) short),
        counts (first_member y) [] low,
      )

  -- a search reads the characters up to what it finds
  reads_up : (valid : IsValidTable table) (y : ℕ) → y < length x → (found table x y).at ≤ y + characters_read table x y
  reads_up valid y short =
      let lies = found_lies table x y short in
      omega (
        arith,
        lies.1,
        found_up_to table valid x y short,
        end_by_look table x y short,
        cond-true (ltb y (length x)) (min (look_end table x y) (length x) - y) 0 (lt-ltb y (length x) short),
      )

  -- and those of a path all that lie between its ends and aren't past i
  path_reads : (valid : IsValidTable table) (b : Boundary) (done : List Boundary) (c : Boundary) → Path table x b done c → min c.at (i + 1) ≤ b.at + read_by done
  path_reads valid _ _ _ (Here b) = omega arith
  path_reads valid _ _ _ (Then b done c short path) =
      ⊎_elim
      (λ low. omega (arith, path_reads valid (next_boundary table x b.at) done c path, counts b done (omega arith), reads_up valid b.at short))
      (λ past. omega arith)
      (cases_lt b.at (i + 1))

  -- searches up to past i read no less than lies between
  pub least_cost : (valid : IsValidTable table) (most y : ℕ) → i < y + most → y ≤ i → i < length x → i + 1 ≤ y + searches_cost table x y i
  least_cost valid zero y enough low short = absurd (omega arith)
  least_cost valid (suc most) y enough low short =
      let lies = found_lies table x y (omega arith) in
      ⊎_elim
      (λ more. omega (
        arith,
        cost_step y (omega arith) low,
        reads_up valid y (omega arith),
        least_cost valid most (found table x y).at (omega (arith, lies.0)) (omega arith)
            short,
      ))
      (λ past. omega (arith, cost_step y (omega arith) low, reads_up valid y (omega arith)))
      (cases_lt (found table x y).at (i + 1))

  module _ (valid : IsValidTable table) (q : ℕ) (anchor : IsAnchor table x q) where
    -- what is found from an anchor is a boundary
    found_true : (done : List Boundary) (m : Boundary) → Reached table x q done m → q < m.at → IsPlaceOf (table_boundaries table x) m.at
    found_true done m reached past =
        let rest : List Boundary = follow_by (next_boundary table x) (length x) reached.most m in
        let here = subst (SomeMember (λ b. b.at ≡ m.at)) (sym reached.whole) (standing (λ b. b.at ≡ m.at) done m rest refl) in
        place_of m.at (table_boundaries table x)
        (member_of_kept (λ b. b.at ≡ m.at) (q + 1) (table_boundaries table x)
        (by_place m.at (from_place (q + 1) (table_boundaries table x))
        (subst (λ ks. Member ks m.at) (fresh_true table valid x q anchor).0
        (place_of m.at (from_place (q + 1) (fresh table x q)) (member_kept (λ b. b.at ≡ m.at) (q + 1) (λ b is. omega arith) (fresh table x q) here)))))

    -- the searches from a boundary that isn't before the anchor read no more than those from the anchor, but for the characters between them
    boundary_cost : (k : ℕ) → q ≤ k → IsPlaceOf (table_boundaries table x) k → searches_cost table x k i + (min k (i + 1) - q) ≤ searches_cost table x q i
    boundary_cost k from here =
        let stands = member table valid x q anchor k from here in
        omega (
          arith,
          cost_from q stands.before stands.member (reached_of table x q stands.before stands.member stands.after stands.whole),
          ap (λ n. searches_cost table x n i) stands.such,
          stands.such,
          path_reads valid (first_member q) stands.before stands.member (path_to table x q stands.before stands.member stands.after stands.whole),
        )

-- The entry of an anchor, and the run that begins there.
abbrev first_entry : ℕ → Entry
first_entry p = record { at = p; status = 0; reach = 0 }

abbrev first_run : ℕ → Run
first_run p = record { anchor = p; entries = []; leads = true }

-- A run is filled from an anchor, where all from the near anchor up to the end of what was read back is known. Before the near one nothing was read, and past
-- that no more than by searches from there, but for what is known.
pub record Fills (table : Table) (x : List ℕ) (i near p end : ℕ) (here : Entry) (run : Run) (before now : ℕ) : Type 0 where
  pub read : ℕ
  pub gone_on : ContinuesScan table x p (i - 1) (first_entry p) (first_run p) here run 0 read
  pub anchor : run.anchor ≡ p
  pub from : p ≤ here.at
  pub paid : ((here.at < near) × (now ≡ before)) ⊎ ((near ≤ here.at) × (now + searches_cost table x here.at (i - 1) + (min here.at end - near) ≤ before +
      searches_cost table x near (i - 1)))
  pub more : before ≤ now

module _ (table : Table) (valid : IsValidTable table) (x : List ℕ) (i near p end : ℕ) (some : 0 < i) (within : i ≤ length x) (near_is : IsAnchor table x near)
    (p_is : IsAnchor table x p) (order : p ≤ near) (far : near < i) (end_is : end ≡ i - 1) where
  pub fills_first : (here : Entry) (run : Run) (before : ℕ) → here ≡ first_entry p → run ≡ first_run p → Fills table x i near p end here run before before
  fills_first here run before is begun = record {
    read = 0;
    gone_on = λ start scan starts_here. record {
      scan = start;
      is = subst (λ r. IsScan table x p (i - 1) start r) (sym begun) scan;
      here_is = starts_here ∙ sym is;
      known = refl;
      searched = [];
      done = sym (append-nil start.done);
      read = refl;
    };
    anchor = ap (λ r. r.anchor) begun;
    from = omega (arith, ap (λ e. e.at) is);
    paid =
        ⊎_elim
        (λ before. inl (omega (arith, ap (λ e. e.at) is), refl))
        (λ there.
        let same : here.at ≡ near = omega (arith, ap (λ e. e.at) is) in
        inr (omega arith, omega (arith, ap (λ n. searches_cost table x n (i - 1)) same)))
        (cases_lt p near);
    more = omega arith;
  }

  module _ (here : Entry) (run : Run) (before now : ℕ) (fills : Fills table x i near p end here run before now) (at reach : ℕ) (at_is : at ≡ here.at) (reach_is :
      reach ≡ here.reach) (up_to : at < i) (status' look : ℕ) (next : Entry) (is : IsFoundFrom table x at next.at status' look) (status_is : next.status ≡
      status') (reach_max : next.reach ≡ max reach look) (now' : ℕ) (nothing : at < near → now' ≡ now) (rises : now ≤ now') (cost : now' ≤ now +
      (min (look_end table x at) (length x) - max at end)) where
    next_true : p < next.at → IsPlaceOf (table_boundaries table x) next.at
    next_true past =
        let so = fills.gone_on (at_anchor table valid x (i - 1) p (first_run p) refl (omega arith) (omega arith)) (starts table valid x (i - 1) p
        (first_run p) refl (omega arith) (omega arith)) refl in
        let step = reached_step table x p so.scan.done (boundary_of table so.scan.here) so.is.reached (omega (arith, ap (λ e. e.at) so.here_is, at_is)) in
        let there : (found table x so.scan.here.at).at ≡ next.at = ap (λ e. (found table x e.at).at) so.here_is ∙ ap (λ n. (found table x n).at) (sym at_is) ∙ sym
        is.at_is in
        subst (IsPlaceOf (table_boundaries table x)) there
        (found_true table x i valid p p_is (so.scan.done ++ boundary_of table so.scan.here ∷ []) (next_boundary table x so.scan.here.at) step (omega (
          arith,
          there,
        )))

    paid_next : ((next.at < near) × (now' ≡ before)) ⊎ ((near ≤ next.at) × (now' + searches_cost table x next.at (i - 1) + (min next.at end - near) ≤ before +
        searches_cost table x near (i - 1)))
    paid_next =
        let short : at < length x = omega arith in
        let lies = found_lies table x at short in
        ⊎_elim
        (λ yet.
        let same = nothing (omega (arith, yet.0, at_is)) in
        ⊎_elim
        (λ still. inl (still, same ∙ yet.1))
        (λ past. inr (
          past,
          omega (
            arith,
            same,
            yet.1,
            end_is,
            boundary_cost table x (i - 1) valid near near_is next.at past (next_true (omega (
              arith,
              yet.0,
              at_is,
              lies.0,
              is.at_is,
              fills.from,
            ))),
          ),
        ))
        (cases_lt next.at near))
        (λ paid. inr (
          omega (arith, paid.0, at_is, is.at_is, lies.0),
          omega (
            arith,
            paid.1,
            cost,
            cost_step table x (i - 1) at short (omega arith),
            ap (λ n. searches_cost table x n (i - 1)) is.at_is,
            ap (λ n.
                searches_cost table x n (i - 1)) at_is,
            reads_up table x (i - 1) valid at short,
            is.at_is,
            at_is,
            cond-true (ltb at (length x)) (min (look_end table x at) (length x) - at) 0 (lt-ltb at (length x) short),
          ),
        ))
        fills.paid

    from_next : p ≤ next.at
    from_next = let lies = found_lies table x at (omega arith) in let from = fills.from in omega (arith, lies.0, is.at_is, at_is)

    pub fills_found : low p ≤ next.at → Fills table x i near p end next (pushed run next) before now'
    fills_found high =
        let more = fills.more in
        record {
          read = fills.read + (min (look_end table x at) (length x) - at);
          gone_on =
              goes_found table x p (i - 1) (first_entry p) (first_run p) here run 0 fills.read fills.gone_on (omega arith) at reach at_is reach_is
              (omega arith) next look is.at_is (status_is ∙ is.status_is) is.look_is reach_max
              (fills.read + (min (look_end table x at) (length x) - at)) refl high;
          anchor = pushed_anchor run next ∙ fills.anchor;
          from = from_next;
          paid = paid_next;
          more = omega arith;
        }

    pub fills_skipped : next.at < low p → Fills table x i near p end next run before now'
    fills_skipped below =
        let more = fills.more in
        record {
          read = fills.read + (min (look_end table x at) (length x) - at);
          gone_on =
              goes_skipped table x p (i - 1) (first_entry p) (first_run p) here run 0 fills.read fills.gone_on (omega arith) at reach at_is reach_is
              (omega arith) next look is.at_is (status_is ∙ is.status_is) is.look_is reach_max
              (fills.read + (min (look_end table x at) (length x) - at)) refl below;
          anchor = fills.anchor;
          from = from_next;
          paid = paid_next;
          more = omega arith;
        }

  module _ (here : Entry) (run : Run) (before now : ℕ) (fills : Fills table x i near p end here run before now) where
    -- at the end
    pub fills_past : i ≤ here.at → IsFilledPast table x p (i - 1) run
    fills_past past = record { here = here; now = fills.read; gone_on = fills.gone_on; past = omega arith }

    pub fills_cost : i ≤ here.at → now + (i - 1 - near) ≤ before + searches_cost table x near (i - 1)
    fills_cost past = ⊎_elim (λ yet. absurd (omega (arith, yet.0))) (λ paid. omega (arith, paid.1)) fills.paid

    -- it gives up before anything was read
    pub fills_nothing : here.at < near → (p < near) × (now ≡ before)
    fills_nothing up = ⊎_elim (λ yet. (let from = fills.from in omega (arith, yet.0), yet.1)) (λ paid. absurd (omega (arith, paid.0))) fills.paid
