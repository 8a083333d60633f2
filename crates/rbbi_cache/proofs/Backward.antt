-- Searches for the last boundary before a place, from one anchor.
use Rattle.std.proofs.Common.{◌≡◌, ◌≢◌, ℕ, ◌+◌, ◌-◌, ◌<◌, ◌≤◌, ◌⊎◌, Bool, true, false, ◌&&◌, ◌||◌, eqb, ltb, leb, List, [], ◌∷◌, ◌++◌, length, length-append}
use Rattle.std.proofs.Common.{length-drop, map, get_or, sym, refl, ap, ◌∙◌, subst, inl, inr, ⊎_elim, append_assoc, arith}
use Rattle.std.specs.List.{AllByRecursion, list_any}
use Rattle.std.proofs.lemmas.Bool.{cases_eq, cases_lt, cond-true, cond-false, eq-eqb, ne_eqb, lt-leb, le-ltb, or_left}
use Rattle.std.proofs.Math.Seq.{get_or-append_seam}
use Rattle.rbbi_model.specs.Boundaries.{Boundary}
use Rattle.rbbi_model.specs.Tables.{Table}
use Rattle.rbbi_model.specs.ValidTables.{IsValidTable}
use Rattle.rbbi_model.specs.Searches.{next_boundary, follow_by, fresh}
use Rattle.rbbi_model.specs.Runs.{Entry, Run, IsAnchor, low, boundary_of}
use Rattle.rbbi_model.specs.Costs.{settles}
use Rattle.rbbi_model.proofs.Lists.{all_append, all_right, all_through}
use Rattle.rbbi_cache.specs.inner.Scans.{HasGoneOn, ContinuesScan}
use Rattle.rbbi_cache.specs.inner.Lists.{StandsLastButOne}
use Rattle.rbbi_cache.specs.inner.Ready.{IsReadyAfter, IsReadyBefore, HasNoneBefore}
use Rattle.rbbi_cache.proofs.Reached.{rest_after}
use Rattle.rbbi_cache.proofs.Scanned.{fresh_is, run_ends}
use Rattle.rbbi_cache.proofs.Ready.{IsAnchorBelow}
use Rattle.rbbi_cache.proofs.Begins.{at_anchor, gone_from_anchor, anchor_ready}

-- a list with a last element
parted_last : (front : List Entry) → 1 ≤ length front → (rest : List Entry) × ((e : Entry) × (front ≡ rest ++ e ∷ []))
parted_last [] some = absurd (omega arith)
parted_last (e ∷ []) some = ([], (e, refl))
parted_last (e ∷ f ∷ front) some = let more = parted_last (f ∷ front) (omega arith) in (e ∷ more.0, (more.1.0, ap (λ l. e ∷ l) more.1.1))

-- what stands last but one is one entry
same_place : (before : List Entry) (e last : Entry) (rest : List Entry) (d here : Entry) → before ++ e ∷ (last ∷ []) ≡ rest ++ d ∷ (here ∷ []) → e ≡ d
same_place before e last rest d here is =
    let long : length before ≡ length rest = omega (arith, ap length is, length-append before (e ∷ (last ∷ [])), length-append rest (d ∷ (here ∷ []))) in
    sym (get_or-append_seam before e (last ∷ []) e)
    ∙ ap (λ l. get_or l (length before) e) is
    ∙ ap (λ n. get_or (rest ++ d ∷ (here ∷ [])) n e) long
    ∙ get_or-append_seam rest d (here ∷ []) e

-- what stands at its number
pub stands_there : (entries : List Entry) → 2 ≤ length entries → (e : Entry) → e ≡ get_or entries (length entries - 2) e → StandsLastButOne entries e
stands_there entries many e is =
    let ends = parted_last entries (omega arith) in
    let parts = parted_last ends.0 (omega (arith, ap length ends.1.1, length-append ends.0 (ends.1.0 ∷ []))) in
    let whole : entries ≡ parts.0 ++ parts.1.0 ∷ (ends.1.0 ∷ []) =
    ends.1.1 ∙ ap (λ l. l ++ ends.1.0 ∷ []) parts.1.1 ∙ append_assoc parts.0 (parts.1.0 ∷ []) (ends.1.0 ∷ []) in
    let long : length entries - 2 ≡ length parts.0 = omega (arith, ap length whole, length-append parts.0 (parts.1.0 ∷ (ends.1.0 ∷ []))) in
    let same : e ≡ parts.1.0 =
    is ∙ ap (λ n. get_or entries n e) long ∙ ap (λ l. get_or l (length parts.0) e) whole ∙ get_or-append_seam parts.0 parts.1.0 (ends.1.0 ∷ []) e in
    record { before = parts.0; last = ends.1.0; whole = whole ∙ ap (λ d. parts.0 ++ d ∷ (ends.1.0 ∷ [])) (sym same) }

none_any : (test : Boundary → Bool) (bs : List Boundary) → AllByRecursion (λ b. test b ≡ false) bs → list_any test bs ≡ false
none_any test [] each = refl
none_any test (b ∷ bs) each = ap (λ v. v || list_any test bs) each.0 ∙ none_any test bs each.1

and_second : (b : Bool) → b && false ≡ false
and_second true = refl
and_second false = refl

-- from an anchor that finds nothing before the place, the try there settles nothing, unless it is 0
pub none_settles : (table : Table) (x : List ℕ) (i q : ℕ) → q ≢ 0 → HasNoneBefore table x q i → settles table x i q ≡ false
none_settles table x i q other none =
    ap (λ v. v || list_any (λ (member : Boundary). leb (q + 2) member.at && ltb member.at i) (fresh table x q)) (ne_eqb q 0 other)
    ∙ none_any (λ (member : Boundary). leb (q + 2) member.at && ltb member.at i) (fresh table x q)
    (all_through (λ b. low q ≤ b.at → i ≤ b.at) (λ b. (leb (q + 2) b.at && ltb b.at i) ≡ false) fails (fresh table x q) none)
  where
    fails : (b : Boundary) → (low q ≤ b.at → i ≤ b.at) → (leb (q + 2) b.at && ltb b.at i) ≡ false
    fails b far =
        ⊎_elim
        (λ near. ap (λ v. v && ltb b.at i) (lt-leb (q + 2) b.at near))
        (λ past.
        let low_is = cond-false (eqb q 0) 1 (q + 2) (ne_eqb q 0 other) in
        ap (λ v. leb (q + 2) b.at && v) (le-ltb b.at i (far (omega (arith, low_is)))) ∙ and_second (leb (q + 2) b.at))
        (cases_lt b.at (q + 2))

-- the try at 0 settles
pub zero_settles : (table : Table) (x : List ℕ) (i q : ℕ) → q ≡ 0 → settles table x i q ≡ true
zero_settles table x i q is = or_left (eqb q 0) (list_any (λ (member : Boundary). leb (q + 2) member.at && ltb member.at i) (fresh table x q)) (eq-eqb q 0 is)

module _ (table : Table) (valid : IsValidTable table) (x : List ℕ) (i p : ℕ) (some : 0 < i) (short : i ≤ length x) (near : (p ≡ 0) ⊎ (p + 2 ≤ i)) (anchor :
    IsAnchor table x p)
    (run : Run) (begun : run ≡ record { anchor = p; entries = []; leads = true }) (here : Entry) (after : Run) (before now : ℕ)
    (gone_on : ContinuesScan table x run.anchor (i - 1) (record { at = p; status = 0; reach = 0 }) run here after before now) (past : i - 1 < here.at) where
  up_to : p ≤ i - 1
  up_to = ⊎_elim (λ zero. omega arith) (λ far. omega arith) near

  gone : HasGoneOn table x p (i - 1) (at_anchor table valid x (i - 1) p run begun up_to (omega arith)) here after before now
  gone = gone_from_anchor table valid x (i - 1) p run begun up_to (omega arith) here after before now gone_on past

  known : gone.scan.known ≡ []
  known = gone.known

  past_here : i ≤ gone.scan.here.at
  past_here = omega (arith, ap (λ (e : Entry). e.at) gone.here_is)

  low_near : low p ≤ i
  low_near =
      ⊎_elim
      (λ zero. omega (arith, cond-true (eqb p 0) 1 (p + 2) (eq-eqb p 0 zero)))
      (λ other. ⊎_elim (λ zero. absurd (other zero)) (λ far. omega (arith, cond-false (eqb p 0) 1 (p + 2) (ne_eqb p 0 other))) near)
      (cases_eq p 0)

  anchored : IsAnchorBelow table x (i - 1) p
  anchored = record {
    anchor = anchor;
    below = ⊎_elim (λ zero. inl zero) (λ far. inr (omega arith)) near;
    low_is = let within = low_near in omega arith;
  }

  ready : (kept : List Run) → IsReadyAfter table x (i - 1) kept here after
  ready kept = anchor_ready table valid x (i - 1) p run begun up_to (omega arith) here after before now gone_on past anchored kept

  -- with one entry or none, nothing was found before the place
  pub none_before : length after.entries < 2 → HasNoneBefore table x p i
  none_before few =
      let is = gone.is in
      let b : Entry → Boundary = boundary_of table in
      let rest : List Boundary = follow_by (next_boundary table x) (length x) is.reached.most (boundary_of table gone.scan.here) in
      let P : Boundary → Type 0 = λ m. low p ≤ m.at → i ≤ m.at in
      subst (λ bs. AllByRecursion (λ (m : Boundary). low p ≤ m.at → i ≤ m.at) bs) (sym (fresh_is table valid x p (i - 1) gone.scan after is))
      (all_append (λ (m : Boundary). low p ≤ m.at → i ≤ m.at) (gone.scan.skipped ++ map (boundary_of table) (gone.scan.known ++ gone.scan.found)) (follow_by
      (next_boundary table x) (length x) is.reached.most (boundary_of table gone.scan.here))
      (all_append (λ (m : Boundary). low p ≤ m.at → i ≤ m.at) gone.scan.skipped (map (boundary_of table) (gone.scan.known ++ gone.scan.found))
      (all_through (λ m. m.at < low p) (λ m. low p ≤ m.at → i ≤ m.at) (λ m less from. absurd (omega arith)) gone.scan.skipped (is.skipped_low known))
      (entries_far (gone.scan.known ++ gone.scan.found) is.last at_most))
      (all_through (λ m. gone.scan.here.at < m.at) (λ m. low p ≤ m.at → i ≤ m.at) (λ m less _. let far = past_here in omega arith) (follow_by (next_boundary
      table x) (length x) is.reached.most (boundary_of table gone.scan.here))
      (rest_after table x p gone.scan.done (boundary_of table gone.scan.here) is.reached)))
    where
      at_most : length (gone.scan.known ++ gone.scan.found) < 2
      at_most =
          ⊎_elim
          (λ all. omega (arith, ap length gone.is.entries, length-drop gone.is.cut (gone.scan.known ++ gone.scan.found), all))
          (λ two. absurd (omega arith))
          gone.is.enough_left

      entries_far : (entries : List Entry) → ((entries ≡ []) ⊎ ((front : List Entry) × (entries ≡ front ++ gone.scan.here ∷ []))) → length entries < 2 →
          AllByRecursion (λ (m : Boundary). low p ≤ m.at → i ≤ m.at) (map (boundary_of table) entries)
      entries_far [] last short = tt
      entries_far (e ∷ []) last short =
          ⊎_elim
          (λ none. absurd (omega (arith, ap length none)))
          (λ ends. (λ _. let far = past_here in omega (arith, ap (λ (f : Entry). f.at) (alone ends.0 ends.1)), tt))
          last
        where
          alone : (front : List Entry) → e ∷ [] ≡ front ++ gone.scan.here ∷ [] → e ≡ gone.scan.here
          alone [] is = cc
          alone (f ∷ front) is = absurd (omega (arith, ap length is, length-append front (gone.scan.here ∷ [])))
      entries_far (e ∷ f ∷ entries) last short = absurd (omega arith)

  -- with two entries or more, the last but one is the answer
  module _ (e : Entry) (there : StandsLastButOne after.entries e) where
    ends : (front : List Entry) × (after.entries ≡ front ++ gone.scan.here ∷ []) × AllByRecursion (λ e. e.at ≤ i - 1) front
    ends = run_ends table valid x p (i - 1) gone.scan after gone.is (omega (arith, ap length there.whole, length-append there.before (e ∷ (there.last ∷ []))))

    parts : (rest : List Entry) × ((d : Entry) × (ends.0 ≡ rest ++ d ∷ []))
    parts = parted_last ends.0 (omega (
      arith,
      ap length there.whole,
      length-append there.before (e ∷ (there.last ∷ [])),
      ap length ends.1,
      length-append
          ends.0 (gone.scan.here ∷ []),
    ))

    whole : after.entries ≡ parts.0 ++ parts.1.0 ∷ (gone.scan.here ∷ [])
    whole = ends.1 ∙ ap (λ l. l ++ gone.scan.here ∷ []) parts.1.1 ∙ append_assoc parts.0 (parts.1.0 ∷ []) (gone.scan.here ∷ [])

    before_place : parts.1.0.at ≤ i - 1
    before_place = (all_right (λ e. e.at ≤ i - 1) parts.0 (parts.1.0 ∷ []) (subst (λ l. AllByRecursion (λ e. e.at ≤ i - 1) l) parts.1.1 ends.2)).0

    pub ready_back : (kept : List Run) → IsReadyBefore table x i kept e after
    ready_back kept =
        subst (λ f. IsReadyBefore table x i kept f after) (sym (same_place there.before e there.last parts.0 parts.1.0 gone.scan.here (sym there.whole ∙ whole)))
        (record {
          is_true = (ready kept).is_true;
          shows = (
            record {
              before = parts.0;
              entry = parts.1.0;
              after = gone.scan.here ∷ [];
              whole = whole;
              at = refl;
              short_of = let up = before_place in omega arith;
              nearest = inl past_here;
            },
            refl,
          );
          reaches = (ready kept).reaches;
        })
