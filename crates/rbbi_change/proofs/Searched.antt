-- What the searches from boundary to boundary read.
use Rattle.std.proofs.Common.{◌≡◌, ℕ, ◌+◌, ◌<◌, ◌≤◌, Bool, ◌&&◌, leb, ltb, List, [], ◌∷◌, ◌++◌, length, sym, refl, ap, ◌∙◌, subst, ⊎_elim, arith}
use Rattle.std.specs.Prelude.{filter, sum_by}
use Rattle.std.proofs.lemmas.Bool.{cases_Bool, cond-true, cond-false, and_from, le-leb, lt-ltb}
use Rattle.std.proofs.lemmas.List.Sums.{sum_by-cons, sum_by-append}
use Rattle.rbbi_model.specs.Boundaries.{Boundary, start}
use Rattle.rbbi_model.specs.Tables.{Table}
use Rattle.rbbi_model.specs.Searches.{found, next_boundary, table_boundaries}
use Rattle.rbbi_model.specs.Costs.{characters_read}
use Rattle.rbbi_model.proofs.Found.{found_lies}
use Rattle.rbbi_change.specs.inner.Reaching.{Lead, IsBoundary}
use Rattle.rbbi_change.specs.inner.Reading.{AreSearched}
use Rattle.rbbi_change.proofs.Leads.{leads_joined, lead_lies, lead_to_end, ends, boundaries_are}

module _ (f : ℕ → ℕ) (low high : ℕ) where
  abbrev inside : Boundary → Bool
  inside b = leb low b.at && ltb b.at high

  -- the sum over the boundaries from one place up to another
  abbrev weight : List Boundary → ℕ
  weight bs = sum_by (λ b. f b.at) (filter inside bs)

  taken : (b : Boundary) (bs : List Boundary) → low ≤ b.at → b.at < high → weight (b ∷ bs) ≡ f b.at + weight bs
  taken b bs from to =
      ap (sum_by (λ b. f b.at)) (cond-true (inside b) (b ∷ filter inside bs) (filter inside bs)
      (and_from (leb low b.at) (ltb b.at high) (le-leb low b.at from) (lt-ltb b.at high to)))
      ∙ sum_by-cons (λ b. f b.at) b (filter inside bs)

  more : (b : Boundary) (bs : List Boundary) → weight bs ≤ weight (b ∷ bs)
  more b bs =
      ⊎_elim
      (λ counted. omega (
        arith,
        ap (sum_by (λ b. f b.at)) (cond-true (inside b) (b ∷ filter inside bs) (filter inside bs) counted),
        sum_by-cons (λ b. f b.at) b (filter inside bs),
      ))
      (λ other. omega (arith, ap (sum_by (λ b. f b.at)) (cond-false (inside b) (b ∷ filter inside bs) (filter inside bs) other)))
      (cases_Bool (inside b))

  module _ (table : Table) (x : List ℕ) where
    these_weigh : (to : ℕ) (b : Boundary) (these rest : List ℕ) → Lead table x b.at to these → low ≤ b.at → to ≤ high →
        sum_by f these ≤ weight (b ∷ ends table x (these ++ rest))
    these_weigh to b [] rest lead from up_to = omega arith
    these_weigh to b (p ∷ these) rest lead from up_to =
        let next : Boundary = next_boundary table x p in
        let same : next.at ≡ (found table x b.at).at = ap (λ q. (found table x q).at) lead.0 in
        let further = (found_lies table x b.at lead.1).0 in
        omega (
          arith,
          sum_by-cons f p these,
          ap f lead.0,
          taken b (ends table x (p ∷ these ++ rest)) from (omega (arith, further, lead_lies table x (found table x b.at).at to these lead.2, up_to)),
          these_weigh to next these rest (subst (λ q. Lead table x q to these) (sym same) lead.2) (omega (arith, same, further, from)) up_to,
        )

    part_weighs : (mid to : ℕ) (b : Boundary) (before these rest : List ℕ) → Lead table x b.at mid before → Lead table x mid to these →
        low ≤ mid → to ≤ high → sum_by f these ≤ weight (b ∷ ends table x (before ++ (these ++ rest)))
    part_weighs mid to b [] these rest lead also from up_to =
        these_weigh to b these rest (subst (λ q. Lead table x q to these) (sym lead) also) (omega (arith, lead, from)) up_to
    part_weighs mid to b (p ∷ before) these rest lead also from up_to =
        let next : Boundary = next_boundary table x p in
        let same : next.at ≡ (found table x b.at).at = ap (λ q. (found table x q).at) lead.0 in
        omega (
          arith,
          more b (ends table x (p ∷ before ++ (these ++ rest))),
          part_weighs mid to next before these rest (subst (λ q. Lead table x q mid before) (sym same) lead.2) also from up_to,
        )

    lead_within : (from to : ℕ) (these : List ℕ) → Lead table x from to these → from ≤ length x → to ≤ length x
    lead_within from to [] lead within = omega (arith, lead, within)
    lead_within from to (p ∷ these) lead within = lead_within (found table x from).at to these lead.2 (found_lies table x from lead.1).1

    -- searches that lead from one boundary to another are among those from all boundaries
    pub searches_weigh : (from to : ℕ) → IsBoundary table x from → (these : List ℕ) → Lead table x from to these → low ≤ from → to ≤ high →
        sum_by f these ≤ weight (table_boundaries table x)
    searches_weigh from to here these lead low_is high_is =
        let rest = lead_to_end table x to (lead_within from to these lead here.within) in
        let whole =
        leads_joined table x 0 from (length x) here.before (these ++ rest.0) here.lead (leads_joined table x from to (length x) these rest.0 lead rest.1) in
        omega (
          arith,
          part_weighs from to start here.before these rest.0 here.lead lead low_is high_is,
          ap weight (boundaries_are table x (here.before ++ (these ++ rest.0)) whole),
        )

module _ (table : Table) (x y : List ℕ) where
  pub searched_none : (p p' before : ℕ) → AreSearched table x y p p p' p' before before
  searched_none p p' before = record { old = []; new = []; lead_old = refl; lead_new = refl; read = omega arith }

  module _ (from to from' to' before mid : ℕ) (these : AreSearched table x y from to from' to' before mid) where
    pub searched_on : (last last' after : ℕ) → AreSearched table x y to last to' last' mid after → AreSearched table x y from last from' last' before after
    searched_on last last' after those = record {
      old = these.old ++ those.old;
      new = these.new ++ those.new;
      lead_old = leads_joined table x from to last these.old those.old these.lead_old those.lead_old;
      lead_new = leads_joined table y from' to' last' these.new those.new these.lead_new those.lead_new;
      read =
          omega (
            arith,
            these.read,
            those.read,
            sum_by-append (characters_read table x) these.old those.old,
            sum_by-append (characters_read table y) these.new those.new,
          );
    }

    pub searched_old : to < length x → (next after : ℕ) → next ≡ (found table x to).at → after ≡ mid + characters_read table x to →
        AreSearched table x y from next from' to' before after
    searched_old short next after is read =
        searched_on next to' after (record { old = to ∷ []; new = []; lead_old = (refl, short, sym is); lead_new = refl; read = omega (arith, read) })

    pub searched_new : to' < length y → (next after : ℕ) → next ≡ (found table y to').at → after ≡ mid + characters_read table y to' →
        AreSearched table x y from to from' next before after
    searched_new short next after is read =
        searched_on to next after (record { old = []; new = to' ∷ []; lead_old = refl; lead_new = (refl, short, sym is); read = omega (arith, read) })
