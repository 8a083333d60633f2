-- Where the texts meet, and what is read up to there.
use Rattle.std.proofs.Common.{◌≡◌, ℕ, ◌+◌, ◌<◌, ◌≤◌, ◌⊎◌, true, false, Bool, ◌&&◌, eqb, leb, List, [], ◌∷◌, Some, None, is_some, length, sym, refl, ap, ◌∙◌, subst, ⊎_elim, arith}
use Rattle.std.specs.Prelude.{unwrap_or}
use Rattle.std.proofs.lemmas.Bool.{cases_Bool, cases_lt, cond-true, cond-false, false≢true, and_parts, and_from, eq-eqb, leb-true, le-leb, ne_eqb}
use Rattle.rbbi_model.specs.Boundaries.{Boundary}
use Rattle.rbbi_model.specs.Tables.{Table}
use Rattle.rbbi_model.specs.Searches.{table_boundaries}
use Rattle.rbbi_model.specs.Answers.{first_place, is_place_of}
use Rattle.rbbi_model.specs.Costs.{characters_read}
use Rattle.rbbi_text.specs.Steps.{RisesUpTo}
use Rattle.rbbi_cache.specs.Edits.{IsSpliced}
use Rattle.rbbi_change.specs.Changes.{boundary_at, moved}
use Rattle.rbbi_change.specs.Costs.{barrier_before, first_met, change_cost}
use Rattle.rbbi_change.specs.inner.Reaching.{IsQuiet, IsNextOf}
use Rattle.rbbi_change.specs.inner.Parting.{ArePartedAt}
use Rattle.rbbi_change.specs.inner.Reading.{AreSearched, AreMet, HaveMet}
use Rattle.rbbi_change.specs.declared.change.Edit.{Edit}
use Rattle.rbbi_change.specs.declared.reached.Reached.{Reached}
use Rattle.rbbi_change.specs.declared.part.Parting.{Parting}
use Rattle.rbbi_change.proofs.Alike.{quiet_new}
use Rattle.rbbi_change.proofs.Parts.{none_to}
use Rattle.rbbi_change.proofs.Meets.{AreBetween}
use Rattle.rbbi_change.proofs.Searched.{searches_weigh, searched_on}

-- a place with statuses is one of the boundaries
some_is_place : (bs : List Boundary) (p : ℕ) (statuses : List ℕ) → boundary_at bs p ≡ Some statuses → is_place_of bs p ≡ true
some_is_place [] p statuses is = absurd cc
some_is_place (b ∷ bs) p statuses is =
    ⊎_elim
    (λ here. ap is_some (cond-true (eqb b.at p) (Some b.at) (first_place (λ at. eqb at p) bs) here))
    (λ there.
    ap is_some (cond-false (eqb b.at p) (Some b.at) (first_place (λ at. eqb at p) bs) there)
    ∙ some_is_place bs p statuses (sym (cond-false (eqb b.at p) (Some b.statuses) (boundary_at bs p) there) ∙ is))
    (cases_Bool (eqb b.at p))

-- and where there are none it isn't
place_is_some : (bs : List Boundary) (p : ℕ) → is_place_of bs p ≡ true → boundary_at bs p ≡ None → ⊥
place_is_some [] p is none = false≢true is
place_is_some (b ∷ bs) p is none =
    ⊎_elim
    (λ here. (let e : None ≡ Some b.statuses = sym none ∙ cond-true (eqb b.at p) (Some b.statuses) (boundary_at bs p) here in cc))
    (λ there.
    place_is_some bs p (sym (ap is_some (cond-false (eqb b.at p) (Some b.at) (first_place (λ at. eqb at p) bs) there)) ∙ is)
    (sym (cond-false (eqb b.at p) (Some b.statuses) (boundary_at bs p) there) ∙ none))
    (cases_Bool (eqb b.at p))

-- where some boundary passes, the first one does
record IsFirst (test : ℕ → Bool) (bs : List Boundary) : Type 0 where
  place : ℕ
  is : first_place test bs ≡ Some place
  passes : test place ≡ true
  among : is_place_of bs place ≡ true

first_is : (test : ℕ → Bool) (bs : List Boundary) (p : ℕ) → is_place_of bs p ≡ true → test p ≡ true → IsFirst test bs
first_is test [] p among passes = absurd (false≢true among)
first_is test (b ∷ bs) p among passes =
    ⊎_elim
    (λ holds.
    record {
      place = b.at;
      is = cond-true (test b.at) (Some b.at) (first_place test bs) holds;
      passes = holds;
      among = ap is_some (cond-true (eqb b.at b.at) (Some b.at) (first_place (λ at. eqb at b.at) bs) (eq-eqb b.at b.at refl));
    })
    (λ fails.
    let other : eqb b.at p ≡ false = ne_eqb b.at p (λ is. false≢true (sym fails ∙ ap test is ∙ passes)) in
    let rest : IsFirst test bs =
    first_is test bs p (sym (ap is_some (cond-false (eqb b.at p) (Some b.at) (first_place (λ at. eqb at p) bs) other)) ∙ among) passes in
    let q : ℕ = rest.place in
    record {
      place = q;
      is = cond-false (test b.at) (Some b.at) (first_place test bs) fails ∙ rest.is;
      passes = rest.passes;
      among =
          ⊎_elim
          (λ here. ap is_some (cond-true (eqb b.at q) (Some b.at) (first_place (λ at. eqb at q) bs) here))
          (λ there. ap is_some (cond-false (eqb b.at q) (Some b.at) (first_place (λ at. eqb at q) bs) there) ∙ rest.among)
          (cases_Bool (eqb b.at q));
    })
    (cases_Bool (test b.at))

module _ (table : Table) (x y : List ℕ) (edit : Edit) where
  -- neither search has passed a place at which the texts meet
  pub BeforeMet : ℕ → ℕ → Type 0
  BeforeMet here there = (place : ℕ) → AreMet table x y edit place → (here ≤ place) × (there ≤ moved edit place)

  pub before_first : (parting : Parting) → ArePartedAt table x y edit.at parting → BeforeMet parting.old.at parting.new.at
  unfolding BeforeMet
  before_first parting parted = λ place met.
      let behind = met.behind in (
        ⊎_elim
            (λ short. absurd (place_is_some (table_boundaries table x) place met.old (parted.none_old place (omega arith) short)))
            (λ ok. ok) (cases_lt place parting.old.at),
        ⊎_elim
            (λ short. absurd (place_is_some (table_boundaries table y) (moved edit place) met.new (parted.none_new (moved edit place) (omega arith) short)))
            (λ ok. ok) (cases_lt (moved edit place) parting.new.at),
      )

  module _ (here there : Reached) (last : ℕ) (between : AreBetween table x y edit here there last) (before : BeforeMet here.at there.at) where
    pub before_old : (here.at < edit.at + edit.removed) ⊎ (here.at + edit.inserted < there.at + edit.removed) → here.at < length x → (next : Reached) →
        IsNextOf table x here.at next → BeforeMet next.at there.at
    unfolding BeforeMet
    before_old turn short next is = λ place met.
        let behind = met.behind in
        let up_to = before place met in
        let past : here.at < place = ⊎_elim (λ early. omega (arith, early)) (λ less. omega (arith, up_to, less)) turn in (
          ⊎_elim
              (λ less. absurd (place_is_some (table_boundaries table x) place met.old
              (none_to table x here.at between.old.is short next is place past less)))
              (λ ok. ok) (cases_lt place next.at),
          up_to.1,
        )

    pub before_new : there.at + edit.removed < here.at + edit.inserted → there.at < length y → (next : Reached) →
        IsNextOf table y there.at next → BeforeMet here.at next.at
    unfolding BeforeMet
    before_new turn short next is = λ place met.
        let behind = met.behind in
        let up_to = before place met in (
          up_to.0,
          ⊎_elim
              (λ less. absurd (place_is_some (table_boundaries table y) (moved edit place) met.new
              (none_to table y there.at between.new.is short next is (moved edit place) (omega (arith, up_to, turn)) less)))
              (λ ok. ok) (cases_lt (moved edit place) next.at),
        )

    -- the searches have come to the first of them
    pub have_met : edit.at + edit.removed ≤ here.at → here.at + edit.inserted ≡ there.at + edit.removed → (parting : Parting) (steps after : ℕ) →
        AreSearched table x y parting.old.at here.at parting.new.at there.at steps after → HaveMet table x y edit parting steps after
    unfolding BeforeMet
    have_met behind meets parting steps after searched =
        let there_is : there.at ≡ moved edit here.at = omega arith in
        record {
          place = here.at;
          met =
              record {
                behind = behind;
                old = some_is_place (table_boundaries table x) here.at _ between.old.statuses;
                new = subst (λ p. is_place_of (table_boundaries table y) p ≡ true) there_is
                    (some_is_place (table_boundaries table y) there.at _ between.new.statuses);
              };
          first = λ other met. (before other met).0;
          searched = subst (λ p. AreSearched table x y parting.old.at here.at parting.new.at p steps after) there_is searched;
        }

  -- the first place at which they meet
  met_first : (place : ℕ) → AreMet table x y edit place → AreMet table x y edit (first_met table x y edit)
  met_first place met =
      let test : ℕ → Bool = λ p. leb (edit.at + edit.removed) p && is_place_of (table_boundaries table y) (moved edit p) in
      let passes : (p : ℕ) → AreMet table x y edit p → test p ≡ true = λ p here.
      and_from (leb (edit.at + edit.removed) p) (is_place_of (table_boundaries table y) (moved edit p))
      (le-leb (edit.at + edit.removed) p here.behind) here.new in
      let first : IsFirst test (table_boundaries table x) = first_is test (table_boundaries table x) place met.old (passes place met) in
      let parts = and_parts (leb (edit.at + edit.removed) first.place) (is_place_of (table_boundaries table y) (moved edit first.place)) first.passes in
      subst (λ p. AreMet table x y edit p) (sym (ap (λ o. unwrap_or o (length x)) first.is))
      (record { behind = leb-true (edit.at + edit.removed) first.place parts.0; old = first.among; new = parts.1 })

  -- what is read in all
  pub cost_is : IsSpliced x y edit.at edit.removed edit.inserted → (start : ℕ) → IsQuiet table x edit.at start →
      barrier_before table x edit.at ≤ start → (parting : Parting) (s0 s1 s2 s3 : ℕ) → s0 ≤ s1 →
      s1 + barrier_before table x edit.at ≤ s0 + edit.at + 1 → AreSearched table x y start parting.old.at start parting.new.at s1 s2 →
      HaveMet table x y edit parting s2 s3 → RisesUpTo (change_cost table x y edit) s0 s3
  cost_is edited start quiet low parting s0 s1 s2 s3 more back parted met =
      let from : ℕ = barrier_before table x edit.at in
      let to : ℕ = first_met table x y edit in
      let reached : met.place ≤ to = met.first to (met_first met.place met.met) in
      let all = searched_on table x y start parting.old.at start parting.new.at s1 s2 parted met.place (moved edit met.place) s3 met.searched in
      let old = searches_weigh (characters_read table x) from to table x start met.place quiet.is all.old all.lead_old low reached in
      let new =
      searches_weigh (characters_read table y) from (moved edit to) table y start (moved edit met.place)
      (quiet_new table x y edit.at edit.removed edit.inserted edited start quiet) all.new all.lead_new low (omega (arith, reached)) in
      record { more = omega (arith, more, all.read); cost = omega (arith, back, all.read, old, new) }
