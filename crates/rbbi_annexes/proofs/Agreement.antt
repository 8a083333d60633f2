-- Where the rows of a table agree with the monitor of a rule, the boundaries by the table are those by the rule, with their statuses.
use Rattle.std.proofs.Common.{◌≡◌, ℕ, zero, suc, ◌+◌, ◌-◌, ◌<◌, ◌≤◌, Bool, true, false, not, ◌&&◌, cond, ltb, eqb, List, [], ◌∷◌, length, drop}
use Rattle.std.proofs.Common.{sym, refl, ap, ◌∙◌, subst, ⊎_elim, arith}
use Rattle.std.specs.List.{AllByRecursion}
use Rattle.std.proofs.lemmas.Bool.{cases_Bool, cond-true, cond-false, cond_both, lt-ltb, le-ltb, eqb-true, and_parts, not-true, false≢true}
use Rattle.std.proofs.lemmas.List.{drop_more, length-drop}
use Rattle.unicode_segmentation.specs.Segments.{Rule}
use Rattle.rbbi_model.specs.Words.{IsCharacter, IsText}
use Rattle.rbbi_model.specs.Places.{has_bit}
use Rattle.rbbi_model.specs.Boundaries.{Boundary, start}
use Rattle.rbbi_model.specs.Tables.{Table, accept_of, fronts_of, list_of, statuses_of, category_of, step, completes}
use Rattle.rbbi_model.specs.Searches.{next_boundary, follow_by}
use Rattle.rbbi_model.proofs.Found.{found_lies}
use Rattle.rbbi_annexes.specs.Statuses.{marked, boundaries_from, boundaries_behind, GivesBoundaries}
use Rattle.rbbi_annexes.proofs.Monitors.{Monitor, seen, coming, labelled, Tells}
use Rattle.rbbi_annexes.proofs.Scans.{ending, ended, fronted, cut, scan, single, next_is}

-- the boundary at the first place from `at` on at which the rule breaks, or else at the text's end; `segment` has the characters before `at`
-- from the last boundary on
abbrev pub next_marked : Rule → (List ℕ → ℕ) → List ℕ → List ℕ → List ℕ → ℕ → Boundary
next_marked rule status segment before [] at = marked at (status segment)
next_marked rule status segment before (c ∷ behind) at =
    cond (rule before (c ∷ behind)) (marked at (status segment)) (next_marked rule status (c ∷ segment) (c ∷ before) behind (at + 1))

-- ---- marks

-- What a search knows of the first place at which the rule breaks: that it isn't reached yet, or it is past. Then `exact` says whether the
-- last end of a rule is there, and `fronts` has look-ahead rules whose last front ends there, if the status there is 0.
pub data Mark : Type 0 where
  Open : Mark
  Past : (exact : Bool) (fronts : List ℕ) → Mark

-- the look-ahead rules whose bits are in the mask, of so many
unfoldable pub rules_in : ℕ → ℕ → List ℕ
rules_in mask zero = []
rules_in mask (suc k) = cond (has_bit mask k) (k ∷ rules_in mask k) (rules_in mask k)

-- the rules whose bits aren't in the mask
unfoldable pub rules_kept : ℕ → List ℕ → List ℕ
rules_kept mask [] = []
rules_kept mask (k ∷ ks) = cond (has_bit mask k) (rules_kept mask ks) (k ∷ rules_kept mask ks)

unfoldable pub has_rule : ℕ → List ℕ → Bool
has_rule k [] = false
has_rule k (j ∷ js) = cond (eqb k j) true (has_rule k js)

-- The mark once one more character is read. A rule may end before it and the fronts in the mask do; `here` are those whose status is right
-- if this is the first place at which the rule breaks, and `breaks` says whether the rule breaks here.
unfoldable pub mark_after : Bool → List ℕ → ℕ → Bool → Mark → Mark
mark_after accepts here mask breaks Open = cond breaks (Past accepts here) Open
mark_after accepts here mask breaks (Past exact fronts) = Past (exact && not accepts) (rules_kept mask fronts)

-- the last end of a rule is the first break
unfoldable pub is_exact : Mark → Bool
is_exact Open = false
is_exact (Past exact fronts) = exact

-- the cut of the look-ahead rule is the first break
unfoldable pub has_front : ℕ → Mark → Bool
has_front k Open = false
has_front k (Past exact fronts) = has_rule k fronts

-- the last end of a rule is the first break, where a break is at the text's end
unfoldable pub ends_right : Bool → Mark → Bool
ends_right accepts Open = accepts
ends_right accepts (Past exact fronts) = exact && not accepts

-- the fronts that end at the row, if its label has status 0
unfoldable pub fronts_here : {S : Type 0} → Table → Monitor S → ℕ → ℕ → List ℕ
fronts_here table monitor row t = let rules = rules_in (fronts_of table row) table.slashes in cond (eqb (monitor.status t) 0) rules []

-- the mark after a character of the category from the row
abbrev pub mark_next : {S : Type 0} → Table → Monitor S → ℕ → S → ℕ → ℕ → ℕ → Mark → Mark
mark_next table monitor row m k p t mark =
    mark_after (eqb (accept_of table row) 1) (fronts_here table monitor row t) (fronts_of table row) (monitor.breaks m k p) mark

-- What must hold of the rows that searches reach. `Used` holds of the category of each character, and `Seen` of each state of the monitor.
-- `In row m p t mark` holds where a search reaches the row with this mark when the monitor is in state m, p is the number of what comes,
-- and t is the label of what the search has read.
pub record Agree {S : Type 0} (table : Table) (monitor : Monitor S) (kinds : ℕ) (Used : ℕ → Type 0) (Seen : S → Type 0)
    (In : ℕ → S → ℕ → ℕ → Mark → Type 0) : Type 0 where
  pub first : Seen monitor.start
  pub more : (m : S) (k : ℕ) → Used k → Seen m → Seen (monitor.next m k)
  pub nothing : monitor.nothing < kinds
  pub ahead : (k p : ℕ) → Used k → p < kinds → monitor.ahead k p < kinds
  pub begins : (m : S) (k p : ℕ) → Used k → p < kinds → Seen m → monitor.breaks m k p ≡ true →
      (eqb (step table 1 k) 0 ≡ false) × (completes table (step table 1 k) ≡ false) × In (step table 1 k) (monitor.next m k) p (monitor.label 0 k) Open
  pub names : (row : ℕ) (m : S) (p t : ℕ) (mark : Mark) → In row m p t mark → eqb (accept_of table row) 1 ≡ true →
      statuses_of table (list_of table row) ≡ monitor.status t ∷ []
  pub ends : (row : ℕ) (m : S) (t : ℕ) (mark : Mark) → In row m monitor.nothing t mark → ends_right (eqb (accept_of table row) 1) mark ≡ true
  pub dies : (row : ℕ) (m : S) (k p t : ℕ) (mark : Mark) → Used k → p < kinds → In row m (monitor.ahead k p) t mark →
      eqb (step table row k) 0 ≡ true → is_exact (mark_next table monitor row m k p t mark) ≡ true
  pub cuts : (row : ℕ) (m : S) (k p t : ℕ) (mark : Mark) → Used k → p < kinds → In row m (monitor.ahead k p) t mark →
      eqb (step table row k) 0 ≡ false → completes table (step table row k) ≡ true →
      (has_front (accept_of table (step table row k) - 2) (mark_next table monitor row m k p t mark) ≡ true)
      × (statuses_of table (list_of table (step table row k)) ≡ 0 ∷ [])
  pub goes : (row : ℕ) (m : S) (k p t : ℕ) (mark : Mark) → Used k → p < kinds → In row m (monitor.ahead k p) t mark →
      eqb (step table row k) 0 ≡ false → completes table (step table row k) ≡ false →
      In (step table row k) (monitor.next m k) p (monitor.label t k) (mark_next table monitor row m k p t mark)

-- ---- what a mark says of the last end of a rule, and of the cuts

-- a place with status 0
abbrev plain_at : ℕ → Boundary
plain_at at = record { at = at; statuses = 0 ∷ [] }

-- the first break is `first`, if it is past
abbrev Holds : Mark → Boundary → (ℕ → ℕ) → Boundary → Type 0
Holds Open last cuts first = Unit {0}
Holds (Past exact fronts) last cuts first = (exact ≡ true → last ≡ first) × AllByRecursion (λ k. plain_at (cuts k) ≡ first) fronts

-- the first break, if it is past, and else the next one
abbrev aimed : Mark → Boundary → Boundary → Boundary
aimed Open first next = next
aimed (Past exact fronts) first next = first

all_in : (P : ℕ → Type 0) (mask : ℕ) → ((k : ℕ) → has_bit mask k ≡ true → P k) → (n : ℕ) → AllByRecursion P (rules_in mask n)
unfolding rules_in
all_in P mask holds zero = tt
all_in P mask holds (suc k) =
    cond_both (has_bit mask k) (k ∷ rules_in mask k) (rules_in mask k) (AllByRecursion P)
    (λ is. (holds k is, all_in P mask holds k))
    (λ isnt. all_in P mask holds k)

all_kept : (P Q : ℕ → Type 0) (mask : ℕ) → ((k : ℕ) → has_bit mask k ≡ false → P k → Q k) → (ks : List ℕ) → AllByRecursion P ks →
    AllByRecursion Q (rules_kept mask ks)
unfolding rules_kept
all_kept P Q mask keeps [] all = tt
all_kept P Q mask keeps (k ∷ ks) all =
    cond_both (has_bit mask k) (rules_kept mask ks) (k ∷ rules_kept mask ks) (AllByRecursion Q)
    (λ is. all_kept P Q mask keeps ks all.1)
    (λ isnt. (keeps k isnt all.0, all_kept P Q mask keeps ks all.1))

has_rule-all : (P : ℕ → Type 0) (k : ℕ) (ks : List ℕ) → AllByRecursion P ks → has_rule k ks ≡ true → P k
unfolding has_rule
has_rule-all P k [] all is = absurd (false≢true is)
has_rule-all P k (j ∷ js) all is =
    ⊎_elim
    (λ same. subst P (sym (eqb-true k j same)) all.0)
    (λ other. has_rule-all P k js all.1 (sym (cond-false (eqb k j) true (has_rule k js) other) ∙ is))
    (cases_Bool (eqb k j))

module _ (accepts : Bool) (here : List ℕ) (mask at : ℕ) (last this first : Boundary) (cuts : ℕ → ℕ) where
  -- the last place of each front, once the place is passed
  abbrev now : ℕ → ℕ
  now k = cond (has_bit mask k) at (cuts k)

  holds_after : (breaks : Bool) (mark : Mark) → AllByRecursion (λ k. plain_at (now k) ≡ this) here → Holds mark last cuts first →
      Holds (mark_after accepts here mask breaks mark) (cond accepts this last) now (aimed mark first this)
  unfolding mark_after
  holds_after true Open fronts holds = (λ is. cond-true accepts this last is, fronts)
  holds_after false Open fronts holds = tt
  holds_after breaks (Past exact kept) fronts holds = (
    λ is.
        let parts = and_parts exact (not accepts) is in
        cond-false accepts this last (not-true accepts parts.1) ∙ holds.0 parts.0,
    all_kept (λ k. plain_at (cuts k) ≡ first) (λ k. plain_at (now k) ≡ first) mask
        (λ k isnt at_first. ap plain_at (cond-false (has_bit mask k) at (cuts k) isnt) ∙ at_first) kept holds.1,
  )

  aimed_after : (breaks : Bool) (mark : Mark) (further : Boundary) →
      aimed (mark_after accepts here mask breaks mark) (aimed mark first this) further ≡ aimed mark first (cond breaks this further)
  unfolding mark_after
  aimed_after true Open further = refl
  aimed_after false Open further = refl
  aimed_after breaks (Past exact kept) further = refl

  aimed_end : (mark : Mark) → ends_right accepts mark ≡ true → Holds mark last cuts first → cond accepts this last ≡ aimed mark first this
  unfolding ends_right
  aimed_end Open right holds = cond-true accepts this last right
  aimed_end (Past exact kept) right holds =
      let parts = and_parts exact (not accepts) right in
      cond-false accepts this last (not-true accepts parts.1) ∙ holds.0 parts.0

-- where the last end is the first break, and where a cut is
aimed_exact : (mark : Mark) (last first next : Boundary) (cuts : ℕ → ℕ) → is_exact mark ≡ true → Holds mark last cuts first → last ≡ aimed mark first next
unfolding is_exact
aimed_exact Open last first next cuts is holds = absurd (false≢true is)
aimed_exact (Past exact fronts) last first next cuts is holds = holds.0 is

aimed_cut : (mark : Mark) (k : ℕ) (last first next : Boundary) (cuts : ℕ → ℕ) → has_front k mark ≡ true → Holds mark last cuts first →
    plain_at (cuts k) ≡ aimed mark first next
unfolding has_front
aimed_cut Open k last first next cuts is holds = absurd (false≢true is)
aimed_cut (Past exact fronts) k last first next cuts is holds = has_rule-all (λ j. plain_at (cuts j) ≡ first) k fronts holds.1 is

-- what differs only where the choice isn't made
cond_same : {X : Type 0} (b : Bool) (this that other : X) → (b ≡ true → this ≡ that) → cond b this other ≡ cond b that other
cond_same true this that other same = same refl
cond_same false this that other same = refl

-- what stands after the first character that stands there
beyond : (x : List ℕ) (at c : ℕ) (behind : List ℕ) → drop at x ≡ c ∷ behind → (at < length x) × (drop (at + 1) x ≡ behind)
beyond x at c behind rest =
    let short : at < length x = omega (arith, length-drop at x, ap length rest) in
    (short, ap (λ l. drop 1 l) (sym (drop_more x at 0 short) ∙ rest))

nothing_behind : (x : List ℕ) (at : ℕ) → drop at x ≡ [] → length x ≤ at
nothing_behind x at rest = omega (arith, length-drop at x, ap length rest)

module _ {S : Type 0} (table : Table) (monitor : Monitor S) (kinds : ℕ) (Used : ℕ → Type 0) (Seen : S → Type 0) (In : ℕ → S → ℕ → ℕ → Mark → Type 0)
    (agree : Agree table monitor kinds Used Seen In) (rule : Rule) (status : List ℕ → ℕ) (tells : Tells monitor (category_of table.ranges) rule status)
    (used : (c : ℕ) → IsCharacter c → Used (category_of table.ranges c)) where
  seen_is : (before : List ℕ) → IsText before → Seen (seen monitor (category_of table.ranges) before)
  seen_is [] are = agree.first
  seen_is (c ∷ before) are =
      agree.more (seen monitor (category_of table.ranges) before) (category_of table.ranges c) (used c are.0) (seen_is before are.1)

  coming_within : (behind : List ℕ) → IsText behind → coming monitor (category_of table.ranges) behind < kinds
  coming_within [] are = agree.nothing
  coming_within (c ∷ behind) are =
      agree.ahead (category_of table.ranges c) (coming monitor (category_of table.ranges) behind) (used c are.0) (coming_within behind are.1)

  -- a search reaches the row, with these characters after its place, and those of the segment since its start
  Reaches : ℕ → List ℕ → List ℕ → List ℕ → Mark → Type 0
  Reaches row before behind segment mark =
      In row (seen monitor (category_of table.ranges) before) (coming monitor (category_of table.ranges) behind)
      (labelled monitor (category_of table.ranges) segment) mark

  ended_is : (row at : ℕ) (last : Boundary) (before behind segment : List ℕ) (mark : Mark) → IsText segment →
      Reaches row before behind segment mark →
      ended table row last at ≡ cond (eqb (accept_of table row) 1) (marked at (status segment)) last
  unfolding Reaches
  ended_is row at last before behind segment mark are is =
      let category : ℕ → ℕ = category_of table.ranges in
      cond_same (eqb (accept_of table row) 1) (ending table row at) (marked at (status segment)) last (λ accepts i. record {
        at = at;
        statuses = (agree.names row (seen monitor category before) (coming monitor category behind) (labelled monitor category segment) mark is accepts
            ∙ ap (λ n. n ∷ []) (sym (tells.status_is segment are))) i;
      })

  -- the fronts that end here, if this is a first break
  fronts_are : (row at : ℕ) (cuts : ℕ → ℕ) (segment : List ℕ) → IsText segment →
      AllByRecursion (λ k. plain_at (fronted table row cuts at k) ≡ marked at (status segment))
      (fronts_here table monitor row (labelled monitor (category_of table.ranges) segment))
  unfolding fronts_here
  fronts_are row at cuts segment are =
      let t : ℕ = labelled monitor (category_of table.ranges) segment in
      let P : ℕ → Type 0 = λ k. plain_at (fronted table row cuts at k) ≡ marked at (status segment) in
      cond_both (eqb (monitor.status t) 0) (rules_in (fronts_of table row) table.slashes) [] (AllByRecursion P)
      (λ zero_status.
      let named : status segment ≡ 0 = tells.status_is segment are ∙ eqb-true (monitor.status t) 0 zero_status in
      all_in P (fronts_of table row)
      (λ k is i. record { at = cond-true (has_bit (fronts_of table row) k) at (cuts k) is i; statuses = sym named i ∷ [] }) table.slashes)
      (λ other. tt)

  scan_breaks : (behind before segment : List ℕ) (row at : ℕ) (last first : Boundary) (cuts : ℕ → ℕ) (mark : Mark) → IsText behind → IsText before →
      IsText segment → Reaches row before behind segment mark → Holds mark last cuts first →
      scan table row last cuts at behind ≡ aimed mark first (next_marked rule status segment before behind at)
  unfolding Reaches
  scan_breaks [] before segment row at last first cuts mark behind_are before_are segment_are is holds =
      let accepts : Bool = eqb (accept_of table row) 1 in
      let here : List ℕ = fronts_here table monitor row (labelled monitor (category_of table.ranges) segment) in
      ended_is row at last before [] segment mark segment_are is
      ∙ aimed_end accepts here (fronts_of table row) at last (marked at (status segment)) first cuts mark
      (agree.ends row (seen monitor (category_of table.ranges) before) (labelled monitor (category_of table.ranges) segment) mark is) holds
  scan_breaks (c ∷ behind) before segment row at last first cuts mark behind_are before_are segment_are is holds =
      let m : S = seen monitor (category_of table.ranges) before in
      let k : ℕ = category_of table.ranges c in
      let p : ℕ = coming monitor (category_of table.ranges) behind in
      let t : ℕ = labelled monitor (category_of table.ranges) segment in
      let accepts : Bool = eqb (accept_of table row) 1 in
      let fronts : List ℕ = fronts_here table monitor row t in
      let breaks : Bool = monitor.breaks m k p in
      let here : Boundary = marked at (status segment) in
      let latest : Boundary = cond accepts here last in
      let now : ℕ → ℕ = fronted table row cuts at in
      let later : Mark = mark_next table monitor row m k p t mark in
      let aim : Boundary = aimed mark first here in
      let further : Boundary = next_marked rule status (c ∷ segment) (c ∷ before) behind (at + 1) in
      let next : ℕ = step table row k in
      let on : Boundary = scan table next latest now (at + 1) behind in
      let of_cut : Boundary = cut table next now in
      let within = coming_within behind behind_are.1 in
      let known = holds_after accepts fronts (fronts_of table row) at last here first cuts breaks mark (fronts_are row at cuts segment segment_are) holds in
      ap (λ b. cond (eqb next 0) b (cond (completes table next) of_cut (scan table next b now (at + 1) behind)))
      (ended_is row at last before (c ∷ behind) segment mark segment_are is)
      ∙ ⊎_elim
      (λ none.
      cond-true (eqb next 0) latest (cond (completes table next) of_cut on) none
      ∙ aimed_exact later latest aim further now (agree.dies row m k p t mark (used c behind_are.0) within is none) known)
      (λ some.
      cond-false (eqb next 0) latest (cond (completes table next) of_cut on) some
      ∙ ⊎_elim
      (λ completed.
      let at_cut = agree.cuts row m k p t mark (used c behind_are.0) within is some completed in
      cond-true (completes table next) of_cut on completed
      ∙ (λ i. record { at = now (accept_of table next - 2); statuses = at_cut.1 i })
      ∙ aimed_cut later (accept_of table next - 2) latest aim further now at_cut.0 known)
      (λ plain.
      cond-false (completes table next) of_cut on plain
      ∙ scan_breaks behind (c ∷ before) (c ∷ segment) next (at + 1) latest aim now later behind_are.1
      (behind_are.0, before_are) (behind_are.0, segment_are) (agree.goes row m k p t mark (used c behind_are.0) within is some plain) known)
      (cases_Bool (completes table next)))
      (cases_Bool (eqb next 0))
      ∙ aimed_after accepts fronts (fronts_of table row) at last here first cuts breaks mark further
      ∙ ap (λ b. aimed mark first (cond b here further)) (sym (tells.inside before c behind before_are behind_are.0 behind_are.1))

  module _ (dead : accept_of table 0 ≡ 0) (x : List ℕ) where
    next_at : (s c : ℕ) (behind before : List ℕ) → IsText (c ∷ behind) → IsText before → drop s x ≡ c ∷ behind → rule before (c ∷ behind) ≡ true →
        next_boundary table x s ≡ next_marked rule status (c ∷ []) (c ∷ before) behind (s + 1)
    unfolding Reaches
    next_at s c behind before behind_are before_are rest breaks =
        let begin = agree.begins (seen monitor (category_of table.ranges) before) (category_of table.ranges c) (coming monitor
        (category_of table.ranges) behind)
        (used c behind_are.0) (coming_within behind behind_are.1) (seen_is before before_are)
        (sym (tells.inside before c behind before_are behind_are.0 behind_are.1) ∙ breaks) in
        next_is table dead x s c behind rest (beyond x s c behind rest).0 begin.0 begin.1
        ∙ scan_breaks behind (c ∷ before) (c ∷ []) (step table 1 (category_of table.ranges c)) (s + 1) (single table s) (single table s) (λ k. s + 1) Open
        behind_are.1 (behind_are.0, before_are) (behind_are.0, tt) begin.2 tt

    -- the boundaries from a place on are this one and those after it
    IsFrom : List Boundary → Boundary → Type 0
    IsFrom boundaries next =
        (before behind : List ℕ) × IsText behind × IsText before × (drop next.at x ≡ behind) × (rule before behind ≡ true) ×
        (boundaries ≡ next ∷ boundaries_behind rule status before behind next.at)

    from_next : (behind before segment : List ℕ) (at : ℕ) → IsText behind → IsText before → drop at x ≡ behind →
        IsFrom (boundaries_from rule status segment before behind at) (next_marked rule status segment before behind at)
    unfolding IsFrom
    from_next [] before segment at behind_are before_are rest = (before, [], behind_are, before_are, rest, tells.ends.end before, refl)
    from_next (c ∷ behind) before segment at behind_are before_are rest =
        let breaks : Bool = rule before (c ∷ behind) in
        let here : Boundary = marked at (status segment) in
        let ended : List Boundary = here ∷ boundaries_from rule status (c ∷ []) (c ∷ before) behind (at + 1) in
        let longer : List Boundary = boundaries_from rule status (c ∷ segment) (c ∷ before) behind (at + 1) in
        cond_both breaks here (next_marked rule status (c ∷ segment) (c ∷ before) behind (at + 1))
        (IsFrom (boundaries_from rule status segment before (c ∷ behind) at))
        (λ is. (before, c ∷ behind, behind_are, before_are, rest, is, cond-true breaks ended longer is))
        (λ isnt.
        let next = from_next behind (c ∷ before) (c ∷ segment) (at + 1) behind_are.1 (behind_are.0, before_are) (beyond x at c behind rest).1 in
        (next.0, next.1, next.2, next.3, next.4, next.5, cond-false breaks ended longer isnt ∙ next.6))

    follow_is : (most : ℕ) (before behind : List ℕ) (last : Boundary) → IsText behind → IsText before → drop last.at x ≡ behind →
        length x ≤ last.at + most → rule before behind ≡ true →
        follow_by (next_boundary table x) (length x) most last ≡ boundaries_behind rule status before behind last.at
    unfolding IsFrom
    follow_is zero before [] last behind_are before_are rest near breaks = refl
    follow_is zero before (c ∷ behind) last behind_are before_are rest near breaks = absurd (omega (arith, near, (beyond x last.at c behind rest).0))
    follow_is (suc most) before [] last behind_are before_are rest near breaks =
        let next : Boundary = next_boundary table x last.at in
        cond-false (ltb last.at (length x)) (next ∷ follow_by (next_boundary table x) (length x) most next) []
        (le-ltb last.at (length x) (nothing_behind x last.at rest))
    follow_is (suc most) before (c ∷ behind) last behind_are before_are rest near breaks =
        let next : Boundary = next_boundary table x last.at in
        let past = beyond x last.at c behind rest in
        let further : List Boundary = boundaries_from rule status (c ∷ []) (c ∷ before) behind (last.at + 1) in
        let from = subst (IsFrom further) (sym (next_at last.at c behind before behind_are before_are rest breaks))
        (from_next behind (c ∷ before) (c ∷ []) (last.at + 1) behind_are.1 (behind_are.0, before_are) past.1) in
        cond-true (ltb last.at (length x)) (next ∷ follow_by (next_boundary table x) (length x) most next) [] (lt-ltb last.at (length x) past.0)
        ∙ ap (λ bs. next ∷ bs) (follow_is most from.0 from.1 next from.2 from.3 from.4 (omega (
          arith,
          near,
          (found_lies table x last.at past.0).0,
        )) from.5)
        ∙ sym from.6

  pub agreement : accept_of table 0 ≡ 0 → GivesBoundaries table rule status
  agreement dead x is = ap (λ bs. start ∷ bs) (follow_is dead x (length x) [] x start is tt refl (omega arith) (tells.ends.start x))
