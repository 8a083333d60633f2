-- The bits of the first pairs.
use Rattle.std.proofs.Common.{◌≡◌, ℕ, ◌+◌, ◌*◌, ◌/◌, ◌<◌, ◌≤◌, ◌↔◌, Bool, true, false, IsTrue, List, [], length, get_or, refl, sym}
use Rattle.std.proofs.Common.{ap, ◌∙◌, subst, ⊎_elim, arith, below_more, take, ◌++◌}
use Rattle.std.specs.Prelude.{◌&&◌, ◌||◌, ◌==◌}
use Rattle.std.proofs.lemmas.Bool.{cases_lt, eq-eqb, eqb-true}
use Rattle.std.proofs.lemmas.List.{take-append-le, take_all}
use Rattle.rbbi_model.specs.Tables.{Table, RowHead, step}
use Rattle.rbbi_model.specs.SafePairs.{IsSafePair, stored_bit}
use Rattle.rbbi_table.specs.Parts.{rows_of, AreNextRows}
use Rattle.rbbi_table.specs.inner.Targets.{AreTargets, LeadToOne, AreFirstPairs}
use Rattle.rbbi_table.specs.Pairs.{ArePairsOf}
use Rattle.rbbi_table.proofs.MoveLemmas.{row_end}

-- a pair is safe where all rows that open rows lead to lead on to one
pub safe_where_one : (table : Table) (first second : ℕ) (targets : List ℕ) → AreTargets table first targets →
    LeadToOne table second targets ↔ IsSafePair table first second
safe_where_one table first second targets are = (
  λ one. (
    one.0,
    λ from short opened.
        let there = are.all from short opened in
        ap (λ r. step table r second) (sym there.2) ∙ one.1 there.0 there.1,
  ),
  λ safe. (
    safe.0,
    λ i short.
        let from = are.only i short in
        ap (λ r. step table r second) (sym from.3) ∙ safe.1 from.0 from.1 from.2,
  ),
)

-- A category is marked where the first so many of the rows lead by it to the row to which that at a place does.
abbrev pub AreMarkedBelow : List ℕ → ℕ → List ℕ → ℕ → List Bool → ℕ → Type 0
AreMarkedBelow cells width targets first marked count =
    (category : ℕ) → category < width →
    IsTrue (get_or marked category false) ↔
    ((i : ℕ) → i < count → get_or cells (get_or targets i 0 * width + category) 0 ≡ get_or cells (first + category) 0)

-- what is written over the whole of a list
pub written : {X : Type 0} (n : ℕ) (new rest : List X) → n ≡ length new → take n (new ++ rest) ≡ new
written n new rest is = take-append-le n new rest (omega (arith, is)) ∙ take_all n new (omega (arith, is))

both_true : (a b : Bool) → IsTrue (a && b) ↔ (IsTrue a × IsTrue b)
both_true true b = (λ is. (refl, is), λ both. both.1)
both_true false b = (λ is. absurd cc, λ both. both.0)

-- one more
pub marked_more : (cells : List ℕ) (width : ℕ) (targets : List ℕ) (first : ℕ) (old new : List Bool) (count : ℕ) →
    AreMarkedBelow cells width targets first old count →
    ((k : ℕ) → k < width → get_or new k false ≡
    (get_or old k false && (get_or cells (get_or targets count 0 * width + k) 0 == get_or cells (first + k) 0))) →
    AreMarkedBelow cells width targets first new (count + 1)
marked_more cells width targets first old new count below narrowed category low =
    let was = below category low in
    let same = both_true (get_or old category false) (get_or cells (get_or targets count 0 * width + category) 0 == get_or cells (first + category) 0) in (
      λ is.
          let both = same.0 (sym (narrowed category low) ∙ is) in
          below_more _ count (was.0 both.0) (eqb-true _ _ both.1),
      λ lead. narrowed category low ∙ same.1 (was.1 (λ i short. lead i (omega arith)), eq-eqb _ _ (lead count (omega arith))),
    )

-- and all, of which the one at the place is the first
pub marked_all : (cells : List ℕ) (width : ℕ) (targets : List ℕ) (first : ℕ) (marked : List Bool) → 0 < length targets → first ≡ get_or targets 0 0 * width →
    AreMarkedBelow cells width targets first marked (length targets) → (category : ℕ) → category < width →
    IsTrue (get_or marked category false) ↔ LeadToOne (rows_of width [] cells []) category targets
marked_all cells width targets first marked some is all category low =
    let one = all category low in (
      λ marks. (get_or cells (first + category) 0, one.0 marks),
      λ lead. one.1 (λ i short. lead.1 i short ∙ sym (ap (λ n. get_or cells (n + category) 0) is ∙ lead.1 0 some)),
    )

or_false : (a b : Bool) → b ≡ false → (a || b) ≡ a
or_false true b none = refl
or_false false b none = none

not_true : (b : Bool) → ¬ IsTrue b → b ≡ false
not_true true isnt = absurd (isnt refl)
not_true false isnt = refl

-- the pairs of one more first category
pub pairs_more : (table : Table) (old new : List ℕ) (first : ℕ) (marked : List Bool) → first < table.categories →
    AreFirstPairs table old (first * table.categories) → length marked ≡ table.categories →
    ((second : ℕ) → second < table.categories → IsTrue (get_or marked second false) ↔ IsSafePair table first second) →
    ((i : ℕ) → i < first * table.categories → stored_bit new i ≡ stored_bit old i) →
    ((k : ℕ) → k < length marked → stored_bit new (first * table.categories + k) ≡ (get_or marked k false || stored_bit old (first * table.categories + k))) →
    ((i : ℕ) → first * table.categories + length marked ≤ i → stored_bit new i ≡ stored_bit old i) →
    AreFirstPairs table new ((first + 1) * table.categories)
pairs_more table old new first marked within pairs long marks before here behind = record {
  exactly = λ f s f_low s_low short.
      ⊎_elim
      (λ less.
      let at : f * table.categories + s < first * table.categories = omega (arith, row_end f first table.categories less, s_low) in
      subst (λ b. IsTrue b ↔ IsSafePair table f s) (sym (before (f * table.categories + s) at)) (pairs.exactly f s f_low s_low at))
      (λ most.
      let same : f ≡ first = omega (arith, most, ⊎_elim (λ more. absurd (omega (arith, row_end first f table.categories more, short))) (λ up. up) (cases_lt first f)) in
      let at : first * table.categories + s ≡ f * table.categories + s = ap (λ n. n * table.categories + s) (sym same) in
      let unset = not_true (stored_bit old (first * table.categories + s)) (pairs.none (first * table.categories + s) (omega arith)) in
      let bit : stored_bit new (f * table.categories + s) ≡ get_or marked s false =
      ap (stored_bit new) (sym at) ∙ here s (omega (arith, long, s_low)) ∙ or_false (get_or marked s false) _ unset in
      subst (λ b. IsTrue b ↔ IsSafePair table f s) (sym bit) (subst (λ n. IsTrue (get_or marked s false) ↔ IsSafePair table n s) (sym same) (marks s s_low)))
      (cases_lt f first);
  none = λ i past is. pairs.none i (omega (arith, past)) (sym (behind i (omega (arith, past, long))) ∙ is);
}

-- the rows that open rows lead to are rows, and have a next row for each category
pub targets_within : (width : ℕ) (rows : List RowHead) (cells : List ℕ) (category : ℕ) (targets : List ℕ) → AreNextRows width rows cells →
    AreTargets (rows_of width rows cells []) category targets → category < width →
    (i : ℕ) → i < length targets → get_or targets i 0 * width + width ≤ length cells
targets_within width rows cells category targets steps are low i short =
    let from = are.only i short in
    let place : from.0 * width + category < length cells = omega (arith, row_end from.0 (length rows) width from.1, low, steps.all) in
    let row : get_or targets i 0 < length rows = omega (arith, from.3, steps.within (from.0 * width + category) place) in
    omega (arith, row_end (get_or targets i 0) (length rows) width row, steps.all)

pub all_pairs : (width : ℕ) (rows : List RowHead) (cells bytes : List ℕ) → length bytes ≡ (width * width + 7) / 8 →
    AreFirstPairs (rows_of width rows cells []) bytes (width * width) → ArePairsOf (rows_of width rows cells bytes)
all_pairs width rows cells bytes long pairs = record {
  all = long;
  pairs = record {
    exactly = λ first second first_low second_low. pairs.exactly first second first_low second_low
        (omega (arith, row_end first width width first_low, second_low));
    filling = λ i past short. pairs.none i past;
  };
}
