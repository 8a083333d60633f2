-- One step of searching again: what is skipped, what is found, and where the old and the new segments can't meet yet.
use Rattle.std.proofs.Common.{◌≡◌, ◌≢◌, MatchBool, eqb, ℕ, ◌+◌, ◌-◌, ◌<◌, ◌≤◌, ◌++◌, ◌∷◌, [], Bool, true, false, List, length, get_or, sym, ap, ◌∙◌, subst}
use Rattle.std.proofs.Common.{⊎_elim, arith, append_assoc}
use Rattle.std.specs.List.{AllByRecursion}
use Rattle.std.proofs.lemmas.Bool.{MatchBool-at_true, MatchBool-at_false, both_ways, cases_lt}
use Rattle.std.proofs.lemmas.Bool.Decides.{nat_tests}
use Rattle.std.proofs.lemmas.List.{append-nil}
use Rattle.rbbi_model.specs.Words.{most_characters}
use Rattle.rbbi_model.specs.Lists.{Member, IsRising}
use Rattle.rbbi_model.specs.Tables.{Table}
use Rattle.rbbi_model.specs.Searches.{found}
use Rattle.rbbi_model.proofs.Found.{found_lies}
use Rattle.rbbi_model.proofs.Lists.{all_append, all_through}
use Rattle.rbbi_model.proofs.Rising.{rising_tail, not_less_than_first}
use Rattle.rbbi_tally.specs.declared.edit.Edit.{Edit}
use Rattle.rbbi_tally.specs.inner.Segments.{Segment, segment_at, AreSegments, place_of}
use Rattle.rbbi_tally.specs.inner.Counting.{IsRecounted, AreCounted}
use Rattle.rbbi_tally.specs.inner.Searching.{places_to, IsSkipped, IsGoneTo, IsMet, AreFound, AreMet}
use Rattle.rbbi_tally.proofs.SegmentLists.{segments_push, segments_go_on}
use Rattle.rbbi_tally.proofs.Counted.{counted_on, recounted_on, count_few}

rising_places_right : (these those : List Segment) (end : ℕ) → IsRising (places_to (these ++ those) end) → IsRising (places_to those end)
rising_places_right [] those end rise = rise
rising_places_right (s ∷ these) those end rise = rising_places_right these those end (rising_tail s.at (places_to (these ++ those) end) rise)

first_up_to : (those : List Segment) (end : ℕ) → IsRising (places_to those end) → place_of those end ≤ end
first_up_to [] end rise = omega arith
first_up_to (s ∷ []) end rise = omega (arith, rise.0)
first_up_to (s ∷ t ∷ those) end rise = omega (arith, rise.0, first_up_to (t ∷ those) end rise.1)

from_first : (those : List Segment) (end p : ℕ) → IsRising (places_to those end) → Member (places_to those end) p → place_of those end ≤ p
from_first [] end p rise here = ⊎_elim (λ is. omega arith) (λ none. absurd none) here
from_first (s ∷ those) end p rise here = not_less_than_first s.at (places_to those end) p rise here

-- a place past the segments that are gone and before the rest is none
not_there : (gone rest : List Segment) (end p : ℕ) → IsRising (places_to (gone ++ rest) end) → AllByRecursion (λ s. s.at < p) gone → p < place_of rest end →
    Member (places_to (gone ++ rest) end) p → ⊥
not_there [] rest end p rise passed before here = omega (arith, from_first rest end p rise here)
not_there (s ∷ gone) rest end p rise passed before here =
    grind (arith, not_there gone rest end p (rising_tail s.at (places_to (gone ++ rest) end) rise) passed.1 before, passed.0)

-- whether two places are the same, where the one is told
pub told_at : (a b p : ℕ) → a ≡ b → MatchBool (eqb a p) (b ≡ p) (b ≢ p)
told_at a b p same = grind (arith, nat_tests)

module _ (table : Table) (y : List ℕ) (edit : Edit) (start : ℕ) (old : List Segment) (end : ℕ) where
  -- the next search may begin
  pub record IsReady (found : List Segment) (place : ℕ) (rest : List Segment) (before after : List ℕ) : Type 0 where
    pub are_found : AreFound table y edit start old end found place rest before after
    pub not_met : ¬ IsMet edit old end place
    pub short : place < length y

  pub counted_now : (found : List Segment) (place : ℕ) (rest : List Segment) (before after : List ℕ) → AreCounted old before →
      AreFound table y edit start old end found place rest before after → AreCounted rest after
  counted_now found place rest before after counted are =
      counted_on are.gone rest found before after (subst (λ l. AreCounted l before) are.parted counted) are.counted

  skipped_found : (found : List Segment) (place : ℕ) (rest rest' : List Segment) (before mid after : List ℕ) → edit.at + edit.inserted ≤ place →
      AreFound table y edit start old end found place rest before mid → IsSkipped (place - edit.inserted + edit.removed) rest rest' mid after →
      AreFound table y edit start old end found place rest' before after
  skipped_found found place rest rest' before mid after behind are skipped =
      let gone : List Segment = skipped.are_passed.gone in
      record {
        gone = are.gone ++ gone;
        parted = are.parted ∙ ap (λ l. are.gone ++ l) skipped.are_passed.parted ∙ sym (append_assoc are.gone gone rest');
        passed =
            all_append (λ (s : Segment). s.at + edit.inserted < place + edit.removed) are.gone gone are.passed
            (all_through (λ (s : Segment). s.at < place - edit.inserted + edit.removed) (λ (s : Segment). s.at + edit.inserted < place + edit.removed)
            (λ s less. omega (arith, less)) gone skipped.are_passed.passed);
        segments = are.segments;
        none_met = are.none_met;
        counted =
            subst (λ l. IsRecounted (are.gone ++ gone) l before after) (append-nil found)
            (recounted_on are.gone gone found [] before mid after are.counted skipped.are_passed.counted);
      }

  ready_before : (found : List Segment) (place : ℕ) (rest : List Segment) (before after : List ℕ) → length y + edit.removed ≡ end + edit.inserted →
      edit.at + edit.removed ≤ end → place < edit.at + edit.inserted → AreFound table y edit start old end found place rest before after →
      IsReady found place rest before after
  ready_before found place rest before after long within less are =
      record { are_found = are; not_met = λ met. omega (arith, met.behind); short = omega arith }

  ready_behind : (found : List Segment) (place : ℕ) (rest rest' : List Segment) (before mid after : List ℕ) →
      length y + edit.removed ≡ end + edit.inserted → place ≤ length y → IsRising (places_to old end) → edit.at + edit.inserted ≤ place →
      AreFound table y edit start old end found place rest before mid → IsSkipped (place - edit.inserted + edit.removed) rest rest' mid after →
      (place_of rest' end ≡ place - edit.inserted + edit.removed → ⊥) → IsReady found place rest' before after
  ready_behind found place rest rest' before mid after long up_to rise behind are skipped apart =
      let p : ℕ = place - edit.inserted + edit.removed in
      let now = skipped_found found place rest rest' before mid after behind are skipped in
      let rise' = subst (λ l. IsRising (places_to l end)) now.parted rise in
      let reached = skipped.reached end (omega arith) in
      let past : p < place_of rest' end = omega (arith, reached, apart) in
      let passed = all_through (λ (s : Segment). s.at + edit.inserted < place + edit.removed) (λ (s : Segment). s.at < p)
      (λ s less. omega (arith, less)) now.gone
      now.passed in
      record {
        are_found = now;
        not_met = λ met. not_there now.gone rest' end p rise' passed past (subst (λ l. Member (places_to l end) p) now.parted met.old_place);
        short = omega (arith, past, first_up_to rest' end (rising_places_right now.gone rest' end rise'));
      }

  -- what the search has come to at a place
  module _ (found : List Segment) (place : ℕ) (rest rest' : List Segment) (before mid after : List ℕ) (meets : Bool)
      (long : length y + edit.removed ≡ end + edit.inserted) (within : edit.at + edit.removed ≤ end) (up_to : place ≤ length y)
      (rise : IsRising (places_to old end)) (are : AreFound table y edit start old end found place rest before mid)
      (gone : IsGoneTo edit end place meets rest rest' mid after) where
    pub gone_ready : meets ≡ false → IsReady found place rest' before after
    gone_ready none =
        ⊎_elim
        (λ less.
        let still = gone.near less in
        subst (λ k. IsReady found place rest' before k) (sym still.2)
        (subst (λ r. IsReady found place r before mid) (sym still.1) (ready_before found place rest before mid long within less are)))
        (λ behind.
        let skipped = gone.behind behind in
        ready_behind found place rest rest' before mid after long up_to rise behind are skipped.0 (MatchBool-at_false _ _ none skipped.1))
        (cases_lt place (edit.at + edit.inserted))

    pub gone_met : meets ≡ true → AreMet table y edit start old end found place rest' before after
    gone_met here =
        ⊎_elim
        (λ less. let still = gone.near less in absurd (both_ways meets still.0 here))
        (λ behind.
        let skipped = gone.behind behind in
        record {
          are_found = skipped_found found place rest rest' before mid after behind are skipped.0;
          behind = behind;
          meets = MatchBool-at_true _ _ here skipped.1;
        })
        (cases_lt place (edit.at + edit.inserted))

  pub ready_room : (found : List Segment) (place : ℕ) (rest : List Segment) (before after : List ℕ) → IsReady found place rest before after →
      length found + start < length y
  ready_room found place rest before after ready =
      omega (arith, ready.short, segments_go_on table y start place found ready.are_found.segments)

  pub ready_few : (found : List Segment) (place : ℕ) (rest : List Segment) (before after : List ℕ) → IsReady found place rest before after →
      length y ≤ most_characters → ((list : ℕ) → list < length before → get_or before list 0 ≤ most_characters) → (list : ℕ) → list < length after →
      get_or after list 0 + 1 < 4294967296
  ready_few found place rest before after ready small few list short =
      let counted = ready.are_found.counted in
      let short' : list < length before = omega (arith, counted.all) in
      omega (arith, counted.each list short', few list short', count_few found list, ready_room found place rest before after ready)

  pub next_found : (found' : List Segment) (place : ℕ) (rest : List Segment) (before mid after : List ℕ) (found'' : List Segment) →
      IsReady found' place rest before mid → found'' ≡ found' ++ segment_at table y place ∷ [] → IsRecounted [] (segment_at table y place ∷ []) mid after →
      AreFound table y edit start old end found'' (found table y place).at rest before after
  next_found found' place rest before mid after found'' ready is counted =
      let are = ready.are_found in
      let s : Segment = segment_at table y place in
      let past = (found_lies table y place ready.short).0 in
      record {
        gone = are.gone;
        parted = are.parted;
        passed =
            all_through (λ (t : Segment). t.at + edit.inserted < place + edit.removed)
            (λ (t : Segment). t.at + edit.inserted < (found table y place).at + edit.removed) (λ t less. omega (arith, less, past)) are.gone are.passed;
        segments =
            subst (λ l. AreSegments table y start (found table y place).at l) (sym is) (segments_push table y start place found' are.segments ready.short);
        none_met =
            subst (AllByRecursion (λ t. ¬ IsMet edit old end t.at)) (sym is)
            (all_append (λ (t : Segment). ¬ IsMet edit old end t.at) found' (s ∷ []) are.none_met (ready.not_met, tt));
        counted =
            subst (λ l. IsRecounted l found'' before after) (append-nil are.gone)
            (subst (λ l. IsRecounted (are.gone ++ []) l before after) (sym is) (recounted_on are.gone [] found' (s ∷ []) before mid after are.counted counted));
      }
