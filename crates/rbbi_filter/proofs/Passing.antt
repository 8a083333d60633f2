-- What going on past suppressed boundaries costs.
use Rattle.std.proofs.Common.{◌≡◌, ℕ, ◌+◌, ◌<◌, true, false, ltb, ◌&&◌, List, [], ◌∷◌, ◌++◌, Option, Some, None, length, refl, ap, ◌∙◌}
use Rattle.std.proofs.Common.{length-append, arith}
use Rattle.std.specs.Prelude.{unwrap_or}
use Rattle.std.proofs.lemmas.Bool.{and_parts, ltb-true, not_from_false, not_from_true}
use Rattle.std.proofs.lemmas.List.Sums.{sum_by-append}
use Rattle.rbbi_model.specs.Boundaries.{Boundary}
use Rattle.rbbi_model.specs.Tables.{Table}
use Rattle.rbbi_model.specs.Searches.{table_boundaries}
use Rattle.rbbi_model.specs.Answers.{first_after, last_before}
use Rattle.rbbi_model.specs.Costs.{forward_cost, back_cost}
use Rattle.rbbi_model.proofs.Covering.{table_covers}
use Rattle.rbbi_filter.specs.Abbreviations.{window_size, ends, window, is_suppressed, kept}
use Rattle.rbbi_filter.specs.FilterCosts.{between, passing_cost, forward_kept_cost, back_kept_cost}
use Rattle.rbbi_filter.proofs.Covering.{passes, kept_covers}
use Rattle.rbbi_filter.proofs.Neighbours.{NextAt, next_at, PriorAt, prior_at, first_lies, sifted_first, sifted_skip, none_between, one_between}
use Rattle.rbbi_filter.proofs.Neighbours.{sifted_last, sifted_back, none_between_back, one_between_back}

-- nothing is passed over
passes_none : (cost : ℕ → ℕ) (place : ℕ) (passed : List Boundary) → passed ≡ [] → passing_cost cost place passed ≡ cost place + window_size
passes_none cost place passed none = ap (passing_cost cost place) none ∙ omega arith

-- one boundary is passed over first
passes_first : (cost : ℕ → ℕ) (place : ℕ) (passed : List Boundary) (here : Boundary) (others : List Boundary) → passed ≡ here ∷ others →
    passing_cost cost place passed ≡ cost place + window_size + passing_cost cost here.at others
passes_first cost place passed here others are =
    ap (passing_cost cost place) are ∙ omega (arith, sum_by-append (λ (b : Boundary). cost b.at) (here ∷ []) others)

-- or last, where it stands last
passes_last : (cost : ℕ → ℕ) (place : ℕ) (passed : List Boundary) (here : Boundary) (others : List Boundary) → passed ≡ others ++ here ∷ [] →
    passing_cost cost place passed ≡ cost place + window_size + passing_cost cost here.at others
passes_last cost place passed here others are =
    ap (passing_cost cost place) are
    ∙ omega (arith, length-append others (here ∷ []), sum_by-append (λ (b : Boundary). cost b.at) others (here ∷ []))

module _ (table : Table) (list : List (List ℕ)) (x : List ℕ) where
  -- what is suppressed lies within the text
  pub suppressed_within : (p : ℕ) → is_suppressed list x p ≡ true → (0 < p) × (p < length x)
  suppressed_within p is =
      let both = and_parts (ltb 0 p) (ltb p (length x) && ends list (window x p)) is in
      (ltb-true 0 p both.0, ltb-true p (length x) (and_parts (ltb p (length x)) (ends list (window x p)) both.1).0)

  next_is : (o p : ℕ) → first_after (table_boundaries table x) o ≡ Some p → NextAt (table_boundaries table x) o p
  next_is o p first = next_at (table_boundaries table x) o p (table_covers table x).rise first

  prior_is : (o p : ℕ) → last_before (table_boundaries table x) o ≡ Some p → PriorAt (table_boundaries table x) o p
  prior_is o p last = prior_at (table_boundaries table x) o p (table_covers table x).rise last

  -- the first boundary past a place isn't suppressed
  pub stops_first : (o p : ℕ) → first_after (table_boundaries table x) o ≡ Some p → is_suppressed list x p ≡ false →
      first_after (kept list x (table_boundaries table x)) o ≡ Some p
  stops_first o p first tells = sifted_first (passes list x) (table_boundaries table x) o p (next_is o p first) (not_from_false (is_suppressed list x p) tells)

  pub stops_cost : (o p : ℕ) → first_after (table_boundaries table x) o ≡ Some p → is_suppressed list x p ≡ false →
      forward_kept_cost table list x o ≡ forward_cost table x o + window_size
  stops_cost o p first tells =
      let all : List Boundary = table_boundaries table x in
      passes_none (forward_cost table x) o _
      (ap (λ m. between all o (unwrap_or m (length x))) (stops_first o p first tells) ∙ none_between (passes list x) all o p (next_is o p first))

  -- it is, and the answer lies past it
  pub goes_first : (o p : ℕ) → first_after (table_boundaries table x) o ≡ Some p → is_suppressed list x p ≡ true →
      first_after (kept list x (table_boundaries table x)) o ≡ first_after (kept list x (table_boundaries table x)) p
  goes_first o p first hides =
      sifted_skip (passes list x) (table_boundaries table x) o p (next_is o p first) (not_from_true (is_suppressed list x p) hides)

  lies_past : (p : ℕ) (place : Option ℕ) → first_after (kept list x (table_boundaries table x)) p ≡ place → p < length x → p < unwrap_or place (length x)
  lies_past p None is short = short
  lies_past p (Some q) is short = first_lies (kept list x (table_boundaries table x)) p q is

  pub goes_cost : (o p : ℕ) → first_after (table_boundaries table x) o ≡ Some p → is_suppressed list x p ≡ true →
      forward_kept_cost table list x o ≡ forward_cost table x o + window_size + forward_kept_cost table list x p
  goes_cost o p first hides =
      let all : List Boundary = table_boundaries table x in
      let next : NextAt (table_boundaries table x) o p = next_is o p first in
      let a : ℕ = unwrap_or (first_after (kept list x all) p) (length x) in
      passes_first (forward_cost table x) o _ next.here (between all p a)
      (ap (λ m. between all o (unwrap_or m (length x))) (goes_first o p first hides)
      ∙ one_between (passes list x) all o p next a (lies_past p (first_after (kept list x all) p) refl (suppressed_within p hides).1))
      ∙ ap (λ n. forward_cost table x o + window_size + passing_cost (forward_cost table x) n (between all p a)) next.at

  -- the last boundary before a place isn't suppressed
  pub stops_last : (o p : ℕ) → last_before (table_boundaries table x) o ≡ Some p → is_suppressed list x p ≡ false →
      last_before (kept list x (table_boundaries table x)) o ≡ Some p
  stops_last o p last tells = sifted_last (passes list x) (table_boundaries table x) o p (prior_is o p last) (not_from_false (is_suppressed list x p) tells)

  pub stops_back_cost : (o p : ℕ) → last_before (table_boundaries table x) o ≡ Some p → is_suppressed list x p ≡ false →
      back_kept_cost table list x o ≡ back_cost table x o + window_size
  stops_back_cost o p last tells =
      let all : List Boundary = table_boundaries table x in
      passes_none (back_cost table x) o _
      (ap (λ m. between all (unwrap_or m 0) o) (stops_last o p last tells) ∙ none_between_back (passes list x) all o p (prior_is o p last))

  -- it is, and the answer lies before it
  pub goes_last : (o p : ℕ) → last_before (table_boundaries table x) o ≡ Some p → is_suppressed list x p ≡ true →
      last_before (kept list x (table_boundaries table x)) o ≡ last_before (kept list x (table_boundaries table x)) p
  goes_last o p last hides =
      sifted_back (passes list x) (table_boundaries table x) o p (prior_is o p last) (not_from_true (is_suppressed list x p) hides)

  lies_before : (p : ℕ) (place : Option ℕ) → last_before (kept list x (table_boundaries table x)) p ≡ place → 0 < p → unwrap_or place 0 < p
  lies_before p None is some = some
  lies_before p (Some q) is some = (prior_at (kept list x (table_boundaries table x)) p q (kept_covers list table x).rise is).short

  pub goes_back_cost : (o p : ℕ) → last_before (table_boundaries table x) o ≡ Some p → is_suppressed list x p ≡ true →
      back_kept_cost table list x o ≡ back_cost table x o + window_size + back_kept_cost table list x p
  goes_back_cost o p last hides =
      let all : List Boundary = table_boundaries table x in
      let prior : PriorAt (table_boundaries table x) o p = prior_is o p last in
      let a : ℕ = unwrap_or (last_before (kept list x all) p) 0 in
      passes_last (back_cost table x) o _ prior.here (between all a p)
      (ap (λ m. between all (unwrap_or m 0) o) (goes_last o p last hides)
      ∙ one_between_back (passes list x) all o p prior a (lies_before p (last_before (kept list x all) p) refl (suppressed_within p hides).0))
      ∙ ap (λ n. back_cost table x o + window_size + passing_cost (back_cost table x) n (between all a p)) prior.at
