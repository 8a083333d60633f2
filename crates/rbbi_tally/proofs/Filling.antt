-- Pieces that are filled by searches.
use Rattle.std.proofs.Common.{ℕ, ◌+◌, ◌<◌, ◌≤◌, ◌⊎◌, ◌∷◌, [], List, length, get_or, ap, ⊎_elim, arith}
use Rattle.std.specs.List.{AllByRecursion}
use Rattle.rbbi_model.specs.Words.{most_characters}
use Rattle.rbbi_model.specs.Tables.{Table}
use Rattle.rbbi_model.proofs.Lists.{all_through}
use Rattle.rbbi_tally.specs.declared.kept.Kept.{Kept}
use Rattle.rbbi_tally.specs.inner.Segments.{Segment, AreSegments}
use Rattle.rbbi_tally.specs.inner.Counting.{IsRecounted}
use Rattle.rbbi_tally.specs.inner.Pieces.{segments_by, most_looked, BeginAtStart}
use Rattle.rbbi_tally.proofs.SegmentLists.{IsInText, segments_in_text, segments_go_on}
use Rattle.rbbi_tally.proofs.Counted.{count_few}

module _ (table : Table) (x : List ℕ) where
  pub begin_of : (start to : ℕ) (items : List Kept) → AreSegments table x start to (segments_by start items) → 0 < length items → BeginAtStart items
  begin_of start to [] are some = absurd (omega (arith, some))
  begin_of start to (k ∷ items) are some = omega (arith, ap (λ s. s.at) are.1)

  pub some_found : (start to : ℕ) (items : List Kept) → AreSegments table x start to (segments_by start items) → start < length x →
      (length x ≤ to) ⊎ (1536 ≤ length items) → 0 < length items
  some_found start to [] are short end = absurd (cases end)
    where
      cases : (length x ≤ to) ⊎ (1536 ≤ 0) → ⊥
      cases end' = ⊎_elim (λ at_end. omega (arith, are)) (λ full. omega (arith, full)) end'
  some_found start to (k ∷ items) are short end = omega arith

  pub looks_small : (from to : ℕ) (ss : List Segment) → AreSegments table x from to ss → length x ≤ most_characters →
      AllByRecursion (λ s. s.look ≤ most_looked) ss
  looks_small from to ss are small =
      all_through (IsInText x) (λ (s : Segment). s.look ≤ most_looked) (λ s within. omega (arith, within.look)) ss (segments_in_text table x from to ss are)

  -- no count can be too large
  pub counts_small : (start to : ℕ) (items : List Kept) (before after : List ℕ) → AreSegments table x start to (segments_by start items) →
      to < length x → length x ≤ most_characters → IsRecounted [] (segments_by start items) before after →
      ((list : ℕ) → list < length before → get_or before list 0 ≤ start) → (list : ℕ) → list < length after → get_or after list 0 + 1 < 4294967296
  counts_small start to items before after are short small counted few list within =
      let within' : list < length before = omega (arith, counted.all) in
      omega (
        arith,
        counted.each list within',
        few list within',
        count_few (segments_by start items) list,
        segments_go_on table x start to (segments_by start items) are,
      )
