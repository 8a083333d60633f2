-- What an edit leaves of the segments: those whose searches don't look past it stay, and those behind it are moved.
use Rattle.std.proofs.Common.{◌≡◌, ℕ, ◌+◌, ◌-◌, ◌≤◌, List, [], ◌∷◌, map, sym, refl, ap, ◌∙◌, subst, arith}
use Rattle.std.specs.List.{AllByRecursion}
use Rattle.rbbi_model.specs.Tables.{Table}
use Rattle.rbbi_model.specs.Searches.{look_end, found}
use Rattle.rbbi_model.proofs.SearchesAlike.{finds_alike}
use Rattle.rbbi_model.proofs.Found.{found_lies, look_lies}
use Rattle.rbbi_cache.specs.Edits.{IsSpliced}
use Rattle.rbbi_cache.proofs.Texts.{alike_before, room_before, alike_behind, room_behind}
use Rattle.rbbi_tally.specs.inner.Segments.{Segment, segment_at, AreSegments, moved}
use Rattle.rbbi_tally.proofs.PieceLists.{same_segment}

module _ (table : Table) (x y : List ℕ) (at removed inserted : ℕ) (edited : IsSpliced x y at removed inserted) where
  pub segments_kept : (from to : ℕ) (these : List Segment) → AreSegments table x from to these → AllByRecursion (λ s. s.look ≤ at) these →
      AreSegments table y from to these
  segments_kept from to [] are short = are
  segments_kept from to (s ∷ these) are short =
      let look : s.look ≡ look_end table x from = ap (λ t. t.look) are.1 in
      let near : look_end table x from ≤ at = omega (arith, short.0) in
      let alike = finds_alike table x y from from (alike_before x y at removed inserted edited table from are.0 near) in
      let same_look : look_end table x from ≡ look_end table y from = omega (arith, alike.look) in
      let same_place : (found table x from).at ≡ (found table y from).at = omega (arith, alike.at) in
      let same : segment_at table x from ≡ segment_at table y from =
      same_segment (segment_at table x from) (segment_at table y from) refl same_look (sym alike.list) in (
        room_before x y at removed inserted edited table from are.0 near,
        are.1 ∙ same,
        subst (λ p. AreSegments table y p to these) same_place (segments_kept (found table x from).at to these are.2 short.1),
      )

  pub segments_moved : (from to : ℕ) (these : List Segment) → at + removed ≤ from → AreSegments table x from to these →
      AreSegments table y (from + inserted - removed) (to + inserted - removed) (map (moved removed inserted) these)
  segments_moved from to [] behind are = ap (λ p. p + inserted - removed) are
  segments_moved from to (s ∷ these) behind are =
      let there : ℕ = from + inserted - removed in
      let alike = finds_alike table x y from there (alike_behind x y at removed inserted edited table from behind are.0) in
      let past = found_lies table x from are.0 in
      let looks = look_lies table x from are.0 in
      let same_look : look_end table x from + inserted - removed ≡ look_end table y there = omega (arith, alike.look, looks.0) in
      let same_place : (found table x from).at + inserted - removed ≡ (found table y there).at = omega (arith, alike.at, past.0) in
      let same : moved removed inserted (segment_at table x from) ≡ segment_at table y there =
      same_segment (moved removed inserted (segment_at table x from)) (segment_at table y there) refl same_look (sym alike.list) in (
        room_behind x y at removed inserted edited from behind are.0,
        ap (moved removed inserted) are.1 ∙ same,
        subst (λ p. AreSegments table y p (to + inserted - removed) (map (moved removed inserted) these)) same_place
            (segments_moved (found table x from).at to these (omega (arith, past.0)) are.2),
      )
