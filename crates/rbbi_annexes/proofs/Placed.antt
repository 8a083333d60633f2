-- The places of the boundaries by a rule are those at which it breaks.
use Rattle.std.proofs.Common.{◌≡◌, ℕ, ◌+◌, Bool, List, [], ◌∷◌, ap, sym, ◌∙◌, ⊎_elim}
use Rattle.std.proofs.lemmas.Bool.{cases_Bool, cond-true, cond-false}
use Rattle.unicode_segmentation.specs.Segments.{Rule}
use Rattle.rbbi_model.specs.Boundaries.{Boundary}
use Rattle.rbbi_model.specs.Cover.{places}
use Rattle.rbbi_annexes.specs.Breaks.{breaks_from, breaks_of, SpellBreaksBy}
use Rattle.rbbi_annexes.specs.Statuses.{marked, boundaries_from, boundaries_by, SpellBoundaries}
use Rattle.rbbi_annexes.proofs.Ends.{BreaksAtEnds}

module _ (rule : Rule) (status : List ℕ → ℕ) (ends : BreaksAtEnds rule) where
  places_from : (behind before segment : List ℕ) (at : ℕ) →
      places (boundaries_from rule status segment before behind at) ≡ breaks_from rule before behind at
  places_from [] before segment at = sym (cond-true (rule before []) (at ∷ []) [] (ends.end before))
  places_from (c ∷ behind) before segment at =
      let breaks : Bool = rule before (c ∷ behind) in
      let ended : List Boundary = marked at (status segment) ∷ boundaries_from rule status (c ∷ []) (c ∷ before) behind (at + 1) in
      let longer : List Boundary = boundaries_from rule status (c ∷ segment) (c ∷ before) behind (at + 1) in
      let further : List ℕ = breaks_from rule (c ∷ before) behind (at + 1) in
      ⊎_elim
      (λ is.
      ap places (cond-true breaks ended longer is)
      ∙ ap (λ ps. at ∷ ps) (places_from behind (c ∷ before) (c ∷ []) (at + 1))
      ∙ sym (cond-true breaks (at ∷ further) further is))
      (λ isnt.
      ap places (cond-false breaks ended longer isnt)
      ∙ places_from behind (c ∷ before) (c ∷ segment) (at + 1)
      ∙ sym (cond-false breaks (at ∷ further) further isnt))
      (cases_Bool breaks)

  places_are : (x : List ℕ) → places (boundaries_by rule status x) ≡ breaks_of rule x
  places_are [] = sym (cond-true (rule [] []) (0 ∷ []) [] (ends.start []))
  places_are (c ∷ behind) =
      let further : List ℕ = breaks_from rule (c ∷ []) behind 1 in
      ap (λ ps. 0 ∷ ps) (places_from behind (c ∷ []) (c ∷ []) 1)
      ∙ sym (cond-true (rule [] (c ∷ behind)) (0 ∷ further) further (ends.start (c ∷ behind)))

  -- so a table that gives the boundaries by the rule breaks texts as the rule does
  pub spell_breaks : (bytes : List ℕ) → SpellBoundaries bytes rule status → SpellBreaksBy bytes rule
  spell_breaks bytes give table valid spelled x is = ap places (give table valid spelled x is) ∙ places_are x
