-- A range with a character, and none.
use Rattle.std.proofs.Common.{◌≡◌, ◌<◌, ◌⊎◌, inl, inr, ap, subst, sym, refl, ◌∙◌, get_or, arith}
use Rattle.std.proofs.lemmas.Bool.{false≢true}
use Rattle.rbbi_model.specs.Ranges.{Range}
use Rattle.rbbi_sets.specs.Rising.{AreRising}
use Rattle.rbbi_sets.proofs.Meanings.{character_of_range, surrogates_alone}
use Rattle.rbbi_sets.proofs.set.CodeSet.holds_character.Goals as goal
use Rattle.rbbi_sets.proofs.set.CodeSet.holds_character.Goals.{then-range-lt55296-via-then-range-lt55296}
use Rattle.rbbi_sets.proofs.set.CodeSet.holds_character.Goals.{then-range-lt55296-via-else-range-lt55296+then-range-gt57343}

pub returns-then-range-lt55296 : goal.returns-then-range-lt55296
returns-then-range-lt55296 c =
    let d = c.range-item.result in
    let items = c.deref-range-items.result.now in
    let inside = c.deref-range-items.ensures.value ∙ c.self.view_is in
    let low : c.range.inside.low ≡ (get_or items c.loop-range.range-index d).low = ap (λ (r : Range). r.low) (c.range.view_is ∙ c.range-item.is) in
    let high : c.range.inside.high ≡ (get_or items c.loop-range.range-index d).high = ap (λ (r : Range). r.high) (c.range.view_is ∙ c.range-item.is) in
    let some : ((get_or items c.loop-range.range-index d).low < 0xD800) ⊎ (0xDFFF < (get_or items c.loop-range.range-index d).high) =
    elim c.then-range-lt55296.branch [
      | then-range-lt55296-via-then-range-lt55296 w ↦ inl (omega (arith, low, w.if-range-lt55296.true))
      | then-range-lt55296-via-else-range-lt55296+then-range-gt57343 w ↦ inr (omega (arith, high, w.if-range-gt57343.true))
    ] in
    let rises : AreRising items = subst AreRising (sym c.deref-range-items.ensures.value) c.self.invariant in
    rw (← inside) (λ t. character_of_range items c.loop-range.range-index d rises (omega arith) some, λ w. refl)

pub returns : goal.returns
returns c =
    let inside = c.deref-range-items.ensures.value ∙ c.self.view_is in
    rw (← inside) (
      λ t. absurd (false≢true t),
      λ w. absurd (w.2 (surrogates_alone c.deref-range-items.result.now w.0 (λ k d l. c.loop-range.invariant k d (omega arith)) w.1)),
    )
