use Rattle.std.proofs.Common.{ap, sym, ◌∙◌, Some}
use Rattle.std.proofs.lemmas.Slice.Eq.{slice_eq-Decides}
use Rattle.rbbi_sets.proofs.Determined.{Decides-range}
use Rattle.rbbi_resolve.proofs.properties.are_same.Goals as goal

pub returns-in-Some-second : goal.returns-in-Some-second
returns-in-Some-second c = λ eq.
    let same = (slice_eq-Decides Decides-range _ _ c.eq.result c.eq.ensures).0 eq in
    c.in-Some.is ∙ ap Some (sym c.ranges-in-Some-second.ensures.value ∙ same ∙ c.ranges-in-Some-second-2.ensures.value) ∙ sym c.in-Some-second.is
