use Rattle.std.proofs.Common.{sym, ap, ◌∙◌, subst}
use Rattle.rbbi_model.specs.Cover.{IsPlaceOf}
use Rattle.rbbi_model.specs.Units.{offset_of}
use Rattle.rbbi_session.specs.UnitSessions.{InUnit}
use Rattle.rbbi_session.specs.KnownPlaces.{IsKnown}
use Rattle.rbbi_session.specs.Walks.{reported}
use Rattle.rbbi_session.specs.inner.UnitPlaces.{StandsAt}
use Rattle.rbbi_session.proofs.UnitAnswering.{place_in_text}
use Rattle.rbbi_session.proofs.in_unit.InUnit.here.Goals as goal

pub returns-clause-stands : goal.returns-clause-stands
returns-clause-stands g c =
    subst (λ (s : InUnit _). StandsAt g.W.Walk.view s.asked) c.self.view_is (record {
      cover = c.laws.ensures.cover;
      counts = c.counts_characters.ensures;
      at = subst (IsPlaceOf (reported g.W.Walk.view c.self.inside.asked)) c.current.ensures.at c.current.ensures.boundary;
    })

pub returns-clause-known : goal.returns-clause-known
returns-clause-known g c =
    let s = c.self.inside in
    subst (λ (v : InUnit _). IsKnown v.unit (g.W.Walk.view.state v.asked).text (record { at = c.current.result; offset = s.offset })) c.self.view_is (record {
      within = place_in_text g.W.Walk.view c.laws.ensures.cover c.counts_characters.ensures s.asked c.current.result c.current.ensures.boundary;
      offset_is = c.self.invariant.0 ∙ ap (λ p. offset_of s.unit (g.W.Walk.view.state s.asked).text p) (sym c.current.ensures.at);
    })
