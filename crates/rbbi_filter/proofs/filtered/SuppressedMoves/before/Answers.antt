use Rattle.std.proofs.Common.{◌≡◌, ◌<◌, true, Some, refl, ap, ◌∙◌, subst, arith}
use Rattle.rbbi_model.specs.Answers.{Preceding}
use Rattle.rbbi_session.specs.Sessions.{place_reply}
use Rattle.rbbi_session.specs.Sessions as plain
use Rattle.rbbi_filter.specs.Abbreviations.{is_suppressed}
use Rattle.rbbi_filter.proofs.Filtering.{IsPassingBack, same_at_first, looked_told, looked_hidden, back_there, back_stops, back_goes}
use Rattle.rbbi_filter.proofs.Stretches.{back_far}
use Rattle.rbbi_filter.proofs.filtered.SuppressedMoves.before.Given.{Over}
use Rattle.rbbi_filter.proofs.filtered.SuppressedMoves.before.Goals as goal
use Rattle.rbbi_filter.proofs.filtered.SuppressedMoves.before.Goals.{After-text, After-is_suppressed}

-- the session has gone to a boundary of its own
answered : (g : Over) (c : After-text g) → plain.Answers c.loop-at.self-inside.session (Preceding c.loop-at.from) (place_reply (Some c.in-Some.at))
    c.preceding.new.self
answered g c =
    subst (λ r. plain.Answers c.loop-at.self-inside.session (Preceding c.loop-at.from) (place_reply r) c.preceding.new.self) c.in-Some.is
    c.preceding.ensures.answers

moved : (g : Over) (c : After-text g) → c.preceding.new.self.state ≡ record { text = c.args.self.now.state.text; cursor = c.in-Some.at }
moved g c =
    back_there (g.A.Lists.list_of c.loop-at.self-inside.held) c.args.self.now c.args.o c.loop-at.self-inside.session c.preceding.new.self c.loop-at.from c.args.steps.now
    c.loop-at.steps c.loop-at.invariant.passing c.in-Some.at (answered g c)

same : (g : Over) (c : After-text g) → g.T.Chars.characters c.text.result.now ≡ c.args.self.now.state.text
same g c = c.text.ensures ∙ ap (λ s. s.text) (moved g c)

pub loop-at-init : goal.loop-at-init
loop-at-init g c = record {
  passing = record {
    same = same_at_first (g.A.Lists.list_of c.self.inside.held) c.self.inside.session c.args.self.now c.self.view_is;
    some = c.requires.some;
    within = c.requires.within;
    last = refl;
    more = omega arith;
    paid = omega arith;
  };
  left = omega arith;
}

pub invariant_of-self : goal.invariant_of-self
invariant_of-self g c =
    let here = (goal.at.invariant_of-self g c).After-text in
    ap (λ s. is_suppressed (g.A.Lists.list_of c.loop-at.self-inside.held) s.text s.cursor) (moved g here)
    ∙ looked_told (g.A.Lists.list_of c.loop-at.self-inside.held) c.args.self.now.state.text _ c.in-Some.at c.is_suppressed.result c.is_suppressed.ensures.exact
    (same g here) c.if-not-is_suppressed.true

pub returns-then-not-is_suppressed : goal.returns-then-not-is_suppressed
returns-then-not-is_suppressed g c =
    let here = (goal.at.returns-then-not-is_suppressed g c).After-text in
    let list = (g.A.Lists.list_of c.loop-at.self-inside.held) in
    let tells = looked_told list c.args.self.now.state.text _ c.in-Some.at c.is_suppressed.result c.is_suppressed.ensures.exact (same g here)
    c.if-not-is_suppressed.true in
    let stops = back_stops list c.args.self.now c.args.o c.loop-at.self-inside.session c.preceding.new.self c.loop-at.from c.args.steps.now c.loop-at.steps
    c.loop-at.invariant.passing c.in-Some.at c.preceding.new.steps c.is_suppressed.new.steps (answered g here)
    (record { more = c.preceding.ensures.reads.more; cost = c.preceding.ensures.reads.cost }) c.is_suppressed.ensures.cost tells in
    record { last = stops.0; moved = stops.1; cost = stops.2 }

passed : (g : Over) (c : After-is_suppressed g) → c.is_suppressed.result ≡ true → g.T.Chars.characters c.text.result.now ≡ c.args.self.now.state.text →
    plain.Answers c.loop-at.self-inside.session (Preceding c.loop-at.from) (place_reply (Some c.in-Some.at)) c.preceding.new.self →
    IsPassingBack (g.A.Lists.list_of c.loop-at.self-inside.held) c.args.self.now c.args.o c.preceding.new.self c.in-Some.at c.args.steps.now c.is_suppressed.new.steps
    × (c.in-Some.at < c.loop-at.from)
passed g c is same replied =
    let list = (g.A.Lists.list_of c.loop-at.self-inside.held) in
    let hides = looked_hidden list c.args.self.now.state.text _ c.in-Some.at c.is_suppressed.result c.is_suppressed.ensures.exact same is in
    back_goes list c.args.self.now c.args.o c.loop-at.self-inside.session c.preceding.new.self c.loop-at.from c.args.steps.now c.loop-at.steps
    c.loop-at.invariant.passing c.in-Some.at c.preceding.new.steps c.is_suppressed.new.steps replied
    (record { more = c.preceding.ensures.reads.more; cost = c.preceding.ensures.reads.cost }) c.is_suppressed.ensures.cost hides

pub loop-at-preserved : goal.loop-at-preserved
loop-at-preserved g c =
    let here = (goal.at.loop-at-preserved g c).After-text in
    let goes = passed g (goal.at.loop-at-preserved g c).After-is_suppressed c.if-not-is_suppressed.false (same g here) (answered g here) in
    record { passing = goes.0; left = omega (arith, c.if-left-eq0.false) }

pub returns-then-left-eq0 : goal.returns-then-left-eq0
returns-then-left-eq0 g c =
    let here = (goal.at.returns-then-left-eq0 g c).After-text in
    let goes = passed g (goal.at.returns-then-left-eq0 g c).After-is_suppressed c.if-not-is_suppressed.false (same g here) (answered g here) in
    let far = back_far (g.A.Lists.list_of c.loop-at.self-inside.held) c.args.self.now c.args.o c.preceding.new.self c.in-Some.at c.args.steps.now c.is_suppressed.new.steps
    goes.0 c.far_before.result c.far_before.new.session c.far_before.new.steps c.far_before.ensures in
    record { last = far.0; moved = far.1; cost = far.2 }
