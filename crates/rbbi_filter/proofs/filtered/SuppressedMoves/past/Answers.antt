use Rattle.std.proofs.Common.{◌≡◌, Some, ◌≤◌, length, refl, sym, ap, ◌∙◌, subst, arith}
use Rattle.rbbi_model.specs.Answers.{Following}
use Rattle.rbbi_session.specs.Sessions.{place_reply}
use Rattle.rbbi_session.specs.Sessions as plain
use Rattle.rbbi_filter.specs.Abbreviations.{is_suppressed}
use Rattle.rbbi_filter.proofs.Filtering.{same_at_first, looked_told, looked_hidden, moved_there, passing_stops, passing_goes, found_within}
use Rattle.rbbi_filter.proofs.filtered.SuppressedMoves.past.Given.{Over}
use Rattle.rbbi_filter.proofs.filtered.SuppressedMoves.past.Goals as goal
use Rattle.rbbi_filter.proofs.filtered.SuppressedMoves.past.Goals.{After-text}

-- the session has gone to a boundary of its own
answered : (g : Over) (c : After-text g) → plain.Answers c.loop-at.self-inside.session (Following c.loop-at.from) (place_reply (Some c.in-Some.at))
    c.following.new.self
answered g c =
    subst (λ r. plain.Answers c.loop-at.self-inside.session (Following c.loop-at.from) (place_reply r) c.following.new.self) c.in-Some.is
    c.following.ensures.answers

moved : (g : Over) (c : After-text g) → c.following.new.self.state ≡ record { text = c.args.self.now.state.text; cursor = c.in-Some.at }
moved g c =
    moved_there (g.A.Lists.list_of c.loop-at.self-inside.held) c.args.self.now c.args.o c.loop-at.self-inside.session c.following.new.self c.loop-at.from c.args.steps.now
    c.loop-at.steps c.loop-at.invariant.passing c.in-Some.at (answered g c)

same : (g : Over) (c : After-text g) → g.T.Chars.characters c.text.result.now ≡ c.args.self.now.state.text
same g c = c.text.ensures ∙ ap (λ s. s.text) (moved g c)

pub loop-at-init : goal.loop-at-init
loop-at-init g c = record {
  passing = record {
    same = same_at_first (g.A.Lists.list_of c.self.inside.held) c.self.inside.session c.args.self.now c.self.view_is;
    within = c.requires;
    first = refl;
    more = omega arith;
    paid = omega arith;
  };
}

pub is_suppressed-requires : goal.is_suppressed-requires
is_suppressed-requires g c =
    let here = (goal.at.is_suppressed-requires g c).After-text in
    subst (λ x. c.in-Some.at ≤ length x) (sym (same g here))
    (found_within (g.A.Lists.list_of c.loop-at.self-inside.held) c.args.self.now c.args.o c.loop-at.self-inside.session c.following.new.self c.loop-at.from
    c.args.steps.now c.loop-at.steps c.loop-at.invariant.passing c.in-Some.at (answered g here))

pub invariant_of-self : goal.invariant_of-self
invariant_of-self g c =
    let here = (goal.at.invariant_of-self g c).After-text in
    ap (λ s. is_suppressed (g.A.Lists.list_of c.loop-at.self-inside.held) s.text s.cursor) (moved g here)
    ∙ looked_told (g.A.Lists.list_of c.loop-at.self-inside.held) c.args.self.now.state.text _ c.in-Some.at c.is_suppressed.result c.is_suppressed.ensures.exact
    (same g here) c.if-not-is_suppressed.true

pub returns-then-not-is_suppressed : goal.returns-then-not-is_suppressed
returns-then-not-is_suppressed g c =
    let here = (goal.at.returns-then-not-is_suppressed g c).After-text in
    let list = (g.A.Lists.list_of c.loop-at.self-inside.held) in
    let tells = looked_told list c.args.self.now.state.text _ c.in-Some.at c.is_suppressed.result c.is_suppressed.ensures.exact (same g here)
    c.if-not-is_suppressed.true in
    let stops = passing_stops list c.args.self.now c.args.o c.loop-at.self-inside.session c.following.new.self c.loop-at.from c.args.steps.now c.loop-at.steps
    c.loop-at.invariant.passing c.in-Some.at c.following.new.steps c.is_suppressed.new.steps (answered g here)
    (record { more = c.following.ensures.reads.more; cost = c.following.ensures.reads.cost }) c.is_suppressed.ensures.cost tells in
    record { first = stops.0; moved = stops.1; cost = stops.2 }

pub loop-at-preserved : goal.loop-at-preserved
loop-at-preserved g c =
    let here = (goal.at.loop-at-preserved g c).After-text in
    let list = (g.A.Lists.list_of c.loop-at.self-inside.held) in
    let hides = looked_hidden list c.args.self.now.state.text _ c.in-Some.at c.is_suppressed.result c.is_suppressed.ensures.exact (same g here)
    c.if-not-is_suppressed.false in
    let goes = passing_goes list c.args.self.now c.args.o c.loop-at.self-inside.session c.following.new.self c.loop-at.from c.args.steps.now c.loop-at.steps
    c.loop-at.invariant.passing c.in-Some.at c.following.new.steps c.is_suppressed.new.steps (answered g here)
    (record { more = c.following.ensures.reads.more; cost = c.following.ensures.reads.cost }) c.is_suppressed.ensures.cost hides in
    record { passing = goes.0 }
