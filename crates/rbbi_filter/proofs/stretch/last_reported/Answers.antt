use Rattle.std.proofs.Common.{◌≡◌, ◌+◌, ◌-◌, ◌<◌, ◌≤◌, inl, inr, length, ap, ◌∙◌, subst, sym, arith}
use Rattle.rbbi_model.specs.Words.{IsText}
use Rattle.rbbi_session.specs.Stretches.{stretch_cost}
use Rattle.rbbi_filter.specs.Abbreviations.{window}
use Rattle.rbbi_filter.specs.inner.Trails.{IsTrail}
use Rattle.rbbi_filter.proofs.Stretches.{IsFound, IsTested, WentOn, went_on, are_few, of_text, answer_is, stretch_goes_on, found_next, found_all}
use Rattle.rbbi_filter.proofs.stretch.last_reported.Given.{Over}
use Rattle.rbbi_filter.proofs.stretch.last_reported.Goals as goal
use Rattle.rbbi_filter.proofs.stretch.last_reported.Goals.{After-chars, After-search_on, then-not-ends, else-not-ends}

text_of : (g : Over) (c : After-chars g) → IsText c.args.session.now.state.text
text_of g c = subst IsText c.text.ensures c.len-length.ensures.text

-- the cursor stands before the place up to which the way goes
here_within : (g : Over) (c : After-chars g) → c.boundary-here.result.at < length c.args.session.now.state.text
here_within g c = omega (arith, c.boundary-here.ensures.at, c.boundaries.invariant.short, c.requires.within)

chars_are : (g : Over) (c : After-chars g) → c.chars.result.now ≡ window c.args.session.now.state.text c.boundary-here.result.at
chars_are g c =
    let x = c.args.session.now.state.text in
    let is = subst (λ y. IsTrail y c.go_on.new.self) (c.text-in-boundaries.ensures ∙ c.boundaries.invariant.text_is) c.go_on.ensures.is in
    c.chars.ensures x is (omega (arith, c.go_on.ensures.at, here_within g c)) ∙ ap (window x) c.go_on.ensures.at

pub ends-requires-clause-text : goal.ends-requires-clause-text
ends-requires-clause-text g c =
    let here = (goal.at.ends-requires-clause-text g c).After-chars in
    of_text c.args.session.now.state.text (text_of g here) c.boundary-here.result.at c.chars.result.now (chars_are g here)

pub ends-requires-clause-short : goal.ends-requires-clause-short
ends-requires-clause-short g c =
    let here = (goal.at.ends-requires-clause-short g c).After-chars in
    are_few c.args.session.now.state.text (text_of g here) c.boundary-here.result.at c.chars.result.now (chars_are g here)

gone_on : (g : Over) (c : After-search_on g) → WentOn c.args.session.now c.boundary-here.result c.search_on.result c.search_on.new.self c.go_on.new.steps
    c.search_on.new.steps
gone_on g c =
    went_on c.args.session.now c.boundaries.session c.boundaries.invariant.table_is c.boundaries.invariant.text_is c.boundary-here.result
    c.boundary-here.ensures.at c.boundary-here.ensures.boundary c.search_on.result c.search_on.ensures.first c.search_on.new.self c.search_on.ensures.moved
    c.go_on.new.steps c.search_on.new.steps c.search_on.ensures.read

tested : (g : Over) (c : After-search_on g) → c.chars.result.now ≡ window c.args.session.now.state.text c.boundary-here.result.at →
    IsText c.args.session.now.state.text → c.boundary-here.result.at < length c.args.session.now.state.text →
    IsTested (g.A.Lists.list_of c.args.held.now) c.args.session.now.state.text c.boundary-here.result c.boundaries.last c.if-not-ends.last
tested g c chars text within =
    let is = answer_is c.args.session.now.state.text text c.boundary-here.result.at c.chars.result.now chars (g.A.Lists.list_of c.args.held.now)
    (omega (arith, c.requires.some, c.boundaries.invariant.from, c.boundary-here.ensures.at)) within c.ends.result c.ends.ensures in
    elim c.if-not-ends.branch [
      | then-not-ends w ↦ inr (sym is ∙ w.if-not-ends.true, w.last-is)
      | else-not-ends w ↦ inl (sym is ∙ w.if-not-ends.false, w.last-is)
    ]

-- what was found before the boundary
found_here : (g : Over) (c : After-search_on g) → IsFound (g.A.Lists.list_of c.args.held.now) c.args.session.now.table c.args.session.now.state.text
    c.args.session.now.state.cursor c.boundary-here.result.at c.boundaries.last
found_here g c =
    subst (λ n. IsFound (g.A.Lists.list_of c.args.held.now) c.args.session.now.table c.args.session.now.state.text c.args.session.now.state.cursor n c.boundaries.last)
    (sym c.boundary-here.ensures.at) c.boundaries.invariant.found

-- what was read up to the next boundary
read : (g : Over) (c : After-search_on g) → c.search_on.new.steps
    + stretch_cost c.args.session.now.table c.args.session.now.state.text c.search_on.result c.args.o
    ≤ c.args.steps.now + 64 + (c.boundary-here.result.at - c.args.session.now.state.cursor)
    + stretch_cost c.args.session.now.table c.args.session.now.state.text c.args.session.now.state.cursor c.args.o
read g c =
    let old = c.args.session.now in
    let gone = gone_on g c in
    omega (
      arith,
      c.boundaries.invariant.cost,
      c.go_on.ensures.read.cost,
      gone.read,
      c.boundary-here.ensures.at,
      ap (λ n. stretch_cost old.table old.state.text n c.args.o) c.boundary-here.ensures.at,
      stretch_goes_on old.table old.state.text c.boundary-here.result.at c.boundary-here.result.status c.search_on.result gone.is gone.follows gone.past
          c.args.o
          (omega (arith, c.boundary-here.ensures.at, c.boundaries.invariant.short)),
    )

pub returns-then-search_on-o-clause-found : goal.returns-then-search_on-o-clause-found
returns-then-search_on-o-clause-found g c =
    let here = (goal.at.returns-then-search_on-o-clause-found g c).After-search_on in
    let asked = (goal.at.returns-then-search_on-o-clause-found g c).After-chars in
    let old = c.args.session.now in
    let gone = gone_on g here in
    found_all (g.A.Lists.list_of c.args.held.now) old.table old.state.text old.state.cursor c.boundary-here.result gone.is c.search_on.result gone.follows gone.past c.args.o
    (omega (arith, c.boundary-here.ensures.at, c.boundaries.invariant.short)) c.if-search_on-o.true c.boundaries.last c.if-not-ends.last (found_here g here)
    (tested g here (chars_are g asked) (text_of g asked) (here_within g asked))

pub returns-then-search_on-o-clause-cost : goal.returns-then-search_on-o-clause-cost
returns-then-search_on-o-clause-cost g c =
    omega (
      arith,
      read g (goal.at.returns-then-search_on-o-clause-cost g c).After-search_on,
      c.boundary-here.ensures.at,
      c.boundaries.invariant.short,
      c.boundaries.invariant.from,
    )

pub boundaries-smaller : goal.boundaries-smaller
boundaries-smaller g c =
    let gone = gone_on g (goal.at.boundaries-smaller g c).After-search_on in
    omega (arith, gone.past, gone.cursor_is, c.boundary-here.ensures.at, c.boundaries.invariant.short)

pub boundaries-preserved : goal.boundaries-preserved
boundaries-preserved g c =
    let here = (goal.at.boundaries-preserved g c).After-search_on in
    let asked = (goal.at.boundaries-preserved g c).After-chars in
    let old = c.args.session.now in
    let gone = gone_on g here in
    record {
      table_is = gone.table_is;
      text_is = gone.text_is;
      from = omega (arith, c.boundaries.invariant.from, c.boundary-here.ensures.at, gone.past, gone.cursor_is);
      short = omega (arith, gone.cursor_is, c.if-search_on-o.false);
      trail = subst (λ y. IsTrail y c.go_on.new.self) (c.text-in-boundaries.ensures ∙ c.boundaries.invariant.text_is) c.go_on.ensures.is;
      behind = omega (arith, c.go_on.ensures.at, gone.past, gone.cursor_is);
      found = subst (λ n. IsFound (g.A.Lists.list_of c.args.held.now) old.table old.state.text old.state.cursor n c.if-not-ends.last) (sym gone.cursor_is)
          (found_next (g.A.Lists.list_of c.args.held.now) old.table old.state.text old.state.cursor c.boundary-here.result gone.is c.search_on.result gone.follows gone.past
          c.boundaries.last c.if-not-ends.last (found_here g here) (tested g here (chars_are g asked) (text_of g asked) (here_within g asked)));
      more = omega (arith, c.boundaries.invariant.more, c.go_on.ensures.read.more, gone.more);
      cost = omega (
        arith,
        read g here,
        c.boundaries.invariant.from,
        c.boundary-here.ensures.at,
        c.go_on.ensures.at,
        gone.past,
        gone.cursor_is,
        ap (λ n. stretch_cost old.table old.state.text n c.args.o) gone.cursor_is,
      );
    }
