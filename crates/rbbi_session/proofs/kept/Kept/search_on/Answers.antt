use Rattle.std.proofs.Common.{◌≡◌, ◌<◌, Some, length, sym, ap, ◌∙◌, subst}
use Rattle.rbbi_model.specs.Answers.{first_after}
use Rattle.rbbi_cache.specs.Kept.{AreTrueRuns}
use Rattle.rbbi_session.specs.Scans.{IsBoundaryWith}
use Rattle.rbbi_session.specs.Sessions.{boundaries_of}
use Rattle.rbbi_session.specs.inner.Keeping.{kept_session}
use Rattle.rbbi_session.proofs.Asked.{standing}
use Rattle.rbbi_session.proofs.Stretching.{found_is}
use Rattle.rbbi_session.proofs.kept.Kept.search_on.Given.{Over}
use Rattle.rbbi_session.proofs.kept.Kept.search_on.Goals as goal
use Rattle.rbbi_session.proofs.kept.Kept.search_on.Goals.{After-search-found}

-- the session as it was, by what is in the box
was : (g : Over) (c : After-search-found g) → standing c.args.table.now (g.T.Chars.characters c.deref_mut-body.result.now.text)
    c.deref_mut-body.result.now.here.at c.deref_mut-body.result.now.cache.runs ≡ kept_session c.args.table.now c.args.self.now
was g c =
    subst (λ k. standing c.args.table.now (g.T.Chars.characters k.text) k.here.at k.cache.runs ≡ kept_session c.args.table.now c.args.self.now)
    (sym c.deref_mut-body.ensures.value) (ap (kept_session c.args.table.now) c.self.view_is)

found : (g : Over) (c : After-search-found g) → IsBoundaryWith c.args.table.now (g.T.Chars.characters c.deref_mut-body.result.now.text)
    c.search-found.result.at c.search-found.result.status
    × (first_after (boundaries_of (standing c.args.table.now (g.T.Chars.characters c.deref_mut-body.result.now.text)
    c.deref_mut-body.result.now.here.at c.deref_mut-body.result.now.cache.runs)) c.deref_mut-body.result.now.here.at ≡ Some c.search-found.result.at)
found g c =
    let body = c.deref_mut-body.result.now in
    found_is c.args.table.now c.valid.ensures (g.T.Chars.characters body.text) body.here.at body.here.status
    (subst (λ k. IsBoundaryWith c.args.table.now (g.T.Chars.characters k.text) k.here.at k.here.status) (sym c.deref_mut-body.ensures.value)
    (subst (λ k. IsBoundaryWith c.args.table.now k.state.text k.state.cursor k.list) (sym c.self.view_is) c.requires.by.reached))
    (subst (λ s. s.state.cursor < length s.state.text) (sym (was g c)) c.requires.within)
    c.new-near.result c.new-near.ensures c.search-found.result.at c.search-found.result.status c.search-found.ensures.at c.search-found.ensures.status

pub returns-clause-by : goal.returns-clause-by
returns-clause-by g c =
    let here = (goal.at.returns-clause-by g c).After-search-found in
    let body = c.deref_mut-body.result.now in
    record {
      reached = (found g here).0;
      fit = ap (λ k. k.slashes) c.search-found.ensures.same ∙ ap (λ k. k.cache.slashes) c.deref_mut-body.ensures.value
          ∙ ap (λ k. k.slashes) c.self.view_is ∙ c.requires.by.fit;
      are_true = subst (λ k. AreTrueRuns c.args.table.now (g.T.Chars.characters body.text) k.runs) (sym c.search-found.ensures.same)
          (subst (λ k. AreTrueRuns c.args.table.now (g.T.Chars.characters k.text) k.cache.runs) (sym c.deref_mut-body.ensures.value)
          (subst (λ k. AreTrueRuns c.args.table.now k.state.text k.runs) (sym c.self.view_is) c.requires.by.are_true));
    }

pub returns-clause-first : goal.returns-clause-first
returns-clause-first g c =
    let here = (goal.at.returns-clause-first g c).After-search-found in
    subst (λ s. first_after (boundaries_of s) s.state.cursor ≡ Some c.search-found.result.at) (was g here) (found g here).1
