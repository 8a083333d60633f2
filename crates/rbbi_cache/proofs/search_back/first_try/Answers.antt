use Rattle.std.proofs.Common.{◌≡◌, subst, inl, inr, ⊎_elim, arith}
use Rattle.rbbi_model.specs.Costs.{anchor_below}
use Rattle.std.specs.Prelude.{MatchOption, List}
use Rattle.rbbi_model.specs.Runs.{IsAnchor, Run}
use Rattle.rbbi_cache.specs.inner.Ready.{HasNoneBefore, IsReadyBefore}
use Rattle.rbbi_cache.proofs.Ready.{anchor_is}
use Rattle.rbbi_cache.proofs.search_back.first_try.Goals as goal

pub search_from-found-requires-clause-anchor : goal.search_from-found-requires-clause-anchor
search_from-found-requires-clause-anchor g c =
    let is : anchor_below c.args.table.now (g.T.Chars.characters c.args.text.now) c.saturating_sub.result ≡ c.anchor_before-anchor.result = omega (arith, c.anchor_before-anchor.ensures.anchor) in
    subst (IsAnchor c.args.table.now (g.T.Chars.characters c.args.text.now)) is (anchor_is c.args.table.now c.valid.ensures (g.T.Chars.characters c.args.text.now) c.saturating_sub.result).anchor

pub search_from-found-requires-clause-before : goal.search_from-found-requires-clause-before
search_from-found-requires-clause-before g c =
    let is = c.anchor_before-anchor.ensures.anchor in
    ⊎_elim (λ zero. inl (omega (arith, is, zero))) (λ less. inr (omega (arith, is, less, c.saturating_sub.ensures)))
    (anchor_is c.args.table.now c.valid.ensures (g.T.Chars.characters c.args.text.now) c.saturating_sub.result).below

pub returns-clause-found : goal.returns-clause-found
returns-clause-found g c =
    subst (λ t. MatchOption c.search_read-found.result (HasNoneBefore t (g.T.Chars.characters c.args.text.now) c.read_back-back.result.near c.args.i)
    (λ entry. (kept : List Run) → IsReadyBefore t (g.T.Chars.characters c.args.text.now) c.args.i kept entry c.search_read-found.new.run))
    c.in-Some.ensures c.search_read-found.ensures.found
