use Rattle.std.proofs.Common.{◌≡◌, ◌≢◌, ℕ, ◌+◌, ◌-◌, ◌*◌, max, ◌<◌, ◌≤◌, List, ⊎_elim, subst, sym, ap, ◌∙◌, arith}
use Rattle.rbbi_model.specs.Tables.{Table}
use Rattle.rbbi_model.specs.ValidTables.{IsValidTable}
use Rattle.rbbi_model.specs.Costs.{anchor_below, searches_cost}
use Rattle.rbbi_cache.specs.inner.Ready.{HasNoneBefore}
use Rattle.rbbi_cache.proofs.Backward.{none_settles}
use Rattle.rbbi_cache.proofs.Lists.{no_value}
use Rattle.rbbi_cache.proofs.Ready.{anchor_is}
use Rattle.rbbi_cache.proofs.TriedBack.{TriedFar, far_first, far_next, far_last, start_is_last}
use Rattle.rbbi_cache.proofs.search_back.search_back.Goals as goal

-- the anchor of a walk that goes back as far as it may
walked : (table : Table) (x : List ℕ) (high place q : ℕ) → high ≡ place → q ≡ max 0 (anchor_below table x high) → anchor_below table x place ≡ q
walked table x high place q same is = omega (arith, is, ap (anchor_below table x) same)

-- the first try
begun : (table : Table) (valid : IsValidTable table) (x : List ℕ) (i anchor : ℕ) → 0 < i → anchor ≡ anchor_below table x (i - 2) →
    TriedFar table x i anchor (2 * (i - anchor))
begun table valid x i anchor some is =
    subst (λ q. TriedFar table x i q (2 * (i - q))) (sym is)
    (far_first table valid x i (2 * (i - anchor_below table x (i - 2))) some
    (⊎_elim (λ zero. omega arith) (λ less. omega arith) (anchor_is table valid x (i - 2)).below))

pub returns-in-Some-clause-cost : goal.returns-in-Some-clause-cost
returns-in-Some-clause-cost g c =
    let first = c.first_try-first.ensures in
    let most = far_last c.args.table.now c.valid.ensures (g.T.Chars.characters c.args.text.now) c.args.i c.first_try-first.result.anchor
    (2 * (c.args.i - c.first_try-first.result.anchor))
    (begun c.args.table.now c.valid.ensures (g.T.Chars.characters c.args.text.now) c.args.i c.first_try-first.result.anchor c.requires.some first.anchor)
    (c.first_try-first.new.steps - c.args.steps.now) (omega (arith, first.cost, first.more)) in
    omega (arith, most, first.more)

pub tries-init : goal.tries-init
tries-init g c =
    let first = c.first_try-first.ensures in
    record {
      before = 2 * (c.args.i - c.first_try-first.result.anchor);
      tried = begun c.args.table.now c.valid.ensures (g.T.Chars.characters c.args.text.now) c.args.i c.first_try-first.result.anchor c.requires.some first.anchor;
      searched = omega (arith, first.cost);
      none = no_value _ c.first_try-first.result.found c.in_default.is first.found;
      more = first.more;
      fit = first.fit;
    }

pub returns-then-anchor-eq0-clause-found : goal.returns-then-anchor-eq0-clause-found
returns-then-anchor-eq0-clause-found g c =
    start_is_last c.args.table.now c.valid.ensures (g.T.Chars.characters c.args.text.now) c.args.i c.requires.some
    (subst (λ q. HasNoneBefore c.args.table.now (g.T.Chars.characters c.args.text.now) q c.args.i) c.if-anchor-eq0.true c.tries.invariant.none)

pub returns-then-anchor-eq0-clause-cost : goal.returns-then-anchor-eq0-clause-cost
returns-then-anchor-eq0-clause-cost g c =
    let at = c.tries.invariant in
    let most = far_last c.args.table.now c.valid.ensures (g.T.Chars.characters c.args.text.now) c.args.i c.tries.anchor at.before at.tried
    (c.tries.steps - c.args.steps.now) (omega (arith, at.searched, at.more)) in
    omega (arith, most, at.more)

-- the next try, after a walk from the one before it
tried_on : (table : Table) (valid : IsValidTable table) (x : List ℕ) (i q before start now : ℕ) → TriedFar table x i q before → q ≢ 0 → HasNoneBefore table x q i →
    start ≤ now → now ≤ start + before + searches_cost table x q (i - 1) → (high next now' : ℕ) → high ≡ 2 * q + 1 - i → next ≡ max 0 (anchor_below table x high) →
    now ≤ now' → now' + next ≤ now + high + 1 → (high ≤ 0 + 1 → now' ≡ now) → TriedFar table x i next (now' - start)
tried_on table valid x i q before start now tried other none more searched high next now' high_is is rises read nothing =
    let same = walked table x high (2 * q + 1 - i) next high_is is in
    subst (λ p. TriedFar table x i p (now' - start)) same
    (far_next table valid x i q before tried other (none_settles table x i q other none) (now - start) (now' - start)
    (omega arith) (omega (arith, same)) (λ near. omega (arith, nothing (omega arith))))

pub search_from-requires-clause-anchor : goal.search_from-requires-clause-anchor
search_from-requires-clause-anchor g c =
    let at = c.tries.invariant in
    let walk = c.anchor_before-anchor.ensures in
    (tried_on c.args.table.now c.valid.ensures (g.T.Chars.characters c.args.text.now) c.args.i c.tries.anchor at.before c.args.steps.now c.tries.steps at.tried c.if-anchor-eq0.false at.none at.more at.searched
    c.saturating_sub.result c.anchor_before-anchor.result c.anchor_before-anchor.new.steps c.saturating_sub.ensures walk.anchor walk.more walk.read
    walk.nothing).tried.anchor

pub returns-in-Some-search_from-clause-cost : goal.returns-in-Some-search_from-clause-cost
returns-in-Some-search_from-clause-cost g c =
    let at = c.tries.invariant in
    let walk = c.anchor_before-anchor.ensures in
    let tried = tried_on c.args.table.now c.valid.ensures (g.T.Chars.characters c.args.text.now) c.args.i c.tries.anchor at.before c.args.steps.now c.tries.steps at.tried c.if-anchor-eq0.false at.none at.more
    at.searched c.saturating_sub.result c.anchor_before-anchor.result c.anchor_before-anchor.new.steps c.saturating_sub.ensures walk.anchor walk.more walk.read
    walk.nothing in
    let most = far_last c.args.table.now c.valid.ensures (g.T.Chars.characters c.args.text.now) c.args.i c.anchor_before-anchor.result
    (c.anchor_before-anchor.new.steps - c.args.steps.now) tried (c.search_from.new.steps - c.args.steps.now)
    (omega (arith, at.more, walk.more, c.search_from.ensures.cost)) in
    omega (arith, most, at.more, walk.more, c.search_from.ensures.more)

pub tries-preserved : goal.tries-preserved
tries-preserved g c =
    let at = c.tries.invariant in
    let walk = c.anchor_before-anchor.ensures in
    record {
      before = c.anchor_before-anchor.new.steps - c.args.steps.now;
      tried = tried_on c.args.table.now c.valid.ensures (g.T.Chars.characters c.args.text.now) c.args.i c.tries.anchor at.before c.args.steps.now c.tries.steps at.tried c.if-anchor-eq0.false at.none at.more
          at.searched c.saturating_sub.result c.anchor_before-anchor.result c.anchor_before-anchor.new.steps c.saturating_sub.ensures walk.anchor walk.more
          walk.read walk.nothing;
      searched = omega (arith, at.more, walk.more, c.search_from.ensures.cost);
      none = c.in_default-search_from.ensures.found;
      more = omega (arith, at.more, walk.more, c.search_from.ensures.more);
      fit = c.search_from.ensures.fit ∙ at.fit;
    }
