use Rattle.std.proofs.Common.{◌≡◌, ℕ, ◌+◌, ◌-◌, ◌<◌, ◌≤◌, ◌⊎◌, [], true, length, inl, inr, refl, ⊎_elim, List, arith}
use Rattle.std.specs.Prelude.{MatchOption, Option}
use Rattle.rbbi_model.specs.Tables.{Table}
use Rattle.rbbi_model.specs.ValidTables.{IsValidTable}
use Rattle.rbbi_model.specs.Runs.{Entry, Run, IsAnchor}
use Rattle.rbbi_cache.specs.inner.Back.{IsFilledPast}
use Rattle.rbbi_cache.specs.inner.Lists.{StandsLastButOne}
use Rattle.rbbi_cache.specs.inner.Ready.{HasNoneBefore, IsReadyBefore}
use Rattle.rbbi_cache.proofs.Lists.{mapped}
use Rattle.rbbi_cache.proofs.Backward.{none_before, ready_back}
use Rattle.rbbi_cache.proofs.Filling.{least_cost}
use Rattle.rbbi_cache.proofs.Floors.{none_from}
use Rattle.rbbi_cache.proofs.search_back.search_read.Goals as goal

-- what a run tells that was filled from an anchor
told : (table : Table) (valid : IsValidTable table) (x : List ℕ) (i p : ℕ) (some : 0 < i) (within : i ≤ length x) (near : (p ≡ 0) ⊎ (p + 2 ≤ i)) (anchor :
    IsAnchor table x p) (run : Run) → IsFilledPast table x p (i - 1) run → (found : Option Entry) → MatchOption found (length run.entries < 2)
    (StandsLastButOne run.entries) → MatchOption found (HasNoneBefore table x p i) (λ entry. (kept : List Run) → IsReadyBefore table x i kept entry run)
told table valid x i p some within near anchor run filled found is =
    mapped found
    (none_before table valid x i p some within near anchor (record { anchor = p; entries = []; leads = true }) refl filled.here run 0 filled.now filled.gone_on
    filled.past)
    (ready_back table valid x i p some within near anchor (record { anchor = p; entries = []; leads = true }) refl filled.here run 0 filled.now filled.gone_on
    filled.past)
    is

pub returns-then-fill_wide-clause-found : goal.returns-then-fill_wide-clause-found
returns-then-fill_wide-clause-found g c =
    let back = c.requires.back in
    let filled = c.if-fill_wide.ensures.filled in
    let before : (c.args.back.wide ≡ 0) ⊎ (c.args.back.wide + 2 ≤ c.args.i) =
    inr (⊎_elim (λ zero. absurd (omega (arith, zero, filled.1))) (λ far. omega (arith, far, filled.1)) back.far) in
    mapped c.last_but_one.result
    (λ none. none_from c.args.table.now c.requires.valid (g.T.Chars.characters c.args.text.now) c.args.i c.args.back.wide back.wide_is none c.args.back.near back.near_is back.order (omega (arith, filled.1)))
    (λ entry ready. ready)
    (told c.args.table.now c.requires.valid (g.T.Chars.characters c.args.text.now) c.args.i c.args.back.wide c.requires.some c.requires.within before back.wide_is c.fill_wide.new.run filled.0
    c.last_but_one.result c.last_but_one.ensures)

pub returns-then-back-floor-clause-cost : goal.returns-then-back-floor-clause-cost
returns-then-back-floor-clause-cost g c =
    let far = c.requires.back.far in
    let least = least_cost c.args.table.now (g.T.Chars.characters c.args.text.now) (c.args.i - 1) c.requires.valid c.args.i c.args.back.near
    (omega arith) (⊎_elim (λ zero. omega arith) (λ far. omega arith) far) (omega arith) in
    omega (arith, least, c.if-fill_wide.ensures.filled)

pub returns-clause-found : goal.returns-clause-found
returns-clause-found g c =
    let back = c.requires.back in
    told c.args.table.now c.requires.valid (g.T.Chars.characters c.args.text.now) c.args.i c.args.back.near c.requires.some c.requires.within
    (⊎_elim (λ zero. inl zero) (λ far. inr (omega arith)) back.far) back.near_is c.fill_from.new.run c.if-not-fill_from.ensures.filled
    c.last_but_one-2.result c.last_but_one-2.ensures
