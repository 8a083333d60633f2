use Rattle.std.proofs.Common.{◌≡◌, ℕ, ◌+◌, ◌<◌, ◌≤◌, ◌⊎◌, List, length, refl, ap, sym, subst, ⊎_elim, arith}
use Rattle.std.proofs.lemmas.Bool.{lt-leb}
use Rattle.rbbi_model.specs.Tables.{Table}
use Rattle.rbbi_model.specs.Runs.{Entry, IsAnchor}
use Rattle.rbbi_model.proofs.Found.{found_lies}
use Rattle.rbbi_cache.specs.inner.Back.{AreBack}
use Rattle.rbbi_cache.proofs.Filling.{Fills, fills_first, fills_found, fills_skipped, fills_past}
use Rattle.rbbi_cache.proofs.wide.fill_from.Goals as goal

-- the anchor is one, and not past the near one, which lies before the place
module _ (table : Table) (x : List ℕ) (i near wide from : ℕ) (categories : List ℕ) (back : AreBack table x i near wide from categories) (p : ℕ) (is : (p ≡ near) ⊎
    (p ≡ wide)) (some : 0 < i) where
  anchor_is : IsAnchor table x p
  anchor_is = ⊎_elim (λ here. subst (IsAnchor table x) (sym here) back.near_is) (λ there. subst (IsAnchor table x) (sym there) back.wide_is) is

  order : p ≤ near
  order = let order = back.order in ⊎_elim (λ here. omega arith) (λ there. omega arith) is

  far : near < i
  far = ⊎_elim (λ zero. omega arith) (λ far. omega arith) back.far

pub loop-here-init : goal.loop-here-init
loop-here-init g c =
    let back = c.requires.back in
    fills_first c.args.table.now c.requires.valid (g.T.Chars.characters c.args.text.now) c.args.i c.args.back.near c.args.anchor (c.args.back.from + length c.args.categories.now) c.requires.some
    c.requires.within back.near_is
    (anchor_is c.args.table.now (g.T.Chars.characters c.args.text.now) c.args.i c.args.back.near c.args.back.wide c.args.back.from c.args.categories.now back c.args.anchor c.requires.anchor c.requires.some)
    (order c.args.table.now (g.T.Chars.characters c.args.text.now) c.args.i c.args.back.near c.args.back.wide c.args.back.from c.args.categories.now back c.args.anchor c.requires.anchor c.requires.some)
    (far c.args.table.now (g.T.Chars.characters c.args.text.now) c.args.i c.args.back.near c.args.back.wide c.args.back.from c.args.categories.now back c.args.anchor c.requires.anchor c.requires.some)
    (back.end c.requires.covered)
    (record { at = c.args.anchor; status = 0; reach = 0 }) c.begin.new.self c.args.steps.now refl c.begin.ensures

pub loop-here-smaller-then-here-least : goal.loop-here-smaller-then-here-least
loop-here-smaller-then-here-least g c =
    let lies = found_lies c.args.table.now (g.T.Chars.characters c.args.text.now) c.here.inside.at (omega (arith, c.requires.within)) in
    omega (arith, lies.0, c.in-Some.ensures.found.at_is, ap (λ (e : Entry). e.at) c.here.view_is)

pub loop-here-preserved-then-here-least : goal.loop-here-preserved-then-here-least
loop-here-preserved-then-here-least g c =
    let back = c.requires.back in
    let end : ℕ = c.args.back.from + length c.args.categories.now in
    let next : Entry = record { at = c.in-Some.found.at; status = c.in-Some.found.status; reach = c.max.result } in
    subst (λ r. Fills c.args.table.now (g.T.Chars.characters c.args.text.now) c.args.i c.args.back.near c.args.anchor (c.args.back.from + length c.args.categories.now) next r c.args.steps.now
    c.next_on.new.steps) (sym c.push.ensures)
    (fills_found c.args.table.now c.requires.valid (g.T.Chars.characters c.args.text.now) c.args.i c.args.back.near c.args.anchor (c.args.back.from + length c.args.categories.now) c.requires.some
    c.requires.within back.near_is
    (anchor_is c.args.table.now (g.T.Chars.characters c.args.text.now) c.args.i c.args.back.near c.args.back.wide c.args.back.from c.args.categories.now back c.args.anchor c.requires.anchor c.requires.some)
    (order c.args.table.now (g.T.Chars.characters c.args.text.now) c.args.i c.args.back.near c.args.back.wide c.args.back.from c.args.categories.now back c.args.anchor c.requires.anchor c.requires.some)
    (far c.args.table.now (g.T.Chars.characters c.args.text.now) c.args.i c.args.back.near c.args.back.wide c.args.back.from c.args.categories.now back c.args.anchor c.requires.anchor c.requires.some)
    (back.end c.requires.covered)
    c.loop-here.here c.loop-here.run c.args.steps.now c.loop-here.steps c.loop-here.invariant c.here.inside.at c.here.inside.reach
    (ap (λ e. e.at) c.here.view_is) (ap (λ e. e.reach) c.here.view_is) (omega arith) c.in-Some.found.status c.in-Some.found.look next
    c.in-Some.ensures.found refl c.max.ensures c.next_on.new.steps (λ less. c.in-Some.ensures.nothing (lt-leb c.args.back.near c.here.inside.at less)) c.in-Some.ensures.more c.in-Some.ensures.cost
    (omega (arith, c.low-least.ensures, c.if-here-least.true)))

pub loop-here-smaller : goal.loop-here-smaller
loop-here-smaller g c =
    let lies = found_lies c.args.table.now (g.T.Chars.characters c.args.text.now) c.here.inside.at (omega (arith, c.requires.within)) in
    omega (arith, lies.0, c.in-Some.ensures.found.at_is, ap (λ (e : Entry). e.at) c.here.view_is)

pub loop-here-preserved : goal.loop-here-preserved
loop-here-preserved g c =
    let back = c.requires.back in
    let next : Entry = record { at = c.in-Some.found.at; status = c.in-Some.found.status; reach = c.max.result } in
    fills_skipped c.args.table.now c.requires.valid (g.T.Chars.characters c.args.text.now) c.args.i c.args.back.near c.args.anchor (c.args.back.from + length c.args.categories.now) c.requires.some
    c.requires.within back.near_is
    (anchor_is c.args.table.now (g.T.Chars.characters c.args.text.now) c.args.i c.args.back.near c.args.back.wide c.args.back.from c.args.categories.now back c.args.anchor c.requires.anchor c.requires.some)
    (order c.args.table.now (g.T.Chars.characters c.args.text.now) c.args.i c.args.back.near c.args.back.wide c.args.back.from c.args.categories.now back c.args.anchor c.requires.anchor c.requires.some)
    (far c.args.table.now (g.T.Chars.characters c.args.text.now) c.args.i c.args.back.near c.args.back.wide c.args.back.from c.args.categories.now back c.args.anchor c.requires.anchor c.requires.some)
    (back.end c.requires.covered)
    c.loop-here.here c.loop-here.run c.args.steps.now c.loop-here.steps c.loop-here.invariant c.here.inside.at c.here.inside.reach
    (ap (λ e. e.at) c.here.view_is) (ap (λ e. e.reach) c.here.view_is) (omega arith) c.in-Some.found.status c.in-Some.found.look next
    c.in-Some.ensures.found refl c.max.ensures c.next_on.new.steps (λ less. c.in-Some.ensures.nothing (lt-leb c.args.back.near c.here.inside.at less)) c.in-Some.ensures.more c.in-Some.ensures.cost
    (omega (arith, c.low-least.ensures, c.if-here-least.false))

pub returns-clause-filled : goal.returns-clause-filled
returns-clause-filled g c =
    let back = c.requires.back in
    fills_past c.args.table.now c.requires.valid (g.T.Chars.characters c.args.text.now) c.args.i c.args.back.near c.args.anchor (c.args.back.from + length c.args.categories.now) c.requires.some
    c.requires.within back.near_is
    (anchor_is c.args.table.now (g.T.Chars.characters c.args.text.now) c.args.i c.args.back.near c.args.back.wide c.args.back.from c.args.categories.now back c.args.anchor c.requires.anchor c.requires.some)
    (order c.args.table.now (g.T.Chars.characters c.args.text.now) c.args.i c.args.back.near c.args.back.wide c.args.back.from c.args.categories.now back c.args.anchor c.requires.anchor c.requires.some)
    (far c.args.table.now (g.T.Chars.characters c.args.text.now) c.args.i c.args.back.near c.args.back.wide c.args.back.from c.args.categories.now back c.args.anchor c.requires.anchor c.requires.some)
    (back.end c.requires.covered)
    c.loop-here.here c.loop-here.run c.args.steps.now c.loop-here.steps c.loop-here.invariant (omega (arith, ap (λ (e : Entry). e.at) c.here.view_is))
