use Rattle.std.proofs.Common.{◌≡◌, ◌≢◌, ℕ, ◌+◌, ◌-◌, ◌*◌, ◌≤◌, ⊎_elim, eqb, length, sym, ap, ◌∙◌, subst, refl, arith}
use Rattle.std.proofs.lemmas.Bool.{cond-true, cond-false, eq-eqb, ne_eqb}
use Rattle.rbbi_model.specs.ValidTables.{IsValidTable}
use Rattle.rbbi_model.specs.Runs.{low}
use Rattle.rbbi_model.specs.Costs.{anchor_below}
use Rattle.rbbi_cache.proofs.TriedBack.{Tried, tried_first, tried_next}
use Rattle.rbbi_session.proofs.Stretching.{FindsFirst, finds_first, begins_there, begins_at_start, settles_nothing, tried_cost}
use Rattle.rbbi_session.proofs.session.SessionBy.begin_stretch.Given.{Over}
use Rattle.rbbi_session.proofs.session.SessionBy.begin_stretch.Goals as goal
use Rattle.rbbi_session.proofs.session.SessionBy.begin_stretch.Goals.{After-go_past-place, then-anchor-eq0, else-anchor-eq0}

valid : (g : Over) (c : After-go_past-place g) → IsValidTable c.args.self.now.table
valid g c = subst (λ s. IsValidTable s.table) c.self.view_is (subst IsValidTable c.table.ensures c.valid.ensures)

-- the place is one below the low place of the anchor
low_is : (g : Over) (c : After-go_past-place g) → low c.tries.anchor ≡ c.if-anchor-eq0.below_low + 1
low_is g c =
    elim c.if-anchor-eq0.branch [
      | then-anchor-eq0 w ↦
          omega (arith, w.below_low-is, cond-true (eqb c.tries.anchor 0) 1 (c.tries.anchor + 2) (eq-eqb c.tries.anchor 0 w.if-anchor-eq0.true))
      | else-anchor-eq0 w ↦
          omega (arith, w.below_low-is, cond-false (eqb c.tries.anchor 0) 1 (c.tries.anchor + 2) (ne_eqb c.tries.anchor 0 w.if-anchor-eq0.false))
    ]

finds : (g : Over) (c : After-go_past-place g) → FindsFirst c.args.self.now c.tries.anchor c.if-anchor-eq0.below_low c.go_past-place.result
    c.go_past-place.new.self c.tries.steps c.go_past-place.new.steps
finds g c =
    finds_first c.args.self.now c.tries.self c.go_past-place.new.self c.tries.anchor c.if-anchor-eq0.below_low c.go_past-place.result c.tries.steps
    c.go_past-place.new.steps c.tries.invariant.table_is c.tries.invariant.text_is c.tries.invariant.tried.anchor (low_is g c) c.go_past-place.ensures.first
    c.go_past-place.ensures.moved c.go_past-place.ensures.reads

short : (g : Over) (c : After-go_past-place g) → c.args.o ≤ 16777216
short g c = omega (arith, c.requires.within, c.len-short.ensures.exact, c.len-short.ensures.most, ap length c.text.ensures)

-- the anchor of a walk that goes back as far as it may
walked : (high place q : ℕ) (anchor : ℕ → ℕ) → high ≡ place → q ≡ anchor high → anchor place ≡ q
walked high place q anchor same is = sym (is ∙ ap anchor same)

pub tries-init : goal.tries-init
tries-init g c =
    let old = c.args.self.now in
    let is = walked c.saturating_sub.result (c.args.o - 2) c.anchor_before-anchor.result (anchor_below old.table old.state.text) c.saturating_sub.ensures
    c.anchor_before-anchor.ensures.anchor in
    record {
      tried = subst (λ q. Tried old.table old.state.text c.args.o q (c.anchor_before-anchor.new.steps - c.args.steps.now)) is
          (tried_first old.table (subst (λ s. IsValidTable s.table) c.self.view_is (subst IsValidTable c.table.ensures c.valid.ensures)) old.state.text c.args.o
          (c.anchor_before-anchor.new.steps - c.args.steps.now) c.requires.some
          (omega (arith, is, c.saturating_sub.ensures, c.anchor_before-anchor.ensures.read, c.anchor_before-anchor.ensures.more))
          (λ near. omega (arith, c.anchor_before-anchor.ensures.nothing (omega (arith, near, c.saturating_sub.ensures)))));
      more = c.anchor_before-anchor.ensures.more;
      table_is = refl;
      text_is = refl;
    }

pub returns-then-place-o : goal.returns-then-place-o
returns-then-place-o g c =
    let here = (goal.at.returns-then-place-o g c).After-go_past-place in
    begins_there c.args.self.now c.go_past-place.new.self (valid g here) c.args.o c.tries.anchor c.if-anchor-eq0.below_low c.go_past-place.result
    c.args.steps.now c.tries.steps c.go_past-place.new.steps c.requires.some c.tries.invariant.more c.tries.invariant.tried (finds g here) c.if-place-o.true

pub returns-then-anchor-eq0-2 : goal.returns-then-anchor-eq0-2
returns-then-anchor-eq0-2 g c =
    let here = (goal.at.returns-then-anchor-eq0-2 g c).After-go_past-place in
    begins_at_start c.args.self.now c.go_past-place.new.self (valid g here) c.args.o c.tries.anchor c.if-anchor-eq0.below_low c.go_past-place.result
    c.args.steps.now c.tries.steps c.go_past-place.new.steps c.requires.some c.tries.invariant.more c.tries.invariant.tried (finds g here)
    c.if-place-o.false c.if-anchor-eq0-2.true c.first.result c.first.new.self c.first.ensures.answers

pub overflow_mul-anchor : goal.overflow_mul-anchor
overflow_mul-anchor g c = ⊎_elim (λ zero. omega (arith, zero)) (λ far. omega (arith, far, short g (goal.at.overflow_mul-anchor g c).After-go_past-place))
    c.tries.invariant.tried.far

pub overflow_add-anchor : goal.overflow_add-anchor
overflow_add-anchor g c = ⊎_elim (λ zero. omega (arith, zero)) (λ far. omega (arith, far, short g (goal.at.overflow_add-anchor g c).After-go_past-place))
    c.tries.invariant.tried.far

pub tries-preserved : goal.tries-preserved
tries-preserved g c =
    let old = c.args.self.now in
    let here = (goal.at.tries-preserved g c).After-go_past-place in
    let other : c.tries.anchor ≢ 0 = c.if-anchor-eq0-2.false in
    let found = finds g here in
    let place : ℕ = 2 * c.tries.anchor + 1 - c.args.o in
    let text_is = ap (λ s. s.text) found.moved.state_is in
    let is = walked c.saturating_sub-in-tries.result place c.anchor_before-anchor-in-tries.result (anchor_below old.table old.state.text)
    c.saturating_sub-in-tries.ensures
    (c.anchor_before-anchor-in-tries.ensures.anchor
    ∙ ap (λ t. anchor_below t c.go_past-place.new.self.state.text c.saturating_sub-in-tries.result) found.moved.table_is
    ∙ ap (λ y. anchor_below old.table y c.saturating_sub-in-tries.result) text_is) in
    let fails = settles_nothing old c.go_past-place.new.self (valid g here) c.args.o c.tries.anchor c.if-anchor-eq0.below_low c.go_past-place.result
    c.args.steps.now c.tries.steps c.go_past-place.new.steps c.requires.some c.tries.invariant.more c.tries.invariant.tried found c.if-place-o.false other in
    let cost = tried_cost old c.go_past-place.new.self (valid g here) c.args.o c.tries.anchor c.if-anchor-eq0.below_low c.go_past-place.result
    c.args.steps.now c.tries.steps c.go_past-place.new.steps c.requires.some c.tries.invariant.more c.tries.invariant.tried found other in
    record {
      tried = subst (λ q. Tried old.table old.state.text c.args.o q (c.anchor_before-anchor-in-tries.new.steps - c.args.steps.now)) is
          (tried_next old.table (valid g here) old.state.text c.args.o c.tries.anchor (c.tries.steps - c.args.steps.now) c.tries.invariant.tried other fails
          (c.go_past-place.new.steps - c.args.steps.now) (c.anchor_before-anchor-in-tries.new.steps - c.args.steps.now) cost
          (omega (
            arith,
            is,
            c.tries.invariant.more,
            found.more,
            c.saturating_sub-in-tries.ensures,
            c.anchor_before-anchor-in-tries.ensures.read,
            c.anchor_before-anchor-in-tries.ensures.more,
          ))
          (λ near. omega (arith, c.anchor_before-anchor-in-tries.ensures.nothing (omega (arith, near, c.saturating_sub-in-tries.ensures))))).0;
      more = omega (arith, c.tries.invariant.more, found.more, c.anchor_before-anchor-in-tries.ensures.more);
      table_is = found.moved.table_is;
      text_is = text_is;
    }
