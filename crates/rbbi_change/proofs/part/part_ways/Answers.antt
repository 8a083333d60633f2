use Rattle.std.proofs.Common.{refl, sym, ap, ◌∙◌, subst, arith, min}
use Rattle.std.proofs.lemmas.Bool.{false≢true}
use Rattle.rbbi_change.specs.declared.reached.Reached.{Reached}
use Rattle.rbbi_change.specs.inner.Reading.{AreSearched}
use Rattle.rbbi_change.proofs.Searched.{searched_none, searched_old, searched_new}
use Rattle.rbbi_change.proofs.Parts.{together_first, together_next, short_old, short_new, parted_next, goes_on}
use Rattle.rbbi_change.proofs.part.part_ways.Given.{Over}
use Rattle.rbbi_change.proofs.part.part_ways.Goals as goal
use Rattle.rbbi_change.proofs.part.part_ways.Goals.{After-next_from-other}

pub parting-init : goal.parting-init
parting-init g c =
    let here : Reached = record { at = c.args.start; list = 0 } in
    record {
      together =
          together_first c.args.table.now c.valid.ensures (g.S.Chars.characters c.args.old.now) (g.T.Chars.characters c.args.new.now) c.args.edit.at
          c.args.edit.removed c.args.edit.inserted c.requires.edited c.args.start c.requires.quiet here refl refl;
      searched =
          searched_none c.args.table.now (g.S.Chars.characters c.args.old.now) (g.T.Chars.characters c.args.new.now) c.args.start c.args.start
          c.args.steps.now;
      fit = c.requires.fit;
    }

pub returns-then-not-is_same-clause-parted : goal.returns-then-not-is_same-clause-parted
returns-then-not-is_same-clause-parted g c =
    parted_next c.args.table.now c.valid.ensures (g.S.Chars.characters c.args.old.now) (g.T.Chars.characters c.args.new.now) c.args.edit.at
    c.args.edit.removed c.args.edit.inserted c.requires.edited c.parting.here c.parting.there c.parting.invariant.together c.parting-test.true
    c.next_from-next.result c.next_from-other.result c.next_from-next.ensures.next c.next_from-other.ensures.next
    (λ same. false≢true (c.if-not-is_same.ensures.1 same))
    (record { from = c.min-from.result; old = c.next_from-next.result; new = c.next_from-other.result })
    (c.min-from.ensures ∙ ap (λ k. min c.args.edit.at k) c.min.ensures) refl refl

-- both searches from the place where the texts are together
turn : (g : Over) (c : After-next_from-other g) → AreSearched c.args.table.now (g.S.Chars.characters c.args.old.now) (g.T.Chars.characters c.args.new.now)
    c.args.start c.next_from-next.result.at c.args.start c.next_from-other.result.at c.args.steps.now c.next_from-other.new.steps
turn g c =
    let x = g.S.Chars.characters c.args.old.now in
    let y = g.T.Chars.characters c.args.new.now in
    let together = c.parting.invariant.together in
    let edit = c.args.edit in
    let next = c.next_from-next in
    let other = c.next_from-other in
    let short =
    short_old c.args.table.now c.valid.ensures x y edit.at edit.removed edit.inserted c.requires.edited c.parting.here c.parting.there together
    c.parting-test.true next.result other.result next.ensures.next other.ensures.next in
    let short' =
    short_new c.args.table.now c.valid.ensures x y edit.at edit.removed edit.inserted c.requires.edited c.parting.here c.parting.there together
    c.parting-test.true next.result other.result next.ensures.next other.ensures.next in
    searched_new c.args.table.now x y c.args.start c.next_from-next.result.at c.args.start c.parting.here.at c.args.steps.now c.next_from-next.new.steps
    (searched_old c.args.table.now x y c.args.start c.parting.here.at c.args.start c.parting.here.at c.args.steps.now c.parting.steps
    c.parting.invariant.searched short c.next_from-next.result.at c.next_from-next.new.steps c.next_from-next.ensures.next.at
    c.next_from-next.ensures.read)
    short' c.next_from-other.result.at c.next_from-other.new.steps c.next_from-other.ensures.next.at c.next_from-other.ensures.read

pub returns-then-not-is_same-clause-read : goal.returns-then-not-is_same-clause-read
returns-then-not-is_same-clause-read g c = turn g (goal.at.returns-then-not-is_same-clause-read g c).After-next_from-other

pub parting-smaller : goal.parting-smaller
parting-smaller g c =
    let before = c.parting-test.true in
    omega (
      arith,
      goes_on c.args.table.now c.valid.ensures (g.S.Chars.characters c.args.old.now) (g.T.Chars.characters c.args.new.now) c.args.edit.at
          c.args.edit.removed c.args.edit.inserted c.requires.edited c.parting.here c.parting.there c.parting.invariant.together before
          c.next_from-next.result c.next_from-other.result c.next_from-next.ensures.next c.next_from-other.ensures.next,
    )

pub parting-preserved : goal.parting-preserved
parting-preserved g c =
    let same = c.if-not-is_same.ensures.0 refl in
    record {
      together =
          together_next c.args.table.now c.valid.ensures (g.S.Chars.characters c.args.old.now) (g.T.Chars.characters c.args.new.now) c.args.edit.at
          c.args.edit.removed c.args.edit.inserted c.requires.edited c.parting.here c.parting.there c.parting.invariant.together c.parting-test.true
          c.next_from-next.result c.next_from-other.result c.next_from-next.ensures.next c.next_from-other.ensures.next same.0 same.1;
      searched =
          subst
          (λ p. AreSearched c.args.table.now (g.S.Chars.characters c.args.old.now) (g.T.Chars.characters c.args.new.now) c.args.start
          c.next_from-next.result.at c.args.start p c.args.steps.now c.next_from-other.new.steps) (sym same.0)
          (turn g (goal.at.parting-preserved g c).After-next_from-other);
      fit = c.next_from-other.ensures.fit ∙ c.next_from-next.ensures.fit ∙ c.parting.invariant.fit;
    }
