use Rattle.std.proofs.Common.{◌+◌, ◌<◌, ◌⊎◌, refl, ◌∙◌, ⊎_elim, inl, inr, arith}
use Rattle.std.proofs.lemmas.Bool.{false≢true}
use Rattle.rbbi_change.proofs.Parts.{next_past}
use Rattle.rbbi_change.proofs.Searched.{searched_none, searched_old, searched_new}
use Rattle.rbbi_change.proofs.Meeting.{before_first, before_old, before_new, have_met}
use Rattle.rbbi_change.proofs.Meets.{between_first, old_goes_on, new_goes_on, short_old, short_new, met_same, met_apart}
use Rattle.rbbi_change.proofs.meet.meet_again.Goals as goal

pub meeting-init : goal.meeting-init
meeting-init g c = record {
  between =
      between_first c.args.table.now (g.S.Chars.characters c.args.old.now) (g.T.Chars.characters c.args.new.now) c.args.edit c.requires.edited
      c.args.parting c.requires.parted (c.args.edit.at + c.args.edit.removed) refl;
  before =
      before_first c.args.table.now (g.S.Chars.characters c.args.old.now) (g.T.Chars.characters c.args.new.now) c.args.edit c.args.parting
      c.requires.parted;
  searched =
      searched_none c.args.table.now (g.S.Chars.characters c.args.old.now) (g.T.Chars.characters c.args.new.now) c.args.parting.old.at
      c.args.parting.new.at c.args.steps.now;
  fit = c.requires.fit;
}

pub meeting-preserved-then-old_place-new_place : goal.meeting-preserved-then-old_place-new_place
meeting-preserved-then-old_place-new_place g c =
    let x = g.S.Chars.characters c.args.old.now in
    let y = g.T.Chars.characters c.args.new.now in
    let turn : (c.meeting.here.at < c.args.edit.at + c.args.edit.removed)
    ⊎ (c.meeting.here.at + c.args.edit.inserted < c.meeting.there.at + c.args.edit.removed) =
    ⊎_elim inl (λ b. inr b.1) c.if-old_place-new_place.either in
    let short =
    short_old c.args.table.now x y c.args.edit c.requires.edited c.meeting.here c.meeting.there c.meeting.last c.meeting.invariant.between turn in
    record {
      between =
          old_goes_on c.args.table.now x y c.args.edit c.requires.edited c.meeting.here c.meeting.there c.meeting.last c.meeting.invariant.between turn
          c.next_from-here.result c.next_from-here.ensures.next c.max-last.result c.max-last.ensures;
      before =
          before_old c.args.table.now x y c.args.edit c.meeting.here c.meeting.there c.meeting.last c.meeting.invariant.between c.meeting.invariant.before
          turn short c.next_from-here.result c.next_from-here.ensures.next;
      searched =
          searched_old c.args.table.now x y c.args.parting.old.at c.meeting.here.at c.args.parting.new.at c.meeting.there.at c.args.steps.now
          c.meeting.steps c.meeting.invariant.searched short c.next_from-here.result.at c.next_from-here.new.steps c.next_from-here.ensures.next.at
          c.next_from-here.ensures.read;
      fit = c.next_from-here.ensures.fit ∙ c.meeting.invariant.fit;
    }

pub meeting-smaller-then-old_place-new_place : goal.meeting-smaller-then-old_place-new_place
meeting-smaller-then-old_place-new_place g c =
    let short =
    short_old c.args.table.now (g.S.Chars.characters c.args.old.now) (g.T.Chars.characters c.args.new.now) c.args.edit c.requires.edited
    c.meeting.here c.meeting.there c.meeting.last c.meeting.invariant.between (⊎_elim inl (λ b. inr b.1) c.if-old_place-new_place.either) in
    omega (
      arith,
      short,
      next_past c.args.table.now (g.S.Chars.characters c.args.old.now) c.meeting.here.at c.meeting.invariant.between.old.is short c.next_from-here.result
          c.next_from-here.ensures.next,
    )

pub meeting-preserved : goal.meeting-preserved
meeting-preserved g c =
    let x = g.S.Chars.characters c.args.old.now in
    let y = g.T.Chars.characters c.args.new.now in
    let turn = c.if-new_place-old_place.true in
    let short =
    short_new c.args.table.now x y c.args.edit c.requires.edited c.meeting.here c.meeting.there c.meeting.last c.meeting.invariant.between turn in
    record {
      between =
          new_goes_on c.args.table.now x y c.args.edit c.requires.edited c.meeting.here c.meeting.there c.meeting.last c.meeting.invariant.between turn
          c.next_from-there.result c.next_from-there.ensures.next c.max-last-then-new_place-old_place.result
          (omega (arith, c.max-last-then-new_place-old_place.ensures, c.saturating_sub.ensures));
      before =
          before_new c.args.table.now x y c.args.edit c.meeting.here c.meeting.there c.meeting.last c.meeting.invariant.between c.meeting.invariant.before
          turn short c.next_from-there.result c.next_from-there.ensures.next;
      searched =
          searched_new c.args.table.now x y c.args.parting.old.at c.meeting.here.at c.args.parting.new.at c.meeting.there.at c.args.steps.now
          c.meeting.steps c.meeting.invariant.searched short c.next_from-there.result.at c.next_from-there.new.steps c.next_from-there.ensures.next.at
          c.next_from-there.ensures.read;
      fit = c.next_from-there.ensures.fit ∙ c.meeting.invariant.fit;
    }

pub meeting-smaller : goal.meeting-smaller
meeting-smaller g c =
    let short =
    short_new c.args.table.now (g.S.Chars.characters c.args.old.now) (g.T.Chars.characters c.args.new.now) c.args.edit c.requires.edited
    c.meeting.here c.meeting.there c.meeting.last c.meeting.invariant.between c.if-new_place-old_place.true in
    omega (
      arith,
      short,
      next_past c.args.table.now (g.T.Chars.characters c.args.new.now) c.meeting.there.at c.meeting.invariant.between.new.is short c.next_from-there.result
          c.next_from-there.ensures.next,
    )

pub returns-then-are_same-clause-last : goal.returns-then-are_same-clause-last
returns-then-are_same-clause-last g c =
    met_same c.args.table.now (g.S.Chars.characters c.args.old.now) (g.T.Chars.characters c.args.new.now) c.args.edit c.requires.edited
    c.meeting.here c.meeting.there c.meeting.last c.meeting.invariant.between (omega arith) (omega arith) (c.if-are_same.ensures.0 refl)

pub returns-else-are_same-clause-last : goal.returns-else-are_same-clause-last
returns-else-are_same-clause-last g c =
    met_apart c.args.table.now (g.S.Chars.characters c.args.old.now) (g.T.Chars.characters c.args.new.now) c.args.edit c.requires.edited
    c.meeting.here c.meeting.there c.meeting.last c.meeting.invariant.between (omega arith) (omega arith)
    (λ same. false≢true (c.if-are_same.ensures.1 same))

pub returns-then-are_same-clause-read : goal.returns-then-are_same-clause-read
returns-then-are_same-clause-read g c =
    have_met c.args.table.now (g.S.Chars.characters c.args.old.now) (g.T.Chars.characters c.args.new.now) c.args.edit c.meeting.here c.meeting.there
    c.meeting.last c.meeting.invariant.between c.meeting.invariant.before (omega arith) (omega arith) c.args.parting c.args.steps.now c.meeting.steps
    c.meeting.invariant.searched

pub returns-else-are_same-clause-read : goal.returns-else-are_same-clause-read
returns-else-are_same-clause-read g c =
    have_met c.args.table.now (g.S.Chars.characters c.args.old.now) (g.T.Chars.characters c.args.new.now) c.args.edit c.meeting.here c.meeting.there
    c.meeting.last c.meeting.invariant.between c.meeting.invariant.before (omega arith) (omega arith) c.args.parting c.args.steps.now c.meeting.steps
    c.meeting.invariant.searched
