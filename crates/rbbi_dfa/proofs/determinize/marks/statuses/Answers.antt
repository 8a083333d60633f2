use Rattle.std.proofs.Common.{◌≤◌, ◌+◌, ◌++◌, ◌∷◌, [], length, sym, ap, ◌∙◌, subst, ⊎_elim, arith}
use Rattle.std.specs.List.{AllPairs}
use Rattle.std.proofs.lemmas.Bool.{false≢true, eqb-true, eq-eqb}
use Rattle.std.proofs.lemmas.List.{nil_from_length}
use Rattle.rbbi_dfa.specs.inner.PositionRows.{PositionRows}
use Rattle.rbbi_dfa.specs.inner.Determinizing.{AreTagsOf}
use Rattle.rbbi_dfa.proofs.MarkLoops.{AreTagsUpTo, mark_read, tags_start, tags_takes, tags_stays, last_is, tags_all, tags_none}
use Rattle.rbbi_dfa.proofs.determinize.marks.statuses.Goals as goal
use Rattle.rbbi_dfa.proofs.determinize.marks.statuses.Goals.{then-has+in_ok-add_status, else-has, then-is_empty+in_ok-push, else-is_empty}

pub loop-mark-init : goal.loop-mark-init
loop-mark-init c = tags_start c.deref-mark-items.result.now c.args.set.now c.new-statuses.result.items c.new-statuses.ensures.items

pub loop-mark-preserved : goal.loop-mark-preserved
loop-mark-preserved c =
    let marks = c.deref-mark-items.result.now in
    let i = c.loop-mark.mark-index in
    let set = c.args.set.now in
    let old = c.loop-mark.statuses.items in
    let position = c.mark.inside.position in
    let mark = c.mark.inside.mark in
    let read = mark_read marks i position mark c.mark-item.result (omega arith) c.mark-item.is c.mark.view_is in
    let sorted = subst (λ l. AllPairs (λ these those. these.mark ≤ those.mark) l) (sym c.deref-mark-items.ensures.value) c.rows.invariant.tags in
    elim c.if-has.branch [
      | then-has+in_ok-add_status w ↦
          subst (λ v. AreTagsUpTo marks set (i + 1) v.items) (sym w.statuses-is)
          (⊎_elim
          (λ stays.
          subst (AreTagsUpTo marks set (i + 1)) (sym stays.0)
          (tags_stays marks set old i position mark read
          (λ holds. last_is marks set old i stays.1.0 position mark read (omega arith) sorted c.loop-mark.invariant stays.1.1 stays.1.2)
          c.loop-mark.invariant))
          (λ takes.
          subst (AreTagsUpTo marks set (i + 1)) (sym takes.0)
          (tags_takes marks set old i position mark read (sym c.has.ensures ∙ w.if-has.true) takes.1 c.loop-mark.invariant))
          w.in_ok-add_status.ensures)
      | else-has w ↦
          subst (λ v. AreTagsUpTo marks set (i + 1) v.items) (sym w.statuses-is)
          (tags_stays marks set old i position mark read (λ holds. absurd (false≢true (sym w.if-has.false ∙ c.has.ensures ∙ holds))) c.loop-mark.invariant)
    ]

pub returns : goal.returns
returns c =
    let rows = c.args.rows.now in
    let set = c.args.set.now in
    let i = c.loop-mark.mark-index in
    let old = c.loop-mark.statuses.items in
    let same = c.deref-mark-items.ensures.value ∙ ap (λ (r : PositionRows). r.tags) c.rows.view_is in
    let are = subst (λ l. AreTagsUpTo l set i old) same c.loop-mark.invariant in
    let all : length rows.tags ≤ i = omega (arith, ap length same) in
    let within : i ≤ length rows.tags = omega (arith, ap length same) in
    elim c.if-is_empty.branch [
      | then-is_empty+in_ok-push w ↦
          let none = nil_from_length old (omega (arith, c.loop-mark.statuses.ok.0, eqb-true _ _ (sym c.is_empty.ensures ∙ w.if-is_empty.true))) in
          subst (λ v. AreTagsOf rows set v.items) (sym w.statuses-is)
          (tags_none rows set i all within old none are w.push.new.self.items (w.in_ok-push.ensures.items ∙ ap (λ l. l ++ 0 ∷ []) none))
      | else-is_empty w ↦
          subst (λ v. AreTagsOf rows set v.items) (sym w.statuses-is)
          (tags_all rows set i all within old
          (λ none. false≢true (sym w.if-is_empty.false ∙ c.is_empty.ensures ∙ eq-eqb _ _ (omega (arith, c.loop-mark.statuses.ok.0, ap length none)))) are)
    ]
