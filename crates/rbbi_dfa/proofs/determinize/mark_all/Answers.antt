use Rattle.std.proofs.Common.{◌<◌, ◌+◌, ◌^◌, ◌++◌, ◌∷◌, [], ℕ, Vec, Global, refl, sym, ap, ◌∙◌, subst, arith}
use Rattle.std.proofs.lemmas.List.{map_push}
use Rattle.rbbi_model.specs.Tables.{RowHead}
use Rattle.rbbi_bits.specs.NumberedRows.{listed_row}
use Rattle.rbbi_dfa.specs.inner.Determinizing.{IsAccept, AreFrontsOf, AreTagsOf, AreMarked}
use Rattle.rbbi_bits.specs.NumberedRows.{items_of}
use Rattle.rbbi_dfa.proofs.MarkLoops.{marked_more, no_fronts_small}
use Rattle.rbbi_dfa.proofs.determinize.mark_all.Goals as goal
use Rattle.rbbi_dfa.proofs.determinize.mark_all.Goals.{then-accept-lt2, else-accept-lt2}

pub loop-i-preserved : goal.loop-i-preserved
loop-i-preserved c =
    let rows = c.args.rows.now in
    let sets = c.args.sets.now in
    let i = c.loop-i.i in
    let set_is = c.get-set.ensures in
    let head : RowHead = record { accept = c.accept-accept.result; fronts = c.if-accept-lt2.fronts; list = i + 1 } in
    let statuses = c.in_ok-statuses.field-0.items in
    let accept = subst (λ l. IsAccept rows l c.accept-accept.result) set_is c.accept-accept.ensures in
    let tags = subst (λ l. AreTagsOf rows l statuses) set_is c.in_ok-statuses.ensures in
    let heads = c.loop-i.heads.items in
    let lists = items_of c.loop-i.lists.items in
    let pushed = ap items_of c.in_ok-push-2.ensures.items ∙ map_push (λ (v : Vec ℕ Global). v.items) c.loop-i.lists.items c.in_ok-statuses.field-0 in
    subst (λ h. AreMarked rows sets h (items_of c.push-in-loop-i.new.self.items) (i + 1)) (sym c.in_ok-push.ensures.items)
    (subst (λ l. AreMarked rows sets (heads ++ head ∷ []) l (i + 1)) (sym pushed)
    (elim c.if-accept-lt2.branch [
      | then-accept-lt2 w ↦
          marked_more rows sets heads lists i head statuses refl accept
          (λ small. subst (AreFrontsOf rows (listed_row sets i)) (sym w.fronts-is)
          (subst (λ l. AreFrontsOf rows l w.fronts-fronts.result) set_is w.fronts-fronts.ensures.bits))
          (λ many. absurd (omega (arith, many, w.if-accept-lt2.true)))
          (subst (λ n. n < 2 ^ rows.slashes) (sym w.fronts-is) w.fronts-fronts.ensures.small) tags c.loop-i.invariant
      | else-accept-lt2 w ↦
          marked_more rows sets heads lists i head statuses refl accept
          (λ small. absurd (omega (arith, small, w.if-accept-lt2.false)))
          (λ many. w.fronts-is)
          (no_fronts_small c.if-accept-lt2.fronts rows.slashes w.fronts-is) tags c.loop-i.invariant
    ]))
