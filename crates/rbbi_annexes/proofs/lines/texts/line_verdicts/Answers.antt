use Rattle.std.proofs.Common.{refl, ◌∷◌}
use Rattle.std.proofs.lemmas.List.{nil_from_length}
use Rattle.rbbi_annexes.proofs.LineTexts.{grown, ended}
use Rattle.rbbi_annexes.proofs.lines.texts.line_verdicts.Goals as goal

pub loop-next-preserved : goal.loop-next-preserved
loop-next-preserved c =
    let at = c.loop-next.invariant in (
      c.in-Some.next.now ∷ at.0,
      refl,
      c.left_after-left.ensures at.0 at.2,
      grown c.loop-next.verdicts.items c.push.new.self.items c.verdict_before.result at.0 c.loop-next.rest.now c.in-Some.after.now c.in-Some.next.now
          c.args.text.now at.3 c.in-Some.ensures.cases.0 (c.verdict_before.ensures at.0 at.1 at.2) c.in_ok-push.ensures.items,
    )

pub returns : goal.returns
returns c =
    let at = c.loop-next.invariant in
    ended c.loop-next.verdicts.items c.push-2.new.self.items c.verdict_at_end.result at.0 c.loop-next.rest.now c.args.text.now at.3
    (nil_from_length c.loop-next.rest.now c.in_default.ensures.cases) (c.verdict_at_end.ensures at.0 at.1) c.in_ok-push-2.ensures.items
