use Rattle.std.proofs.Common.{refl, subst, arith, length-drop}
use Rattle.std.proofs.lemmas.List.{take_rest}
use Rattle.rbbi_segment.specs.Spelled.{IsFront}
use Rattle.rbbi_segment.proofs.Spelled.{spelled_more}
use Rattle.rbbi_segment.proofs.streaming.append_spelled.Goals as goal

pub returns-then-front-eq0 : goal.returns-then-front-eq0
returns-then-front-eq0 c =
    let bytes = c.args.bytes.now in
    let front = subst (λ l. IsFront c.args.origin.is_lossy c.args.is_last l c.in-Ok.front.text.now c.in-Ok.front.replaced) (take_rest bytes c.loop-at.at)
    c.in-Ok.ensures in (
      spelled_more c.args.origin.is_lossy c.args.is_last bytes c.args.window.now c.loop-at.window c.append_front.new.window c.in-Ok.front.text.now
          c.loop-at.at c.in-Ok.front.replaced _ c.loop-at.invariant front c.in_ok-append_front.ensures refl,
      λ last. let ended = front.ended last c.if-front-eq0.true in
          let within = c.loop-at.invariant.within in
          omega (arith, ended, within, c.if-front-eq0.true, length-drop c.loop-at.at bytes),
    )

pub loop-at-preserved : goal.loop-at-preserved
loop-at-preserved c =
    let bytes = c.args.bytes.now in
    let front = subst (λ l. IsFront c.args.origin.is_lossy c.args.is_last l c.in-Ok.front.text.now c.in-Ok.front.replaced) (take_rest bytes c.loop-at.at)
    c.in-Ok.ensures in
    spelled_more c.args.origin.is_lossy c.args.is_last bytes c.args.window.now c.loop-at.window c.append_front.new.window c.in-Ok.front.text.now
    c.loop-at.at c.in-Ok.front.replaced _ c.loop-at.invariant front c.in_ok-append_front.ensures refl
