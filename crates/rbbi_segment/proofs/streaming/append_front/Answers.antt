use Rattle.std.proofs.Common.{◌≡◌, ◌++◌, ℕ, List, [], chars, sym, ap, ◌∙◌, subst, append-nil, arith}
use Rattle.rbbi_segment.proofs.Handed.{on_ok}
use Rattle.rbbi_segment.proofs.Spelled.{marked, unmarked}
use Rattle.rbbi_segment.proofs.streaming.append_front.Goals as goal

pub returns-then-front-eq0 : goal.returns-then-front-eq0
returns-then-front-eq0 c =
    unmarked c.args.window.now c.append_text.new.window c.args.front.now.text.now c.args.front.now.replaced c.if-front-eq0.true
    c.in_ok-append_text.ensures

pub returns : goal.returns
returns c =
    on_ok c.append_text-2.result
    (λ second. marked c.args.window.now c.append_text.new.window c.append_text-2.new.window c.args.front.now.text.now c.args.front.now.replaced
    (omega (arith, c.if-front-eq0.false)) c.in_ok-append_text.ensures second)
    c.append_text-2.ensures
