use Rattle.std.proofs.Common.{◌≤◌, arith}
use Rattle.std.proofs.lemmas.Bool.{leb-true}
use Rattle.rbbi_cache.proofs.Staying.{no_left}
use Rattle.rbbi_cache.proofs.parts.has_no_left.Goals as goal

pub returns-then-anchor-gt0 : goal.returns-then-anchor-gt0
returns-then-anchor-gt0 c is =
    let up : c.args.edit.at ≤ c.anchor-then-anchor-gt0.result = leb-true c.args.edit.at c.anchor-then-anchor-gt0.result is in
    no_left c.args.edit.at c.args.run.now c.requires (omega (arith, c.anchor-then-anchor-gt0.ensures, up))
    (omega (arith, c.anchor.ensures, c.if-anchor-gt0.true))
