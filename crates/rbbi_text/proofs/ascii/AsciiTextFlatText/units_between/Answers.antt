use Rattle.std.proofs.Common.{length, ap, subst, arith}
use Rattle.std.specs.Str.{IsAscii}
use Rattle.rbbi_text.proofs.AsciiTexts.{offset-ascii}
use Rattle.rbbi_text.proofs.ascii.AsciiTextFlatText.units_between.Goals as goal

pub returns : goal.returns
returns c =
    let x = c.args.self.now in
    let ascii : IsAscii x = subst IsAscii c.self.view_is c.self.invariant.0 in
    let from = offset-ascii c.args._unit x c.args.from ascii (omega arith) in
    let to = offset-ascii c.args._unit x c.args.to ascii (omega arith) in
    record { sum = omega (arith, from, to); small = omega (arith, to, c.self.invariant.1.1, ap length c.self.view_is) }
