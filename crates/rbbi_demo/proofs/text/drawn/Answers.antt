use Rattle.std.proofs.Common.{◌≡◌, length, ap, ◌∙◌, arith}
use Rattle.std.specs.Prelude.{chars}
use Rattle.rbbi_demo.proofs.Drawing.{length-drawn_text}
use Rattle.rbbi_demo.proofs.text.drawn.Goals as goal

pub unreachable-requires : goal.unreachable-requires
unreachable-requires c =
    let long : length (chars c.as_str.result.now) ≡ c.args.count =
    ap (λ bytes. length (chars bytes)) c.as_str.ensures.value ∙ ap length c.in_ok-text.ensures.text
    ∙ length-drawn_text c.args.generator.now.state c.args.count in
    let many = rw c.in-Err-TooManyChars.field-0-is at c.in-Err-TooManyChars.ensures in
    omega (arith, long, many, c.requires)
