use Rattle.std.proofs.Common.{◌≤◌, ◌<◌, ◌++◌, length, ap, ◌∙◌, string_bytes, encode_utf8, arith}
use Rattle.rbbi_c.proofs.Spelled.{part_more}
use Rattle.rbbi_c.proofs.part.spelled.Goals as goal

pub loop-at-preserved : goal.loop-at-preserved
loop-at-preserved g c =
    let inside : c.loop-at.at < length c.args.text.now = omega (arith, c.loop-at-test.true, c.requires.within) in
    c.in_ok-push.ensures.bytes
    ∙ ap (λ ch. string_bytes c.loop-at.made ++ encode_utf8 ch) c.char_at.ensures.character
    ∙ part_more c.args.text.now c.args.first c.loop-at.at (string_bytes c.loop-at.made) c.loop-at.auto.at inside c.loop-at.invariant
