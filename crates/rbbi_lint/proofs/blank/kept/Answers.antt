use Rattle.std.proofs.Common.{◌≡◌, length, arith}
use Rattle.std.specs.Prelude.{encode_utf8}
use Rattle.std.proofs.lemmas.Str.{length-encode, len_utf8_bounds}
use Rattle.rbbi_lint.proofs.blank.kept.Goals as goal

pub returns-then-place-to-clause-no_longer : goal.returns-then-place-to-clause-no_longer
returns-then-place-to-clause-no_longer c =
    let space : length (encode_utf8 32) ≡ 1 = length-encode 32 in
    omega (arith, length-encode c.args.c, (len_utf8_bounds c.args.c).0)
