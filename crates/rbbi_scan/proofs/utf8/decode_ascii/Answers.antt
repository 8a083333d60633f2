use Rattle.std.proofs.Common.{◌+◌, arith, refl}
use Rattle.rbbi_model.specs.declared.unit.Unit.TheVariants.{Utf8}
use Rattle.rbbi_scan.proofs.Decoding.{decoded_ascii, offset_small}
use Rattle.rbbi_scan.proofs.utf8.decode_ascii.Goals as goal

pub overflow_cast-ends : goal.overflow_cast-ends
overflow_cast-ends c =
    omega (
      arith,
      c.loop-k.invariant.used_is,
      offset_small Utf8 c.loop-k.chars (c.args.decoded.count + c.loop-k.k),
      c.requires.few,
      c.requires.fit,
      c.loop-k-test.true,
      c.loop-k.auto.chars,
    )

pub loop-k-preserved : goal.loop-k-preserved
loop-k-preserved c =
    decoded_ascii c.args.bytes.now c.loop-k.chars c.loop-k.ends _ _ c.args.decoded.count c.args.decoded.used c.args.len c.loop-k.k (c.loop-k.k + 1)
    c.loop-k.invariant c.requires.ascii c.loop-k-test.true c.requires.within (omega (arith, c.requires.fit, c.loop-k.auto.chars))
    (omega (arith, c.requires.room, c.loop-k.auto.chars, c.loop-k.auto.ends)) refl refl refl
