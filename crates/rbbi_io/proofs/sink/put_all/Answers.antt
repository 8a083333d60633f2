use Rattle.std.proofs.Common.{◌-◌, length, drop, arith, rules}
use Rattle.std.proofs.lemmas.List.{length-take, length-drop}
use Rattle.rbbi_io.proofs.Puts.{Takes-more, ArePut-more}
use Rattle.rbbi_io.specs.Puts as puts
use Rattle.rbbi_io.proofs.sink.put_all.Goals as goal

pub loop-at-init : goal.loop-at-init
loop-at-init g c = record { within = search rules; taken = search rules; faults = search rules; puts = puts.NoPut }

pub loop-at-preserved : goal.loop-at-preserved
loop-at-preserved g c =
    let bytes = c.args.bytes.now in
    let at = c.loop-at.at in
    record {
      within = omega (arith, c.in_ok-at.ensures.within, length-take (length bytes - at) (drop at bytes), length-drop at bytes, c.loop-at.invariant.within);
      taken = Takes-more _ _ _ bytes at c.in_ok-at.field-0 c.loop-at.invariant.taken c.in_ok-at.ensures.taken;
      faults = omega (arith, c.loop-at.invariant.faults, c.put.ensures.faults.0);
      puts = ArePut-more g.K.Sink.put_gives bytes _ _ _ at c.in_ok-at.field-0 c.loop-at.invariant.puts c.in_ok-at.ensures.gives;
    }
