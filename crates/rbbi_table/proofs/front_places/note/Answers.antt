use Rattle.std.proofs.Common.{arith}
use Rattle.rbbi_table.proofs.NoteLemmas.{lowest_within, cleared_is_less, noted_more}
use Rattle.rbbi_table.proofs.front_places.note.Goals as goal

pub bounds-places-slash : goal.bounds-places-slash
bounds-places-slash c = lowest_within c.loop-rest.rest c.loop-rest.places c.loop-rest.auto.rest-fits.fits c.loop-rest-test.true c.loop-rest.invariant.short

pub loop-rest-smaller : goal.loop-rest-smaller
loop-rest-smaller c = cleared_is_less c.loop-rest.rest c.loop-rest.auto.rest-fits.fits c.loop-rest-test.true

pub loop-rest-preserved : goal.loop-rest-preserved
loop-rest-preserved c =
    noted_more c.loop-rest.rest c.args.fronts c.args.at c.loop-rest.places c.args.places.now
    c.loop-rest.auto.rest-fits.fits c.loop-rest-test.true (omega (arith, c.requires.few, c.loop-rest.auto.places)) c.loop-rest.invariant
