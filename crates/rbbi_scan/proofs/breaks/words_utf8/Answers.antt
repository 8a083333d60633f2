use Rattle.std.proofs.Common.{refl}
use Rattle.rbbi_model.specs.declared.unit.Unit.TheVariants.{Utf8}
use Rattle.rbbi_scan.specs.Columns.{columns}
use Rattle.rbbi_scan.specs.declared.reached.Stop.TheVariants.{Memory}
use Rattle.std.proofs.Common.{true}
use Rattle.rbbi_scan.proofs.Whole.{breaks_at}
use Rattle.rbbi_scan.proofs.breaks.words_utf8.Goals as goal

pub returns-clause-breaks : goal.returns-clause-breaks
returns-clause-breaks g c =
    λ x begin end place text within resume_is. breaks_at Utf8 c.args.table.now (record { only_words = true; origin = 0 }) c.args.text.now
    (record { count = 0; resume = c.args.from; stop = Memory }) (columns c.args.starts.now c.args.ends.now c.args.statuses.now)
    (columns c.scan.new.starts c.scan.new.places c.scan.new.statuses) c.scan.result refl (c.scan.ensures.scans Memory) refl
    x begin end place text within resume_is
