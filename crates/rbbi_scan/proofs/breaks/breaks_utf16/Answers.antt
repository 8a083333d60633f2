use Rattle.std.proofs.Common.{false, [], refl, subst}
use Rattle.std.proofs.lemmas.List.{nil_from_length}
use Rattle.rbbi_model.specs.declared.unit.Unit.TheVariants.{Utf16}
use Rattle.rbbi_scan.specs.Breaks.{BreaksAt}
use Rattle.rbbi_scan.specs.Columns.{columns}
use Rattle.rbbi_scan.specs.declared.reached.Stop.TheVariants.{Memory}
use Rattle.rbbi_scan.proofs.Whole.{breaks_at}
use Rattle.rbbi_scan.proofs.breaks.breaks_utf16.Goals as goal

pub returns-clause-breaks : goal.returns-clause-breaks
returns-clause-breaks g c =
    λ x begin end place text within resume_is.
    subst (λ starts. BreaksAt Utf16 c.args.table.now false c.args.text.now begin end x place (columns [] c.args.places.now c.args.statuses.now)
    (columns starts c.scan.new.places c.scan.new.statuses) c.scan.result) (nil_from_length c.scan.new.starts c.scan.auto.starts)
    (breaks_at Utf16 c.args.table.now (record { only_words = false; origin = 0 }) c.args.text.now
    (record { count = 0; resume = c.args.from; stop = Memory }) (columns [] c.args.places.now c.args.statuses.now)
    (columns c.scan.new.starts c.scan.new.places c.scan.new.statuses) c.scan.result refl (c.scan.ensures.scans Memory) refl
    x begin end place text within resume_is)
