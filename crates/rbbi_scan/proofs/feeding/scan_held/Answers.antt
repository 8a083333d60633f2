use Rattle.std.proofs.Common.{sym, subst}
use Rattle.rbbi_model.specs.declared.unit.Unit.TheVariants.{Utf8, Utf16}
use Rattle.rbbi_model.specs.Words.{most_characters}
use Rattle.rbbi_scan.specs.Columns.{columns}
use Rattle.rbbi_scan.specs.Scanning.{ScansOn}
use Rattle.rbbi_scan.specs.Units.{unit_of, units_of}
use Rattle.rbbi_scan.proofs.Fed.{scans_none}
use Rattle.rbbi_scan.proofs.feeding.scan_held.Goals as goal

pub returns-then-len-from-clause-scans : goal.returns-then-len-from-clause-scans
returns-then-len-from-clause-scans g c =
    λ stop.
    scans_none (unit_of c.args.held.now) c.args.table.now c.args.asked c.args.is_last (units_of c.args.held.now) c.args.from
    (columns c.args.starts.now c.args.places.now c.args.statuses.now) stop c.if-not-is_last.true

pub returns-in-Bytes-clause-scans : goal.returns-in-Bytes-clause-scans
returns-in-Bytes-clause-scans g c =
    λ stop.
    subst (λ h. ScansOn (unit_of h) c.args.table.now c.args.asked c.args.is_last most_characters (units_of h)
    (record { count = 0; resume = c.args.from; stop = stop }) (columns c.args.starts.now c.args.places.now c.args.statuses.now)
    (columns c.scan.new.starts c.scan.new.places c.scan.new.statuses) c.scan.result) (sym c.in-Bytes.is)
    (subst (λ l. ScansOn Utf8 c.args.table.now c.args.asked c.args.is_last most_characters l
    (record { count = 0; resume = c.args.from; stop = stop }) (columns c.args.starts.now c.args.places.now c.args.statuses.now)
    (columns c.scan.new.starts c.scan.new.places c.scan.new.statuses) c.scan.result) c.deref.ensures.value
    (c.scan.ensures.scans stop))

pub returns-in-Wide-clause-scans : goal.returns-in-Wide-clause-scans
returns-in-Wide-clause-scans g c =
    λ stop.
    subst (λ h. ScansOn (unit_of h) c.args.table.now c.args.asked c.args.is_last most_characters (units_of h)
    (record { count = 0; resume = c.args.from; stop = stop }) (columns c.args.starts.now c.args.places.now c.args.statuses.now)
    (columns c.scan-in-Wide.new.starts c.scan-in-Wide.new.places c.scan-in-Wide.new.statuses) c.scan-in-Wide.result) (sym c.in-Wide.is)
    (subst (λ l. ScansOn Utf16 c.args.table.now c.args.asked c.args.is_last most_characters l
    (record { count = 0; resume = c.args.from; stop = stop }) (columns c.args.starts.now c.args.places.now c.args.statuses.now)
    (columns c.scan-in-Wide.new.starts c.scan-in-Wide.new.places c.scan-in-Wide.new.statuses) c.scan-in-Wide.result) c.deref-in-Wide.ensures.value
    (c.scan-in-Wide.ensures.scans stop))
