use Rattle.std.proofs.Common.{refl}
use Rattle.rbbi_scan.specs.Columns.{columns}
use Rattle.rbbi_scan.proofs.Stopping.{scans_none}
use Rattle.rbbi_scan.proofs.scanning.by_wide_windows.Goals as goal

pub returns-in_default-clause-scans : goal.returns-in_default-clause-scans
returns-in_default-clause-scans g c =
    scans_none g.S.Source.unit c.args.table.now c.args.asked c.args.is_last (g.S.Source.units c.args.source.now) c.args.size c.args.start _
    (columns c.args.starts.now c.args.places.now c.args.statuses.now) refl

pub returns-in_default-vec-clause-scans : goal.returns-in_default-vec-clause-scans
returns-in_default-vec-clause-scans g c =
    scans_none g.S.Source.unit c.args.table.now c.args.asked c.args.is_last (g.S.Source.units c.args.source.now) c.args.size c.args.start _
    (columns c.args.starts.now c.args.places.now c.args.statuses.now) refl
