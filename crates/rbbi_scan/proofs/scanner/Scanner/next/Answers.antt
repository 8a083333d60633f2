use Rattle.std.proofs.Common.{refl, arith}
use Rattle.rbbi_scan.specs.Columns.{columns}
use Rattle.rbbi_scan.specs.declared.reached.Stop.TheVariants.{Memory}
use Rattle.rbbi_scan.proofs.Fed.{gives_next}
use Rattle.rbbi_scan.proofs.scanner.Scanner.next.Goals as goal

pub returns-clause-next : goal.returns-clause-next
returns-clause-next g c =
    gives_next c.args.table.now c.args.self.now _ (columns c.args.starts.now c.args.ends.now c.args.statuses.now)
    (columns c.scan_held-reached.new.starts c.scan_held-reached.new.places c.scan_held-reached.new.statuses) c.scan_held-reached.result _
    c.args.self.now.within (c.scan_held-reached.ensures.scans Memory) (record { unit = refl; words = refl }) refl refl refl refl
    (omega (arith, c.scan_held-reached.ensures.counted, c.scan_held-reached.auto.places)) refl refl c.stop_from.ensures
