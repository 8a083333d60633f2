use Rattle.std.proofs.Common.{Some, refl, sym, ap, ◌∙◌, subst}
use Rattle.rbbi_scan.specs.Columns.{columns}
use Rattle.rbbi_scan.specs.Feeding.{GivesNext}
use Rattle.rbbi_c.specs.Feeding.{GivesThrough}
use Rattle.rbbi_c.specs.Scanning.{code_of, fault_code}
use Rattle.rbbi_c.specs.declared.held.Held.TheVariants.{Scan}
use Rattle.rbbi_c.proofs.feeding.next_held.Goals as goal

pub returns-in-Scan : goal.returns-in-Scan
returns-in-Scan g c =
    subst (λ h. GivesThrough (Some h) (columns c.args.starts.now c.args.ends.now c.args.statuses.now)
    (columns c.next-reached.new.starts c.next-reached.new.ends c.next-reached.new.statuses) c.tell.result c.args.given.now c.tell.new.given
    (Some (Scan (record { table = c.in-Scan.desk.table; scanner = c.next-reached.new.self })))) (sym c.in-Scan.is)
    (record {
      new = record { table = c.in-Scan.desk.table; scanner = c.next-reached.new.self };
      reached = c.next-reached.result;
      holds = refl;
      table_is = refl;
      next = subst (λ t. GivesNext t (columns c.args.starts.now c.args.ends.now c.args.statuses.now)
          (columns c.next-reached.new.starts c.next-reached.new.ends c.next-reached.new.statuses) c.in-Scan.desk.scanner c.next-reached.new.self
          c.next-reached.result) c.table-table.ensures c.next-reached.ensures.next;
      told_is = c.tell.ensures.given;
      code_is = c.tell.ensures.code ∙ ap (λ f. code_of f c.next-reached.result.stop) (c.fault_of-fault.ensures ∙ ap fault_code c.unit.ensures);
    })
