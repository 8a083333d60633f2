use Rattle.std.proofs.Common.{Some, refl, sym, subst}
use Rattle.rbbi_model.specs.declared.unit.Unit.TheVariants.{Utf8}
use Rattle.rbbi_c.specs.Feeding.{FeedsThrough}
use Rattle.rbbi_c.specs.declared.held.Held.TheVariants.{Scan}
use Rattle.rbbi_c.proofs.Fed.{fed_or_still}
use Rattle.rbbi_c.proofs.feeding.feed_held.Goals as goal

pub returns-in-Scan : goal.returns-in-Scan
returns-in-Scan c =
    subst (λ h. FeedsThrough Utf8 (Some h) c.args.piece.now c.args.is_last c.feed_code.result
    (Some (Scan (record { table = c.in-Scan.desk.table; scanner = c.feed_utf8.new.self })))) (sym c.in-Scan.is)
    (record {
      new = record { table = c.in-Scan.desk.table; scanner = c.feed_utf8.new.self };
      outcome = c.feed_utf8.result;
      holds = refl;
      table_is = refl;
      fed = fed_or_still Utf8 c.args.piece.now c.args.is_last c.in-Scan.desk.scanner c.feed_utf8.new.self c.feed_utf8.result c.feed_utf8.ensures.fed c.feed_utf8.ensures.refused
          c.feed_utf8.ensures.still;
      code_is = c.feed_code.ensures;
    })
