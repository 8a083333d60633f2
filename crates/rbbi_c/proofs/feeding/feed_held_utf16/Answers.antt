use Rattle.std.proofs.Common.{Some, refl, sym, subst}
use Rattle.rbbi_model.specs.declared.unit.Unit.TheVariants.{Utf16}
use Rattle.rbbi_c.specs.Feeding.{FeedsThrough}
use Rattle.rbbi_c.specs.declared.held.Held.TheVariants.{Scan}
use Rattle.rbbi_c.proofs.Fed.{fed_or_still}
use Rattle.rbbi_c.proofs.feeding.feed_held_utf16.Goals as goal

pub returns-in-Scan : goal.returns-in-Scan
returns-in-Scan c =
    subst (λ h. FeedsThrough Utf16 (Some h) c.args.piece.now c.args.is_last c.feed_code.result
    (Some (Scan (record { table = c.in-Scan.desk.table; scanner = c.feed_utf16.new.self })))) (sym c.in-Scan.is)
    (record {
      new = record { table = c.in-Scan.desk.table; scanner = c.feed_utf16.new.self };
      outcome = c.feed_utf16.result;
      holds = refl;
      table_is = refl;
      fed = fed_or_still Utf16 c.args.piece.now c.args.is_last c.in-Scan.desk.scanner c.feed_utf16.new.self c.feed_utf16.result c.feed_utf16.ensures.fed c.feed_utf16.ensures.refused
          c.feed_utf16.ensures.still;
      code_is = c.feed_code.ensures;
    })
