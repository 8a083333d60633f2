use Rattle.rbbi_c.proofs.changing.removed_by.Goals as goal

pub returns-in-Ok : goal.returns-in-Ok
returns-in-Ok g c =
    let is = c.in_ok-span.ensures in record {
      end = c.in_ok-span.span.end;
      first_is = is.first_is;
      end_is = is.end_is;
      order = is.order;
      within = is.within;
      low = is.low;
      text_is = c.in-Ok.ensures;
    }
