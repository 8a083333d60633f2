use Rattle.std.proofs.Common.{◌≡◌, ◌+◌, refl, ap, ◌∙◌, arith}
use Rattle.rbbi_model.specs.Places.{largest}
use Rattle.rbbi_segment.proofs.segments.segment_up_to.Goals as goal

pub returns : goal.returns
returns c = record {
  start = refl;
  end = omega (arith, c.in_ok-checked_add.ensures, c.from-characters.ensures);
  start_offset = refl;
  end_offset = omega (arith, c.in_ok-checked_add-2.ensures, c.from-units.ensures, c.units_between.ensures.sum);
  status = c.largest_of.ensures ∙ ap largest c.status_list.ensures;
}
