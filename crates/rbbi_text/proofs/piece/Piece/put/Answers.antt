use Rattle.std.proofs.Common.{◌-◌, length, ap, chars, sum_by, arith}
use Rattle.std.specs.List.{slice_range}
use Rattle.std.proofs.lemmas.List.Sums.{sum_by-take-le}
use Rattle.rbbi_model.specs.Units.{size_of}
use Rattle.rbbi_text.proofs.MilestoneLemmas.{slice_small, sum_small, sum_parts, long_is, reweighed}
use Rattle.rbbi_text.proofs.piece.Piece.put.Goals as goal

pub taken-gone-requires : goal.taken-gone-requires
taken-gone-requires c =
    omega (arith, slice_small c.self.inside.unit c.deref.result.now c.args.start c.args.end, ap length c.deref.ensures.value, c.self.invariant.few)

pub overflow_sub-self : goal.overflow_sub-self
overflow_sub-self c =
    let part = sum_parts (size_of c.self.inside.unit) c.self.inside.items.items c.args.start c.args.end c.requires.forward in
    omega (
      arith,
      c.taken-gone.ensures,
      ap (λ l. sum_by (size_of c.self.inside.unit) (slice_range l c.args.start c.args.end)) c.deref.ensures.value,
      part,
      sum_by-take-le (size_of c.self.inside.unit) c.self.inside.items.items c.args.end,
      c.self.invariant.size_is,
    )

pub taken-requires : goal.taken-requires
taken-requires c =
    let long =
    long_is c.self.inside.items.items c.put.new.items.items (chars c.args.text.now) c.args.start c.args.end c.requires.forward
    (omega (arith, c.requires.within, ap length c.self.view_is)) c.in_ok-put.ensures.ok in
    omega (
      arith,
      slice_small c.self.inside.unit c.deref-2.result.now c.args.start (c.len-2.result - (c.len.result - c.args.end)),
      ap length c.deref-2.ensures.value,
      long,
      c.requires.few,
      ap length c.self.view_is,
    )

pub overflow_add-self : goal.overflow_add-self
overflow_add-self c =
    let facts = reweighed c.self.inside.unit c.self.inside.items.items c.put.new.items.items (chars c.args.text.now) c.deref.result.now c.deref-2.result.now
    c.args.start c.args.end (c.len-2.result - (c.len.result - c.args.end)) c.self.inside.size c.taken-gone.result c.taken.result c.requires.forward
    (omega (arith, c.requires.within, ap length c.self.view_is)) (omega (arith, c.requires.few, ap length c.self.view_is)) c.in_ok-put.ensures.ok
    (omega (arith, c.len-2.ensures, c.len.ensures)) c.deref.ensures.value c.deref-2.ensures.value c.self.invariant.size_is c.taken-gone.ensures
    c.taken.ensures in
    omega (arith, facts.1, facts.2, sum_small c.self.inside.unit c.put.new.items.items)

pub invariant_of-self-2 : goal.invariant_of-self-2
invariant_of-self-2 c =
    let facts = reweighed c.self.inside.unit c.self.inside.items.items c.put.new.items.items (chars c.args.text.now) c.deref.result.now c.deref-2.result.now
    c.args.start c.args.end (c.len-2.result - (c.len.result - c.args.end)) c.self.inside.size c.taken-gone.result c.taken.result c.requires.forward
    (omega (arith, c.requires.within, ap length c.self.view_is)) (omega (arith, c.requires.few, ap length c.self.view_is)) c.in_ok-put.ensures.ok
    (omega (arith, c.len-2.ensures, c.len.ensures)) c.deref.ensures.value c.deref-2.ensures.value c.self.invariant.size_is c.taken-gone.ensures
    c.taken.ensures in
    record { few = facts.2; size_is = facts.1 }
