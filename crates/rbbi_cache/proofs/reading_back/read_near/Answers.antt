use Rattle.std.proofs.Common.{◌-◌, sym, ◌∙◌, ap, length-set, arith}
use Rattle.rbbi_model.specs.Tables.{category_of}
use Rattle.rbbi_cache.proofs.ReadBack.{kept_on, nears_on, near_found, near_start}
use Rattle.rbbi_cache.proofs.reading_back.read_near.Goals as goal

pub returns-then-is_safe-clause-near : goal.returns-then-is_safe-clause-near
returns-then-is_safe-clause-near g c =
    near_found c.args.table.now (g.T.Chars.characters c.args.text.now) c.args.end c.loop-place.place c.loop-place.next c.loop-place.slots
    c.requires.within c.loop-place.invariant.nears (omega arith)
    c.loop-place.invariant.many (omega arith) c.category-here.result
    (c.category-here.ensures.value ∙ ap (category_of c.args.table.now.ranges) c.char_at-in-loop-place.ensures.character) c.category-here.ensures.within
    (c.loop-place.slot - 1) (omega arith)
    (sym c.is_safe.ensures.stored ∙ c.if-is_safe.true) (c.is_safe.ensures.exact.0 c.if-is_safe.true)

pub returns-then-is_safe-clause-kept : goal.returns-then-is_safe-clause-kept
returns-then-is_safe-clause-kept g c =
    kept_on c.args.table.now (g.T.Chars.characters c.args.text.now) c.args.end c.loop-place.place c.loop-place.next c.loop-place.slots
    c.requires.within c.loop-place.invariant.nears (omega arith)
    c.loop-place.invariant.many (omega arith) c.category-here.result
    (c.category-here.ensures.value ∙ ap (category_of c.args.table.now.ranges) c.char_at-in-loop-place.ensures.character) c.category-here.ensures.within
    (c.loop-place.slot - 1) (omega arith)

pub loop-place-preserved : goal.loop-place-preserved
loop-place-preserved g c = record {
  low = omega arith;
  slot = omega arith;
  many = omega (arith, length-set c.loop-place.slots (c.loop-place.slot - 1) c.category-here.result);
  nears = nears_on c.args.table.now (g.T.Chars.characters c.args.text.now) c.args.end c.loop-place.place c.loop-place.next c.loop-place.slots
      c.requires.within c.loop-place.invariant.nears (omega arith)
      c.loop-place.invariant.many (omega arith) c.category-here.result
      (c.category-here.ensures.value ∙ ap (category_of c.args.table.now.ranges) c.char_at-in-loop-place.ensures.character) c.category-here.ensures.within
      (c.loop-place.slot - 1) (omega arith)
      (sym c.is_safe.ensures.stored ∙ c.if-is_safe.false);
  steps = omega arith;
}

pub returns-then-low-eq0-clause-near : goal.returns-then-low-eq0-clause-near
returns-then-low-eq0-clause-near g c =
    near_start c.args.table.now (g.T.Chars.characters c.args.text.now) c.args.end c.loop-place.place c.loop-place.next c.loop-place.slots
    c.requires.within c.loop-place.invariant.nears (omega arith) (omega arith)
