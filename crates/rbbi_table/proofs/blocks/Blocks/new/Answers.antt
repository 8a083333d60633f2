use Rattle.std.proofs.Common.{◌≡◌, ℕ, ◌+◌, ◌-◌, ◌*◌, ◌<◌, List, length, sym, subst, arith}
use Rattle.std.proofs.lemmas.List.{get_or_read}
use Rattle.rbbi_model.specs.Tables.{CategoryRange}
use Rattle.rbbi_table.specs.inner.Ranges.{IsUpTo}
use Rattle.rbbi_table.specs.Blocks.{AreFirstBlocks}
use Rattle.rbbi_table.proofs.BlockLemmas.{push_same, push_new}
use Rattle.rbbi_table.proofs.blocks.Blocks.new.Goals as goal

pub loop-number-preserved-then-holds_blocks : goal.loop-number-preserved-then-holds_blocks
loop-number-preserved-then-holds_blocks c =
    let ranges : List CategoryRange = c.args.ranges.now in
    let inv = c.loop-number.invariant in
    let number : ℕ = c.loop-number.number in
    let begins = c.holds_blocks.ensures.begins c.if-holds_blocks.true in
    let further = c.holds_blocks.ensures.up_to c.if-holds_blocks.true in
    let next : number * 256 + 256 ≡ (number + 1) * 256 = omega arith in
    let short : number - 1 < length c.loop-number.numbers.items = omega (arith, inv.first.all, c.if-number-gt0.true) in
    let read = get_or_read c.loop-number.numbers.items (number - 1) c.index-same.result.now short c.index-same.ensures 0 in
    record {
      up_to = subst (λ n. IsUpTo ranges c.loop-number.range n) next further;
      first = subst (λ (l : List ℕ). AreFirstBlocks ranges l c.loop-number.kept.items (number + 1)) (sym c.in_ok-push.ensures.items)
          (push_same ranges c.loop-number.numbers.items c.loop-number.kept.items number inv.first c.loop-number.range c.index-same.result.now c.requires.apart
          (omega arith) inv.up_to begins further read);
      sums = inv.sums;
      few = omega (arith, inv.few);
      long = inv.long;
    }

pub loop-number-preserved : goal.loop-number-preserved
loop-number-preserved c =
    let ranges : List CategoryRange = c.args.ranges.now in
    let inv = c.loop-number.invariant in
    let number : ℕ = c.loop-number.number in
    let next : number * 256 + 256 ≡ (number + 1) * 256 = omega arith in
    let kept = c.in_ok-kept_number.ensures.kept in
    record {
      up_to = subst (λ n. IsUpTo ranges c.fill-range.result n) (let e : number * 256 + length c.loop-number.block ≡ (number + 1) * 256 =
          omega (arith, inv.long) in e) c.fill-range.ensures.up_to;
      first = subst (λ (l : List ℕ). AreFirstBlocks ranges l c.keep.new.kept.items (number + 1)) (sym c.in_ok-push-2.ensures.items)
          (push_new ranges c.loop-number.numbers.items c.loop-number.kept.items number inv.first c.keep.new.kept.items c.fill-range.new.block
          c.in_ok-kept_number.kept_number
          c.in_ok-kept_number.ensures.before kept.0 kept.1 (λ k short. c.fill-range.ensures.block k
          (let e : k < length c.loop-number.block = omega (arith, short, inv.long) in e)));
      sums = c.in_ok-kept_number.ensures.sums;
      few = omega (arith, c.in_ok-kept_number.ensures.one, inv.few);
      long = omega (arith, inv.long, c.fill-range.auto.block);
    }
