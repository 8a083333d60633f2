use Rattle.std.proofs.Common.{◌≡◌, ℕ, List, get_or, sym, subst, arith}
use Rattle.std.proofs.lemmas.Nat.{le_or_l, le_or_r}
use Rattle.std.proofs.lemmas.List.{get_or_read}
use Rattle.rbbi_model.specs.declared.unit.Unit.TheVariants.{Utf8, Utf16}
use Rattle.rbbi_model.proofs.ByCharacters.{sum_ones}
use Rattle.rbbi_text.specs.Weighed.{IsSingle}
use Rattle.rbbi_text.proofs.Singles.{single_more, one_byte, one_unit}
use Rattle.rbbi_text.proofs.measure.are_single.Goals as goal

pub loop-item-preserved : goal.loop-item-preserved
loop-item-preserved c =
    let x : List ℕ = c.args.items.now in
    let i : ℕ = c.loop-item.item-index in
    let item : ℕ = c.item-item.result in
    let read : item ≡ get_or x i 0 = get_or_read x i item c.loop-item-test.true c.item-item.is 0 in
    let before = le_or_l c.loop-item.bits item in
    let here = le_or_r c.loop-item.bits item in
    record {
      bytes = λ low.
          single_more Utf8 x i c.loop-item-test.true (one_byte (get_or x i 0) (omega (arith, here, low, read)))
          (c.loop-item.invariant.bytes (omega (arith, before, low)));
      units = λ low.
          single_more Utf16 x i c.loop-item-test.true (one_unit (get_or x i 0) (omega (arith, here, low, read)))
          (c.loop-item.invariant.units (omega (arith, before, low)));
    }

pub returns-in-Chars : goal.returns-in-Chars
returns-in-Chars c = λ _. subst (λ u. IsSingle u c.args.items.now) (sym c.in-Chars.is) (sum_ones c.args.items.now)
