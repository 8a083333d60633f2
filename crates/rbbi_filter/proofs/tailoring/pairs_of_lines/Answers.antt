use Rattle.std.proofs.Common.{◌≡◌, suc, ◌+◌, Some, take, map, ap, sym, ◌∙◌, subst, inl, inr, arith}
use Rattle.std.specs.Prelude.{is_some}
use Rattle.std.proofs.lemmas.List.{take_all}
use Rattle.rbbi_filter.specs.Pairs.{second_of}
use Rattle.rbbi_filter.specs.PairFiles.{AreDistinct}
use Rattle.rbbi_filter.proofs.Turning.{distinct-append}
use Rattle.rbbi_filter.proofs.PairLines.{written, all_pairs, first_bad, more_written, some_there, none_there}
use Rattle.rbbi_filter.proofs.tailoring.pairs_of_lines.Goals as goal

pub loop-i-init : goal.loop-i-init
loop-i-init c = (sym (ap (map Some) c.new.ensures.items), subst AreDistinct (sym c.new.ensures.items) tt)

pub returns-in_default : goal.returns-in_default
returns-in_default c = λ all are.
    first_bad all c.args.lines.now c.loop-i.i c.get-line.result.now c.loop-i.tailoring are c.get-line.ensures c.loop-i.invariant.0 c.loop-i.invariant.1
    (inl c.in_default.is)

pub returns-then-is_some : goal.returns-then-is_some
returns-then-is_some c = λ all are.
    let second = some_there (second_of c.loop-i.tailoring c.in-Some.pair.from) (ap is_some (sym c.second_of.ensures) ∙ sym c.is_some.ensures
    ∙ c.if-is_some.true) in
    first_bad all c.args.lines.now c.loop-i.i c.get-line.result.now c.loop-i.tailoring are c.get-line.ensures c.loop-i.invariant.0 c.loop-i.invariant.1
    (inr (c.in-Some.pair, second.0, c.in-Some.is, second.1))

pub loop-i-preserved : goal.loop-i-preserved
loop-i-preserved c =
    let pairs = c.loop-i.tailoring in
    let pair = c.in-Some.pair in
    let added = c.in_ok-add.ensures.ok in
    let next : c.loop-i.i + 1 ≡ suc c.loop-i.i = omega arith in
    let none = none_there (second_of pairs pair.from) (ap is_some (sym c.second_of.ensures) ∙ sym c.is_some.ensures ∙ c.if-is_some.false) in (
      ap (λ n. written (take n c.args.lines.now)) next
          ∙ more_written c.args.lines.now c.loop-i.i c.get-line.result.now pairs pair c.get-line.ensures c.in-Some.is c.loop-i.invariant.0
          ∙ ap (map Some) (sym added),
      subst AreDistinct (sym added) (distinct-append pairs pair c.loop-i.invariant.1 none),
    )

pub returns : goal.returns
returns c = λ all are. (
  all_pairs all 0 c.args.lines.now c.loop-i.tailoring are
      (ap written (sym (take_all c.loop-i.i c.args.lines.now (omega (arith, c.loop-i-test.false, c.len-i-end.ensures)))) ∙ c.loop-i.invariant.0),
  c.loop-i.invariant.1,
)
