use Rattle.std.proofs.Common.{◌+◌, List, length, refl, sym, subst, arith}
use Rattle.rbbi_canon.specs.declared.pairs.Pair.{Pair}
use Rattle.rbbi_canon.specs.inner.Joins.{JoinsLabels}
use Rattle.rbbi_canon.specs.inner.Pairs.{AreSearched}
use Rattle.rbbi_canon.proofs.Searching.{first_searched, searched_less, marked_alike}
use Rattle.rbbi_canon.proofs.compare.differ.Goals as goal

pub pairs-init : goal.pairs-init
pairs-init c =
    let these = c.args.these.now in
    let those = c.args.those.now in
    let letters = c.in_ok-letters.letters.items in
    let first : Pair = record { this = 1; that = 1; «from» = 0; letter = 0 } in
    let joins = subst (λ n. JoinsLabels c.in_ok-sets.sets 1 (n + 1) c.join.new.self) c.rows-rows.ensures c.join.ensures in
    subst (λ (l : List Pair). AreSearched these those letters c.join.new.self l 0) (sym c.in_ok-pairs.ensures.items)
    (first_searched these those c.valid.ensures c.valid-2.ensures letters c.in_ok-letters.ensures c.in_ok-sets.sets c.join.new.self first refl refl
    (omega (arith, c.in_ok-sets.ensures.all, c.rows-rows.ensures, c.rows.ensures))
    (λ k low. c.in_ok-sets.ensures.apart k (omega (arith, low, c.rows-rows.ensures, c.rows.ensures))) joins)

pub returns : goal.returns
returns c =
    let these = c.args.these.now in
    let those = c.args.those.now in
    let letters = c.in_ok-letters.letters.items in
    let pairs = c.pairs.pairs.items in
    marked_alike these those c.valid.ensures c.valid-2.ensures letters c.in_ok-letters.ensures c.pairs.sets pairs
    (searched_less these those letters c.pairs.sets pairs (length pairs) c.pairs.next (omega (arith, c.pairs-test.false, c.len.ensures)) c.pairs.invariant)
