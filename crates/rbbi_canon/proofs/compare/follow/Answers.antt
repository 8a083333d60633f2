use Rattle.std.proofs.Common.{◌+◌, List, length, refl, sym, ◌∙◌, ap, subst, arith}
use Rattle.std.proofs.lemmas.List.{length_push}
use Rattle.rbbi_canon.specs.declared.pairs.Pair.{Pair}
use Rattle.rbbi_canon.specs.inner.Joins.{JoinsLabels}
use Rattle.rbbi_canon.specs.inner.Pairs.{pair_at, AreReached, AreSearched}
use Rattle.rbbi_canon.proofs.Searching.{letter_low, letter_low', follows_within, led_reached, led_searched, led_pair, led_followed}
use Rattle.rbbi_canon.proofs.compare.follow.Goals as goal

pub step-this-requires-clause-category : goal.step-this-requires-clause-category
step-this-requires-clause-category c =
    letter_low c.args.these.now c.args.those.now c.valid.ensures c.valid-2.ensures c.args.letters.now c.requires.letters c.loop-number.number
    c.loop-number-test.true

pub step-that-requires-clause-category : goal.step-that-requires-clause-category
step-that-requires-clause-category c =
    letter_low' c.args.these.now c.args.those.now c.valid.ensures c.valid-2.ensures c.args.letters.now c.requires.letters c.loop-number.number
    c.loop-number-test.true

pub are_joined-requires-clause-this : goal.are_joined-requires-clause-this
are_joined-requires-clause-this c =
    let h = c.loop-number.invariant in
    let rows = follows_within c.args.these.now c.args.those.now c.valid.ensures c.valid-2.ensures c.args.letters.now c.requires.letters
    c.loop-number.pairs.items
    c.args.next c.loop-number.number c.index-pair.result.now h.0.reached h.1 h.2 c.loop-number-test.true in
    omega (arith, rows.0, c.step-this.ensures, h.0.joined.all)

pub are_joined-requires-clause-that : goal.are_joined-requires-clause-that
are_joined-requires-clause-that c =
    let h = c.loop-number.invariant in
    let rows = follows_within c.args.these.now c.args.those.now c.valid.ensures c.valid-2.ensures c.args.letters.now c.requires.letters
    c.loop-number.pairs.items
    c.args.next c.loop-number.number c.index-pair.result.now h.0.reached h.1 h.2 c.loop-number-test.true in
    omega (arith, rows.1, c.step-that.ensures, h.0.joined.all, c.rows-rows.ensures)

pub have_same_marks-requires-clause-this : goal.have_same_marks-requires-clause-this
have_same_marks-requires-clause-this c =
    let h = c.loop-number.invariant in
    let rows = follows_within c.args.these.now c.args.those.now c.valid.ensures c.valid-2.ensures c.args.letters.now c.requires.letters
    c.loop-number.pairs.items
    c.args.next c.loop-number.number c.index-pair.result.now h.0.reached h.1 h.2 c.loop-number-test.true in
    omega (arith, rows.0, c.step-this.ensures)

pub have_same_marks-requires-clause-that : goal.have_same_marks-requires-clause-that
have_same_marks-requires-clause-that c =
    let h = c.loop-number.invariant in
    let rows = follows_within c.args.these.now c.args.those.now c.valid.ensures c.valid-2.ensures c.args.letters.now c.requires.letters
    c.loop-number.pairs.items
    c.args.next c.loop-number.number c.index-pair.result.now h.0.reached h.1 h.2 c.loop-number-test.true in
    omega (arith, rows.1, c.step-that.ensures)

pub join-requires-clause-this : goal.join-requires-clause-this
join-requires-clause-this c =
    let h = c.loop-number.invariant in
    let rows = follows_within c.args.these.now c.args.those.now c.valid.ensures c.valid-2.ensures c.args.letters.now c.requires.letters
    c.loop-number.pairs.items
    c.args.next c.loop-number.number c.index-pair.result.now h.0.reached h.1 h.2 c.loop-number-test.true in
    omega (arith, rows.0, c.step-this.ensures, h.0.joined.all)

pub join-requires-clause-that : goal.join-requires-clause-that
join-requires-clause-that c =
    let h = c.loop-number.invariant in
    let rows = follows_within c.args.these.now c.args.those.now c.valid.ensures c.valid-2.ensures c.args.letters.now c.requires.letters
    c.loop-number.pairs.items
    c.args.next c.loop-number.number c.index-pair.result.now h.0.reached h.1 h.2 c.loop-number-test.true in
    omega (arith, rows.1, c.step-that.ensures, h.0.joined.all, c.rows-rows.ensures)

pub word_to-requires-clause-reached : goal.word_to-requires-clause-reached
word_to-requires-clause-reached c =
    let these = c.args.these.now in
    let those = c.args.those.now in
    let letters = c.args.letters.now in
    let pairs = c.loop-number.pairs.items in
    let h = c.loop-number.invariant in
    let new : Pair = record { this = c.step-this.result; that = c.step-that.result; «from» = c.args.next; letter = c.loop-number.number } in
    subst (λ (l : List Pair). AreReached these those letters l) (sym (c.deref.ensures.value ∙ c.in_ok-push.ensures.items))
    (led_reached these those c.valid.ensures c.valid-2.ensures letters c.requires.letters pairs c.loop-number.sets c.args.next c.loop-number.number
    c.step-this.result c.step-that.result c.index-pair.result.now new h.0 h.1 h.2 c.loop-number-test.true c.step-this.ensures c.step-that.ensures refl)

pub loop-number-preserved : goal.loop-number-preserved
loop-number-preserved c =
    let these = c.args.these.now in
    let those = c.args.those.now in
    let letters = c.args.letters.now in
    let pairs = c.loop-number.pairs.items in
    let h = c.loop-number.invariant in
    let new : Pair = record { this = c.step-this.result; that = c.step-that.result; «from» = c.args.next; letter = c.loop-number.number } in
    let items = c.in_ok-push.ensures.items in
    let joins = subst (λ n. JoinsLabels c.loop-number.sets c.step-this.result (n + c.step-that.result) c.join.new.self) c.rows-rows.ensures c.join.ensures in
    let marked = c.have_same_marks.ensures.0 c.if-not-have_same_marks.false in (
      subst (λ (l : List Pair). AreSearched these those letters c.join.new.self l c.args.next) (sym items)
          (led_searched these those c.valid.ensures c.valid-2.ensures letters c.requires.letters pairs c.loop-number.sets c.args.next c.loop-number.number
          c.step-this.result c.step-that.result c.index-pair.result.now new h.0 h.1 h.2 c.loop-number-test.true c.step-this.ensures
          c.step-that.ensures refl c.join.new.self marked joins),
      omega (arith, ap length items, length_push pairs new, h.1),
      ap (λ (l : List Pair). pair_at l c.args.next) items
          ∙ led_pair these those c.valid.ensures c.valid-2.ensures letters c.requires.letters pairs c.loop-number.sets c.args.next c.loop-number.number
          c.step-this.result c.step-that.result c.index-pair.result.now new h.0 h.1 h.2 c.loop-number-test.true c.step-this.ensures c.step-that.ensures refl,
      led_followed these those c.valid.ensures c.valid-2.ensures letters c.requires.letters pairs c.loop-number.sets c.args.next c.loop-number.number
          c.step-this.result c.step-that.result c.index-pair.result.now new h.0 h.1 h.2 c.loop-number-test.true c.step-this.ensures c.step-that.ensures refl
          c.join.new.self joins h.3,
    )
