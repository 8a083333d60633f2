use Rattle.std.proofs.Common.{◌∷◌, ◌++◌, [], List, ℕ, Bor, Vec, Global, map, ap, sym, ◌∙◌, subst, arith}
use Rattle.std.proofs.lemmas.List.{get_or-map, length-map, map_push}
use Rattle.rbbi_dfa.specs.inner.Numbers.{AreNumbered}
use Rattle.rbbi_dfa.proofs.Numbering.{AreNumbered-unused, AreNumbered-used}
use Rattle.rbbi_dfa.proofs.minimize.lists.number_lists.Goals as goal

pub loop-place-preserved-then-not-used-place : goal.loop-place-preserved-then-not-used-place
loop-place-preserved-then-not-used-place c =
    let lists = c.loop-place.lists in
    let count = c.len.ensures ∙ lists.ok.0 ∙ sym (length-map lists.items (λ (statuses : Vec ℕ Global). statuses.items)) in
    AreNumbered-unused c.args.used.now _ c.loop-place.place c.loop-place.numbers.items _ c.loop-place.invariant c.push.new.self.items c.if-not-used-place.true
    (c.in_ok-push.ensures.items ∙ ap (λ (n : ℕ). c.loop-place.numbers.items ++ n ∷ []) count)

pub loop-place-preserved : goal.loop-place-preserved
loop-place-preserved c =
    let lists = c.loop-place.lists in
    let items = λ (statuses : Vec ℕ Global). statuses.items in
    let count = c.len.ensures ∙ lists.ok.0 ∙ sym (length-map lists.items (λ (statuses : Vec ℕ Global). statuses.items)) in
    AreNumbered-used c.args.used.now _ c.loop-place.place c.loop-place.numbers.items _ c.loop-place.invariant c.push.new.self.items _
    c.in_ok-from_slice.field-0.items
    c.requires.rising (omega (arith, length-map c.args.sorted.now (λ (statuses : Bor (List ℕ)). statuses.now))) c.if-not-used-place.false
    (c.in_ok-from_slice.ensures.items
    ∙ sym (get_or-map (λ (statuses : Bor (List ℕ)). statuses.now) c.args.sorted.now c.loop-place.place _ [] c.loop-place-test.true))
    (c.in_ok-push.ensures.items ∙ ap (λ (n : ℕ). c.loop-place.numbers.items ++ n ∷ []) count)
    (ap (λ (xs : List (Vec ℕ Global)). map (λ (statuses : Vec ℕ Global). statuses.items) xs) c.in_ok-push-2.ensures.items
    ∙ map_push (λ (statuses : Vec ℕ Global). statuses.items) lists.items c.in_ok-from_slice.field-0)

pub returns : goal.returns
returns c =
    subst (λ (n : ℕ). AreNumbered c.args.used.now (map (λ (statuses : Bor (List ℕ)). statuses.now) c.args.sorted.now) n c.loop-place.numbers.items
    (map (λ (statuses : Vec ℕ Global). statuses.items) c.loop-place.lists.items))
    (omega (arith, c.loop-place-test.false, c.loop-place.auto.place-end)) c.loop-place.invariant
