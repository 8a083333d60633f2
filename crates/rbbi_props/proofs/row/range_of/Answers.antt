-- A field with no dot, with a lone one, and with two in a row.
use Rattle.std.proofs.Common.{◌≡◌, ℕ, ◌+◌, ◌-◌, ◌<◌, List, [], true, false, eqb, length, get_or, take, drop, refl, ap, sym, subst, ◌∙◌, arith}
use Rattle.std.specs.List.{after_first, position_or_len}
use Rattle.std.proofs.lemmas.Bool.{eq-eqb, ne_eqb, eqb-true, eqb-false}
use Rattle.std.proofs.lemmas.List.{take_rest, nil_from_length}
use Rattle.rbbi_props.specs.RowLines.{span_between}
use Rattle.rbbi_props.proofs.Fields.{range_of-one, range_of-lone, range_of-pair}
use Rattle.rbbi_props.proofs.row.range_of.Goals as goal
use Rattle.rbbi_props.proofs.row.range_of.Goals.{then-is_empty-via-then-is_empty, then-is_empty-via-else-is_empty+then-rest-ne46}

pub returns-then-end-field-clause-value : goal.returns-then-end-field-clause-value
returns-then-end-field-clause-value c =
    c.span_between.ensures.value ∙ sym (range_of-one c.args.field.now (omega (arith, c.place_or_len-end.ensures.place)))

-- what stands after the first dot
tail_is : (xs : List ℕ) (i : ℕ) → i ≡ position_or_len (λ b. eqb b 46) xs →
    take (length xs - (i + 1)) (drop (i + 1) xs) ≡ after_first (λ b. eqb b 46) xs
tail_is xs i place = take_rest xs (i + 1) ∙ ap (λ n. drop (n + 1) xs) place

pub returns-then-is_empty-clause-value : goal.returns-then-is_empty-clause-value
returns-then-is_empty-clause-value c =
    let xs = c.args.field.now in
    let tail = tail_is xs c.place_or_len-end.result c.place_or_len-end.ensures.place in
    let lone : eqb (get_or (after_first (λ b. eqb b 46) xs) 0 0) 46 ≡ false =
    elim c.then-is_empty.branch [
      | then-is_empty-via-then-is_empty w ↦
          let none : after_first (λ b. eqb b 46) xs ≡ [] =
          sym tail ∙ nil_from_length _ (eqb-true _ _ (sym c.is_empty.ensures ∙ w.if-is_empty.true)) in
          subst (λ (r : List ℕ). eqb (get_or r 0 0) 46 ≡ false) (sym none) refl
      | then-is_empty-via-else-is_empty+then-rest-ne46 w ↦
          ne_eqb _ _ (λ h. w.if-rest-ne46.true (ap (λ (r : List ℕ). get_or r 0 0) tail ∙ h))
    ] in
    sym (range_of-lone xs (omega (arith, c.place_or_len-end.ensures.place, c.place_or_len-end.ensures.bound)) lone)

pub returns-clause-value : goal.returns-clause-value
returns-clause-value c =
    let xs = c.args.field.now in
    let i = c.place_or_len-end.result in
    let place = c.place_or_len-end.ensures.place in
    let tail : take (length xs - (i + 1)) (drop (i + 1) xs) ≡ after_first (λ b. eqb b 46) xs = tail_is xs i place in
    let rest = take (length xs - (i + 1)) (drop (i + 1) xs) in
    let filled : length rest ≡ 0 → ⊥ = eqb-false _ _ (sym c.is_empty.ensures ∙ c.if-is_empty.false) in
    let more : 0 < length (after_first (λ b. eqb b 46) xs) = omega (arith, ap length tail, filled) in
    let two : eqb (get_or (after_first (λ b. eqb b 46) xs) 0 0) 46 ≡ true =
    eq-eqb _ _ (ap (λ (r : List ℕ). get_or r 0 0) (sym tail) ∙ c.if-rest-ne46.false) in
    c.span_between-2.ensures.value
    ∙ ap (λ (high : List ℕ). span_between (take i xs) high) (take_rest rest 1)
    ∙ ap (λ (r : List ℕ). span_between (take i xs) (drop 1 r)) tail
    ∙ ap (λ n. span_between (take n xs) (drop 1 (after_first (λ b. eqb b 46) xs))) place
    ∙ sym (range_of-pair xs (omega (arith, place, c.place_or_len-end.ensures.bound)) more two)
