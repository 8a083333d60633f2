-- What holds of each word of rows, where it was shown of those up to the end, or of those of a span.
use Rattle.std.proofs.Common.{◌≡◌, ℕ, ◌<◌, ◌≤◌, ◌⊎◌, List, length, get_or, sym, ap, ◌∙◌, inl, inr, ⊎_elim, arith}
use Rattle.std.specs.Prelude.{bit_and}
use Rattle.std.specs.Int.RustNames.{bit_or}
use Rattle.std.specs.Int.Bits.{or_zero_r, and_zero_l}
use Rattle.std.proofs.lemmas.Bool.{cases_lt}
use Rattle.std.proofs.lemmas.List.{get_or_past}
use Rattle.rbbi_bits.specs.BitRows.{IsSpan}

-- all words of a row
pub whole : (row : List ℕ) (to : ℕ) → to ≡ length row → IsSpan row 0 to
whole row to all = record {
  within = omega (arith, all);
  before = λ k below. absurd (omega (arith, below));
  past = λ k past. get_or_past row k 0 (omega (arith, past, all));
}

-- outside of a span a word stays, and there the other is 0
pub or_within : (row old other : List ℕ) (from to i : ℕ) → IsSpan other from to → to ≤ i →
    ((k : ℕ) → from ≤ k → k < i → get_or row k 0 ≡ bit_or (get_or old k 0) (get_or other k 0)) →
    ((k : ℕ) → (k < from) ⊎ (i ≤ k) → get_or row k 0 ≡ get_or old k 0) → (k : ℕ) → get_or row k 0 ≡ bit_or (get_or old k 0) (get_or other k 0)
or_within row old other from to i span all inside outside k =
    let kept : get_or other k 0 ≡ 0 → get_or row k 0 ≡ get_or old k 0 → get_or row k 0 ≡ bit_or (get_or old k 0) (get_or other k 0) =
    λ none same. same ∙ sym (or_zero_r (get_or old k 0)) ∙ ap (λ n. bit_or (get_or old k 0) n) (sym none) in
    ⊎_elim (λ sooner. kept (span.before k sooner) (outside k (inl sooner)))
    (λ from_on.
    ⊎_elim (λ short. inside k from_on short)
    (λ past. kept (span.past k (omega (arith, all, past))) (outside k (inr past)))
    (cases_lt k i))
    (cases_lt k from)

-- rows that have no bit in common in the span of the one have none
pub and_within : (these those : List ℕ) (from to i : ℕ) → IsSpan these from to → to ≤ i →
    ((k : ℕ) → from ≤ k → k < i → bit_and (get_or these k 0) (get_or those k 0) ≡ 0) → (k : ℕ) → bit_and (get_or these k 0) (get_or those k 0) ≡ 0
and_within these those from to i span all inside k =
    let none : get_or these k 0 ≡ 0 → bit_and (get_or these k 0) (get_or those k 0) ≡ 0 =
    λ zero. ap (λ n. bit_and n (get_or those k 0)) zero ∙ and_zero_l (get_or those k 0) in
    ⊎_elim (λ sooner. none (span.before k sooner))
    (λ from_on.
    ⊎_elim (λ short. inside k from_on short)
    (λ past. none (span.past k (omega (arith, all, past))))
    (cases_lt k i))
    (cases_lt k from)

pub IsSpan-from_loop : (row : List ℕ) (from to i : ℕ) → length row ≤ i → to ≤ length row → ((k : ℕ) → k < from → k < i → get_or row k 0 ≡ 0) →
    ((k : ℕ) → to ≤ k → k < i → get_or row k 0 ≡ 0) → IsSpan row from to
IsSpan-from_loop row from to i all within before past = record {
  within = within;
  before = λ k sooner. ⊎_elim (λ short. before k sooner short) (λ beyond. get_or_past row k 0 (omega (arith, all, beyond))) (cases_lt k i);
  past = λ k later. ⊎_elim (λ short. past k later short) (λ beyond. get_or_past row k 0 (omega (arith, all, beyond))) (cases_lt k i);
}

pub and_each : (row these those : List ℕ) (i : ℕ) → length row ≤ i → length these ≤ i → length those ≤ i →
    ((k : ℕ) → k < i → get_or row k 0 ≡ bit_and (get_or these k 0) (get_or those k 0)) →
    (k : ℕ) → get_or row k 0 ≡ bit_and (get_or these k 0) (get_or those k 0)
and_each row these those i a b d each k =
    ⊎_elim (λ short. each k short)
    (λ past.
    get_or_past row k 0 (omega (arith, a, past)) ∙ ap (λ n. bit_and n 0) (sym (get_or_past these k 0 (omega (arith, b, past))))
    ∙ ap (λ n. bit_and (get_or these k 0) n) (sym (get_or_past those k 0 (omega (arith, d, past)))))
    (cases_lt k i)

pub or_and_each : (row old these those : List ℕ) (i : ℕ) → length row ≤ i → length old ≤ i → length these ≤ i → length those ≤ i →
    ((k : ℕ) → k < i → get_or row k 0 ≡ bit_or (get_or old k 0) (bit_and (get_or these k 0) (get_or those k 0))) →
    (k : ℕ) → get_or row k 0 ≡ bit_or (get_or old k 0) (bit_and (get_or these k 0) (get_or those k 0))
or_and_each row old these those i a b d e each k =
    ⊎_elim (λ short. each k short)
    (λ past.
    get_or_past row k 0 (omega (arith, a, past)) ∙ ap (λ n. bit_or n (bit_and 0 0)) (sym (get_or_past old k 0 (omega (arith, b, past))))
    ∙ ap (λ n. bit_or (get_or old k 0) (bit_and n 0)) (sym (get_or_past these k 0 (omega (arith, d, past))))
    ∙ ap (λ n. bit_or (get_or old k 0) (bit_and (get_or these k 0) n)) (sym (get_or_past those k 0 (omega (arith, e, past)))))
    (cases_lt k i)
