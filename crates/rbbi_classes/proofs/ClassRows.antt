-- Rows of words that are changed in place, piece by piece.
use Rattle.std.proofs.Common.{◌≡◌, ℕ, ◌+◌, ◌-◌, ◌/◌, ◌%◌, ◌<◌, ◌≤◌, ◌⊎◌, List, get_or, sym, ap, ◌∙◌, inl, inr, ⊎_elim, arith}
use Rattle.std.proofs.lemmas.Bool.{cases_lt}
use Rattle.rbbi_model.specs.Places.{has_bit}
use Rattle.rbbi_classes.specs.Classes.{ClassBits, word_at, class_bit}
use Rattle.rbbi_classes.specs.inner.Operations.{joins}
use Rattle.rbbi_classes.specs.declared.operation.Operation.{Operation}
use Rattle.rbbi_classes.proofs.ClassWords.{bits_of, word_at-before, no_word, bit-from}

-- in the words from a number to before another, a row is joined with a set; its other words are kept
pub record AreJoined (operation : Operation) (from : ℕ) (old row : List ℕ) (other : ClassBits) (first place : ℕ) : Type 0 where
  pub inside : (k : ℕ) → first ≤ k / 64 → k / 64 < place →
      class_bit (bits_of from row) k ≡ joins operation (class_bit (bits_of from old) k) (class_bit other k)
  pub outside : (k : ℕ) → (k / 64 < first) ⊎ (place ≤ k / 64) → class_bit (bits_of from row) k ≡ class_bit (bits_of from old) k

-- one piece more
module _ (operation : Operation) (from first place count : ℕ) (old row new piece : List ℕ) (other : ClassBits) (begun : from ≤ first) (up : first ≤ place)
    (words : (j : ℕ) → j < count → get_or piece j 0 ≡ word_at other (place + j))
    (done : (j t : ℕ) → j < count → t < 64 →
    has_bit (get_or new (place - from + j) 0) t ≡ joins operation (has_bit (get_or row (place - from + j) 0) t) (has_bit (get_or piece j 0) t))
    (kept : (j : ℕ) → (j < place - from) ⊎ (place - from + count ≤ j) → get_or new j 0 ≡ get_or row j 0)
    (before : AreJoined operation from old row other first place) where
  stays : (k : ℕ) → (k / 64 < place) ⊎ (place + count ≤ k / 64) → class_bit (bits_of from new) k ≡ class_bit (bits_of from row) k
  stays k out =
      ⊎_elim
      (λ sooner. no_word (bits_of from new) k (word_at-before (bits_of from new) (k / 64) sooner)
      ∙ sym (no_word (bits_of from row) k (word_at-before (bits_of from row) (k / 64) sooner)))
      (λ later. bit-from from new k later
      ∙ ap (λ n. has_bit n (k % 64)) (kept (k / 64 - from)
      (⊎_elim (λ short. inl (omega (arith, short, later))) (λ past. inr (omega (arith, past, begun, up))) out))
      ∙ sym (bit-from from row k later))
      (cases_lt (k / 64) from)

  here : (k : ℕ) → place ≤ k / 64 → k / 64 < place + count →
      class_bit (bits_of from new) k ≡ joins operation (class_bit (bits_of from old) k) (class_bit other k)
  here k later short =
      let j : ℕ = k / 64 - place in
      let t : ℕ = k % 64 in
      let in_row : from ≤ k / 64 = omega (arith, begun, up, later) in
      let at : k / 64 - from ≡ place - from + j = omega (arith, begun, up, later) in
      let number : place + j ≡ k / 64 = omega (arith, later) in
      bit-from from new k in_row ∙ ap (λ n. has_bit (get_or new n 0) t) at ∙ done j t (omega (arith, short, later)) (omega arith)
      ∙ ap (λ n. joins operation (has_bit (get_or row n 0) t) (has_bit (get_or piece j 0) t)) (sym at)
      ∙ ap (λ b. joins operation b (has_bit (get_or piece j 0) t)) (sym (bit-from from row k in_row) ∙ before.outside k (inr later))
      ∙ ap (λ n. joins operation (class_bit (bits_of from old) k) (has_bit n t))
      (words j (omega (arith, short, later)) ∙ ap (λ n. word_at other n) number)

  pub joined-more : AreJoined operation from old new other first (place + count)
  joined-more = record {
    inside = λ k later short.
        ⊎_elim (λ sooner. stays k (inl sooner) ∙ before.inside k later sooner) (λ reached. here k reached short) (cases_lt (k / 64) place);
    outside = λ k.
        ⊎_elim (λ sooner. stays k (inl (omega (arith, sooner, up))) ∙ before.outside k (inl sooner))
        (λ past. stays k (inr past) ∙ before.outside k (inr (omega (arith, past))));
  }
