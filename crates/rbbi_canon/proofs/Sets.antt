-- Labels of disjoint sets: none is joined, and one more pair is.
use Rattle.std.proofs.Common.{◌≡◌, ◌≢◌, ℕ, ◌+◌, ◌<◌, eqb, cond, List, length, get_or, ap, sym, ◌∙◌, ⊎_elim, arith, below_more}
use Rattle.std.proofs.lemmas.Bool.{cases_eq, cond-true, cond-false, eq-eqb, ne_eqb}
use Rattle.rbbi_canon.specs.inner.Joins.{JoinsLabels, AreJoinedBy}
use Rattle.rbbi_canon.specs.inner.Letters.{StayConnected}

-- each number is a set by itself
pub none_joined : (count : ℕ) (labels : List ℕ) (this that : ℕ → ℕ) → length labels ≡ count → ((k : ℕ) → k < count → get_or labels k 0 ≡ k) →
    AreJoinedBy count labels 0 this that
none_joined count labels this that all own = record {
  all = all;
  within = λ k short. absurd (omega (arith, short));
  pairs = λ k short. absurd (omega (arith, short));
  only = λ f same x y low low' is. ap f (sym (own x low) ∙ is ∙ own y low');
}

module _ (old : List ℕ) (this that : ℕ) (new : List ℕ) (joins : JoinsLabels old this that new) where
  -- the label of a number of the second set, and of any other
  taken : (k : ℕ) → k < length old → get_or old k 0 ≡ get_or old that 0 → get_or new k 0 ≡ get_or old this 0
  taken k low same =
      joins.each k low
      ∙ cond-true (eqb (get_or old k 0) (get_or old that 0)) (get_or old this 0) (get_or old k 0) (eq-eqb (get_or old k 0) (get_or old that 0) same)

  kept : (k : ℕ) → k < length old → get_or old k 0 ≢ get_or old that 0 → get_or new k 0 ≡ get_or old k 0
  kept k low other =
      joins.each k low
      ∙ cond-false (eqb (get_or old k 0) (get_or old that 0)) (get_or old this 0) (get_or old k 0) (ne_eqb (get_or old k 0) (get_or old that 0) other)

  pub stay : StayConnected old new
  stay = record {
    stay = λ x y low low' same.
        joins.each x low
        ∙ ap (λ n. cond (eqb n (get_or old that 0)) (get_or old this 0) n) same
        ∙ sym (joins.each y low');
  }

  pub joined_now : this < length old → that < length old → get_or new this 0 ≡ get_or new that 0
  joined_now low low' =
      ⊎_elim (λ same. taken this low same) (λ other. kept this low other) (cases_eq (get_or old this 0) (get_or old that 0))
      ∙ sym (taken that low' (λ i. get_or old that 0))

  -- numbers of one label had one, or one of each of the two that were joined
  was : (x y : ℕ) → x < length old → y < length old → get_or new x 0 ≡ get_or new y 0 → (f : ℕ → List ℕ) →
      ((u v : ℕ) → u < length old → v < length old → get_or old u 0 ≡ get_or old v 0 → f u ≡ f v) →
      this < length old → that < length old → f this ≡ f that → f x ≡ f y
  was x y low low' same f each l l' pair =
      ⊎_elim
      (λ x_taken.
      ⊎_elim
      (λ y_taken. each x y low low' (x_taken ∙ sym y_taken))
      (λ y_kept. each x that low l' x_taken ∙ sym pair ∙ each this y l low' (sym (taken x low x_taken) ∙ same ∙ kept y low' y_kept))
      (cases_eq (get_or old y 0) (get_or old that 0)))
      (λ x_kept.
      ⊎_elim
      (λ y_taken. each x this low l (sym (kept x low x_kept) ∙ same ∙ taken y low' y_taken) ∙ pair ∙ each that y l' low' (sym y_taken))
      (λ y_kept. each x y low low' (sym (kept x low x_kept) ∙ same ∙ kept y low' y_kept))
      (cases_eq (get_or old y 0) (get_or old that 0)))
      (cases_eq (get_or old x 0) (get_or old that 0))

-- one more pair
pub one_more : (count : ℕ) (old new : List ℕ) (many : ℕ) (this that this' that' : ℕ → ℕ) → AreJoinedBy count old many this that →
    ((k : ℕ) → k < many → this' k ≡ this k) → ((k : ℕ) → k < many → that' k ≡ that k) → this' many < count → that' many < count →
    JoinsLabels old (this' many) (that' many) new → AreJoinedBy count new (many + 1) this' that'
one_more count old new many this that this' that' h same same' low low' joins =
    let long : length new ≡ count = joins.all ∙ h.all in
    let short : this' many < length old = omega (arith, h.all, low) in
    let short' : that' many < length old = omega (arith, h.all, low') in
    record {
      all = long;
      within = below_more (λ k. (this' k < count) × (that' k < count)) many
          (λ k less. let was' = h.within k less in (omega (arith, same k less, was'.0), omega (arith, same' k less, was'.1))) (low, low');
      pairs = below_more (λ k. get_or new (this' k) 0 ≡ get_or new (that' k) 0) many
          (λ k less.
          let was' = h.within k less in
          ap (λ n. get_or new n 0) (same k less)
          ∙ (stay old (this' many) (that' many) new joins).stay (this k) (that k) (omega (arith, was'.0, h.all)) (omega (arith, was'.1, h.all)) (h.pairs k less)
          ∙ ap (λ n. get_or new n 0) (sym (same' k less)))
          (joined_now old (this' many) (that' many) new joins short short');
      only = λ f each x y x_low y_low is.
          was old (this' many) (that' many) new joins x y (omega (arith, x_low, h.all)) (omega (arith, y_low, h.all)) is f
          (λ u v u_low v_low label. h.only f
          (λ k less. ap f (sym (same k less)) ∙ each k (omega (arith, less)) ∙ ap f (same' k less))
          u v (omega (arith, u_low, h.all)) (omega (arith, v_low, h.all)) label)
          short short' (each many (omega arith));
    }
