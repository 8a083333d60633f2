-- Boundaries that pass a test of their places.
use Rattle.std.proofs.Common.{◌≡◌, ℕ, ◌<◌, Bool, true, false, eqb, cond, List, [], ◌∷◌, filter, sym, refl, ap, ◌∙◌, subst, ⊎_elim, inl, inr}
use Rattle.std.specs.List.{AllByRecursion}
use Rattle.std.proofs.lemmas.Bool.{cases_Bool, cond-true, cond-false, eqb-true, false≢true}
use Rattle.rbbi_model.specs.Lists.{IsRising}
use Rattle.rbbi_model.specs.Boundaries.{Boundary}
use Rattle.rbbi_model.specs.Cover.{places, end_of, BeginAtZero, IsPlaceOf, CoverText}
use Rattle.rbbi_model.specs.Answers.{statuses_at}
use Rattle.rbbi_model.proofs.Rising.{rising_tail}
use Rattle.rbbi_cache.proofs.Lists.{all_filter}
use Rattle.rbbi_cache.proofs.Reached.{rises_after}

-- there is a last boundary, and it is at the place
abbrev EndAt : List Boundary → ℕ → Type 0
EndAt [] n = ⊥
EndAt (b ∷ []) n = b.at ≡ n
EndAt (b ∷ c ∷ bs) n = EndAt (c ∷ bs) n

end_is : (bs : List Boundary) (n : ℕ) → EndAt bs n → end_of bs ≡ n
end_is [] n ends = absurd ends
end_is (b ∷ []) n ends = ends
end_is (b ∷ c ∷ bs) n ends = end_is (c ∷ bs) n ends

ends_at : (b : Boundary) (bs : List Boundary) → EndAt (b ∷ bs) (end_of (b ∷ bs))
ends_at b [] = refl
ends_at b (c ∷ bs) = ends_at c bs

end_later : (b : Boundary) (bs : List Boundary) (n : ℕ) → EndAt bs n → EndAt (b ∷ bs) n
end_later b [] n ends = absurd ends
end_later b (c ∷ bs) n ends = ends

rising_cons : (b : Boundary) (bs : List Boundary) → AllByRecursion (λ c. b.at < c.at) bs → IsRising (places bs) → IsRising (places (b ∷ bs))
rising_cons b [] later rising = tt
rising_cons b (c ∷ bs) later rising = (later.0, rising)

module _ (test : ℕ → Bool) where
  -- those that pass
  abbrev pub sift : List Boundary → List Boundary
  sift bs = filter (λ b. test b.at) bs

  pub sift_takes : (b : Boundary) (bs : List Boundary) → test b.at ≡ true → sift (b ∷ bs) ≡ b ∷ sift bs
  sift_takes b bs holds = cond-true (test b.at) (b ∷ sift bs) (sift bs) holds

  pub sift_drops : (b : Boundary) (bs : List Boundary) → test b.at ≡ false → sift (b ∷ bs) ≡ sift bs
  sift_drops b bs fails = cond-false (test b.at) (b ∷ sift bs) (sift bs) fails

  pub sift_rises : (bs : List Boundary) → IsRising (places bs) → IsRising (places (sift bs))
  sift_rises [] rising = tt
  sift_rises (b ∷ bs) rising =
      let later = sift_rises bs (rising_tail b.at (places bs) rising) in
      ⊎_elim
      (λ holds.
      subst (λ cs. IsRising (places cs)) (sym (sift_takes b bs holds))
      (rising_cons b (sift bs) (all_filter (λ (c : Boundary). b.at < c.at) (λ c. test c.at) bs (rises_after b bs rising)) later))
      (λ fails. subst (λ cs. IsRising (places cs)) (sym (sift_drops b bs fails)) later)
      (cases_Bool (test b.at))

  sift_begins : (bs : List Boundary) → BeginAtZero bs → test 0 ≡ true → BeginAtZero (sift bs)
  sift_begins [] begins holds = absurd begins
  sift_begins (b ∷ bs) begins holds = subst (λ cs. BeginAtZero cs) (sym (sift_takes b bs (ap test begins ∙ holds))) begins

  sift_ends : (bs : List Boundary) (n : ℕ) → test n ≡ true → EndAt bs n → EndAt (sift bs) n
  sift_ends [] n holds ends = absurd ends
  sift_ends (b ∷ []) n holds ends = subst (λ cs. EndAt cs n) (sym (sift_takes b [] (ap test ends ∙ holds))) ends
  sift_ends (b ∷ c ∷ bs) n holds ends =
      let later : EndAt (sift (c ∷ bs)) n = sift_ends (c ∷ bs) n holds ends in
      ⊎_elim
      (λ takes. subst (λ cs. EndAt cs n) (sym (sift_takes b (c ∷ bs) takes)) (end_later b (sift (c ∷ bs)) n later))
      (λ drops. subst (λ cs. EndAt cs n) (sym (sift_drops b (c ∷ bs) drops)) later)
      (cases_Bool (test b.at))

  covers_from : (n : ℕ) (bs : List Boundary) → EndAt bs n → CoverText n bs → test 0 ≡ true → test n ≡ true → CoverText n (sift bs)
  covers_from n bs ends covers start end = record {
    begin = sift_begins bs covers.begin start;
    rise = sift_rises bs covers.rise;
    reach = end_is (sift bs) n (sift_ends bs n end ends);
  }

  -- where the text's start and its end pass, those that pass cover the text
  pub sift_covers : (n : ℕ) (bs : List Boundary) → CoverText n bs → test 0 ≡ true → test n ≡ true → CoverText n (sift bs)
  sift_covers n [] covers start end = absurd covers.begin
  sift_covers n (b ∷ bs) covers start end = covers_from n (b ∷ bs) (subst (EndAt (b ∷ bs)) covers.reach (ends_at b bs)) covers start end

  -- a place that passes is among them
  pub sift_place : (bs : List Boundary) (p : ℕ) → test p ≡ true → IsPlaceOf bs p → IsPlaceOf (sift bs) p
  sift_place [] p holds here = absurd here
  sift_place (b ∷ bs) p holds here =
      ⊎_elim
      (λ same. subst (λ cs. IsPlaceOf cs p) (sym (sift_takes b bs (ap test same ∙ holds))) (inl same))
      (λ further.
      let later : IsPlaceOf (sift bs) p = sift_place bs p holds further in
      ⊎_elim
      (λ takes. subst (λ cs. IsPlaceOf cs p) (sym (sift_takes b bs takes)) (inr later))
      (λ drops. subst (λ cs. IsPlaceOf cs p) (sym (sift_drops b bs drops)) later)
      (cases_Bool (test b.at)))
      here

  -- and has the statuses that it had
  pub sift_statuses : (bs : List Boundary) (p : ℕ) → test p ≡ true → statuses_at (sift bs) p ≡ statuses_at bs p
  sift_statuses [] p holds = refl
  sift_statuses (b ∷ bs) p holds =
      let later : statuses_at (sift bs) p ≡ statuses_at bs p = sift_statuses bs p holds in
      ⊎_elim
      (λ takes. ap (λ cs. statuses_at cs p) (sift_takes b bs takes) ∙ ap (λ l. cond (eqb b.at p) b.statuses l) later)
      (λ drops.
      ap (λ cs. statuses_at cs p) (sift_drops b bs drops)
      ∙ later
      ∙ sym
      (⊎_elim (λ same. absurd (false≢true (sym drops ∙ ap test (eqb-true b.at p same) ∙ holds)))
      (λ other. cond-false (eqb b.at p) b.statuses (statuses_at bs p) other)
      (cases_Bool (eqb b.at p))))
      (cases_Bool (test b.at))

  -- what is among those that pass was among all, and passes
  pub sift_was : (bs : List Boundary) (p : ℕ) → IsPlaceOf (sift bs) p → (test p ≡ true) × IsPlaceOf bs p
  sift_was [] p here = absurd here
  sift_was (b ∷ bs) p here =
      ⊎_elim
      (λ takes.
      ⊎_elim (λ same. (sym (ap test same) ∙ takes, inl same))
      (λ further. let was = sift_was bs p further in (was.0, inr was.1))
      (subst (λ cs. IsPlaceOf cs p) (sift_takes b bs takes) here))
      (λ drops. let was = sift_was bs p (subst (λ cs. IsPlaceOf cs p) (sift_drops b bs drops) here) in (was.0, inr was.1))
      (cases_Bool (test b.at))
