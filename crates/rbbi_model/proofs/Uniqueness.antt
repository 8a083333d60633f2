-- A text has one list of boundaries.
use Rattle.std.proofs.Common.{◌≡◌, ℕ, List, [], ◌∷◌, sym, refl, ap, ◌∙◌, subst, ⊎_elim, arith}
use Rattle.rbbi_model.specs.Rules.{Rule}
use Rattle.rbbi_model.specs.Chains.{AreTags, FrontEndsAt}
use Rattle.rbbi_model.specs.Boundaries.{Boundary, LookAheadEndsAt, IsLookAheadCut, IsLongestMatch, IsNext, Follow, AreBoundaries}
use Rattle.rbbi_model.proofs.Rising.{rising_same}

module _ (rules : List Rule) (x : List ℕ) where
  -- the status numbers at a place are determined
  pub same_tags : (s e : ℕ) (tags others : List ℕ) → AreTags rules x s e tags → AreTags rules x s e others → tags ≡ others
  same_tags s e tags others are are' =
      rising_same tags others are.rising are'.rising (λ tag here. (are'.exactly tag).1 ((are.exactly tag).0 here))
      (λ tag here. (are.exactly tag).1 ((are'.exactly tag).0 here))

  -- boundaries with the same place and statuses are the same
  same_boundary : (b c : Boundary) → b.at ≡ c.at → b.statuses ≡ c.statuses → b ≡ c
  same_boundary b c at statuses = λ i. record { at = at i; statuses = statuses i }

  same_cut : (s : ℕ) (b c : Boundary) → IsLookAheadCut rules x s b → IsLookAheadCut rules x s c → b ≡ c
  same_cut s b c cut cut' =
      let least = cut.least cut'.e cut'.number cut'.ends in
      let least' = cut'.least cut.e cut.number cut.ends in
      let same_e : cut'.e ≡ cut.e = omega arith in
      let ends' : LookAheadEndsAt rules x s cut.e cut'.number = subst (λ e. LookAheadEndsAt rules x s e cut'.number) same_e cut'.ends in
      let ends : LookAheadEndsAt rules x s cut'.e cut.number = subst (λ e. LookAheadEndsAt rules x s e cut.number) (sym same_e) cut.ends in
      let first = cut.first cut'.number ends' in
      let first' = cut'.first cut.number ends in
      let same_number : cut'.number ≡ cut.number = omega arith in
      let before = cut.before in
      let before' = cut'.before in
      let high = cut.greatest c.at (omega arith) (subst (λ n. FrontEndsAt rules x s c.at n) same_number cut'.front) in
      let low = cut'.greatest b.at (omega arith) (subst (λ n. FrontEndsAt rules x s b.at n) (sym same_number) cut.front) in
      same_boundary b c (omega arith) (same_tags s cut.e b.statuses c.statuses cut.statuses (subst (λ e. AreTags rules x s e c.statuses) same_e cut'.statuses))

  same_longest : (s : ℕ) (b c : Boundary) → IsLongestMatch rules x s b → IsLongestMatch rules x s c → b ≡ c
  same_longest s b c longest longest' =
      let high = longest.greatest c.at longest'.ends.0 longest'.ends.1 in
      let low = longest'.greatest b.at longest.ends.0 longest.ends.1 in
      let same_at : c.at ≡ b.at = omega arith in
      same_boundary b c (sym same_at) (same_tags s b.at b.statuses c.statuses longest.statuses
      (subst (λ e. AreTags rules x s e c.statuses) same_at longest'.statuses))

  -- the next boundary is determined
  pub same_next : (s : ℕ) (b c : Boundary) → IsNext rules x s b → IsNext rules x s c → b ≡ c
  same_next s b c =
      ⊎_elim
      (λ cut. ⊎_elim (same_cut s b c cut) (⊎_elim (λ longest'. absurd (longest'.no_look_ahead cut.e cut.number cut.ends))
      (λ single'. absurd (single'.no_end cut.e cut.number cut.ends.ends))))
      (⊎_elim
      (λ longest. ⊎_elim (λ cut'. absurd (longest.no_look_ahead cut'.e cut'.number cut'.ends))
      (⊎_elim (same_longest s b c longest) (λ single'. absurd (single'.no_end b.at longest.ends.0 longest.ends.1))))
      (λ single. ⊎_elim (λ cut'. absurd (single.no_end cut'.e cut'.number cut'.ends.ends))
      (⊎_elim (λ longest'. absurd (single.no_end c.at longest'.ends.0 longest'.ends.1))
      (λ single'. same_boundary b c (single.at ∙ sym single'.at) (single.statuses ∙ sym single'.statuses)))))

  same_following : (last : Boundary) (bs cs : List Boundary) → Follow rules x last bs → Follow rules x last cs → bs ≡ cs
  same_following last [] [] follow follow' = refl
  same_following last [] (c ∷ cs) follow follow' = absurd (omega (arith, follow, follow'.0))
  same_following last (b ∷ bs) [] follow follow' = absurd (omega (arith, follow', follow.0))
  same_following last (b ∷ bs) (c ∷ cs) follow follow' =
      let same : b ≡ c = same_next last.at b c follow.1 follow'.1 in
      ap (λ d. d ∷ bs) same ∙ ap (λ ds. c ∷ ds) (same_following c bs cs (subst (λ d. Follow rules x d bs) same follow.2) follow'.2)

  -- the boundaries of a text are determined
  pub same_boundaries : (bs cs : List Boundary) → AreBoundaries rules x bs → AreBoundaries rules x cs → bs ≡ cs
  same_boundaries [] cs are are' = absurd are
  same_boundaries (b ∷ bs) [] are are' = absurd are'
  same_boundaries (b ∷ bs) (c ∷ cs) are are' =
      let same : b ≡ c = are.0 ∙ sym are'.0 in
      ap (λ d. d ∷ bs) same ∙ ap (λ ds. c ∷ ds) (same_following c bs cs (subst (λ d. Follow rules x d bs) same are.1) are'.1)
