-- Searches that lead from one boundary to another.
use Rattle.std.proofs.Common.{◌≡◌, ℕ, zero, suc, ◌+◌, ◌<◌, ◌≤◌, ltb, List, [], ◌∷◌, ◌++◌, length, map, sym, refl, ap, ◌∙◌, subst, ⊎_elim, arith}
use Rattle.std.proofs.lemmas.Bool.{cases_lt, cond-true, cond-false, lt-ltb, le-ltb}
use Rattle.rbbi_model.specs.Boundaries.{Boundary, start}
use Rattle.rbbi_model.specs.Tables.{Table}
use Rattle.rbbi_model.specs.Searches.{found, next_boundary, follow_by, table_boundaries}
use Rattle.rbbi_model.proofs.Found.{found_lies}
use Rattle.rbbi_change.specs.inner.Reaching.{Lead}

module _ (table : Table) (x : List ℕ) where
  pub leads_joined : (from mid to : ℕ) (these those : List ℕ) → Lead table x from mid these → Lead table x mid to those →
      Lead table x from to (these ++ those)
  leads_joined from mid to [] those lead also = subst (λ p. Lead table x p to those) (sym lead) also
  leads_joined from mid to (p ∷ these) those lead also = (lead.0, lead.1, leads_joined (found table x from).at mid to these those lead.2 also)

  pub lead_on : (from to : ℕ) (these : List ℕ) → Lead table x from to these → to < length x → Lead table x from (found table x to).at (these ++ to ∷ [])
  lead_on from to these lead short = leads_joined from to (found table x to).at these (to ∷ []) lead (refl, short, refl)

  pub lead_lies : (from to : ℕ) (these : List ℕ) → Lead table x from to these → length these + from ≤ to
  lead_lies from to [] lead = omega arith
  lead_lies from to (p ∷ these) lead =
      omega (arith, (found_lies table x from lead.1).0, lead_lies (found table x from).at to these lead.2)

  lead_by : (n q : ℕ) → q ≤ length x → length x ≤ q + n → (places : List ℕ) × Lead table x q (length x) places
  lead_by zero q within enough = ([], omega arith)
  lead_by (suc n) q within enough =
      ⊎_elim
      (λ short.
      let lies = found_lies table x q short in
      let rest = lead_by n (found table x q).at lies.1 (omega (arith, lies.0)) in
      (q ∷ rest.0, (refl, short, rest.1)))
      (λ end. ([], omega arith))
      (cases_lt q (length x))

  -- from each place on, up to the text's end
  pub lead_to_end : (q : ℕ) → q ≤ length x → (places : List ℕ) × Lead table x q (length x) places
  lead_to_end q within = lead_by (length x) q within (omega arith)

  -- the boundaries that the searches find
  abbrev pub ends : List ℕ → List Boundary
  ends places = map (next_boundary table x) places

  ends_follow : (most : ℕ) (last : Boundary) (places : List ℕ) → Lead table x last.at (length x) places → length places ≤ most →
      follow_by (next_boundary table x) (length x) most last ≡ ends places
  ends_follow zero last [] lead few = refl
  ends_follow zero last (p ∷ places) lead few = absurd (omega (arith, few))
  ends_follow (suc most) last [] lead few =
      cond-false (ltb last.at (length x))
      (next_boundary table x last.at ∷ follow_by (next_boundary table x) (length x) most (next_boundary table x last.at)) []
      (le-ltb last.at (length x) (omega (arith, lead)))
  ends_follow (suc most) last (p ∷ places) lead few =
      let next : Boundary = next_boundary table x last.at in
      cond-true (ltb last.at (length x)) (next ∷ follow_by (next_boundary table x) (length x) most next) [] (lt-ltb last.at (length x) lead.1)
      ∙ ap (λ l. next ∷ l) (ends_follow most next places lead.2 (omega (arith, few)))
      ∙ ap (λ q. next_boundary table x q ∷ ends places) (sym lead.0)

  pub boundaries_are : (places : List ℕ) → Lead table x 0 (length x) places → table_boundaries table x ≡ start ∷ ends places
  boundaries_are places lead =
      ap (λ l. start ∷ l) (ends_follow (length x) start places lead (omega (arith, lead_lies 0 (length x) places lead)))
