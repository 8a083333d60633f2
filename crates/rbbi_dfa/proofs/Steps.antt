-- One step: what can follow a set, and what of it comes by a category.
use Rattle.std.proofs.Common.{◌≡◌, ℕ, ◌<◌, ◌≤◌, ◌⊎◌, ◌↔◌, List, length, get_or, sym, ap, ◌∙◌, subst, inl, inr, ⊎_elim, arith, ◌*◌}
use Rattle.std.proofs.lemmas.Bool.{cases_lt}
use Rattle.std.proofs.lemmas.List.{get_or_default}
use Rattle.rbbi_bits.specs.BitRows.{Holds}
use Rattle.rbbi_bits.proofs.Rows.{none_past}
use Rattle.rbbi_bits.specs.NumberedRows.{listed_row}
use Rattle.rbbi_dfa.specs.inner.PositionRows.{PositionMark, PositionRows}
use Rattle.rbbi_dfa.specs.inner.PositionAutomata.{Marked}
use Rattle.rbbi_dfa.specs.inner.Determinizing.{IsStep, AreFollowers, AreFollowersUpTo}

pub followers_all : (rows : PositionRows) (set candidates : List ℕ) (i : ℕ) → length set ≤ i → AreFollowersUpTo rows.follow set (64 * i) candidates →
    AreFollowers rows set candidates
followers_all rows set candidates i all before p = (
  λ holds. let few = (before p).0 holds in (few.0, few.2, few.3),
  λ (q, at, follows).
      ⊎_elim
      (λ short. (before p).1 (q, short, at, follows))
      (λ past. absurd (none_past set q (omega (arith, all, past)) at))
      (cases_lt q (64 * i)),
)

module _ (rows : PositionRows) (candidates : List ℕ) (category : ℕ) (reads last chained both : List ℕ) (reads_is : listed_row rows.reads category ≡ reads)
    (last_is : last ≡ rows.last) (chained_is : chained ≡ rows.chained) (met : (p : ℕ) → Holds both p ↔ (Holds candidates p × Holds reads p)) where
  here : (p : ℕ) → Holds reads p → Holds (listed_row rows.reads category) p
  here p = subst (λ l. Holds l p) (sym reads_is)

  back : (p : ℕ) → Holds (listed_row rows.reads category) p → Holds reads p
  back p = subst (λ l. Holds l p) reads_is

  -- no candidate ends
  pub step_without : ((p : ℕ) → Holds both p → ¬ Holds last p) → IsStep rows candidates category both
  step_without none p = (
    λ holds. let parts = (met p).0 holds in (here p parts.1, inl parts.0),
    λ comes.
        ⊎_elim
        (λ candidate. (met p).1 (candidate, back p comes.0))
        (λ chain. absurd (none chain.1.0 ((met chain.1.0).1 (chain.1.1, back chain.1.0 chain.1.2)) (subst (λ l. Holds l chain.1.0) (sym last_is) chain.1.3)))
        comes.1,
  )

  -- a candidate ends
  pub step_with : (next : List ℕ) → (p : ℕ) × Holds both p × Holds last p → ((p : ℕ) → Holds next p ↔ (Holds both p ⊎ (Holds chained p × Holds reads p))) →
      IsStep rows candidates category next
  step_with next (q, in_both, in_last) united p = (
    λ holds.
        ⊎_elim
        (λ old. let parts = (met p).0 old in (here p parts.1, inl parts.0))
        (λ chain.
        let parts = (met q).0 in_both in
        (here p chain.1, inr (subst (λ l. Holds l p) chained_is chain.0, (q, parts.0, here q parts.1, subst (λ l. Holds l q) last_is in_last))))
        ((united p).0 holds),
    λ comes. (united p).1
        (⊎_elim
        (λ candidate. inl ((met p).1 (candidate, back p comes.0)))
        (λ chain. inr (subst (λ l. Holds l p) (sym chained_is) chain.0, back p comes.0))
        comes.1),
  )

-- a mark that was read from the list
pub mark_found : (marks items : List PositionMark) (i position mark : ℕ) (read : PositionMark) → items ≡ marks → i < length items →
    read ≡ get_or items i read → record { position = position; mark = mark } ≡ read → Marked marks position mark
mark_found marks items i position mark read same short is seen =
    let this : PositionMark = record { position = position; mark = mark } in (
      i,
      subst (λ l. i < length l) same short,
      ap (λ l. get_or l i this) (sym same) ∙ get_or_default items i this read short ∙ sym is ∙ sym seen,
    )
