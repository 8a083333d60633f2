-- What is found by searching from an anchor are the true boundaries past it.
use Rattle.std.proofs.Common.{◌≡◌, ℕ, zero, suc, ◌+◌, ◌<◌, ◌≤◌, ltb, leb, eqb, List, [], ◌∷◌, length, sym, refl, ap, ◌∙◌, subst, ⊎_elim, arith}
use Rattle.std.proofs.lemmas.Bool.{cases_lt, cases_eq, cond-true, cond-false, lt-ltb, le-ltb, le-leb, lt-leb, ne_eqb}
use Rattle.rbbi_model.specs.Boundaries.{Boundary, start}
use Rattle.rbbi_model.specs.Cover.{places}
use Rattle.rbbi_model.specs.Tables.{Table, statuses_of}
use Rattle.rbbi_model.specs.SafePairs.{IsSafePair}
use Rattle.rbbi_model.specs.ValidTables.{IsValidTable}
use Rattle.rbbi_model.specs.Searches.{next_boundary, follow_by, fresh, table_boundaries}
use Rattle.rbbi_model.specs.Runs.{category_at, IsAnchor, low, from_place}
use Rattle.rbbi_model.proofs.Found.{found_lies}
use Rattle.rbbi_model.proofs.SafeSearch.{next_agrees}

module _ (next : ℕ → Boundary) (n : ℕ) (lies : (s : ℕ) → s < n → (s < (next s).at) × ((next s).at ≤ n)) where
  goes_on : (most : ℕ) (last : Boundary) → last.at < n → follow_by next n (suc most) last ≡ next last.at ∷ follow_by next n most (next last.at)
  goes_on most last short = cond-true (ltb last.at n) (next last.at ∷ follow_by next n most (next last.at)) [] (lt-ltb last.at n short)

  done : (most : ℕ) (last : Boundary) → n ≤ last.at → follow_by next n most last ≡ []
  done zero last end = refl
  done (suc most) last end = cond-false (ltb last.at n) (next last.at ∷ follow_by next n most (next last.at)) [] (le-ltb last.at n end)

  -- what follows depends on the place alone, where the bound suffices
  pub same_follow : (most other : ℕ) (last that : Boundary) → last.at ≡ that.at → n ≤ last.at + most → n ≤ that.at + other →
      follow_by next n most last ≡ follow_by next n other that
  same_follow zero other last that same enough enough' = sym (done other that (omega arith))
  same_follow (suc most) zero last that same enough enough' = done (suc most) last (omega arith)
  same_follow (suc most) (suc other) last that same enough enough' =
      ⊎_elim
      (λ short.
      let short' : that.at < n = omega arith in
      let further = lies last.at short in
      let further' = lies that.at short' in
      goes_on most last short
      ∙ ap (λ s. next s ∷ follow_by next n most (next s)) same
      ∙ ap (λ bs. next that.at ∷ bs) (same_follow most other (next that.at) (next that.at) refl (omega (arith, further'.0)) (omega (arith, further'.0)))
      ∙ sym (goes_on other that short'))
      (λ end. done (suc most) last end ∙ sym (done (suc other) that (omega arith)))
      (cases_lt last.at n)

pub kept : (place : ℕ) (b : Boundary) (bs : List Boundary) → place ≤ b.at → from_place place (b ∷ bs) ≡ b ∷ from_place place bs
kept place b bs from = cond-true (leb place b.at) (b ∷ from_place place bs) (from_place place bs) (le-leb place b.at from)

pub dropped : (place : ℕ) (b : Boundary) (bs : List Boundary) → b.at < place → from_place place (b ∷ bs) ≡ from_place place bs
dropped place b bs before = cond-false (leb place b.at) (b ∷ from_place place bs) (from_place place bs) (lt-leb place b.at before)

module _ (table : Table) (valid : IsValidTable table) (x : List ℕ) (p : ℕ) (room : p + 2 ≤ length x)
    (safe : IsSafePair table (category_at table x p) (category_at table x (p + 1))) where
  n : ℕ
  n = length x

  next : ℕ → Boundary
  next s = next_boundary table x s

  lies : (s : ℕ) → s < length x → (s < (next_boundary table x s).at) × ((next_boundary table x s).at ≤ length x)
  lies s short = found_lies table x s short

  abbrev anchored : Boundary
  anchored = record { at = p; statuses = 0 ∷ [] }

  -- what follows the anchor
  abbrev after : List Boundary
  after = follow_by (next_boundary table x) (length x) (length x) anchored

  -- the true boundaries agree with them past the anchor, and from two characters on with their statuses
  abbrev Agree : List Boundary → Type 0
  Agree bs = (places (from_place (p + 1) after) ≡ places (from_place (p + 1) bs)) × (from_place (p + 2) after ≡ from_place (p + 2) bs)

  after_is : after ≡ next_boundary table x p ∷ follow_by (next_boundary table x) (length x) (length x) (next_boundary table x p)
  after_is =
      same_follow (next_boundary table x) (length x) lies (length x) (suc (length x)) anchored anchored refl (omega arith) (omega arith)
      ∙ goes_on (next_boundary table x) (length x) lies (length x) anchored (omega arith)

  met : (most : ℕ) (last : Boundary) → last.at < p → length x ≤ last.at + suc most → p < (next_boundary table x last.at).at →
      Agree (next_boundary table x last.at ∷ follow_by (next_boundary table x) (length x) most (next_boundary table x last.at))
  met most last before enough spans =
      let short : last.at < length x = omega arith in
      let agrees = next_agrees table valid x last.at p room safe before spans in
      let b : Boundary = next_boundary table x last.at in
      let f : Boundary = next_boundary table x p in
      let rest : List Boundary = follow_by (next_boundary table x) (length x) most b in
      let further = lies last.at short in
      let further' = lies p (omega arith) in
      let same_rest : follow_by (next_boundary table x) (length x) (length x) f ≡ rest =
      same_follow (next_boundary table x) (length x) lies (length x) most f b agrees.0 (omega arith) (omega (arith, further.0)) in
      let same_after : after ≡ f ∷ rest = after_is ∙ ap (λ bs. f ∷ bs) same_rest in (
        ap (λ bs. places (from_place (p + 1) bs)) same_after
            ∙ ap places (kept (p + 1) f rest (omega (arith, further'.0)))
            ∙ ap (λ at. at ∷ places (from_place (p + 1) rest)) agrees.0
            ∙ ap places (sym (kept (p + 1) b rest (omega arith))),
        ap (λ bs. from_place (p + 2) bs) same_after
            ∙ ⊎_elim
            (λ near. dropped (p + 2) f rest (omega (arith, agrees.0, near)) ∙ sym (dropped (p + 2) b rest near))
            (λ from.
            let list = agrees.1 from in
            let same : f ≡ b = λ i. record { at = agrees.0 i; statuses = statuses_of table (list i) } in
            ap (λ c. from_place (p + 2) (c ∷ rest)) same)
            (cases_lt b.at (p + 2)),
      )

  agree_from : (most : ℕ) (last : Boundary) → last.at ≤ p → length x ≤ last.at + most → Agree (follow_by (next_boundary table x) (length x) most last)
  agree_from zero last before enough = absurd (omega (arith, room))
  agree_from (suc most) last before enough =
      let short : last.at < length x = omega arith in
      let b : Boundary = next_boundary table x last.at in
      let rest : List Boundary = follow_by (next_boundary table x) (length x) most b in
      let further = lies last.at short in
      ⊎_elim
      (λ is.
      let same = same_follow (next_boundary table x) (length x) lies (length x) (suc most) anchored last (sym is) (omega arith) enough in
      (ap (λ bs. places (from_place (p + 1) bs)) same, ap (λ bs. from_place (p + 2) bs) same))
      (λ other.
      let earlier : last.at < p = omega arith in
      subst (λ bs. Agree bs) (sym (goes_on (next_boundary table x) (length x) lies most last short))
      (⊎_elim
      (λ spans. met most last earlier enough spans)
      (λ within.
      let later = agree_from most b within (omega (arith, further.0)) in
      (later.0 ∙ ap places (sym (dropped (p + 1) b rest (omega arith))), later.1 ∙ sym (dropped (p + 2) b rest (omega arith))))
      (cases_lt p b.at)))
      (cases_eq last.at p)

  -- past a safe pair
  agree_past : 0 < p → (places (from_place (p + 1) (fresh table x p)) ≡ places (from_place (p + 1) (table_boundaries table x))) ×
      (from_place (p + 2) (fresh table x p) ≡ from_place (p + 2) (table_boundaries table x))
  agree_past some =
      let true_rest : List Boundary = follow_by (next_boundary table x) (length x) (length x) start in
      let agree = agree_from (length x) start (omega arith) (omega arith) in (
        ap places (dropped (p + 1) anchored after (omega arith)) ∙ agree.0 ∙ ap places (sym (dropped (p + 1) start true_rest (omega arith))),
        dropped (p + 2) anchored after (omega arith) ∙ agree.1 ∙ sym (dropped (p + 2) start true_rest (omega arith)),
      )

pub fresh_true : (table : Table) → IsValidTable table → (x : List ℕ) (p : ℕ) → IsAnchor table x p →
    (places (from_place (p + 1) (fresh table x p)) ≡ places (from_place (p + 1) (table_boundaries table x))) ×
    (from_place (low p) (fresh table x p) ≡ from_place (low p) (table_boundaries table x))
fresh_true table valid x p anchor =
    ⊎_elim
    (λ is. (ap (λ q. places (from_place (p + 1) (fresh table x q))) is, ap (λ q. from_place (low p) (fresh table x q)) is))
    (λ other.
    ⊎_elim
    (λ is. absurd (other is))
    (λ pair.
    let agree = agree_past table valid x p pair.0 pair.1 (omega arith) in
    let is_low : low p ≡ p + 2 = cond-false (eqb p 0) 1 (p + 2) (ne_eqb p 0 other) in
    (agree.0, ap (λ q. from_place q (fresh table x p)) is_low ∙ agree.1 ∙ ap (λ q. from_place q (table_boundaries table x)) (sym is_low)))
    anchor)
    (cases_eq p 0)
