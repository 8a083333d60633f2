-- The boundaries by a table cover the text, and boundaries that cover a text lie within it.
use Rattle.std.proofs.Common.{◌≡◌, ℕ, zero, suc, ◌+◌, ◌<◌, ◌≤◌, ltb, List, [], ◌∷◌, length, refl, subst, arith}
use Rattle.std.specs.List.{AllByRecursion}
use Rattle.std.proofs.lemmas.Bool.{cond_both, ltb-true, ltb-false}
use Rattle.rbbi_model.specs.Lists.{IsRising}
use Rattle.rbbi_model.specs.Boundaries.{Boundary, start}
use Rattle.rbbi_model.specs.Cover.{places, end_of, CoverText}
use Rattle.rbbi_model.specs.Tables.{Table}
use Rattle.rbbi_model.specs.Searches.{next_boundary, follow_by, table_boundaries}
use Rattle.rbbi_model.proofs.Found.{found_lies}

module _ (next : ℕ → Boundary) (n : ℕ) (lies : (s : ℕ) → s < n → (s < (next s).at) × ((next s).at ≤ n)) where
  pub follow_rise : (most : ℕ) (last : Boundary) → IsRising (places (last ∷ follow_by next n most last))
  follow_rise zero last = tt
  follow_rise (suc most) last =
      cond_both (ltb last.at n) (next last.at ∷ follow_by next n most (next last.at)) [] (λ bs. IsRising (places (last ∷ bs)))
      (λ is. ((lies last.at (ltb-true last.at n is)).0, follow_rise most (next last.at)))
      (λ _. tt)

  follow_reach : (most : ℕ) (last : Boundary) → last.at ≤ n → n ≤ last.at + most → end_of (last ∷ follow_by next n most last) ≡ n
  follow_reach zero last low high = omega arith
  follow_reach (suc most) last low high =
      cond_both (ltb last.at n) (next last.at ∷ follow_by next n most (next last.at)) [] (λ bs. end_of (last ∷ bs) ≡ n)
      (λ is.
      let lie = lies last.at (ltb-true last.at n is) in
      follow_reach most (next last.at) lie.1 (omega (arith, lie.0)))
      (λ isnt. let past = ltb-false last.at n isnt in omega arith)

pub table_covers : (table : Table) (x : List ℕ) → CoverText (length x) (table_boundaries table x)
table_covers table x =
    record {
      begin = refl;
      rise = follow_rise (next_boundary table x) (length x) (λ s short. found_lies table x s short) (length x) start;
      reach = follow_reach (next_boundary table x) (length x) (λ s short. found_lies table x s short) (length x) start (omega arith) (omega arith);
    }

-- no boundary lies behind the last
pub none_past_end : (bs : List Boundary) → IsRising (places bs) → AllByRecursion (λ b. b.at ≤ end_of bs) bs
none_past_end [] rising = tt
none_past_end (b ∷ []) rising = (omega arith, tt)
none_past_end (b ∷ c ∷ bs) rising =
    let further = none_past_end (c ∷ bs) rising.1 in (omega (arith, rising.0, further.0), further)

pub cover_within : (n : ℕ) (bs : List Boundary) → CoverText n bs → AllByRecursion (λ b. b.at ≤ n) bs
cover_within n bs covers = subst (λ m. AllByRecursion (λ b. b.at ≤ m) bs) covers.reach (none_past_end bs covers.rise)
