-- In a valid table the stored bits tell the anchors.
use Rattle.std.proofs.Common.{ℕ, ◌+◌, ◌↔◌, Bool, ◌&&◌, eqb, leb, List, length, inl, inr, ⊎_elim}
use Rattle.std.specs.Prelude.{IsTrue}
use Rattle.std.proofs.lemmas.Bool.{or_cases, or_left, or_right, and_parts, and_from, eqb-true, eq-eqb, leb-true, le-leb}
use Rattle.rbbi_model.specs.Tables.{Table}
use Rattle.rbbi_model.specs.SafePairs.{IsSafePair, is_safe}
use Rattle.rbbi_model.specs.ValidTables.{IsValidTable}
use Rattle.rbbi_model.specs.Runs.{category_at, IsAnchor, is_anchor}
use Rattle.rbbi_model.proofs.Categories.{category_within}
use Rattle.std.specs.Prelude.{slice_index}

module _ (table : Table) (valid : IsValidTable table) (x : List ℕ) (p : ℕ) where
  pub safe_here : IsTrue (is_safe table (category_at table x p) (category_at table x (p + 1))) ↔ IsSafePair table (category_at table x p)
      (category_at table x (p + 1))
  safe_here =
      valid.safe.exactly (category_at table x p) (category_at table x (p + 1))
      (category_within table.categories table.ranges (slice_index x p) valid.ranges)
      (category_within table.categories table.ranges (slice_index x (p + 1)) valid.ranges)

  pub anchors_stored : IsTrue (is_anchor table x p) ↔ IsAnchor table x p
  anchors_stored =
      let first : Bool = eqb p 0 in
      let room : Bool = leb (p + 2) (length x) in
      let safe : Bool = is_safe table (category_at table x p) (category_at table x (p + 1)) in (
        λ is.
            ⊎_elim
            (λ zero. inl (eqb-true p 0 zero))
            (λ pair. inr (leb-true (p + 2) (length x) (and_parts room safe pair).0, safe_here.0 (and_parts room safe pair).1))
            (or_cases first (room && safe) is),
        λ is.
            ⊎_elim
            (λ zero. or_left first (room && safe) (eq-eqb p 0 zero))
            (λ pair. or_right first (room && safe) (and_from room safe (le-leb (p + 2) (length x) pair.0) (safe_here.1 pair.1)))
            is,
      )
