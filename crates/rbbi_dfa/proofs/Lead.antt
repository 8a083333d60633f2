-- The cells of one row, and the sets that they lead to.
use Rattle.std.proofs.Common.{◌≡◌, ◌≢◌, ℕ, ◌+◌, ◌-◌, ◌<◌, List, [], ◌∷◌, ◌++◌, length, get_or, refl, sym, ap, ◌∙◌, subst, inl, inr, ⊎_elim}
use Rattle.std.proofs.Common.{arith}
use Rattle.std.proofs.lemmas.Bool.{cases_eq}
use Rattle.std.proofs.lemmas.List.{get_or_append_left, get_or_push, length_push}
use Rattle.rbbi_bits.specs.BitRows.{Holds}
use Rattle.rbbi_bits.specs.NumberedRows.{listed_row}
use Rattle.rbbi_dfa.specs.inner.PositionRows.{PositionRows}
use Rattle.rbbi_dfa.specs.inner.Determinizing.{IsStep, IsReached, FromFirst, FromSet, IsSome, AreDifferent, IsRow, AreReachedSets, IsCell, AreReachedCandidates}
use Rattle.rbbi_dfa.specs.inner.Determinizing.{Begin, AddsCells, HasReachedSets}
use Rattle.rbbi_bits.specs.NumberedRows.{IsUnlisted, KeepsOrAdds}
use Rattle.rbbi_bits.proofs.Rows.{same_rows}

-- rows of one width that differ hold different positions
pub rows_apart : (width : ℕ) (these those : List ℕ) → IsRow width these → IsRow width those → these ≢ those → AreDifferent these those
rows_apart width these those is is' other = λ same. other (same_rows these those (is.wide ∙ sym is'.wide) is.words is'.words same)

module _ (rows : PositionRows) where
  pub reached_next : (candidates next : List ℕ) (category : ℕ) → AreReachedCandidates rows candidates → category < rows.categories →
      IsStep rows candidates category next → IsReached rows next
  reached_next candidates next category reached within is =
      ⊎_elim
      (λ first. FromFirst category next within (subst (λ l. IsStep rows l category next) first is))
      (λ later. FromSet later.0 candidates category next later.1 later.2 later.3 within is)
      reached

  -- one set more
  pub sets_more : (sets : List (List ℕ)) (next : List ℕ) → AreReachedSets rows sets → IsUnlisted sets next → IsRow rows.width next → IsReached rows next →
      IsSome next → AreReachedSets rows (sets ++ next ∷ [])
  sets_more sets next are absent row reached some =
      let new : List (List ℕ) = sets ++ next ∷ [] in
      let long = length_push sets next in
      let old_at : (i : ℕ) → i < length sets → listed_row new i ≡ listed_row sets i = λ i short. get_or_append_left sets (next ∷ []) [] i short in
      let new_at : listed_row new (length sets) ≡ next = get_or_push sets next [] (length sets) refl in
      let at : (P : List ℕ → Type 0) (i : ℕ) → i < length new → ((j : ℕ) → j < length sets → P (listed_row sets j)) → P next → P (listed_row new i) =
      λ P i short old new'.
      ⊎_elim
      (λ here. subst (λ n. P (listed_row new n)) (sym here) (subst P (sym new_at) new'))
      (λ other. let short' : i < length sets = omega (arith, short, long, other) in subst P (sym (old_at i short')) (old i short'))
      (cases_eq i (length sets)) in
      record {
        are_rows = λ i short. at (IsRow rows.width) i short are.are_rows row;
        reached = λ i short. at (IsReached rows) i short are.reached reached;
        some = λ i short. at IsSome i short are.some some;
        apart = λ i j less short.
            ⊎_elim
            (λ here.
            let short' : i < length sets = omega (arith, less, here) in
            subst (λ l. AreDifferent l (listed_row new j)) (sym (old_at i short'))
            (subst (AreDifferent (listed_row sets i)) (sym (ap (λ n. listed_row new n) here ∙ new_at))
            (rows_apart rows.width (listed_row sets i) next (are.are_rows i short') row (absent i short'))))
            (λ other.
            let short' : j < length sets = omega (arith, short, long, other) in
            let short'' : i < length sets = omega (arith, less, short') in
            subst (λ l. AreDifferent l (listed_row new j)) (sym (old_at i short''))
            (subst (AreDifferent (listed_row sets i)) (sym (old_at j short')) (are.apart i j less short')))
            (cases_eq j (length sets));
      }

  pub begin_refl : (sets : List (List ℕ)) → Begin sets sets
  begin_refl sets = (omega arith, λ i short. refl)

  pub begin_trans : (a b d : List (List ℕ)) → Begin a b → Begin b d → Begin a d
  begin_trans a b d first second = (omega (arith, first.0, second.0), λ i short. second.1 i (omega (arith, short, first.0)) ∙ first.1 i short)

  pub kept_or_added : (sets new : List (List ℕ)) (next : List ℕ) → AreReachedSets rows sets → KeepsOrAdds sets next new → IsRow rows.width next →
      IsReached rows next → IsSome next → AreReachedSets rows new × Begin sets new
  kept_or_added sets new next are kept row reached some =
      ⊎_elim
      (λ same. (subst (AreReachedSets rows) (sym same) are, subst (Begin sets) (sym same) (begin_refl sets)))
      (λ added. (
        subst (AreReachedSets rows) (sym added.0) (sets_more sets next are added.1 row reached some),
        subst (Begin sets) (sym added.0) (omega (arith, length_push sets next), λ i short. get_or_append_left sets (next ∷ []) [] i short),
      ))
      kept

  pub one_too_many : (sets : List (List ℕ)) (next : List ℕ) → AreReachedSets rows sets → length sets ≡ 16384 → IsUnlisted sets next → IsRow rows.width next →
      IsReached rows next → IsSome next → HasReachedSets rows 16385
  one_too_many sets next are many absent row reached some =
      (sets ++ next ∷ [], omega (arith, length_push sets next, many), sets_more sets next are absent row reached some)

  -- a cell stays right where sets are added
  pub cell_kept : (sets new : List (List ℕ)) (candidates : List ℕ) (category cell : ℕ) → Begin sets new → IsCell rows sets candidates category cell →
      IsCell rows new candidates category cell
  cell_kept sets new candidates category cell begin =
      ⊎_elim inl
      (λ some. inr (
        some.0,
        omega (arith, some.1, begin.0),
        subst (IsStep rows candidates category)
            (sym (begin.1 (cell - 2) (omega (arith, some.0, some.1)))) some.2,
      ))

  -- no candidate reads the category
  abbrev pub IsUnread : List ℕ → ℕ → Type 0
  IsUnread candidates category = (p : ℕ) → Holds candidates p → ¬ Holds (listed_row rows.reads category) p

  pub empty_cell : (sets : List (List ℕ)) (candidates : List ℕ) (category cell : ℕ) → cell ≡ 0 → IsUnread candidates category →
      IsCell rows sets candidates category cell
  empty_cell sets candidates category cell none unread =
      inl (none, λ p comes. ⊎_elim (λ candidate. unread p candidate comes.0) (λ chain. unread chain.1.0 chain.1.1 chain.1.2) comes.1)

  -- some candidate reads the category, and comes next
  pub some_next : (candidates next : List ℕ) (category : ℕ) → IsStep rows candidates category next → (p : ℕ) × Holds candidates p ×
      Holds (listed_row rows.reads category) p → IsSome next
  some_next candidates next category is read = (read.0, (is read.0).1 (read.2, inl read.1))

  pub set_cell : (sets : List (List ℕ)) (candidates next : List ℕ) (category number cell : ℕ) → cell ≡ number + 2 → number < length sets →
      listed_row sets number ≡ next → IsStep rows candidates category next → IsCell rows sets candidates category cell
  set_cell sets candidates next category number cell at short same is =
      inr (
        omega (arith, at),
        omega (arith, at, short),
        subst (IsStep rows candidates category) (sym (ap (λ n. listed_row sets n) (let e : cell - 2 ≡ number = omega (arith, at) in e) ∙ same)) is,
      )

  pub cells_more : (sets new : List (List ℕ)) (candidates old cells : List ℕ) (category cell : ℕ) → AddsCells rows sets candidates old cells category →
      Begin sets new → IsCell rows new candidates category cell → AddsCells rows new candidates old (cells ++ cell ∷ []) (category + 1)
  cells_more sets new candidates old cells category cell adds begin is =
      record {
        many = omega (arith, length_push cells cell, adds.many);
        kept = λ k short. get_or_append_left cells (cell ∷ []) 0 k (omega (arith, short, adds.many)) ∙ adds.kept k short;
        each = λ other short.
            ⊎_elim
            (λ here.
            let last : get_or (cells ++ cell ∷ []) (length old + other) 0 ≡ cell =
            get_or_push cells cell 0 (length old + other) (omega (arith, adds.many, here)) in
            subst (IsCell rows new candidates other) (sym last) (subst (λ k. IsCell rows new candidates k cell) (sym here) is))
            (λ before.
            let short' : other < category = omega (arith, short, before) in
            let same : get_or (cells ++ cell ∷ []) (length old + other) 0 ≡ get_or cells (length old + other) 0 =
            get_or_append_left cells (cell ∷ []) 0 (length old + other) (omega (arith, adds.many, short')) in
            subst (IsCell rows new candidates other) (sym same) (cell_kept sets new candidates other (get_or cells (length old + other) 0) begin
            (adds.each other short')))
            (cases_eq other category);
      }

-- what a loop over the categories keeps
pub record IsLeading (rows : PositionRows) (before sets : List (List ℕ)) (candidates old cells next : List ℕ) (category : ℕ) : Type 0 where
  pub reached : AreReachedSets rows sets
  pub kept : Begin before sets
  pub adds : AddsCells rows sets candidates old cells category
  pub wide : length next ≡ rows.width
