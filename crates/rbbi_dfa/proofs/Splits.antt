-- A split of a class: what it leaves, row by row, and that it is sound.
use Rattle.std.proofs.Common.{◌≡◌, ℕ, ◌+◌, ◌<◌, ◌≤◌, Bool, true, false, List, [], ◌∷◌, ◌++◌, length, refl, ap, sym, ◌∙◌, subst, ◌⊎◌, inl, inr, arith, IsTrue}
use Rattle.std.proofs.Common.{◌↔◌, slice_index}
use Rattle.std.proofs.lemmas.List.{get_or_append_left, get_or_push, length_push}
use Rattle.std.proofs.lemmas.Bool.{false≢true}
use borrow.Author.Count.{below_more}
use Rattle.rbbi_model.specs.Tables.{Table}
use Rattle.rbbi_dfa.specs.inner.Partitions.{LeavesClass}

-- the row has moved to the new class where it leaves, and is in its class where it doesn't
abbrev pub IsMoved : Table → List ℕ → List Bool → ℕ → ℕ → Bool → ℕ → ℕ → ℕ → Type 0
IsMoved automaton classes inside class category stays new row after =
    (LeavesClass automaton classes inside class category stays row × (after ≡ new))
    ⊎ ((¬ LeavesClass automaton classes inside class category stays row) × (after ≡ slice_index classes row))

-- what is known after so many rows
pub record IsSplitUpTo (automaton : Table) (classes : List ℕ) (inside : List Bool) (class category : ℕ) (stays : Bool) (new row : ℕ) (after : List ℕ)
    (left leaver : ℕ) : Type 0 where
  pub length_is : length after ≡ row
  pub few : left ≤ row
  pub each : (k : ℕ) → k < row → IsMoved automaton classes inside class category stays new k (slice_index after k)
  pub some : 0 < left → (leaver < row) × LeavesClass automaton classes inside class category stays leaver
  pub none : left ≡ 0 → (k : ℕ) → k < row → ¬ LeavesClass automaton classes inside class category stays k

module _ (automaton : Table) (classes : List ℕ) (inside : List Bool) (class category : ℕ) (stays : Bool) (new : ℕ) where
  abbrev Split : ℕ → List ℕ → ℕ → ℕ → Type 0
  Split row after left leaver = IsSplitUpTo automaton classes inside class category stays new row after left leaver

  abbrev Goes : ℕ → Type 0
  Goes row = LeavesClass automaton classes inside class category stays row

  pub IsSplitUpTo-none : (after : List ℕ) (leaver : ℕ) → after ≡ [] → Split 0 after 0 leaver
  IsSplitUpTo-none after leaver e = record {
    length_is = ap length e;
    few = omega arith;
    each = λ k h. absurd (omega arith);
    some = λ h. absurd (omega arith);
    none = λ _ k h. absurd (omega arith);
  }

  each-more : (after : List ℕ) (row next : ℕ) → length after ≡ row →
      ((k : ℕ) → k < row → IsMoved automaton classes inside class category stays new k (slice_index after k)) →
      IsMoved automaton classes inside class category stays new row next → (k : ℕ) → k < row + 1 →
      IsMoved automaton classes inside class category stays new k (slice_index (after ++ next ∷ []) k)
  each-more after row next l each here =
      below_more
      (λ k. IsMoved automaton classes inside class category stays new k (slice_index (after ++ next ∷ []) k))
      row
      (λ k h. subst (λ n. IsMoved automaton classes inside class category stays new k n) (sym (get_or_append_left after (next ∷ []) 0 k (omega arith)))
      (each k h))
      (subst (λ n. IsMoved automaton classes inside class category stays new row n) (sym (get_or_push after next 0 row l)) here)

  pub IsSplitUpTo-leaves : (row : ℕ) (after more : List ℕ) (left leaver : ℕ) → Split row after left leaver → Goes row → more ≡ after ++ new ∷ [] →
      Split (row + 1) more (left + 1) row
  IsSplitUpTo-leaves row after more left leaver h goes e =
      subst (λ more. Split (row + 1) more (left + 1) row) (sym e) (record {
        length_is = length_push after new ∙ ap (λ n. n + 1) h.length_is;
        few = omega (arith, h.few);
        each = each-more after row new h.length_is h.each (inl (goes, refl));
        some = λ _. (omega arith, goes);
        none = λ z. absurd (omega arith);
      })

  pub IsSplitUpTo-stays : (row : ℕ) (after more : List ℕ) (left leaver : ℕ) → Split row after left leaver → ¬ Goes row →
      more ≡ after ++ slice_index classes row ∷ [] → Split (row + 1) more left leaver
  IsSplitUpTo-stays row after more left leaver h stay e =
      subst (λ more. Split (row + 1) more left leaver) (sym e) (record {
        length_is = length_push after (slice_index classes row) ∙ ap (λ n. n + 1) h.length_is;
        few = omega (arith, h.few);
        each = each-more after row (slice_index classes row) h.length_is h.each (inr (stay, refl));
        some = λ s. (omega (arith, (h.some s).0), (h.some s).1);
        none = λ z. below_more (λ k. ¬ Goes k) row (h.none z) stay;
      })

  pub IsSplitUpTo-takes : (row : ℕ) (after more : List ℕ) (left leaver : ℕ) (others : List ℕ) (takes : Bool) → others ≡ classes →
      (IsTrue takes ↔ LeavesClass automaton others inside class category stays row) → takes ≡ true → Split row after left leaver → more ≡ after ++ new ∷ [] →
      Split (row + 1) more (left + 1) row
  IsSplitUpTo-takes row after more left leaver others takes same answer is h e =
      IsSplitUpTo-leaves row after more left leaver h (subst (λ (xs : List ℕ). LeavesClass automaton xs inside class category stays row) same (answer.0 is)) e

  pub IsSplitUpTo-keeps : (row : ℕ) (after more : List ℕ) (left leaver : ℕ) (others : List ℕ) (takes : Bool) (old : ℕ) → others ≡ classes →
      (IsTrue takes ↔ LeavesClass automaton others inside class category stays row) → takes ≡ false → Split row after left leaver →
      old ≡ slice_index classes row → more ≡ after ++ old ∷ [] → Split (row + 1) more left leaver
  IsSplitUpTo-keeps row after more left leaver others takes old same answer is h read e =
      IsSplitUpTo-stays row after more left leaver h
      (λ goes.
      let yes : takes ≡ true = answer.1 (subst (λ (xs : List ℕ). LeavesClass automaton xs inside class category stays row) (sym same) goes) in
      absurd (false≢true (sym is ∙ yes)))
      (e ∙ ap (λ n. after ++ n ∷ []) read)

  pub IsSplitUpTo-same : (row : ℕ) (after : List ℕ) (left leaver : ℕ) (side : Bool) (number count : ℕ) → stays ≡ side → new ≡ number → row ≡ count →
      Split row after left leaver → IsSplitUpTo automaton classes inside class category side number count after left leaver
  IsSplitUpTo-same row after left leaver side number count a b c h =
      subst (λ (s : Bool). IsSplitUpTo automaton classes inside class category s number count after left leaver) a
      (subst (λ (n : ℕ). IsSplitUpTo automaton classes inside class category stays n count after left leaver) b
      (subst (λ (n : ℕ). IsSplitUpTo automaton classes inside class category stays new n after left leaver) c h))
