-- A new run that is put before the others.
use Rattle.std.proofs.Common.{◌≡◌, ℕ, ◌≤◌, List, [], ◌∷◌, ◌++◌, length, length-take, length-drop, take, drop, sym, refl, ap, ◌∙◌, subst, ⊎_elim, arith}
use Rattle.std.specs.List.{AllByRecursion}
use Rattle.std.proofs.lemmas.Bool.{cases_lt}
use Rattle.std.proofs.lemmas.List.{take-append-drop, take_all}
use Rattle.rbbi_model.specs.Runs.{Run}
use Rattle.rbbi_model.proofs.Lists.{all_append, all_left, all_right}
use Rattle.rbbi_cache.specs.Kept.{IsExtendedBy, NoneIsExtended, AreLeft, Added, Extended, Dropped}
use Rattle.rbbi_cache.specs.inner.Kept.{IsPutFirst}
use Rattle.rbbi_cache.specs.inner.Lists.{HasAt}

-- the one element of a list of length 1
one : (l : List Run) → length l ≡ 1 → (r : Run) × (l ≡ r ∷ [])
one [] is = absurd (omega arith)
one (r ∷ []) is = (r, refl)
one (r ∷ s ∷ l) is = absurd (omega arith)

-- what holds of all runs that were kept holds of all that are left
pub all_of_left : (P : Run → Type 0) (first : Run) (former rest : List Run) → AreLeft first former rest → AllByRecursion P former → AllByRecursion P rest
all_of_left P first _ _ (Added runs room none) each = each
all_of_left P first _ _ (Extended before after missing extended) each =
    all_append P before after (all_left P before (missing ∷ after) each) (all_right P before (missing ∷ after) each).1
all_of_left P first _ _ (Dropped before missing full none) each = all_left P before (missing ∷ []) each

-- where it extends none, it stands before the first 15 of them
pub put_before : (run : Run) (former now : List Run) → length former ≤ 16 → NoneIsExtended run former → now ≡ run ∷ take 15 former → IsPutFirst run former now
put_before run former now few none is = record { rest = take 15 former; are = is; left = left }
  where
    left : AreLeft run former (take 15 former)
    left =
        ⊎_elim
        (λ room. subst (AreLeft run former) (sym (take_all 15 former (omega arith))) (Added former room none))
        (λ full.
        let last = one (drop 15 former) (omega (arith, length-drop 15 former)) in
        let whole : former ≡ take 15 former ++ last.0 ∷ [] = sym (take-append-drop 15 former) ∙ ap (λ l. take 15 former ++ l) last.1 in
        subst (λ l. AreLeft run l (take 15 former)) (sym whole)
        (Dropped (take 15 former) last.0 (omega (arith, length-take 15 former)) (subst (NoneIsExtended run) whole none)))
        (cases_lt (length former) 16)

-- otherwise it stands in the place of one that it extends
pub put_instead : (run : Run) (former now : List Run) (k : ℕ) (at : HasAt former k (λ r. IsExtendedBy r run)) →
    ((before after : List Run) (r : Run) → former ≡ before ++ r ∷ after → length before ≡ k → now ≡ run ∷ (before ++ after)) → IsPutFirst run former now
put_instead run former now k at moved = record {
  rest = at.before ++ at.after;
  are = moved at.before at.after at.run at.whole at.number;
  left = subst (λ l. AreLeft run l (at.before ++ at.after)) (sym at.whole) (Extended at.before at.after at.run at.such);
}
