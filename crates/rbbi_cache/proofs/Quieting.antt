-- Runs that show no boundary past the places of a stretch.
use Rattle.std.proofs.Common.{◌≡◌, ℕ, ◌<◌, ◌≤◌, List, [], ◌∷◌, ◌++◌, length, take, drop, sym, ap, ◌∙◌, subst, append_assoc, arith}
use Rattle.std.specs.Prelude.{Option, Some, None, MatchOption, ⊤}
use Rattle.std.specs.List.{AllByRecursion}
use Rattle.std.proofs.lemmas.List.{take-append-drop}
use Rattle.std.proofs.Math.Seq.{drop-length}
use Rattle.rbbi_model.specs.Runs.{Entry, Run, ShowsAfter}
use Rattle.rbbi_model.proofs.Lists.{all_append, all_through}
use Rattle.rbbi_cache.specs.declared.runs.Shown.{Shown}
use Rattle.rbbi_cache.specs.Shown.{IsShownAfter}
use Rattle.rbbi_cache.specs.inner.Shown.{AreUpTo}
use Rattle.rbbi_cache.specs.inner.Lists.{HasAt}
use Rattle.rbbi_cache.specs.inner.Quiet.{IsQuiet, AreQuiet}
use Rattle.rbbi_cache.proofs.Showing.{none_past, none_before_anchor}

-- where the stretch is empty, all are
pub none_quiet : (from to : ℕ) (runs : List Run) → to ≡ 0 → AllByRecursion (IsQuiet from to) runs
none_quiet from to [] none = tt
none_quiet from to (run ∷ runs) none = (λ i low high a shows. omega arith, none_quiet from to runs none)

-- and in a shorter stretch
pub fewer_quiet : (from to less : ℕ) → less ≤ to → (runs : List Run) → AllByRecursion (IsQuiet from to) runs → AllByRecursion (IsQuiet from less) runs
fewer_quiet from to less order runs all =
    all_through (IsQuiet from to) (IsQuiet from less) (λ run quiet i low high. quiet i low (omega arith)) runs all

-- a run after the stretch
pub quiet_before : (run : Run) (from to : ℕ) → AllByRecursion (λ f. run.anchor ≤ f.at) run.entries → to ≤ run.anchor → IsQuiet from to run
quiet_before run from to behind order i low high =
    none_before_anchor run behind (record { at = 0; status = 0; reach = 0 }) i (omega arith)

-- a run up to the stretch
pub quiet_past : (run : Run) (from to count : ℕ) → AreUpTo run.entries from count → count ≡ length run.entries → IsQuiet from to run
quiet_past run from to count are all i low high =
    none_past run i count (record { at = 0; status = 0; reach = 0 })
    (record {
      within = are.within;
      up_to = all_through (λ f. f.at ≤ from) (λ f. f.at ≤ i) (λ f up. omega arith) (take count run.entries) are.up_to;
      past =
          subst (λ n. AllByRecursion (λ f. i < f.at) (drop n run.entries)) (sym all)
          (subst (λ l. AllByRecursion (λ f. i < f.at) l) (sym (drop-length run.entries)) tt);
    })
    all

-- where the first shows none and the others are quiet, none shows one
pub none_of_all : (runs : List Run) (from to i : ℕ) → AreQuiet from to runs → from ≤ i → i < to →
    AllByRecursion (λ run. (a : ℕ) → ShowsAfter run i a → ⊥) (take 1 runs) → AllByRecursion (λ run. (a : ℕ) → ShowsAfter run i a → ⊥) runs
none_of_all runs from to i quiet low high first =
    subst (AllByRecursion (λ run. (a : ℕ) → ShowsAfter run i a → ⊥)) (take-append-drop 1 runs)
    (all_append (λ run. (a : ℕ) → ShowsAfter run i a → ⊥) (take 1 runs) (drop 1 runs) first
    (all_through (IsQuiet from to) (λ run. (a : ℕ) → ShowsAfter run i a → ⊥) (λ run is. is i low high) (drop 1 runs) quiet))

-- a run of the first ones is one of all
pub has_of_all : (P : Run → Type 0) (runs front rest : List Run) (k : ℕ) → front ++ rest ≡ runs → HasAt front k P → HasAt runs k P
has_of_all P runs front rest k whole at = record {
  before = at.before;
  run = at.run;
  after = at.after ++ rest;
  whole = sym whole ∙ ap (λ l. l ++ rest) at.whole ∙ append_assoc at.before (at.run ∷ at.after) rest;
  number = at.number;
  such = at.such;
}

-- what the first run tells is told of all
pub first_tells : (runs : List Run) (from to i : ℕ) → AreQuiet from to runs → from ≤ i → i < to → (found : Option Shown) →
    MatchOption found (AllByRecursion (λ run. (a : ℕ) → ShowsAfter run i a → ⊥) (take 1 runs))
    (λ shown. HasAt (take 1 runs) shown.run (λ run. IsShownAfter run i shown.entry)) →
    MatchOption found (AllByRecursion (λ run. (a : ℕ) → ShowsAfter run i a → ⊥) runs)
    (λ shown. HasAt runs shown.run (λ run. IsShownAfter run i shown.entry))
first_tells runs from to i quiet low high None none = none_of_all runs from to i quiet low high none
first_tells runs from to i quiet low high (Some shown) at =
    has_of_all (λ run. IsShownAfter run i shown.entry) runs (take 1 runs) (drop 1 runs) shown.run (take-append-drop 1 runs) at

module _ (i : ℕ) (entry : Option Entry) where
  -- what the first run doesn't show
  pub unknown_to_first : (run : Run) (rest runs : List Run) → runs ≡ run ∷ rest → MatchOption entry ⊤ (λ _. (a : ℕ) → ShowsAfter run i a → ⊥) →
      MatchOption entry ⊤ (λ _. AllByRecursion (λ run. (a : ℕ) → ShowsAfter run i a → ⊥) (take 1 runs))
  unknown_to_first run rest runs is none =
      subst (λ l. MatchOption entry ⊤ (λ _. AllByRecursion (λ run. (a : ℕ) → ShowsAfter run i a → ⊥) (take 1 l))) (sym is) (of_one entry none)
    where
      of_one : (found : Option Entry) → MatchOption found ⊤ (λ _. (a : ℕ) → ShowsAfter run i a → ⊥) →
          MatchOption found ⊤ (λ _. AllByRecursion (λ run. (a : ℕ) → ShowsAfter run i a → ⊥) (take 1 (run ∷ rest)))
      of_one None none = tt
      of_one (Some e) none = (none, tt)

  -- none does, where the others are quiet
  pub unknown_to_all : (inside runs : List Run) → inside ≡ runs → (from to : ℕ) → AreQuiet from to inside → from ≤ i → i < to →
      MatchOption entry ⊤ (λ _. AllByRecursion (λ run. (a : ℕ) → ShowsAfter run i a → ⊥) (take 1 inside)) →
      MatchOption entry ⊤ (λ _. AllByRecursion (λ run. (a : ℕ) → ShowsAfter run i a → ⊥) runs)
  unknown_to_all inside runs is from to quiet low high none =
      subst (λ l. MatchOption entry ⊤ (λ _. AllByRecursion (λ run. (a : ℕ) → ShowsAfter run i a → ⊥) l)) is (of_all entry none)
    where
      of_all : (found : Option Entry) → MatchOption found ⊤ (λ _. AllByRecursion (λ run. (a : ℕ) → ShowsAfter run i a → ⊥) (take 1 inside)) →
          MatchOption found ⊤ (λ _. AllByRecursion (λ run. (a : ℕ) → ShowsAfter run i a → ⊥) inside)
      of_all None none = tt
      of_all (Some e) none = none_of_all inside from to i quiet low high none
