-- A part that is put behind others, where it has an entry and there is room.
use Rattle.std.proofs.Common.{◌≡◌, ℕ, ◌≤◌, false, cond, not, eqb, List, [], ◌∷◌, ◌++◌, length, length-take, take, set, sym}
use Rattle.std.proofs.Common.{ap, ◌∙◌, arith}
use Rattle.std.proofs.lemmas.Bool.{cond-false, eq-eqb}
use Rattle.std.proofs.lemmas.List.{take-set, take_all, append-nil}
use Rattle.rbbi_model.specs.Runs.{Run}
use Rattle.rbbi_cache.specs.Kept.{most_runs}
use Rattle.rbbi_cache.specs.Edits.{has_entries}

-- one that has no entry changes nothing
pub none_added : (next : List Run) (count : ℕ) (part : Run) → count ≤ 16 → has_entries part ≡ false →
    take count next ≡ take most_runs (take count next ++ cond (has_entries part) (part ∷ []) [])
none_added next count part few empty =
    sym (take_all most_runs (take count next) (omega (arith, length-take count next)))
    ∙ ap (take most_runs) (sym (append-nil (take count next)) ∙ ap (λ l. take count next ++ l) (sym (cond-false (has_entries part) (part ∷ []) [] empty)))

module _ (next : List Run) (count : ℕ) (new part : Run) (is : new ≡ part) where
  pub left_out : count ≤ 16 → length new.entries ≡ 0 → take count (set next count new) ≡ take most_runs
      (take count next ++ cond (has_entries part) (part ∷ []) [])
  left_out few none =
      take-set next count new
      ∙ none_added next count part few (ap (λ r. not (eqb (length r.entries) 0)) (sym is) ∙ ap not (eq-eqb (length new.entries) 0 none))
