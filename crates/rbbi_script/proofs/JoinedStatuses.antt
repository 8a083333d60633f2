-- Statuses with commas between, one behind the other.
use Rattle.std.proofs.Common.{◌≡◌, ℕ, suc, ◌<◌, length, take, drop, get_or, List, [], ◌∷◌, ◌++◌, ap, sym, append-nil, arith}
use Rattle.std.specs.Prelude.{decimal}
use Rattle.std.specs.List.{flat_map}
use Rattle.rbbi_model.specs.Lines.{joined_statuses}
use Rattle.rbbi_text.proofs.Appended.{flat_parts}
use Rattle.rbbi_script.specs.inner.Statuses.{next_status}

-- the first status, and the others behind commas
pub joined_is : (status : ℕ) (statuses : List ℕ) → joined_statuses (status ∷ statuses) ≡ decimal status ++ flat_map next_status statuses
joined_is status [] = sym (append-nil (decimal status))
joined_is status (next ∷ statuses) = ap (λ x. decimal status ++ 44 ∷ x) (joined_is next statuses)

pub joined_first : (list : List ℕ) → 0 < length list → joined_statuses list ≡ decimal (get_or list 0 0) ++ flat_map next_status (drop 1 list)
joined_first [] l = absurd (omega arith)
joined_first (status ∷ statuses) l = joined_is status statuses

-- the statuses before one, the one, and those behind it
pub others_parts : (statuses : List ℕ) (i d : ℕ) → i < length statuses → flat_map next_status statuses ≡ flat_map next_status (take i statuses) ++
    (next_status (get_or statuses i d) ++ flat_map next_status (drop (suc i) statuses))
others_parts statuses i d l = flat_parts next_status statuses i d l
