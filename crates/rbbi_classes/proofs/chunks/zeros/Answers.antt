-- Some of words that are all 0.
use Rattle.std.proofs.Common.{◌≡◌, ℕ, ◌≤◌, List, get_or, replicate, take, refl, ap, ◌∙◌, ⊎_elim, arith}
use Rattle.std.proofs.lemmas.Bool.{cases_lt}
use Rattle.std.proofs.lemmas.List.{get_or_past, get_or-replicate, length-replicate, take-replicate}
use Rattle.rbbi_classes.proofs.chunks.zeros.Goals as goal

all_zero : (zero count k : ℕ) → zero ≡ 0 → count ≤ 64 → get_or (take count (replicate 64 zero)) k 0 ≡ 0
all_zero zero count k none few =
    ap (λ (list : List ℕ). get_or list k 0) (take-replicate count 64 zero few)
    ∙ ⊎_elim (λ short. get_or-replicate count k zero 0 short ∙ none)
    (λ past. get_or_past (replicate count zero) k 0 (omega (arith, past, length-replicate count zero))) (cases_lt k count)

pub returns-clause-zero : goal.returns-clause-zero
returns-clause-zero c = λ k. all_zero 0 c.min.result k refl (omega arith)
