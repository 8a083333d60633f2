-- Pieces of a text, character by character.
use Rattle.std.proofs.Common.{◌≡◌, ℕ, ◌+◌, ◌-◌, ◌<◌, ◌≤◌, List, [], ◌∷◌, ◌++◌, length, get_or, take, drop, sym, ap, ◌∙◌, arith, length-drop, get_or-drop}
use Rattle.std.proofs.Common.{slice_range}
use Rattle.std.proofs.lemmas.List.{take_more}

-- an empty piece
pub slice_range-none : (x : List ℕ) (i : ℕ) → slice_range x i i ≡ []
slice_range-none x i = let e : i - i ≡ 0 = omega arith in ap (λ n. take n (drop i x)) e

-- one more character
pub slice_range-more : (x : List ℕ) (i j c : ℕ) → i ≤ j → j < length x → c ≡ get_or x j c → slice_range x i (j + 1) ≡ slice_range x i j ++ c ∷ []
slice_range-more x i j c le lt at =
    let left = length-drop i x in
    let more : (j + 1) - i ≡ (j - i) + 1 = omega arith in
    let back : i + (j - i) ≡ j = omega arith in
    ap (λ n. take n (drop i x)) more
    ∙ take_more (drop i x) (j - i) c (omega arith)
    ∙ ap (λ d. take (j - i) (drop i x) ++ d ∷ []) (get_or-drop i x (j - i) c ∙ ap (λ k. get_or x k c) back ∙ sym at)
