-- Lists of words in chunks.
use Rattle.std.proofs.Common.{◌≡◌, ℕ, ◌+◌, ◌-◌, ◌<◌, ◌≤◌, List, [], ◌∷◌, ◌++◌, length, get_or, take, drop, ap, sym, ◌∙◌, arith, length-take, length-drop}
use Rattle.std.specs.List.{flat_map}
use Rattle.std.proofs.lemmas.List.{flat_map_more, get_or-take, get_or-drop, ext_get_or}
use Rattle.std.proofs.Math.Seq.{take-add}

module _ {X : Type 0} (words_of : X → List ℕ) where
  -- chunks up to one place, and one from there on
  pub cut_more : (words part : List ℕ) (chunks : List X) (chunk : X) (at count : ℕ) → flat_map words_of chunks ≡ take at words → words_of chunk ≡ part →
      length part ≡ count → at + count ≤ length words → ((j : ℕ) → j < count → get_or part j 0 ≡ get_or words (at + j) 0) →
      flat_map words_of (chunks ++ chunk ∷ []) ≡ take (at + count) words
  cut_more words part chunks chunk at count before is long within each =
      let left : length (drop at words) ≡ length words - at = length-drop at words in
      let next : part ≡ take count (drop at words) =
      ext_get_or 0 part (take count (drop at words))
      (let e : length part ≡ length (take count (drop at words)) = omega (arith, long, within, left, length-take {A = ℕ}) in e)
      (λ j short. each j (omega (arith, short, long)) ∙ sym (get_or-take count (drop at words) j 0 (omega (arith, short, long)) ∙ get_or-drop at words j 0)) in
      sym (flat_map_more words_of [] chunks chunk)
      ∙ ap (λ ys. ys ++ words_of chunk) before
      ∙ ap (λ ys. take at words ++ ys) (is ∙ next)
      ∙ sym (take-add at count words)
