-- The characters of a spliced text, and how it is spliced back.
use Rattle.std.proofs.Common.{◌≡◌, ℕ, ◌+◌, ◌-◌, ◌≤◌, List, ◌++◌, length, take, drop, sym, ap, ◌∙◌, append_assoc, arith, length-append, length-take}
use Rattle.std.specs.Prelude.{slice_range}
use Rattle.std.proofs.lemmas.List.{take-append-drop, drop-drop}
use Rattle.std.proofs.Math.Seq.{take-append_seam, drop-append_seam}
use Rattle.rbbi_model.specs.Scripts.{splice}
use Rattle.rbbi_cache.specs.Edits.{IsSpliced}

module _ (x : List ℕ) (at removed : ℕ) (inserted : List ℕ) (within : at + removed ≤ length x) where
  front_long : length (take at x) ≡ at
  front_long = omega (arith, length-take at x)

  whole : splice x at removed inserted ≡ take at x ++ (inserted ++ drop (at + removed) x)
  whole = append_assoc (take at x) inserted (drop (at + removed) x)

  -- spliced back with what was removed it is the text that it was
  spliced_back : splice (splice x at removed inserted) at (length inserted) (slice_range x at (at + removed)) ≡ x
  spliced_back =
      let y : List ℕ = splice x at removed inserted in
      let front : take at y ≡ take at x =
      ap (take at) whole
      ∙ ap (λ n. take n (take at x ++ (inserted ++ drop (at + removed) x))) (sym front_long)
      ∙ take-append_seam (take at x) (inserted ++ drop (at + removed) x) in
      let long : length (take at x ++ inserted) ≡ at + length inserted = omega (arith, length-append (take at x) inserted, front_long) in
      let rest : drop (at + length inserted) y ≡ drop (at + removed) x =
      ap (λ n. drop n y) (sym long) ∙ drop-append_seam (take at x ++ inserted) (drop (at + removed) x) in
      let size : at + removed - at ≡ removed = omega arith in
      ap (λ l. l ++ slice_range x at (at + removed) ++ drop (at + length inserted) y) front
      ∙ ap (λ l. take at x ++ slice_range x at (at + removed) ++ l) rest
      ∙ ap (λ n. take at x ++ take n (drop at x) ++ drop (at + removed) x) size
      ∙ append_assoc (take at x) (take removed (drop at x)) (drop (at + removed) x)
      ∙ ap (λ l. take at x ++ (take removed (drop at x) ++ l)) (sym (drop-drop removed at x))
      ∙ ap (λ l. take at x ++ l) (take-append-drop removed (drop at x))
      ∙ take-append-drop at x

pub before_is : (old y removed : List ℕ) (at inserted : ℕ) → IsSpliced old y at (length removed) inserted →
    removed ≡ slice_range old at (at + length removed) → splice y at inserted removed ≡ old
before_is old y removed at inserted edited is =
    let z : List ℕ = splice old at (length removed) edited.characters in
    ap (λ l. splice l at inserted removed) edited.spliced
    ∙ ap (λ n. splice z at n removed) (sym edited.many)
    ∙ ap (λ r. splice z at (length edited.characters) r) is
    ∙ spliced_back old at (length removed) edited.characters edited.within
