-- Pieces that are moved one after another.
use Rattle.std.proofs.Common.{◌≡◌, ℕ, ◌+◌, ◌-◌, ◌<◌, ◌≤◌, ◌++◌, ◌∷◌, [], List, length, map, take, drop, get_or, set, sym, ap, ◌∙◌, subst, arith, length-take}
use Rattle.std.proofs.Common.{length-drop}
use Rattle.std.specs.List.{AllByRecursion}
use Rattle.std.proofs.lemmas.List.{map-append, append-nil, take_more, take_more_set, drop-append-le, drop-set-lt, get_or-drop, drop-drop}
use Rattle.rbbi_model.proofs.Lists.{all_at}
use Rattle.rbbi_tally.specs.declared.edit.Edit.{Edit}
use Rattle.rbbi_tally.specs.declared.piece.Piece.{Piece}
use Rattle.rbbi_tally.specs.inner.Segments.{Segment, moved}
use Rattle.rbbi_tally.specs.inner.Editing.{CanShift}
use Rattle.rbbi_tally.specs.inner.Pieces.{segments_in, contents}
use Rattle.rbbi_tally.proofs.PieceLists.{contents-append}

-- what is behind is as before, so the piece is
pub same_read : (ps qs : List Piece) (k : ℕ) (d : Piece) → drop k ps ≡ drop k qs → get_or ps k d ≡ get_or qs k d
same_read ps qs k d same =
    let e : k + 0 ≡ k = omega arith in
    ap (λ n. get_or ps n d) (sym e) ∙ sym (get_or-drop k ps 0 d) ∙ ap (λ (l : List Piece). get_or l 0 d) same ∙ get_or-drop k qs 0 d ∙ ap (λ n. get_or qs n d) e

pub same_rest : (ps qs : List Piece) (k : ℕ) (q : Piece) → drop k ps ≡ drop k qs → drop (k + 1) (set ps k q) ≡ drop (k + 1) qs
same_rest ps qs k q same =
    drop-set-lt (k + 1) ps k q (omega arith) ∙ sym (drop-drop 1 k ps) ∙ ap (λ (l : List Piece). drop 1 l) same ∙ drop-drop 1 k qs

pub can_shift : (edit : Edit) (ps qs : List Piece) (past k : ℕ) (d : Piece) → drop k ps ≡ drop k qs → past ≤ k → k < length qs →
    AllByRecursion (CanShift edit) (drop past qs) → CanShift edit (get_or ps k d)
can_shift edit ps qs past k d same order short can =
    let e : past + (k - past) ≡ k = omega arith in
    subst (CanShift edit) (get_or-drop past qs (k - past) d ∙ ap (λ n. get_or qs n d) e ∙ sym (same_read ps qs k d same))
    (all_at (CanShift edit) (drop past qs) (k - past) d (omega (arith, length-drop past qs)) can)

pub shift_step : (edit : Edit) (ps qs : List Piece) (past k : ℕ) (d q : Piece) → drop k ps ≡ drop k qs →
    contents (drop past (take k ps)) ≡ map (moved edit.removed edit.inserted) (contents (drop past (take k qs))) → past ≤ k → k < length ps →
    k < length qs → segments_in q ≡ map (moved edit.removed edit.inserted) (segments_in (get_or ps k d)) →
    contents (drop past (take (k + 1) (set ps k q))) ≡ map (moved edit.removed edit.inserted) (contents (drop past (take (k + 1) qs)))
shift_step edit ps qs past k d q same done order short short' is =
    let m : List Segment → List Segment = map (moved edit.removed edit.inserted) in
    let there : drop past (take (k + 1) (set ps k q)) ≡ drop past (take k ps) ++ q ∷ [] =
    ap (drop past) (take_more_set ps k q short) ∙ drop-append-le past (take k ps) (q ∷ []) (omega (arith, length-take k ps)) in
    let here : drop past (take (k + 1) qs) ≡ drop past (take k qs) ++ get_or qs k d ∷ [] =
    ap (drop past) (take_more qs k d short') ∙ drop-append-le past (take k qs) (get_or qs k d ∷ []) (omega (arith, length-take k qs)) in
    ap contents there
    ∙ contents-append (drop past (take k ps)) (q ∷ [])
    ∙ ap (λ l. l ++ contents (q ∷ [])) done
    ∙ ap (λ l. m (contents (drop past (take k qs))) ++ l) (append-nil (segments_in q) ∙ is ∙ ap (λ p. m (segments_in p)) (same_read ps qs k d same)
    ∙ ap m (sym (append-nil (segments_in (get_or qs k d)))))
    ∙ sym (map-append (moved edit.removed edit.inserted) (contents (drop past (take k qs))) (contents (get_or qs k d ∷ [])))
    ∙ ap m (sym (contents-append (drop past (take k qs)) (get_or qs k d ∷ [])))
    ∙ ap (λ l. m (contents l)) (sym here)
