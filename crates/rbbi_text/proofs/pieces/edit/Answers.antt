use Rattle.std.proofs.Common.{◌≡◌, ℕ, ◌+◌, ◌-◌, ◌<◌, ◌≤◌, List, [], ◌++◌, length, get_or, take, drop, ap, sym, ◌∙◌, chars, subst, arith, length-take}
use Rattle.std.specs.List.{splice as spliced}
use Rattle.std.proofs.lemmas.List.{map-id}
use Rattle.std.proofs.lemmas.Iterator.{items_from_drains}
use Rattle.std.proofs.lemmas.Iterator.Adapters.{YieldsList-from_vec}
use Rattle.rbbi_model.specs.Words.{most_characters}
use Rattle.rbbi_model.specs.Spelling.{joined}
use Rattle.rbbi_model.specs.Scripts.{splice}
use Rattle.rbbi_text.specs.inner.Cuts.{shifted, starts_with_new, pieces_with, AreWholeCut}
use Rattle.rbbi_text.specs.Milestones.{AreMilestones}
use Rattle.rbbi_text.specs.Weighed.{weight_of}
use Rattle.rbbi_text.proofs.Characters.{IsText-chars}
use Rattle.rbbi_text.proofs.CutLemmas.{is_read, middle_read, behind_start, small_start, found_end, middle_short, edit_one, edit_many}
use Rattle.rbbi_text.proofs.MilestoneLemmas.{pieces_small, renewed_kept}
use Rattle.rbbi_text.proofs.pieces.edit.Goals as goal
use Rattle.rbbi_text.proofs.pieces.edit.Goals.{After-deref-8}

pub fits-requires-clause-size : goal.fits-requires-clause-size
fits-requires-clause-size c =
    let r = is_read c.args.pieces.now.items _ c.args.starts.now.items _ c.locate-first.result c.args.place c.index.result.now c.index-2.result.now
    c.requires.cut c.deref.ensures.value c.deref-2.ensures.value c.locate-first.ensures c.index.ensures c.index-2.ensures in
    omega (arith, c.len-size.ensures, ap length r.piece_is, r.small)

pub edit_piece-requires-clause-behind : goal.edit_piece-requires-clause-behind
edit_piece-requires-clause-behind c =
    let r = is_read c.args.pieces.now.items _ c.args.starts.now.items _ c.locate-first.result c.args.place c.index.result.now c.index-2.result.now
    c.requires.cut c.deref.ensures.value c.deref-2.ensures.value c.locate-first.ensures c.index.ensures c.index-2.ensures in
    let ps : List (List ℕ) = c.args.pieces.now.items in
    let starts : List ℕ = c.args.starts.now.items in
    let first : ℕ = c.locate-first.result in
    let before : c.args.remove ≤ length (joined (take (first + 1) ps)) =
    let end = found_end ps starts first c.args.place c.requires.cut r.found in
    omega (arith, c.if-fits.ensures.0, c.len-size.ensures, ap length r.piece_is, r.start_is, r.place, end) in
    behind_start ps starts (first + 1) c.args.remove c.requires.cut before

pub edit_piece-requires-clause-small : goal.edit_piece-requires-clause-small
edit_piece-requires-clause-small c =
    λ k behind short. omega (
      arith,
      small_start c.args.pieces.now.items c.args.starts.now.items c.requires.cut k short,
      c.requires.few,
      c.requires.inside,
      c.requires.cut.whole.text.1,
    )

pub returns-then-fits : goal.returns-then-fits
returns-then-fits c =
    let r = is_read c.args.pieces.now.items _ c.args.starts.now.items _ c.locate-first.result c.args.place c.index.result.now c.index-2.result.now
    c.requires.cut c.deref.ensures.value c.deref-2.ensures.value c.locate-first.ensures c.index.ensures c.index-2.ensures in
    let ps : List (List ℕ) = c.args.pieces.now.items in
    let first : ℕ = c.locate-first.result in
    let starts : List ℕ = c.args.starts.now.items in
    let w : List ℕ = chars c.args.insert.now in
    let size : c.len-size.result ≡ length (get_or ps first []) = c.len-size.ensures ∙ ap length r.piece_is in
    let few : length (joined ps) - c.args.remove + length w ≤ most_characters = omega (arith, c.requires.few, c.requires.added) in
    let made = edit_one ps c.edit_piece.new.pieces.items starts c.edit_piece.new.starts.items w c.args.place c.args.remove first
    (c.args.place - c.index.result.now) c.requires.cut (IsText-chars c.args.insert.now c.utf8.insert) few r.found.within r.place
    (omega (arith, size, c.if-fits.ensures.0)) (omega (arith, size, c.if-fits.ensures.1, c.requires.added))
    (λ more. omega (arith, size, c.if-fits.ensures.2 (omega (arith, more, c.len.ensures, c.args.pieces.now.ok.0)), c.requires.added))
    c.in_ok-edit_piece.ensures.pieces
    (c.in_ok-edit_piece.ensures.starts ∙ ap (λ (n : ℕ). take (first + 1) starts ++ shifted c.args.remove n (drop (first + 1) starts)) c.requires.added) in
    let told = c.in_ok-edit_piece.ensures in
    record { cut = made.0; text = made.1; milestones = told.milestones; unit = told.unit; err = tt; err_starts = tt; err_milestones = tt }

pub starts_with-requires-clause-few : goal.starts_with-requires-clause-few
starts_with-requires-clause-few c =
    let r = is_read c.args.pieces.now.items _ c.args.starts.now.items _ c.locate-first.result c.args.place c.index.result.now c.index-2.result.now
    c.requires.cut c.deref.ensures.value c.deref-2.ensures.value c.locate-first.ensures c.index.ensures c.index-2.ensures in
    let middle = middle_read _ _ _ (chars c.args.insert.now) (c.args.place + c.args.remove) c.in_ok-middle.middle.characters.items _
    c.in_ok-middle.middle.past r c.deref-3.ensures.value c.deref-4.ensures.value c.index-3.ensures c.before-front.ensures c.in_ok-middle.ensures in
    let ps : List (List ℕ) = c.args.pieces.now.items in
    let starts : List ℕ = c.args.starts.now.items in
    let first : ℕ = c.locate-first.result in
    let same_start : get_or c.deref-6.result.now first 0 ≡ get_or starts first 0 = ap (λ (l : List ℕ). get_or l first 0) c.deref-6.ensures.value in
    let same_new : length (joined c.deref-7.result.now) ≡ length c.in_ok-middle.middle.characters.items =
    ap (λ (l : List (List ℕ)). length (joined l)) c.deref-7.ensures.value ∙ ap length (c.in_ok-new.ensures.same ∙ c.deref-5.ensures.value) in
    omega (
      arith,
      same_start,
      same_new,
      small_start ps starts c.requires.cut first r.found.within_starts,
      c.requires.few,
      c.requires.added,
      c.requires.inside,
      c.requires.cut.whole.text.1,
      r.small,
      length-take (c.args.place - c.index.result.now) (get_or ps first []),
      middle_short _ _ _ _ _ _ _ middle,
    )

pub starts_with-requires-clause-behind : goal.starts_with-requires-clause-behind
starts_with-requires-clause-behind c =
    let r = is_read c.args.pieces.now.items _ c.args.starts.now.items _ c.locate-first.result c.args.place c.index.result.now c.index-2.result.now
    c.requires.cut c.deref.ensures.value c.deref-2.ensures.value c.locate-first.ensures c.index.ensures c.index-2.ensures in
    let middle = middle_read _ _ _ (chars c.args.insert.now) (c.args.place + c.args.remove) c.in_ok-middle.middle.characters.items _
    c.in_ok-middle.middle.past r c.deref-3.ensures.value c.deref-4.ensures.value c.index-3.ensures c.before-front.ensures c.in_ok-middle.ensures in
    λ k behind short.
    let starts : List ℕ = c.args.starts.now.items in
    let within : k < length starts = omega (arith, short, ap length c.deref-6.ensures.value) in
    let same_start : get_or c.deref-6.result.now k 0 ≡ get_or starts k 0 = ap (λ (l : List ℕ). get_or l k 0) c.deref-6.ensures.value in
    omega
    (arith, same_start, behind_start c.args.pieces.now.items starts _ c.args.remove c.requires.cut (omega (arith, middle.behind)) k behind within)

pub starts_with-requires-clause-small : goal.starts_with-requires-clause-small
starts_with-requires-clause-small c =
    λ k behind short.
    let starts : List ℕ = c.args.starts.now.items in
    let within : k < length starts = omega (arith, short, ap length c.deref-6.ensures.value) in
    let same_start : get_or c.deref-6.result.now k 0 ≡ get_or starts k 0 = ap (λ (l : List ℕ). get_or l k 0) c.deref-6.ensures.value in
    omega (
      arith,
      same_start,
      small_start c.args.pieces.now.items starts c.requires.cut k within,
      c.requires.few,
      c.requires.inside,
      c.requires.cut.whole.text.1,
    )

-- the new pieces are put in place of the old ones
replaced : (c : After-deref-8) → c.splice.new.self.items
    ≡ pieces_with c.args.pieces.now.items c.locate-first.result c.in_ok-middle.middle.past c.in_ok-new.new.items
replaced c =
    let (s, xs, begins, (u, (t, given, ends)), items, lengths) = c.in_ok-_gone.ensures.items in
    let road = YieldsList-from_vec c.in_ok-new.new.items begins.0 (omega (arith, begins.1, c.in_ok-new.new.ok.0)) in
    items ∙ ap (spliced c.args.pieces.now.items c.locate-first.result c.in_ok-middle.middle.past)
    (sym (map-id xs) ∙ items_from_drains xs (t, given, λ _. (u, ends)) road)

-- the new pieces make the edited text
made : (c : After-deref-8) → AreWholeCut c.splice.new.self.items c.in_ok-new_starts.new_starts.items
    × (joined c.splice.new.self.items ≡ splice (joined c.args.pieces.now.items) c.args.place c.args.remove (chars c.args.insert.now))
made c =
    let r = is_read c.args.pieces.now.items _ c.args.starts.now.items _ c.locate-first.result c.args.place c.index.result.now c.index-2.result.now
    c.requires.cut c.deref.ensures.value c.deref-2.ensures.value c.locate-first.ensures c.index.ensures c.index-2.ensures in
    let middle = middle_read _ _ _ (chars c.args.insert.now) (c.args.place + c.args.remove) c.in_ok-middle.middle.characters.items _
    c.in_ok-middle.middle.past r c.deref-3.ensures.value c.deref-4.ensures.value c.index-3.ensures c.before-front.ensures c.in_ok-middle.ensures in
    let ps : List (List ℕ) = c.args.pieces.now.items in
    let first : ℕ = c.locate-first.result in
    let starts : List ℕ = c.args.starts.now.items in
    let past : ℕ = c.in_ok-middle.middle.past in
    let w : List ℕ = chars c.args.insert.now in
    let few : length (joined ps) - c.args.remove + length w ≤ most_characters = omega (arith, c.requires.few, c.requires.added) in
    let starts_are : c.in_ok-new_starts.new_starts.items ≡ starts_with_new starts first past c.in_ok-new.new.items c.args.remove (length w) =
    c.in_ok-new_starts.ensures ∙ ap (λ (s : List ℕ). starts_with_new s first past c.deref-7.result.now c.args.remove c.args.added) c.deref-6.ensures.value
    ∙ ap (λ (l : List (List ℕ)). starts_with_new starts first past l c.args.remove c.args.added) c.deref-7.ensures.value
    ∙ ap (λ (n : ℕ). starts_with_new starts first past c.in_ok-new.new.items c.args.remove n) c.requires.added in
    edit_many ps c.splice.new.self.items c.in_ok-new.new.items starts c.in_ok-new_starts.new_starts.items
    c.in_ok-middle.middle.characters.items w c.args.place c.args.remove first (c.args.place - c.index.result.now) past c.requires.cut
    (IsText-chars c.args.insert.now c.utf8.insert) few r.found.within r.place (omega (arith, r.start_is, r.found.at_most)) middle
    (c.in_ok-new.ensures.same ∙ c.deref-5.ensures.value) c.in_ok-new.ensures.some c.in_ok-new.ensures.filled
    (λ enough. c.in_ok-new.ensures.all (omega (arith, enough, ap length c.deref-5.ensures.value)))
    (replaced c) starts_are

pub returns : goal.returns
returns c =
    let made' = made (goal.at.returns c).After-deref-8 in
    record {
      cut = made'.0;
      text = made'.1;
      milestones = subst (λ u. AreMilestones (weight_of u) c.splice.new.self.items c.renew.new.self.sums.items) (sym c.renew.ensures.unit)
          (subst (λ l. AreMilestones (weight_of c.args.milestones.now.unit) l c.renew.new.self.sums.items) c.deref-8.ensures.value c.renew.ensures.are);
      unit = c.renew.ensures.unit;
      err = tt;
      err_starts = tt;
      err_milestones = tt;
    }

pub renew-requires-clause-small : goal.renew-requires-clause-small
renew-requires-clause-small c =
    let made' = made (goal.at.renew-requires-clause-small c).After-deref-8 in
    let long = ap (λ l. length (joined l)) c.deref-8.ensures.value in
    omega (arith, pieces_small c.args.milestones.now.unit c.deref-8.result.now (omega (arith, long, made'.0.whole.text.1)))

pub renew-requires-clause-kept : goal.renew-requires-clause-kept
renew-requires-clause-kept c =
    let ps : List (List ℕ) = c.args.pieces.now.items in
    let first : ℕ = c.locate-first.result in
    let past : ℕ = c.in_ok-middle.middle.past in
    renewed_kept (weight_of c.args.milestones.now.unit) ps c.deref-8.result.now (c.in_ok-new.new.items ++ drop past ps)
    c.args.milestones.now.sums.items first
    c.requires.milestones (omega (arith, c.locate-first.ensures.within, ap length c.deref.ensures.value))
    (c.deref-8.ensures.value ∙ replaced (goal.at.renew-requires-clause-kept c).After-deref-8)
