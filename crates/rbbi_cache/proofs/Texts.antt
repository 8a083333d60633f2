-- What an edit leaves of the text, and the searches that it doesn't touch.
use Rattle.std.proofs.Common.{◌≡◌, ℕ, ◌+◌, ◌-◌, ◌<◌, ◌≤◌, List, length, take, drop, ◌++◌, sym, ap, ◌∙◌, inl, inr, ⊎_elim, append_assoc, arith, length-append}
use Rattle.std.proofs.Common.{length-take, length-drop}
use Rattle.std.specs.Prelude.{slice_range}
use Rattle.std.proofs.lemmas.Bool.{cases_Bool, cond-true, cond-false}
use Rattle.std.proofs.lemmas.List.{take-take, drop-take, drop-drop}
use Rattle.std.proofs.Math.Seq.{take-append_seam, drop-append_seam}
use Rattle.rbbi_model.specs.Tables.{Table, stops}
use Rattle.rbbi_model.specs.Searches.{row_at, search_end, look_end}
use Rattle.rbbi_model.specs.ReadAlike.{ReadsAlike}
use Rattle.rbbi_model.proofs.Found.{end_lies, look_lies}
use Rattle.rbbi_cache.specs.Edits.{IsSpliced}

-- a search ends where it looks to, or at the text's end before it
pub end_by_look : (table : Table) (x : List ℕ) (s : ℕ) → s < length x → search_end table x s ≤ look_end table x s
end_by_look table x s short =
    let lies = end_lies table x s short in
    ⊎_elim
    (λ holds. omega (arith, cond-true (stops table (row_at table x s (search_end table x s))) (search_end table x s) (length x + 1) holds))
    (λ fails. omega (arith, lies.1, cond-false (stops table (row_at table x s (search_end table x s))) (search_end table x s) (length x + 1) fails))
    (cases_Bool (stops table (row_at table x s (search_end table x s))))

module _ (x y : List ℕ) (at removed inserted : ℕ) (edited : IsSpliced x y at removed inserted) where
  long : length (take at x) ≡ at
  long = let within = edited.within in omega (arith, length-take at x)

  whole : y ≡ take at x ++ (edited.characters ++ drop (at + removed) x)
  whole = edited.spliced ∙ append_assoc (take at x) edited.characters (drop (at + removed) x)

  pub length_is : length y + removed ≡ length x + inserted
  length_is =
      let within = edited.within in
      let many = edited.many in
      omega (
        arith,
        ap length whole,
        length-append (take at x) (edited.characters ++ drop (at + removed) x),
        length-append edited.characters
            (drop (at + removed) x),
        long,
        length-drop (at + removed) x,
      )

  pub left_stays : take at y ≡ take at x
  left_stays =
      ap (take at) whole
      ∙ ap (λ n. take n (take at x ++ (edited.characters ++ drop (at + removed) x))) (sym long)
      ∙ take-append_seam (take at x) (edited.characters ++ drop (at + removed) x)

  pub right_stays : drop (at + inserted) y ≡ drop (at + removed) x
  right_stays =
      ap (drop (at + inserted)) whole
      ∙ sym (drop-drop inserted at (take at x ++ (edited.characters ++ drop (at + removed) x)))
      ∙ ap (drop inserted) (ap (λ n. drop n (take at x ++ (edited.characters ++ drop (at + removed) x))) (sym long)
      ∙ drop-append_seam (take at x) (edited.characters ++ drop (at + removed) x))
      ∙ ap (λ n. drop n (edited.characters ++ drop (at + removed) x)) (sym edited.many)
      ∙ drop-append_seam edited.characters (drop (at + removed) x)

  -- a piece before the edit
  piece_before : (z : List ℕ) (s q : ℕ) → s ≤ q → q ≤ at → slice_range z s q ≡ drop s (take q (take at z))
  piece_before z s q order before =
      let there : s + (q - s) ≡ q = omega arith in
      sym (drop-take s (q - s) z) ∙ ap (λ n. drop s (take n z)) there ∙ ap (drop s) (sym (take-take q at z before))

  -- a search that looks at nothing from the edit on is the same in the new text
  pub alike_before : (table : Table) (s : ℕ) → s < length x → look_end table x s ≤ at → ReadsAlike table x y s s
  alike_before table s short look =
      let lies = end_lies table x s short in
      let by = end_by_look table x s short in
      let within = edited.within in
      let there : s + (search_end table x s - s) ≡ search_end table x s = omega (arith, lies.0) in
      record {
        within = short;
        characters =
            piece_before x s (search_end table x s) (omega (arith, lies.0)) (omega arith)
            ∙ ap (λ z. drop s (take (search_end table x s) z)) (sym left_stays)
            ∙ sym (piece_before y s (search_end table x s) (omega (arith, lies.0)) (omega arith))
            ∙ ap (slice_range y s) (sym there);
        end = inl (omega arith, omega (arith, length_is, (look_lies table x s short).0));
      }

  pub room_before : (table : Table) (s : ℕ) → s < length x → look_end table x s ≤ at → s < length y
  room_before table s short look = let within = edited.within in omega (arith, length_is, (look_lies table x s short).0)

  -- after the edit the texts are the same
  pub same_behind : (s : ℕ) → at + removed ≤ s → drop (s + inserted - removed) y ≡ drop s x
  same_behind s from =
      let here : at + removed + (s - (at + removed)) ≡ s = omega arith in
      let there : at + inserted + (s - (at + removed)) ≡ s + inserted - removed = omega arith in
      ap (λ n. drop n y) (sym there)
      ∙ sym (drop-drop (s - (at + removed)) (at + inserted) y)
      ∙ ap (drop (s - (at + removed))) right_stays
      ∙ drop-drop (s - (at + removed)) (at + removed) x
      ∙ ap (λ n. drop n x) here

  -- so each search from after it is moved
  pub alike_behind : (table : Table) (s : ℕ) → at + removed ≤ s → s < length x → ReadsAlike table x y s (s + inserted - removed)
  alike_behind table s from short =
      let lies = end_lies table x s short in
      let size : s + inserted - removed + (search_end table x s - s) - (s + inserted - removed) ≡ search_end table x s - s = omega arith in
      record {
        within = short;
        characters =
            ap (take (search_end table x s - s)) (sym (same_behind s from))
            ∙ ap (λ n. take n (drop (s + inserted - removed) y)) (sym size);
        end = inr (omega (arith, length_is));
      }

  pub room_behind : (s : ℕ) → at + removed ≤ s → s < length x → s + inserted - removed < length y
  room_behind s from short = omega (arith, length_is)
