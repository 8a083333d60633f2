-- Entries that are moved, one after the other, after those of a run.
use Rattle.std.proofs.Common.{◌≡◌, ℕ, ◌+◌, ◌-◌, ◌<◌, ◌≤◌, Bool, eqb, leb, List, [], ◌∷◌, ◌++◌, length, length-append, map, filter, get_or}
use Rattle.std.proofs.Common.{take, sym, ap, ◌∙◌, append_assoc, arith}
use Rattle.std.proofs.lemmas.Bool.{cond-true, cond-false, le-leb, lt-leb, ne_eqb}
use Rattle.std.proofs.lemmas.List.{take_more, map-append, length-map, length-take, append-nil}
use Rattle.std.proofs.lemmas.List.Elements.{filter-append}
use Rattle.std.proofs.lemmas.List.Sums.{length-filter, count_by-le-length}
use Rattle.rbbi_model.specs.Runs.{Entry, Run}
use Rattle.rbbi_cache.specs.inner.Pushed.{pushed}
use Rattle.rbbi_cache.specs.Edits.{moved_entry}
use Rattle.rbbi_cache.specs.inner.Parts.{CanMove}

filter_shorter : {X : Type 0} (test : X → Bool) (xs : List X) → length (filter test xs) ≤ length xs
filter_shorter test xs = omega (arith, length-filter test xs, count_by-le-length test xs)

-- an entry that lies after what was removed, moved
pub moved_is : (removed inserted : ℕ) (entry : Entry) (at status reach : ℕ) → CanMove removed entry → at ≡ entry.at → status ≡ entry.status →
    reach ≡ entry.reach →
    record { at = at - removed + inserted; status = status; reach = reach - removed + inserted } ≡ moved_entry removed inserted entry
moved_is removed inserted entry at status reach can at_is status_is reach_is =
    let of : ℕ → ℕ → ℕ → Entry = λ a s r. record { at = a; status = s; reach = r } in
    let place : at - removed + inserted ≡ entry.at + inserted - removed = omega (arith, can.0) in
    let far : reach - removed + inserted ≡ entry.reach + inserted - removed = omega (arith, can.0, can.1) in
    ap (λ a. of a status (reach - removed + inserted)) place
    ∙ ap (λ s. of (entry.at + inserted - removed) s (reach - removed + inserted)) status_is
    ∙ ap (λ r. of (entry.at + inserted - removed) entry.status r) far

-- entries moved, but those that come to lie before a place
abbrev pub moved_from : ℕ → ℕ → ℕ → List Entry → List Entry
moved_from removed inserted first entries = filter (λ e. leb first e.at) (map (moved_entry removed inserted) entries)

-- a run with more entries
abbrev pub with_more : Run → List Entry → Run
with_more run more = record { anchor = run.anchor; entries = run.entries ++ more; leads = run.leads }

module _ (removed inserted first : ℕ) (start : Run) (entries : List Entry) (k : ℕ) (entry : Entry) (here : Run) (short : k < length entries)
    (is : entry ≡ get_or entries k entry) (here_is : here ≡ with_more start (moved_from removed inserted first (take k entries))) where
  more : moved_from removed inserted first (take (k + 1) entries)
      ≡ moved_from removed inserted first (take k entries) ++ filter (λ e. leb first e.at) (moved_entry removed inserted entry ∷ [])
  more =
      ap (moved_from removed inserted first) (take_more entries k entry short ∙ ap (λ e. take k entries ++ e ∷ []) (sym is))
      ∙ ap (filter (λ e. leb first e.at)) (map-append (moved_entry removed inserted) (take k entries) (entry ∷ []))
      ∙ filter-append (λ e. leb first e.at) (map (moved_entry removed inserted) (take k entries)) (moved_entry removed inserted entry ∷ [])

  pub skipped : (moved_entry removed inserted entry).at < first → here ≡ with_more start (moved_from removed inserted first (take (k + 1) entries))
  skipped low =
      let m : Entry = moved_entry removed inserted entry in
      let none : filter (λ e. leb first e.at) (m ∷ []) ≡ [] = cond-false (leb first m.at) (m ∷ []) [] (lt-leb first m.at low) in
      here_is ∙ ap (with_more start) (sym (more ∙ ap (λ l. moved_from removed inserted first (take k entries) ++ l) none ∙ append-nil _))

  not_full : length start.entries + length entries ≤ 256 → length here.entries ≡ 256 → ⊥
  not_full room full =
      let so_far : List Entry = map (moved_entry removed inserted) (take k entries) in
      omega (
        arith,
        ap (λ r. length r.entries) here_is,
        length-append start.entries (moved_from removed inserted first (take k entries)),
        filter_shorter (λ e. leb first e.at) so_far,
        length-map (take k entries) (moved_entry removed inserted),
        length-take k entries,
      )

  pub added : (moved : Entry) (next : Run) → moved ≡ moved_entry removed inserted entry → first ≤ (moved_entry removed inserted entry).at →
      length start.entries + length entries ≤ 256 → next ≡ pushed here moved → next ≡ with_more start (moved_from removed inserted first (take (k + 1) entries))
  added moved next moved_is high room next_is =
      let m : Entry = moved_entry removed inserted entry in
      let one : filter (λ e. leb first e.at) (m ∷ []) ≡ m ∷ [] = cond-true (leb first m.at) (m ∷ []) [] (le-leb first m.at high) in
      next_is
      ∙ cond-false (eqb (length here.entries) 256) _ (with_more here (moved ∷ [])) (ne_eqb (length here.entries) 256 (not_full room))
      ∙ ap (λ r. with_more r (moved ∷ [])) here_is
      ∙ ap (λ e. with_more (with_more start (moved_from removed inserted first (take k entries))) (e ∷ [])) moved_is
      ∙ ap (λ l. record { anchor = start.anchor; entries = l; leads = start.leads })
      (append_assoc start.entries (moved_from removed inserted first (take k entries)) (m ∷ []))
      ∙ ap (with_more start) (sym (more ∙ ap (λ l. moved_from removed inserted first (take k entries) ++ l) one))
