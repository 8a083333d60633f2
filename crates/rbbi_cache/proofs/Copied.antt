-- What is copied of a run: the moved entries from one on.
use Rattle.std.proofs.Common.{◌≡◌, ℕ, ◌+◌, ◌-◌, ◌<◌, ◌≤◌, ◌⊎◌, Bool, true, false, not, ◌&&◌, ◌||◌, eqb, leb, ltb, List, [], length}
use Rattle.std.proofs.Common.{length-drop, map, filter, take, drop, sym, ap, ◌∙◌, subst, inl, inr, arith}
use Rattle.std.specs.List.{AllByRecursion}
use Rattle.std.proofs.lemmas.Bool.{cond-true, cond-false, le-leb, lt-ltb, le-ltb, eq-eqb, ne_eqb}
use Rattle.std.proofs.Math.Seq.{take-length}
use Rattle.rbbi_model.specs.Runs.{Entry, Run}
use Rattle.rbbi_model.proofs.Lists.{all_drop, all_through}
use Rattle.rbbi_cache.specs.inner.Shown.{AreUpTo}
use Rattle.rbbi_cache.specs.Edits.{moved_entry, moved_run, run_behind}
use Rattle.rbbi_cache.specs.inner.Parts.{CanMove, IsPlaced, IsMovable}
use Rattle.rbbi_cache.proofs.Lists.{everywhere, filter_all, filter_same}
use Rattle.rbbi_cache.proofs.Cuts.{keeps_last}
use Rattle.rbbi_cache.proofs.Appended.{moved_from, with_more}

-- from the element with this number up to the end
abbrev pub from_number : {X : Type 0} → ℕ → List X → List X
from_number k xs = take (length xs - k) (drop k xs)

to_end : {X : Type 0} (k : ℕ) (xs : List X) → from_number k xs ≡ drop k xs
to_end k xs = ap (λ n. take n (drop k xs)) (sym (length-drop k xs)) ∙ take-length (drop k xs)

-- a run of this anchor
abbrev pub run_of : ℕ → Bool → List Entry → Run
run_of anchor leads entries = record { anchor = anchor; entries = entries; leads = leads }

-- a part that begins again and to which a list is added
filled : (restarted part : Run) (anchor : ℕ) (leads : Bool) (list entries : List Entry) →
    restarted ≡ run_of anchor leads [] → part ≡ with_more restarted list → list ≡ entries → part ≡ run_of anchor leads entries
filled restarted part anchor leads list entries restarted_is part_is list_is =
    part_is ∙ ap (λ r. with_more r list) restarted_is ∙ ap (run_of anchor leads) list_is

module _ (at removed inserted : ℕ) (run : Run) where
  pub behind_is : (pair before : ℕ) (entries slots : List Entry) (restarted part : Run) → entries ≡ run.entries → slots ≡ run.entries →
      AreUpTo entries (at + removed) before → restarted ≡ run_of pair false [] →
      part ≡ with_more restarted (moved_from removed inserted (pair + 2) (from_number before slots)) → part ≡ run_behind at removed inserted pair run
  behind_is pair before entries slots restarted part entries_are slots_are are restarted_is part_is =
      let end : ℕ = at + removed in
      let those : AreUpTo run.entries (at + removed) before = subst (λ l. AreUpTo l (at + removed) before) entries_are are in
      let rest : from_number before slots ≡ filter (λ e. ltb (at + removed) e.at) run.entries =
      ap (from_number before) slots_are
      ∙ to_end before run.entries
      ∙ keeps_last (λ e. ltb (at + removed) e.at) before run.entries
      (all_through (λ e. e.at ≤ end) (λ e. ltb end e.at ≡ false) (λ e less. le-ltb end e.at less) (take before run.entries) those.up_to)
      (all_through (λ e. end < e.at) (λ e. ltb end e.at ≡ true) (λ e more. lt-ltb end e.at more) (drop before run.entries) those.past) in
      filled restarted part pair false _ _ restarted_is part_is (ap (moved_from removed inserted (pair + 2)) rest)

  -- what is kept of a moved run of anchor 0, and of one of another anchor
  abbrev of_zero : List Entry
  of_zero =
      filter (λ e. eqb (run.anchor + inserted - removed) 0 || leb (run.anchor + inserted - removed + 2) e.at)
      (map (moved_entry removed inserted) (filter (λ e. ltb at e.reach) run.entries))

  abbrev pub of_other : List Entry
  of_other = map (moved_entry removed inserted) run.entries

  moved_zero : run.anchor ≡ 0 → moved_run at removed inserted run ≡ run_of (run.anchor + inserted - removed) run.leads of_zero
  moved_zero zero =
      let a : ℕ = run.anchor + inserted - removed in
      cond-true (eqb run.anchor 0) (run_of a run.leads of_zero) (run_of a (run.leads && not (eqb a 0)) of_other) (eq-eqb run.anchor 0 zero)

  pub moved_other : 0 < run.anchor →
      moved_run at removed inserted run ≡ run_of (run.anchor + inserted - removed) (run.leads && not (eqb (run.anchor + inserted - removed) 0)) of_other
  moved_other some =
      let a : ℕ = run.anchor + inserted - removed in
      cond-false (eqb run.anchor 0) (run_of a run.leads of_zero) (run_of a (run.leads && not (eqb a 0)) of_other) (ne_eqb run.anchor 0 (λ none. omega arith))

  -- a run of another anchor than 0
  pub other_is : 0 < run.anchor → at + removed ≤ run.anchor → (anchor : ℕ) (leads : Bool) (entries : List Entry) (restarted part : Run) →
      anchor ≡ run.anchor → leads ≡ (run.leads && not (eqb (run.anchor - removed + inserted) 0)) → entries ≡ run.entries →
      restarted ≡ run_of (anchor - removed + inserted) leads [] → part ≡ with_more restarted (moved_from removed inserted 0 entries) →
      part ≡ moved_run at removed inserted run
  other_is some behind anchor leads entries restarted part anchor_is leads_are entries_are restarted_is part_is =
      let same : run.anchor - removed + inserted ≡ run.anchor + inserted - removed = omega arith in
      let moved : List Entry = map (moved_entry removed inserted) entries in
      let all : AllByRecursion (λ e. leb 0 e.at ≡ true) (map (moved_entry removed inserted) entries) =
      everywhere (λ e. leb 0 e.at ≡ true) (λ e. le-leb 0 e.at (omega arith)) (map (moved_entry removed inserted) entries) in
      filled restarted part (anchor - removed + inserted) leads _ _ restarted_is part_is
      (filter_all (λ e. leb 0 e.at) moved all ∙ ap (map (moved_entry removed inserted)) entries_are)
      ∙ ap (λ n. run_of (n - removed + inserted) leads of_other) anchor_is
      ∙ ap (λ b. run_of (run.anchor - removed + inserted) b of_other) leads_are
      ∙ ap (λ n. run_of n (run.leads && not (eqb n 0)) of_other) same
      ∙ sym (moved_other some)

  -- a run of anchor 0: those before `first` are left out
  pub zero_is : run.anchor ≡ 0 → at + removed ≤ run.anchor → (anchor first left : ℕ) (leads : Bool) (entries slots : List Entry) (restarted part : Run) →
      anchor ≡ run.anchor → leads ≡ run.leads → entries ≡ run.entries → slots ≡ run.entries →
      ((0 < anchor - removed + inserted) × (first ≡ anchor - removed + inserted + 2)) ⊎ ((anchor - removed + inserted ≡ 0) × (first ≡ 0)) →
      drop left entries ≡ filter (λ e. ltb at e.reach) entries →
      restarted ≡ run_of (anchor - removed + inserted) leads [] → part ≡ with_more restarted (moved_from removed inserted first (from_number left slots)) →
      part ≡ moved_run at removed inserted run
  zero_is zero behind anchor first left leads entries slots restarted part anchor_is leads_are entries_are slots_are first_is others restarted_is part_is =
      let same : run.anchor - removed + inserted ≡ run.anchor + inserted - removed = omega arith in
      let rest : from_number left slots ≡ filter (λ e. ltb at e.reach) run.entries =
      ap (from_number left) (slots_are ∙ sym entries_are) ∙ to_end left entries ∙ others ∙ ap (filter (λ e. ltb at e.reach)) entries_are in
      filled restarted part (anchor - removed + inserted) leads _ _ restarted_is part_is
      (ap (moved_from removed inserted first) rest ∙ filter_same (λ e. leb first e.at) _ _ (same_test first_is))
      ∙ ap (λ n. run_of (n - removed + inserted) leads of_zero) anchor_is
      ∙ ap (λ b. run_of (run.anchor - removed + inserted) b of_zero) leads_are
      ∙ ap (λ n. run_of n run.leads of_zero) same
      ∙ sym (moved_zero zero)
    where
      same_test : ((0 < anchor - removed + inserted) × (first ≡ anchor - removed + inserted + 2)) ⊎ ((anchor - removed + inserted ≡ 0) × (first ≡ 0)) →
          (e : Entry) → leb first e.at ≡ (eqb (run.anchor + inserted - removed) 0 || leb (run.anchor + inserted - removed + 2) e.at)
      same_test (inl past) e =
          ap (λ n. leb n e.at) (let s : first ≡ run.anchor + inserted - removed + 2 = omega (arith, past.0, past.1) in s)
          ∙ sym (ap (λ b. b || leb (run.anchor + inserted - removed + 2) e.at) (ne_eqb (run.anchor + inserted - removed) 0 (λ none. omega (arith, past.0))))
      same_test (inr none) e =
          le-leb first e.at (omega (arith, none.1))
          ∙ sym (ap (λ b. b || leb (run.anchor + inserted - removed + 2) e.at) (eq-eqb (run.anchor + inserted - removed) 0 (omega (arith, none.0))))

  -- its entries can be moved
  pub zero_can_move : IsMovable run → run.anchor ≡ 0 → at + removed ≤ run.anchor → (left : ℕ) (slots : List Entry) → slots ≡ run.entries →
      AllByRecursion (CanMove removed) (from_number left slots)
  zero_can_move movable zero behind left slots slots_are =
      let each : AllByRecursion (CanMove removed) run.entries =
      all_through (IsPlaced run.anchor) (CanMove removed) (λ e lies. (omega arith, lies.1, lies.2)) run.entries movable.lie in
      subst (AllByRecursion (CanMove removed)) (sym (to_end left slots))
      (all_drop (CanMove removed) left slots (subst (AllByRecursion (CanMove removed)) (sym slots_are) each))
