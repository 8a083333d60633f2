-- What an edit removes, and where what it changed lies in the old and the new text.
use Rattle.std.proofs.Common.{◌≡◌, ℕ, ◌+◌, ◌-◌, ◌≤◌, ltb, List, length, take, drop, sum_by, Some, refl, sym, ap, ◌∙◌, subst, ⊎_elim, arith}
use Rattle.std.proofs.Common.{length-take, length-drop}
use Rattle.std.specs.Prelude.{slice_range}
use Rattle.std.proofs.lemmas.Bool.{cases_Bool, cond-true, cond-false, le-ltb}
use Rattle.std.proofs.lemmas.List.{take-take}
use Rattle.std.proofs.lemmas.List.Sums.{sum_by-take-drop}
use Rattle.std.proofs.Math.Seq.{take-length}
use Rattle.rbbi_model.specs.declared.unit.Unit.{Unit as TextUnit}
use Rattle.rbbi_model.specs.Words.{most_characters}
use Rattle.rbbi_model.specs.Searches.{table_boundaries}
use Rattle.rbbi_model.specs.Tables.{Table}
use Rattle.rbbi_model.specs.Units.{size_of, offset_of}
use Rattle.rbbi_model.specs.UnitAnswers.{place_at, edit_between, edit_in}
use Rattle.rbbi_model.specs.Answers.{Outside, TooLong}
use Rattle.rbbi_model.specs.Scripts.{Edit as Edited, Refused, Accepted, splice}
use Rattle.rbbi_model.proofs.Measured.{offset_rises, rises_up_to}
use Rattle.rbbi_cache.specs.Edits.{IsSpliced}
use Rattle.rbbi_cache.proofs.Texts.{length_is, left_stays, same_behind}
use Rattle.rbbi_change.specs.Changes.{IsLeastChange}
use Rattle.rbbi_change.specs.declared.change.Change.{Change}
use Rattle.rbbi_session.specs.UnitSessions.{UnitSession}
use Rattle.rbbi_session.specs.UnitWalks.{UnitSetting, unit_view}
use Rattle.rbbi_c.specs.Changing.{IsToldChange}
use Rattle.rbbi_c.specs.inner.Removing.{IsRemoved}
use Rattle.rbbi_c.specs.declared.changing.Changed.{Changed}
use Rattle.rbbi_c.specs.declared.changing.Removed.{Removed}

-- offsets of places that an edit doesn't touch
module _ (unit : TextUnit) (x y : List ℕ) (at removed inserted : ℕ) (edited : IsSpliced x y at removed inserted) where
  offset_before : (p : ℕ) → p ≤ at → offset_of unit y p ≡ offset_of unit x p
  offset_before p order =
      ap (λ l. sum_by (size_of unit) l)
      (sym (take-take p at y order) ∙ ap (take p) (left_stays x y at removed inserted edited) ∙ take-take p at x order)

  -- what follows such a place is as long as before
  pub offset_behind : (p : ℕ) → at + removed ≤ p
      → offset_of unit x (length x) + offset_of unit y (p + inserted - removed) ≡ offset_of unit y (length y) + offset_of unit x p
  offset_behind p from =
      let rest : sum_by (size_of unit) (drop (p + inserted - removed) y) ≡ sum_by (size_of unit) (drop p x) =
      ap (λ l. sum_by (size_of unit) l) (same_behind x y at removed inserted edited p from) in
      let all : offset_of unit x (length x) ≡ sum_by (size_of unit) x = ap (λ l. sum_by (size_of unit) l) (take-length x) in
      let all' : offset_of unit y (length y) ≡ sum_by (size_of unit) y = ap (λ l. sum_by (size_of unit) l) (take-length y) in
      let old = sum_by-take-drop (size_of unit) x p in
      let new = sum_by-take-drop (size_of unit) y (p + inserted - removed) in
      omega (arith, rest, all, all', old, new)

-- what an accepted edit makes of a text
module _ (unit : TextUnit) (x : List ℕ) (at removed : ℕ) (w : List ℕ) (part : Removed) (is : IsRemoved unit x at removed part) where
  between : edit_in unit x at removed w ≡ edit_between unit x (Some part.first) (Some is.end) w
  between =
      cond-false (ltb (offset_of unit x (length x)) (at + removed)) (Refused Outside)
      (edit_between unit x (place_at unit x at) (place_at unit x (at + removed)) w) (le-ltb (offset_of unit x (length x)) (at + removed) is.low)
      ∙ ap (λ p. edit_between unit x p (place_at unit x (at + removed)) w) is.first_is
      ∙ ap (λ p. edit_between unit x (Some part.first) p w) is.end_is

  abbrev made : List ℕ
  made = splice x part.first (is.end - part.first) w

  abbrev made_edit : Edited
  made_edit = Accepted made (offset_of unit made (length made))

  new_text : (t : List ℕ) (n : ℕ) → edit_in unit x at removed w ≡ Accepted t n → t ≡ made
  new_text t n accepted =
      ⊎_elim
      (λ long.
      let differ : Refused TooLong ≡ Accepted t n =
      sym (cond-true (ltb most_characters (length x - (is.end - part.first) + length w)) (Refused TooLong) made_edit long) ∙ sym between ∙ accepted in cc)
      (λ fits.
      let same : made_edit ≡ Accepted t n =
      sym (cond-false (ltb most_characters (length x - (is.end - part.first) + length w)) (Refused TooLong) made_edit fits) ∙ sym between ∙ accepted in cc)
      (cases_Bool (ltb most_characters (length x - (is.end - part.first) + length w)))

  pub size_is : length part.text ≡ is.end - part.first
  size_is =
      omega (arith, ap length is.text_is, length-take (is.end - part.first) (drop part.first x), length-drop part.first x, is.order, is.within)

  pub text_there : part.text ≡ slice_range x part.first (part.first + length part.text)
  text_there = let there : is.end ≡ part.first + length part.text = omega (arith, size_is, is.order) in is.text_is ∙ ap (slice_range x part.first) there

  pub spliced_by : (t : List ℕ) (n : ℕ) → edit_in unit x at removed w ≡ Accepted t n → IsSpliced x t part.first (length part.text) (length w)
  spliced_by t n accepted = record {
    within = omega (arith, size_is, is.order, is.within);
    characters = w;
    many = refl;
    spliced = new_text t n accepted ∙ ap (λ m. splice x part.first m w) (sym size_is);
  }

-- what is reported of a change
module _ (old new : UnitSession) (at removed : ℕ) (w : List ℕ) (part : Removed) (is : IsRemoved old.unit old.asked.state.text at removed part)
    (setting : unit_view.setting new ≡ unit_view.setting old)
    (edited : IsSpliced old.asked.state.text new.asked.state.text part.first (length part.text) (length w)) where
  pub told_is : (change : Change) (told : Changed)
      → IsLeastChange (record { at = part.first; removed = length part.text; inserted = length w })
      (table_boundaries old.asked.table old.asked.state.text) (table_boundaries old.asked.table new.asked.state.text) change
      → change.old_to ≤ length old.asked.state.text
      → told.from ≡ offset_of old.unit new.asked.state.text change.from
      → told.new_to ≡ offset_of old.unit new.asked.state.text change.new_to
      → told.old_to
      ≡ offset_of old.unit old.asked.state.text (length old.asked.state.text)
      - (offset_of old.unit new.asked.state.text (length new.asked.state.text) - told.new_to)
      → IsToldChange old new at removed w told
  told_is change told least within from new_to old_to =
      let x : List ℕ = old.asked.state.text in let y : List ℕ = new.asked.state.text in
      let unit_is : new.unit ≡ old.unit = ap (λ (s : UnitSetting). s.unit) setting in
      let table_is : new.asked.table ≡ old.asked.table = ap (λ (s : UnitSetting). s.below) setting in
      let out = least.outside in
      let before = offset_before old.unit x y part.first (length part.text) (length w) edited change.from out.begins in
      let behind = offset_behind old.unit x y part.first (length part.text) (length w) edited change.old_to out.ends in
      let end_new : offset_of old.unit y change.new_to ≡ offset_of old.unit y (change.old_to + length w - length part.text) =
      ap (λ p. offset_of old.unit y p) out.ends_new in
      let short : change.old_to + length w - length part.text ≤ length y =
      omega (arith, within, out.ends, length_is x y part.first (length part.text) (length w) edited) in
      let low : offset_of old.unit y (change.old_to + length w - length part.text) ≤ offset_of old.unit y (length y) =
      rises_up_to (λ p. offset_of old.unit y p) (length y) (offset_rises old.unit y) (change.old_to + length w - length part.text) (length y) short (omega arith) in
      record {
        first = part.first;
        end = is.end;
        first_is = is.first_is;
        end_is = is.end_is;
        change = change;
        least = subst
            (λ (t : Table). IsLeastChange (record { at = part.first; removed = is.end - part.first; inserted = length w })
            (table_boundaries old.asked.table x) (table_boundaries t y) change) (sym table_is)
            (subst
            (λ (m : ℕ). IsLeastChange (record { at = part.first; removed = m; inserted = length w })
            (table_boundaries old.asked.table x) (table_boundaries old.asked.table y) change)
            (size_is old.unit x at removed w part is) least);
        from_is = from ∙ before;
        from_new_is = from ∙ ap (λ (u : TextUnit). offset_of u y change.from) (sym unit_is);
        old_to_is = omega (arith, old_to, new_to, end_new, behind, low);
        new_to_is = new_to ∙ ap (λ (u : TextUnit). offset_of u y change.new_to) (sym unit_is);
      }

-- what is known by other names of a session and of a change
pub removed_there : {unit : TextUnit} {x : List ℕ} (old : UnitSession) (at removed : ℕ) (part : Removed) → old.unit ≡ unit → x ≡ old.asked.state.text
    → IsRemoved unit x at removed part
    → IsRemoved old.unit old.asked.state.text at removed part
removed_there {x = x} old at removed part unit_is text_is is =
    subst (λ (y : List ℕ). IsRemoved old.unit y at removed part) text_is
    (subst (λ (u : TextUnit). IsRemoved u x at removed part) (sym unit_is) is)

pub offset_there : {unit other : TextUnit} {y text : List ℕ} (p : ℕ) → unit ≡ other → y ≡ text → offset_of unit y p ≡ offset_of other text p
offset_there {other = other} {y = y} p unit_is text_is =
    ap (λ (u : TextUnit). offset_of u y p) unit_is ∙ ap (λ (l : List ℕ). offset_of other l p) text_is

pub spliced_there : {y text : List ℕ} {n m : ℕ} (x : List ℕ) (at removed : ℕ) → text ≡ y → n ≡ m → IsSpliced x y at removed m → IsSpliced x text at removed n
spliced_there {y = y} {n = n} x at removed text_is n_is is =
    subst (λ (l : List ℕ). IsSpliced x l at removed n) (sym text_is) (subst (λ (k : ℕ). IsSpliced x y at removed k) (sym n_is) is)

pub least_there : {table now : Table} {before x text y : List ℕ} {r removed n inserted : ℕ} (first : ℕ) (change : Change)
    → table ≡ now → before ≡ x → text ≡ y → r ≡ removed → n ≡ inserted
    → IsLeastChange (record { at = first; removed = r; inserted = n }) (table_boundaries table before) (table_boundaries table text) change
    → IsLeastChange (record { at = first; removed = removed; inserted = inserted }) (table_boundaries now x) (table_boundaries now y) change
least_there {now = now} {before = before} {x = x} {text = text} {y = y} {r = r} {removed = removed} {n = n} first change table_is x_is y_is r_is n_is is =
    subst (λ (m : ℕ). IsLeastChange (record { at = first; removed = removed; inserted = m }) (table_boundaries now x) (table_boundaries now y) change) n_is
    (subst (λ (m : ℕ). IsLeastChange (record { at = first; removed = m; inserted = n }) (table_boundaries now x) (table_boundaries now y) change) r_is
    (subst (λ (l : List ℕ). IsLeastChange (record { at = first; removed = r; inserted = n }) (table_boundaries now x) (table_boundaries now l) change) y_is
    (subst (λ (l : List ℕ). IsLeastChange (record { at = first; removed = r; inserted = n }) (table_boundaries now l) (table_boundaries now text) change) x_is
    (subst (λ (t : Table). IsLeastChange (record { at = first; removed = r; inserted = n }) (table_boundaries t before) (table_boundaries t text) change)
    table_is is))))
