-- Where old and new boundaries meet again.
use Rattle.std.proofs.Common.{◌≡◌, ℕ, ◌+◌, ◌-◌, ◌<◌, ◌≤◌, ◌⊎◌, max, List, Some, None, length, sym, ap, ◌∙◌, subst, inl, inr, ⊎_elim, arith}
use Rattle.std.proofs.lemmas.Bool.{cases_eq, cases_lt}
use Rattle.rbbi_model.specs.Tables.{Table, statuses_of}
use Rattle.rbbi_model.specs.Searches.{table_boundaries}
use Rattle.rbbi_cache.specs.Edits.{IsSpliced}
use Rattle.rbbi_change.specs.Changes.{boundary_at, moved}
use Rattle.rbbi_change.specs.inner.Reaching.{IsNextOf}
use Rattle.rbbi_change.specs.inner.Parting.{IsReached, Agree, ArePartedAt, IsLastChange}
use Rattle.rbbi_change.specs.declared.change.Edit.{Edit}
use Rattle.rbbi_change.specs.declared.reached.Reached.{Reached}
use Rattle.rbbi_change.specs.declared.part.Parting.{Parting}
use Rattle.rbbi_change.proofs.Alike.{lengths, behind_same}
use Rattle.rbbi_change.proofs.Parts.{none_is_some, same_some, reached_next, next_past, none_to}

-- How far both searches have come after the edit. Past the last place where boundaries differ, those passed are the same; those of one
-- text that lie before where the search of the other one is are passed.
pub record AreBetween (table : Table) (x y : List ℕ) (edit : Edit) (here there : Reached) (last : ℕ) : Type 0 where
  pub old : IsReached table x here
  pub new : IsReached table y there
  pub behind : edit.at + edit.removed ≤ last
  pub within : last ≤ length x
  pub differ : (last ≡ edit.at + edit.removed) ⊎ ¬ Agree table x y last (moved edit last)
  pub same : (p : ℕ) → last < p → p < here.at → p + edit.inserted < there.at + edit.removed → Agree table x y p (moved edit p)
  pub none_new : (p : ℕ) → edit.at + edit.removed ≤ p → here.at ≤ p → p + edit.inserted < there.at + edit.removed →
      boundary_at (table_boundaries table y) (moved edit p) ≡ None
  pub none_old : (p : ℕ) → edit.at + edit.removed ≤ p → there.at + edit.removed ≤ p + edit.inserted → p < here.at →
      boundary_at (table_boundaries table x) p ≡ None

module _ (table : Table) (x y : List ℕ) (edit : Edit) (edited : IsSpliced x y edit.at edit.removed edit.inserted) where
  abbrev long : length y + edit.removed ≡ length x + edit.inserted
  long = lengths table x y edit.at edit.removed edit.inserted edited

  pub between_first : (parting : Parting) → ArePartedAt table x y edit.at parting → (last : ℕ) → last ≡ edit.at + edit.removed →
      AreBetween table x y edit parting.old parting.new last
  between_first parting parted last is =
      let inside = edited.within in
      let new : (p : ℕ) → edit.at + edit.removed ≤ p → p + edit.inserted < parting.new.at + edit.removed →
      boundary_at (table_boundaries table y) (moved edit p) ≡ None =
      λ p from less. parted.none_new (moved edit p) (omega arith) (omega arith) in
      record {
        old = parted.old;
        new = parted.new;
        behind = omega arith;
        within = omega arith;
        differ = inl is;
        same = λ p past less less'. new p (omega arith) less' ∙ sym (parted.none_old p (omega arith) less);
        none_new = λ p from _ less. new p from less;
        none_old = λ p from _ less. parted.none_old p (omega arith) less;
      }

  module _ (here there : Reached) (last : ℕ) (between : AreBetween table x y edit here there last) where
    -- the old text's search goes on
    module _ (turn : (here.at < edit.at + edit.removed) ⊎ (here.at + edit.inserted < there.at + edit.removed)) where
      pub short_old : here.at < length x
      short_old =
          let inside = edited.within in
          let new = between.new.is.within in
          ⊎_elim (λ early. omega arith) (λ less. omega (arith, long)) turn

      pub old_goes_on : (next : Reached) → IsNextOf table x here.at next → (last' : ℕ) → last' ≡ max last here.at →
          AreBetween table x y edit next there last'
      old_goes_on next is last' last_is =
          let past : here.at < next.at = next_past table x here.at between.old.is short_old next is in
          let behind = between.behind in
          let within = between.within in
          let within' = between.old.is.within in
          let none : (p : ℕ) → here.at < p → p < next.at → boundary_at (table_boundaries table x) p ≡ None =
          none_to table x here.at between.old.is short_old next is in
          record {
            old = reached_next table x here.at between.old.is short_old next is;
            new = between.new;
            behind = omega arith;
            within = omega arith;
            differ =
                ⊎_elim
                (λ later.
                let here_is : last' ≡ here.at = omega arith in
                let less : here.at + edit.inserted < there.at + edit.removed = ⊎_elim (λ early. absurd (omega arith)) (λ less. less) turn in
                inr (λ agree.
                none_is_some (statuses_of table here.list)
                (sym (between.none_new here.at (omega arith) (omega arith) less)
                ∙ ap (λ p. boundary_at (table_boundaries table y) (moved edit p)) (sym here_is)
                ∙ agree ∙ ap (boundary_at (table_boundaries table x)) here_is ∙ between.old.statuses)))
                (λ still.
                let last_stays : last ≡ last' = omega arith in
                subst (λ p. (p ≡ edit.at + edit.removed) ⊎ ¬ Agree table x y p (moved edit p)) last_stays between.differ)
                (cases_lt last here.at);
            same = λ p later less less'. between.none_new p (omega arith) (omega arith) less' ∙ sym (none p (omega arith) less);
            none_new = λ p from above less. between.none_new p from (omega arith) less;
            none_old = λ p from above less.
                ⊎_elim
                (λ before. between.none_old p from above before)
                (λ on.
                ⊎_elim
                (λ same. absurd (⊎_elim (λ early. omega arith) (λ less'. omega arith) turn))
                (λ other. none p (omega arith) less)
                (cases_eq p here.at))
                (cases_lt p here.at);
          }

    -- the new text's search goes on
    module _ (turn : there.at + edit.removed < here.at + edit.inserted) where
      pub short_new : there.at < length y
      short_new = let old = between.old.is.within in omega (arith, long)

      pub new_goes_on : (next : Reached) → IsNextOf table y there.at next → (last' : ℕ) →
          last' ≡ max last (there.at + edit.removed - edit.inserted) → AreBetween table x y edit here next last'
      new_goes_on next is last' last_is =
          let past : there.at < next.at = next_past table y there.at between.new.is short_new next is in
          let behind = between.behind in
          let within = between.within in
          let within' = between.old.is.within in
          let none : (p : ℕ) → there.at < p → p < next.at → boundary_at (table_boundaries table y) p ≡ None =
          none_to table y there.at between.new.is short_new next is in
          record {
            old = between.old;
            new = reached_next table y there.at between.new.is short_new next is;
            behind = omega arith;
            within = omega arith;
            differ =
                ⊎_elim
                (λ later.
                let there_is : moved edit last' ≡ there.at = omega arith in
                inr (λ agree.
                none_is_some (statuses_of table there.list)
                (sym (between.none_old last' (omega arith) (omega arith) (omega arith)) ∙ sym agree
                ∙ ap (boundary_at (table_boundaries table y)) there_is ∙ between.new.statuses)))
                (λ still.
                let last_stays : last ≡ last' = omega arith in
                subst (λ p. (p ≡ edit.at + edit.removed) ⊎ ¬ Agree table x y p (moved edit p)) last_stays between.differ)
                (cases_lt last (there.at + edit.removed - edit.inserted));
            same = λ p later less less'.
                none (moved edit p) (omega arith) (omega arith) ∙ sym (between.none_old p (omega arith) (omega arith) less);
            none_new = λ p from above less. none (moved edit p) (omega arith) (omega arith);
            none_old = λ p from above less. between.none_old p from (omega arith) less;
          }

    -- they meet
    module _ (from : edit.at + edit.removed ≤ here.at) (meets : here.at + edit.inserted ≡ there.at + edit.removed) where
      behind_is : (p : ℕ) → here.at < p → Agree table x y p (moved edit p)
      behind_is p past =
          behind_same table x y edit.at edit.removed edit.inserted edited here.at there.at from (sym meets) between.old.is between.new.is p past

      there_is : moved edit here.at ≡ there.at
      there_is = omega arith

      pub met_same : statuses_of table here.list ≡ statuses_of table there.list → IsLastChange table x y edit last
      met_same same = record {
        behind = between.behind;
        within = between.within;
        same = λ p past.
            ⊎_elim
            (λ less. between.same p past less (omega arith))
            (λ on.
            ⊎_elim
            (λ is.
            ap (λ q. boundary_at (table_boundaries table y) (moved edit q)) is
            ∙ ap (boundary_at (table_boundaries table y)) there_is ∙ between.new.statuses ∙ ap (λ l. Some l) (sym same)
            ∙ sym between.old.statuses ∙ ap (boundary_at (table_boundaries table x)) (sym is))
            (λ other. behind_is p (omega arith))
            (cases_eq p here.at))
            (cases_lt p here.at);
        differ = between.differ;
      }

      pub met_apart : (statuses_of table here.list ≡ statuses_of table there.list → ⊥) → IsLastChange table x y edit here.at
      met_apart apart = record {
        behind = from;
        within = between.old.is.within;
        same = behind_is;
        differ = inr (λ agree.
            apart (same_some (statuses_of table here.list) (statuses_of table there.list)
            (sym between.old.statuses ∙ sym agree ∙ ap (boundary_at (table_boundaries table y)) there_is ∙ between.new.statuses)));
      }
