-- Where old and new boundaries part.
use Rattle.std.proofs.Common.{◌≡◌, ℕ, ◌<◌, ◌≤◌, min, get_or, List, [], ◌∷◌, Some, None, length, sym, refl, ap, ◌∙◌, subst, inl, inr, ⊎_elim, arith}
use Rattle.std.proofs.lemmas.Bool.{cases_lt, cases_order}
use Rattle.rbbi_model.specs.Tables.{Table, statuses_of}
use Rattle.rbbi_model.specs.ValidTables.{IsValidTable, BeginsWithZeroAlone}
use Rattle.rbbi_model.specs.Searches.{table_boundaries}
use Rattle.rbbi_model.proofs.Found.{found_lies}
use Rattle.rbbi_cache.specs.Edits.{IsSpliced}
use Rattle.rbbi_change.specs.Changes.{boundary_at}
use Rattle.rbbi_change.specs.inner.Reaching.{IsBoundary, IsQuiet, IsNextOf}
use Rattle.rbbi_change.specs.inner.Parting.{IsReached, NoneFrom, Agree, ArePartedAt}
use Rattle.rbbi_change.specs.declared.reached.Reached.{Reached}
use Rattle.rbbi_change.specs.declared.part.Parting.{Parting}
use Rattle.rbbi_change.proofs.Places.{next_is, at_next, none_between}
use Rattle.rbbi_change.proofs.Alike.{lengths, quiet_new, quiet_same}

pub none_is_some : (l : List ℕ) → None ≡ Some l → ⊥
none_is_some l is = cc

pub same_some : (these those : List ℕ) → Some these ≡ Some those → these ≡ those
same_some these those is = cc

-- the boundary that a search finds is reached, and none lies before it
module _ (table : Table) (x : List ℕ) (q : ℕ) (here : IsBoundary table x q) (short : q < length x) (next : Reached) (is : IsNextOf table x q next) where
  pub reached_next : IsReached table x next
  reached_next = record {
    is = subst (IsBoundary table x) (sym is.at) (next_is table x q here short);
    statuses =
        ap (boundary_at (table_boundaries table x)) is.at ∙ at_next table x q here short
        ∙ ap (λ l. Some (statuses_of table l)) (sym is.list);
    listed = is.listed;
  }

  pub next_past : q < next.at
  next_past = omega (arith, is.at, (found_lies table x q short).0)

  pub none_to : (p : ℕ) → q < p → p < next.at → boundary_at (table_boundaries table x) p ≡ None
  none_to p past before = none_between table x q here short p past (omega (arith, is.at))

-- both texts have come to one boundary, up to which their boundaries are the same
pub record AreTogether (table : Table) (x y : List ℕ) (at : ℕ) (here there : Reached) : Type 0 where
  pub old_is : IsBoundary table x here.at
  pub new_is : IsBoundary table y here.at
  pub place : there.at ≡ here.at
  pub same : (p : ℕ) → p ≤ here.at → Agree table x y p p
  pub none_old : NoneFrom table x at here.at
  pub none_new : NoneFrom table y at here.at
  pub reached : at ≤ here.at → IsReached table x here × IsReached table y there

first_is : (lists : List (List ℕ)) → BeginsWithZeroAlone lists → get_or lists 0 [] ≡ 0 ∷ []
first_is [] first = absurd first
first_is (statuses ∷ lists) first = first

-- the boundary 0 has list 0
start_reached : (table : Table) → IsValidTable table → (x : List ℕ) (here : Reached) → here.at ≡ 0 → here.list ≡ 0 → IsBoundary table x here.at →
    IsReached table x here
start_reached table valid x here at list is = record {
  is = is;
  statuses =
      ap (boundary_at (table_boundaries table x)) at
      ∙ ap (λ l. Some l) (sym (first_is table.lists valid.lists.first))
      ∙ ap (λ l. Some (statuses_of table l)) (sym list);
  listed = omega (arith, valid.lists.some, list);
}

module _ (table : Table) (valid : IsValidTable table) (x y : List ℕ) (at removed inserted : ℕ) (edited : IsSpliced x y at removed inserted) where
  pub together_first : (place : ℕ) → IsQuiet table x at place → (here : Reached) → here.at ≡ place → here.list ≡ 0 → AreTogether table x y at here here
  together_first place quiet here is list =
      let old : IsBoundary table x here.at = subst (IsBoundary table x) (sym is) quiet.is in
      let new : IsBoundary table y here.at = subst (IsBoundary table y) (sym is) (quiet_new table x y at removed inserted edited place quiet) in
      let low : (p : ℕ) → at ≤ p → p < here.at → ⊥ = λ p from before. ⊎_elim (λ zero. omega arith) (λ early. omega arith) quiet.early in
      record {
        old_is = old;
        new_is = new;
        place = refl;
        same = λ p up_to. quiet_same table x y at removed inserted edited place quiet p (omega arith);
        none_old = λ p from before. absurd (low p from before);
        none_new = λ p from before. absurd (low p from before);
        reached = λ from.
            let zero : here.at ≡ 0 = ⊎_elim (λ zero. omega arith) (λ early. absurd (omega arith)) quiet.early in
            (start_reached table valid x here zero list old, start_reached table valid y here zero list new);
      }

  module _ (here there : Reached) (together : AreTogether table x y at here there) (before : here.at < at) (next other : Reached)
      (next_old : IsNextOf table x here.at next) (next_new : IsNextOf table y here.at other) where
    pub short_old : here.at < length x
    short_old = let within = edited.within in omega arith

    pub short_new : here.at < length y
    short_new = let within = edited.within in omega (arith, lengths table x y at removed inserted edited)

    pub goes_on : here.at < next.at
    goes_on = next_past table x here.at together.old_is short_old next next_old

    between : (p : ℕ) → here.at < p → p < next.at → p < other.at → Agree table x y p p
    between p past less less' =
        none_to table y here.at together.new_is short_new other next_new p past less'
        ∙ sym (none_to table x here.at together.old_is short_old next next_old p past less)

    same_before : (p : ℕ) → p < next.at → p < other.at → Agree table x y p p
    same_before p less less' = ⊎_elim (λ up_to. between p up_to less less') (λ low. together.same p low) (cases_lt here.at p)

    reached_old : IsReached table x next
    reached_old = reached_next table x here.at together.old_is short_old next next_old

    reached_new : IsReached table y other
    reached_new = reached_next table y here.at together.new_is short_new other next_new

    pub together_next : next.at ≡ other.at → statuses_of table next.list ≡ statuses_of table other.list → AreTogether table x y at next other
    together_next same statuses = record {
      old_is = reached_old.is;
      new_is = subst (IsBoundary table y) (sym same) reached_new.is;
      place = sym same;
      same = λ p up_to.
          ⊎_elim
          (λ less. same_before p less (omega arith))
          (λ all.
          let is : p ≡ next.at = omega arith in
          let is' : p ≡ other.at = omega arith in
          ap (boundary_at (table_boundaries table y)) is' ∙ reached_new.statuses ∙ ap (λ l. Some l) (sym statuses)
          ∙ sym reached_old.statuses ∙ ap (boundary_at (table_boundaries table x)) (sym is))
          (cases_lt p next.at);
      none_old = λ p from less. none_to table x here.at together.old_is short_old next next_old p (omega arith) less;
      none_new = λ p from less. none_to table y here.at together.new_is short_new other next_new p (omega arith) (omega arith);
      reached = λ from. (reached_old, reached_new);
    }

    differ_at : ((next.at ≡ other.at) × (statuses_of table next.list ≡ statuses_of table other.list) → ⊥) → (from : ℕ) →
        from ≡ min next.at other.at → Agree table x y from from → ⊥
    differ_at apart from is agree =
        ⊎_elim
        (λ same.
        let here_is : from ≡ next.at = omega arith in
        let there_is : from ≡ other.at = omega arith in
        apart (
          same,
          same_some (statuses_of table next.list) (statuses_of table other.list)
              (sym reached_old.statuses ∙ ap (boundary_at (table_boundaries table x)) (sym here_is) ∙ sym agree
              ∙ ap (boundary_at (table_boundaries table y)) there_is ∙ reached_new.statuses),
        ))
        (λ unlike.
        ⊎_elim
        (λ less.
        let here_is : from ≡ next.at = omega arith in
        none_is_some (statuses_of table next.list)
        (sym (none_to table y here.at together.new_is short_new other next_new from (omega (arith, goes_on)) (omega arith))
        ∙ agree ∙ ap (boundary_at (table_boundaries table x)) here_is ∙ reached_old.statuses))
        (λ more.
        let there_is : from ≡ other.at = omega arith in
        none_is_some (statuses_of table other.list)
        (sym (none_to table x here.at together.old_is short_old next next_old from
        (omega (arith, next_past table y here.at together.new_is short_new other next_new)) (omega arith))
        ∙ sym agree ∙ ap (boundary_at (table_boundaries table y)) there_is ∙ reached_new.statuses))
        unlike)
        (cases_order next.at other.at)

    pub parted_next : ((next.at ≡ other.at) × (statuses_of table next.list ≡ statuses_of table other.list) → ⊥) → (parting : Parting) →
        parting.from ≡ min at (min next.at other.at) → parting.old ≡ next → parting.new ≡ other → ArePartedAt table x y at parting
    parted_next apart parting from_is old_is new_is = record {
      up_to = omega arith;
      same = λ p less. same_before p (omega arith) (omega arith);
      differ =
          ⊎_elim
          (λ early. inr (differ_at apart parting.from (omega arith)))
          (λ late. inl (omega arith))
          (cases_lt (min next.at other.at) at);
      old = subst (IsReached table x) (sym old_is) reached_old;
      new = subst (IsReached table y) (sym new_is) reached_new;
      none_old = λ p from less.
          none_to table x here.at together.old_is short_old next next_old p (omega arith) (omega (arith, ap (λ r. r.at) old_is));
      none_new = λ p from less.
          none_to table y here.at together.new_is short_new other next_new p (omega arith) (omega (arith, ap (λ r. r.at) new_is));
    }
