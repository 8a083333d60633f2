-- What is said of the table of an automaton with the marks of the rules is said of the rules.
use Rattle.std.proofs.Common.{◌≡◌, ◌+◌, ◌*◌, ◌/◌, ℕ, List, length, true, false, Result, Ok, Err, refl, sym, ◌∙◌, subst, arith}
use Rattle.std.specs.Prelude.{count_by, ◌≢◌}
use Rattle.std.specs.Result.{IsErr, IsErrAnd}
use Rattle.rbbi_model.specs.Rules.{Rule}
use Rattle.rbbi_model.specs.Tables.{Table, CategoryRange}
use Rattle.rbbi_model.specs.ValidTables.{AreValidRanges, AreValidSafePairs}
use Rattle.rbbi_model.specs.Marks.{Marks, AreMarks, HasSameMarks}
use Rattle.rbbi_model.specs.LeafSets.{HasLeafSets}
use Rattle.rbbi_model.specs.Compiled.{AreClasses, IsCompiled}
use Rattle.rbbi_dfa.specs.declared.error.BuildErr.{BuildErr}
use Rattle.rbbi_dfa.specs.declared.error.BuildErr.TheVariants.{TooManySets, TooManyRows, TooManyStatuses, Memory}
use Rattle.rbbi_cats.specs.CategoryLists.{CategoryList}
use Rattle.rbbi_positions.specs.PositionMarks.{PositionMarks, ArePositions}
use Rattle.rbbi_dfa.specs.inner.MarkedRows.{AreOf, AreReadable}
use Rattle.rbbi_dfa.specs.inner.Automata.{IsDetermined, with_ranges}
use Rattle.rbbi_dfa.specs.Builds.{AreCompilable, BuildsTable}
use Rattle.rbbi_dfa.specs.inner.Categories.{HaveCategoriesBelow}
use Rattle.rbbi_dfa.specs.inner.LeastTables.{GivesTable, finished}
use Rattle.rbbi_dfa.proofs.LookAheads.{has_slash, look_aheads_by_marks}
use Rattle.rbbi_dfa.proofs.RowsOfRules.{owners_are, marks_small}
use Rattle.rbbi_dfa.proofs.Compiling.{HaveCategoriesBelow-from_valid, IsCompiled-finished, few_status_lists}
use Rattle.rbbi_dfa.proofs.RuleNeeds.{Needs-from_rows, NeedsRows-from_needs}

module _
    (rules : List Rule)
    (ranges : List CategoryRange)
    (automaton : Table)
    (determined : IsDetermined automaton)
    (same : HasSameMarks (with_ranges automaton ranges) rules)
    (valid : AreValidRanges automaton.categories ranges)
    (classes : AreClasses rules automaton.categories ranges)
    (few : ¬ HasLeafSets rules 16385)
    (unique : (w : List ℕ) (these those : Marks) → AreMarks rules w these → AreMarks rules w those → these ≡ those)
  where
    within : HaveCategoriesBelow automaton.categories ranges
    within = HaveCategoriesBelow-from_valid automaton.categories ranges valid

    pub BuildsTable-from_gives : (result : Result Table BuildErr) → GivesTable automaton ranges result → BuildsTable rules result
    BuildsTable-from_gives (Ok table) h =
        let least = h.0 in
        let is : table ≡ finished least ranges table.safe = h.2 in (
          subst (λ (t : Table). IsCompiled t rules) (sym is)
              (IsCompiled-finished rules ranges automaton least determined same valid h.1 table.safe
              (subst (λ (t : Table). length table.safe ≡ (t.categories * t.categories + 7) / 8) is h.3.well_formed.safe)
              h.3.well_formed.bytes
              (subst AreValidSafePairs is h.3.safe)
              classes),
          record {
            sets = few;
            rows = λ needs. h.1.enough (NeedsRows-from_needs rules ranges automaton determined same within unique 4095 needs);
            statuses = λ has. few_status_lists rules ranges automaton least determined same valid h.1 unique has;
          },
        )
    BuildsTable-from_gives (Err TooManySets) h = absurd h
    BuildsTable-from_gives (Err TooManyRows) h = (few, Needs-from_rows rules ranges automaton determined same within classes.used 4095 (omega arith) h)
    BuildsTable-from_gives (Err TooManyStatuses) h = absurd h
    BuildsTable-from_gives (Err Memory) h = tt

-- what is wanted of positions and categories, and what is read off them, by the rules that they are those of
pub AreOf-from_compilable : (rules : List Rule) (marks : PositionMarks) (cats : CategoryList) (categories slashes : ℕ) → AreCompilable rules marks cats →
    AreValidRanges cats.count cats.ranges → categories ≡ cats.count → slashes ≡ count_by has_slash marks.rules →
    AreOf rules categories slashes cats.ranges marks
AreOf-from_compilable rules marks cats categories slashes h form is counted = record {
  lawful = h.lawful;
  positions = subst (λ (n : ℕ). ArePositions rules n cats.ranges marks) (sym is) h.positions;
  valid = subst (λ (n : ℕ). AreValidRanges n cats.ranges) (sym is) form;
  classes = subst (λ (n : ℕ). AreClasses rules n cats.ranges) (sym is) h.classes;
  slashes_are = counted ∙ look_aheads_by_marks rules cats.count cats.ranges marks h.positions;
}

pub AreReadable-from_of : (rules : List Rule) (categories slashes : ℕ) (ranges : List CategoryRange) (marks : PositionMarks) →
    AreOf rules categories slashes ranges marks → AreReadable marks categories slashes
AreReadable-from_of rules categories slashes ranges marks of = record {
  few = omega (arith, of.positions.leaves, of.lawful.few_leaves);
  few_slashes = omega (arith, of.slashes_are, of.lawful.few_look_aheads);
  category_count = of.positions.category_count;
  owners = owners_are rules categories ranges marks of.positions;
  small = marks_small rules categories ranges marks of.positions of.lawful slashes of.slashes_are;
}

-- a refusal of determinising is that of too many sets, or memory ran out
pub BuildsTable-from_refused : (rules : List Rule) (error : BuildErr) (result : Result Table BuildErr) → IsErr result ×
    IsErrAnd result (λ e. e ≡ error) → (error ≡ TooManySets → HasLeafSets rules 16385) → error ≢ TooManyRows → error ≢ TooManyStatuses →
    BuildsTable rules result
BuildsTable-from_refused rules error (Ok table) h many rows lists = let wrong : false ≡ true = h.0 in absurd (cc)
BuildsTable-from_refused rules TooManySets (Err e) h many rows lists = subst (λ (r : BuildErr). BuildsTable rules (Err r)) (sym h.1) (many refl)
BuildsTable-from_refused rules TooManyRows (Err e) h many rows lists = absurd (rows refl)
BuildsTable-from_refused rules TooManyStatuses (Err e) h many rows lists = absurd (lists refl)
BuildsTable-from_refused rules Memory (Err e) h many rows lists = subst (λ (r : BuildErr). BuildsTable rules (Err r)) (sym h.1) tt
