-- Summaries by rules: they are determined, and a table that gives the boundaries gives them.
use Rattle.std.proofs.Common.{◌≡◌, ℕ, zero, suc, ◌+◌, List, length, sym, ap, ◌∙◌, subst}
use Rattle.rbbi_model.specs.Words.{IsText}
use Rattle.rbbi_model.specs.Rules.{Rule}
use Rattle.rbbi_model.specs.Boundaries.{Boundary, AreBoundaries}
use Rattle.rbbi_model.specs.Tables.{Table}
use Rattle.rbbi_model.specs.Compiled.{GivesBoundaries}
use Rattle.rbbi_model.proofs.Uniqueness.{same_boundaries}
use Rattle.rbbi_demo.specs.declared.summary.Summary.{Summary}
use Rattle.rbbi_demo.specs.Edits.{state_before, text_after, place_after, places_sum}
use Rattle.rbbi_demo.specs.Summaries.{AreTableBoundaries, edit_count, IsSum, IsSummary}
use Rattle.rbbi_demo.proofs.Drawing.{text_is_drawn}
use Rattle.rbbi_demo.proofs.Editing.{text_is_kept}

-- the text after edits is one
text_after_is : (count edits : ℕ) → IsText (text_after count edits)
text_after_is count zero = text_is_drawn count count
text_after_is count (suc edits) = text_is_kept (state_before count edits) (text_after count edits) (text_after_is count edits)

module _ (table : Table) (rules : List Rule) (gives : GivesBoundaries table rules) where
  given : (x : List ℕ) (boundaries : List Boundary) → IsText x → AreTableBoundaries table x boundaries → AreBoundaries rules x boundaries
  given x boundaries text are = subst (AreBoundaries rules x) (sym are) (gives x text)

  sum_by_rules : (count edits sum : ℕ) → IsSum (AreTableBoundaries table) count edits sum → IsSum (AreBoundaries rules) count edits sum
  sum_by_rules count zero sum is = is
  sum_by_rules count (suc edits) sum (before, is, boundaries, are, total) = (
    before,
    sum_by_rules count edits before is,
    boundaries,
    given (text_after count (suc edits)) boundaries (text_after_is count (suc edits)) are,
    total,
  )

  pub summary_by_rules : (count : ℕ) (summary : Summary) → IsSummary (AreTableBoundaries table) count summary → IsSummary (AreBoundaries rules) count summary
  summary_by_rules count summary is = record {
    boundaries = is.boundaries;
    are = given (text_after count (edit_count count)) is.boundaries (text_after_is count (edit_count count)) is.are;
    chars_is = is.chars_is;
    edits_is = is.edits_is;
    boundaries_is = is.boundaries_is;
    sum_is = sum_by_rules count (edit_count count) summary.sum is.sum_is;
  }

module _ (rules : List Rule) where
  same_sum : (count edits one other : ℕ) → IsSum (AreBoundaries rules) count edits one → IsSum (AreBoundaries rules) count edits other → one ≡ other
  same_sum count zero one other is is' = is ∙ sym is'
  same_sum count (suc edits) one other (before, is, boundaries, are, total) (before', is', boundaries', are', total') =
      total
      ∙ ap (λ n. n + places_sum boundaries (place_after count edits)) (same_sum count edits before before' is is')
      ∙ ap (λ bs. before' + places_sum bs (place_after count edits)) (same_boundaries rules (text_after count (suc edits)) boundaries boundaries' are are')
      ∙ sym total'

  pub same_summary : (count : ℕ) (one other : Summary) → IsSummary (AreBoundaries rules) count one → IsSummary (AreBoundaries rules) count other →
      one ≡ other
  same_summary count one other is is' =
      let chars = is.chars_is ∙ sym is'.chars_is in
      let edits = is.edits_is ∙ sym is'.edits_is in
      let boundaries = is.boundaries_is
      ∙ ap length (same_boundaries rules (text_after count (edit_count count)) is.boundaries is'.boundaries is.are is'.are) ∙ sym is'.boundaries_is in
      let sum = same_sum count (edit_count count) one.sum other.sum is.sum_is is'.sum_is in
      λ i. record { chars = chars i; edits = edits i; boundaries = boundaries i; sum = sum i }
