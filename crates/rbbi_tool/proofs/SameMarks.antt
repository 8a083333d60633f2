-- Rules and their tables have the same marks, or differ after the same texts.
use Rattle.std.proofs.Common.{◌≡◌, inl, inr, ℕ, List, [], ◌∷◌, refl, sym, ap, ◌∙◌, subst}
use Rattle.rbbi_model.specs.Words.{IsWord, IsText}
use Rattle.rbbi_model.specs.Rules.{Rule, AreLawful}
use Rattle.rbbi_model.specs.Tables.{Table, row_after}
use Rattle.rbbi_model.specs.Marks.{Marks, AreMarks, marks_of}
use Rattle.rbbi_model.specs.Compiled.{IsCompiled}
use Rattle.rbbi_model.specs.Canonical.{IsCanonical, AreMarkedAlike}
use Rattle.rbbi_model.specs.TableFile.{spelling}
use Rattle.rbbi_dfa.specs.HaveCanonical.{CompiledTablesHaveCanonical}
use Rattle.rbbi_canon.specs.Laws.{CanonicalTablesTellMarks}
use Rattle.rbbi_file.specs.Laws.{SpellOneTable}
use Rattle.rbbi_command.specs.Refusals.{Outcome}
use Rattle.rbbi_tool.specs.Command.Same.{HaveSameMarks, DifferAfter, IsComparison}
use Rattle.rbbi_tool.specs.inner.Comparing.{AreCompared}
use Rattle.rbbi_tool.specs.Laws.{FilesTellMarks}

-- characters are code points
text_is_word : (w : List ℕ) → IsText w → IsWord w
text_is_word [] text = tt
text_is_word (c ∷ w) text = (text.0.0, text_is_word w text.1)

module _ (rules others : List Rule) (these those : Table) (is : IsCompiled these rules) (is' : IsCompiled those others) where
  -- rules whose tables have the same marks have them too
  pub same_marks : AreMarkedAlike these those → HaveSameMarks rules others
  same_marks alike w text some =
      let word = text_is_word w text in (
        marks_of these (row_after these w),
        is.same.each w word some,
        subst (AreMarks others w) (sym (alike w text some)) (is'.same.each w word some),
      )

  -- what is told of the tables is told of the rules
  pub rules_compared : (outcome : Outcome) → AreCompared these those outcome → IsComparison rules others outcome
  rules_compared outcome (inl (alike, told)) = inl (same_marks alike, told)
  rules_compared outcome (inr (w, apart, told)) =
      let word = text_is_word w apart.is_text in
      inr (
        w,
        record {
          is_text = apart.is_text;
          some = apart.some;
          marks = marks_of these (row_after these w);
          other_marks = marks_of those (row_after those w);
          are_marks = is.same.each w word apart.some;
          are_others = is'.same.each w word apart.some;
          differ = apart.differ;
        },
        told,
      )

module _ (one_mark : (rules : List Rule) (w : List ℕ) (these those : Marks) → AreMarks rules w these → AreMarks rules w those → these ≡ those) where
  -- rules don't both agree and differ
  pub never_both : (rules others : List Rule) (w : List ℕ) → HaveSameMarks rules others → DifferAfter rules others w → ⊥
  never_both rules others w same apart =
      let agree = same w apart.is_text apart.some in
      apart.differ
      (one_mark rules w apart.marks agree.0 apart.are_marks agree.1 ∙ one_mark others w agree.0 apart.other_marks agree.2 apart.are_others)

  -- tables of rules with the same marks have them too
  marked_alike : (rules others : List Rule) (these those : Table) → IsCompiled these rules → IsCompiled those others → HaveSameMarks rules others
      → AreMarkedAlike these those
  marked_alike rules others these those is is' same w text some =
      let word = text_is_word w text in
      let agree = same w text some in
      one_mark rules w (marks_of these (row_after these w)) agree.0 (is.same.each w word some) agree.1
      ∙ one_mark others w agree.0 (marks_of those (row_after those w)) agree.2 (is'.same.each w word some)

  module _ (have : CompiledTablesHaveCanonical) (tell : CanonicalTablesTellMarks) where
    -- the canonical tables of all tables of the same rules are the same
    pub same_canonical : (rules : List Rule) (these those canonical other : Table) → AreLawful rules → IsCompiled these rules → IsCompiled those rules
        → IsCanonical these canonical → IsCanonical those other → canonical ≡ other
    same_canonical rules these those canonical other lawful is is' made made' =
        (tell these those canonical other is.valid is'.valid (have these rules lawful is) (have those rules lawful is') made made').1
        (λ w text some.
        let word = text_is_word w text in
        one_mark rules w (marks_of these (row_after these w)) (marks_of those (row_after those w)) (is.same.each w word some) (is'.same.each w word some))

    -- the files of canonical tables tell the marks
    pub files_tell : SpellOneTable → FilesTellMarks
    files_tell tables rules others these those canonical other lawful lawful' is is' made made' =
        let law =
        tell these those canonical other is.valid is'.valid (have these rules lawful is) (have those others lawful' is') made made' in (
          λ same. same_marks rules others these those is is'
              (law.0 (tables (spelling canonical) canonical other made.valid made'.valid (inl refl) (inl same))),
          λ agree. ap spelling (law.1 (marked_alike rules others these those is is' agree)),
        )
