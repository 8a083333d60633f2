use Rattle.rbbi_tool.proofs.OneOutcome.{same_outcome}
use Rattle.rbbi_tool.proofs.laws.outcomes_are_unique.Goals as goal

pub returns : goal.returns
returns c =
    same_outcome (record {
      rules = c.one_table_or_fault.ensures;
      tables = c.spellings_tell_the_table.ensures;
      answers = c.one_answer.ensures;
      boundaries = c.boundaries_are_unique.ensures;
      replies = c.replies_are_unique.ensures;
      scripts = c.one_script.ensures;
      abbreviations = c.one_abbreviations.ensures;
      pairs = c.one_tailoring.ensures;
      summaries = c.summaries_are_unique.ensures;
      tests = c.one_tests.ensures;
      verdicts = c.one_verdict.ensures;
      marks = c.marks_are_unique.ensures;
      have_canonical = c.compiled_tables_have_canonical.ensures;
      canonical = c.canonical_tables_tell_marks.ensures;
    })
