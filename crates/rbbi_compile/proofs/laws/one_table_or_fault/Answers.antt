use Rattle.rbbi_compile.proofs.OneAnswer.{one_answer}
use Rattle.rbbi_compile.proofs.laws.one_table_or_fault.Goals as goal

pub returns : goal.returns
returns c =
    one_answer (record {
      tokens = c.tokens_are_unique.ensures;
      faults = c.faults_are_unique.ensures;
      apart = c.tokens_exclude_faults.ensures;
      readings = c.at_most_one_reading.ensures;
      refusals = c.at_most_one_refusal.ensures;
      excludes = c.file_excludes_fault.ensures;
      meanings = c.at_most_one_meaning.ensures;
    })
