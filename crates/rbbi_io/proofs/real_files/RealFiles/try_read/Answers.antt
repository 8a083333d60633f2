use Rattle.std.proofs.Common.{subst, sym, rules, None, Some, IsSomeAnd}
use Rattle.rbbi_io.specs.Answers.{IsToldAs}
use Rattle.rbbi_io.proofs.Readers.{KeepsFault-refused}
use Rattle.rbbi_io.proofs.real_files.RealFiles.try_read.Goals as goal

pub returns-in-Err-clause-left : goal.returns-in-Err-clause-left
returns-in-Err-clause-left g c =
    let told = c.refused_read.ensures in
    let refusal = c.refused_read.result in (
      c.refused_read.new.fault,
      KeepsFault-refused None c.refused_read.new.fault refusal
          (subst (λ fault. IsSomeAnd fault (λ f. IsToldAs f refusal)) (sym told.kept) told.told),
      search rules,
    )
