use Rattle.std.proofs.Common.{◌∙◌, refl, sym, subst, inl, inr, arith}
use Rattle.rbbi_model.specs.ValidTables.{IsValidTable}
use Rattle.rbbi_model.specs.TableFile.{IsSpelling}
use Rattle.rbbi_table.specs.Parts.{table_of}
use Rattle.rbbi_table.specs.declared.error.TableErr.TheVariants.{BadRanges}
use Rattle.rbbi_file.specs.Lengths.{version_in}
use Rattle.rbbi_file.specs.Answers.{IsFirstBad}
use Rattle.rbbi_file.proofs.WholeFiles.{length_valid, same_valid, not_bad, spelling_of}
use Rattle.rbbi_file.proofs.read.read_table.Goals as goal

pub returns-in_default-clause-complete : goal.returns-in_default-clause-complete
returns-in_default-clause-complete c =
    λ table valid spelled. absurd (omega (arith, c.in_default.ensures, length_valid c.args.bytes.now table valid spelled))

pub returns-then-end-bytes-clause-complete : goal.returns-then-end-bytes-clause-complete
returns-then-end-bytes-clause-complete c =
    λ table valid spelled. absurd (omega (arith, c.in-Some.ensures.0, c.if-end-bytes.true, length_valid c.args.bytes.now table valid spelled))

pub returns-then-not-has_tables : goal.returns-then-not-has_tables
returns-then-not-has_tables c =
    let bad : IsFirstBad (version_in c.args.bytes.now) (table_of c.in_ok-parts.parts) BadRanges =
    inl (rw c.if-not-has_tables.true at c.has_tables.ensures, refl) in
    record {
      exact = record { parts = table_of c.in_ok-parts.parts; spelled = c.in_ok-parts.ensures; bad = bad };
      complete = λ table valid spelled. absurd
          (not_bad c.args.bytes.now (table_of c.in_ok-parts.parts) BadRanges c.in_ok-parts.ensures bad table valid spelled);
    }

pub returns-in-Ok-clause-exact : goal.returns-in-Ok-clause-exact
returns-in-Ok-clause-exact c =
    let bytes = c.args.bytes.now in
    let has = rw c.if-not-has_tables.false at c.has_tables.ensures in
    subst (λ table. IsValidTable table × IsSpelling bytes table) (sym c.in-Ok.ensures.0)
    (c.in-Ok.ensures.1, spelling_of bytes (table_of c.in_ok-parts.parts) c.in_ok-parts.ensures has)

pub returns-in-Ok-clause-complete : goal.returns-in-Ok-clause-complete
returns-in-Ok-clause-complete c =
    λ table valid spelled. c.in-Ok.ensures.0 ∙ same_valid c.args.bytes.now (table_of c.in_ok-parts.parts) table c.in_ok-parts.ensures valid spelled

pub returns : goal.returns
returns c =
    let bad : IsFirstBad (version_in c.args.bytes.now) (table_of c.in_ok-parts.parts) c.in-Err.error =
    inr (rw c.if-not-has_tables.false at c.has_tables.ensures, c.in-Err.ensures, c.in_default-error.not-Memory) in
    record {
      exact = record { parts = table_of c.in_ok-parts.parts; spelled = c.in_ok-parts.ensures; bad = bad };
      complete = λ table valid spelled. absurd
          (not_bad c.args.bytes.now (table_of c.in_ok-parts.parts) c.in-Err.error c.in_ok-parts.ensures bad table valid spelled);
    }
