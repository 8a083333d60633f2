use Rattle.std.proofs.Common.{inl, inr, ⊎_elim, sym, subst, ap, ◌∙◌}
use Rattle.std.specs.Prelude.{Err}
use Rattle.rbbi_filter.specs.AbbreviationFiles.{ReadsAbbreviations}
use Rattle.rbbi_filter.specs.PairFiles.{ReadsPairs}
use Rattle.rbbi_tool.specs.Scripts.{lines_fault}
use Rattle.rbbi_tool.specs.Filters.{filter_stage}
use Rattle.rbbi_tool.proofs.filters.filter_of.Goals as goal

pub returns-in-Err-clause-exact : goal.returns-in-Err-clause-exact
returns-in-Err-clause-exact g c =
    ⊎_elim inl
    (λ (some, is). inr (subst (λ k. (filter_stage k c.args.file.now).refuses c.lines_refusal.result) (sym c.in-Abbreviations.is) (inl (record {
      error = c.in-Err.error;
      refused = subst (λ b. ReadsAbbreviations b (Err c.in-Err.error)) c.bytes-bytes.ensures.bytes c.in-Err.ensures;
      not_memory = some;
      is = is ∙ ap (λ name. lines_fault name c.in-Err.error) c.as_str.ensures;
    })))) c.lines_refusal.ensures

pub returns-in-Err-read-clause-exact : goal.returns-in-Err-read-clause-exact
returns-in-Err-read-clause-exact g c =
    ⊎_elim inl
    (λ (some, is). inr (subst (λ k. (filter_stage k c.args.file.now).refuses c.lines_refusal-in-Err-read.result) (sym c.in-Pairs.is) (inl (record {
      error = c.in-Err-read.error;
      refused = subst (λ b. ReadsPairs b (Err c.in-Err-read.error)) c.bytes-bytes.ensures.bytes c.in-Err-read.ensures;
      not_memory = some;
      is = is ∙ ap (λ name. lines_fault name c.in-Err-read.error) c.as_str-in-Err-read.ensures;
    })))) c.lines_refusal-in-Err-read.ensures
