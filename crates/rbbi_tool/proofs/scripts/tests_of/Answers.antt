use Rattle.std.proofs.Common.{inl, inr, ⊎_elim, subst, ap, ◌∙◌}
use Rattle.std.specs.Prelude.{Err}
use Rattle.rbbi_conform.specs.Files.{ReadsTests}
use Rattle.rbbi_tool.specs.Scripts.{lines_fault}
use Rattle.rbbi_tool.proofs.scripts.tests_of.Goals as goal

pub returns-in-Err : goal.returns-in-Err
returns-in-Err g c =
    ⊎_elim inl
    (λ (some, is). inr (record {
      error = c.in-Err.error;
      refused = subst (λ b. ReadsTests b (Err c.in-Err.error)) c.bytes.ensures.bytes c.in-Err.ensures;
      not_memory = some;
      is = is ∙ ap (λ name. lines_fault name c.in-Err.error) c.as_str.ensures;
    })) c.lines_refusal.ensures
