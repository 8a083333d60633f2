use Rattle.std.proofs.Common.{inl, inr, ⊎_elim, subst, refl, ap, ◌∙◌}
use Rattle.std.specs.Prelude.{Ok, Err}
use Rattle.rbbi_script.specs.Files.{ReadsScript}
use Rattle.rbbi_tool.specs.Scripts.{lines_fault}
use Rattle.rbbi_tool.proofs.scripts.commands_of.Goals as goal

pub returns-in-Ok-clause-exact : goal.returns-in-Ok-clause-exact
returns-in-Ok-clause-exact g c =
    (c.in-Ok.commands, subst (λ b. ReadsScript b (Ok c.in-Ok.commands)) c.bytes.ensures.bytes c.in-Ok.ensures.script, refl)

pub returns-in-Err-clause-exact : goal.returns-in-Err-clause-exact
returns-in-Err-clause-exact g c =
    ⊎_elim inl
    (λ (some, is). inr (inl (record {
      error = c.in-Err.error;
      refused = subst (λ b. ReadsScript b (Err c.in-Err.error)) c.bytes.ensures.bytes c.in-Err.ensures.script;
      not_memory = some;
      is = is ∙ ap (λ name. lines_fault name c.in-Err.error) c.as_str.ensures;
    }))) c.lines_refusal.ensures
