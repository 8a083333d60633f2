use Rattle.std.proofs.Common.{ℕ, List, inr, subst, ⊎_elim, arith, rules, tests}
use Rattle.std.specs.Prelude.{◌≢◌}
use Rattle.rbbi_compile.specs.declared.error.CompileErr.TheVariants.{Memory}
use Rattle.rbbi_builtin.specs.Compiling.{HasFaultOver}
use Rattle.rbbi_segment.proofs.rules.table_of_rules.Goals as goal

pub returns-in-Err-compile_over : goal.returns-in-Err-compile_over
returns-in-Err-compile_over c =
    let text = c.in-Ok.ensures.text in let error = c.in-Err-compile_over.error in
    let not_memory : error ≢ Memory = first_of (assumption c, search (rules, tests), cc, grind (arith, rules, tests)) in
    let has = ⊎_elim (λ is. absurd (not_memory is)) (λ fault. fault) c.in-Err-compile_over.ensures.refused in
    record {
      table = tt;
      refused = inr
          (inr (text.0, error, subst (λ (x : List ℕ). HasFaultOver c.args.properties.now c.args.ignore_dictionary x error) text.1 has));
    }
