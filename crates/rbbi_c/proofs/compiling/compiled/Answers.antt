use Rattle.std.proofs.Common.{ℕ, List, inl, inr, refl, ap, ◌∙◌, subst, ⊎_elim, arith, rules, tests}
use Rattle.std.specs.Prelude.{codes, ◌≢◌}
use Rattle.std.specs.Str.{chars}
use Rattle.rbbi_command.specs.declared.refusal.Place.TheVariants.{Byte}
use Rattle.rbbi_command.specs.Refusals.{place_in}
use Rattle.rbbi_compile.specs.declared.error.CompileErr.TheVariants.{Memory}
use Rattle.rbbi_compile.specs.Errors.{label_of}
use Rattle.rbbi_builtin.specs.Compiling.{CompilesOver}
use Rattle.rbbi_c.specs.Faults.{told, IsTold}
use Rattle.rbbi_c.proofs.Compiled.{fault_of_text}
use Rattle.rbbi_c.proofs.compiling.compiled.Goals as goal

pub returns-in-Err-clause-told : goal.returns-in-Err-clause-told
returns-in-Err-clause-told c =
    inr (
      c.tell.ensures.code,
      record {
        label = codes "NotUtf8";
        place = Byte c.in-Err.at;
        has = inl (c.in-Err.at, c.in-Err.ensures.refused, refl, refl);
        told = record { fault = c.tell.ensures.fault; name = c.tell.ensures.name };
      },
    )

pub returns-in-Ok-compile_over-clause-told : goal.returns-in-Ok-compile_over-clause-told
returns-in-Ok-compile_over-clause-told c =
    let text = c.in-Ok.ensures.text in
    (text.0, subst (λ (x : List ℕ). CompilesOver c.args.files.now c.args.ignored x c.in-Ok-compile_over.table) text.1 c.in-Ok-compile_over.ensures.table, refl)

pub returns-in-Err-compile_over-clause-told : goal.returns-in-Err-compile_over-clause-told
returns-in-Err-compile_over-clause-told c =
    let text = c.in-Ok.ensures.text in let x = chars c.in-Ok.text.now in let error = c.in-Err-compile_over.error in let place = c.place_in.result in
    let not_memory : error ≢ Memory = first_of (assumption c, search (rules, tests), cc, grind (arith, rules, tests)) in
    let has = ⊎_elim (λ is. absurd (not_memory is)) (λ fault. fault) c.in-Err-compile_over.ensures.refused in
    let at = c.place_in.ensures ∙ ap (place_in x) c.place.ensures in
    inr (
      c.tell-in-Err-compile_over.ensures.code,
      record {
        label = label_of error;
        place = place;
        has = fault_of_text c.args.files.now c.args.ignored c.args.bytes.now x error place text.0 text.1 has at;
        told = subst (λ (label : List ℕ). IsTold label place (told c.args.fault.now c.args.name.now) (told c.tell-in-Err-compile_over.new.self
            c.tell-in-Err-compile_over.new.room)) c.label.ensures
            (record { fault = c.tell-in-Err-compile_over.ensures.fault; name = c.tell-in-Err-compile_over.ensures.name });
      },
    )
