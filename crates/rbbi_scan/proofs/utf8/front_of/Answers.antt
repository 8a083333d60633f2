use Rattle.std.proofs.Common.{◌≡◌, length, take, sym, ap, ◌∙◌, subst, inl, inr, ⊎_elim, arith, length-take, refl}
use Rattle.std.specs.Str.{IsValidUpTo}
use Rattle.std.proofs.lemmas.Bool.{cases_lt}
use Rattle.rbbi_model.specs.declared.unit.Unit.TheVariants.{Utf8}
use Rattle.rbbi_scan.proofs.Decoding.{none_begin, front_none}
use Rattle.rbbi_scan.proofs.utf8.front_of.Goals as goal

pub returns-in-Ok-clause-none : goal.returns-in-Ok-clause-none
returns-in-Ok-clause-none c =
    λ none. none_begin Utf8 c.args.bytes.now
    (omega (arith, none, ap length c.in-Ok.ensures.cases.0, length-take c.min.result c.args.bytes.now, c.min.ensures, c.max.ensures))

pub returns-in-Err-clause-none : goal.returns-in-Err-clause-none
returns-in-Err-clause-none c =
    λ none.
    let valid = c.in-Err.ensures.cases.1 in
    let short = valid.short in
    let first : c.valid_up_to.result ≡ 0 =
    omega (arith, none, ap length c.front_up_to.ensures.text, length-take c.valid_up_to.result (take c.min.result c.args.bytes.now), short, c.valid_up_to.ensures) in
    front_none c.args.bytes.now (take c.min.result c.args.bytes.now) c.min.result refl
    (⊎_elim (λ less. inl (omega (arith, less, c.min.ensures, c.max.ensures))) (λ more. inr (omega (arith, more))) (cases_lt c.min.result (length c.args.bytes.now)))
    (subst (IsValidUpTo (take c.min.result c.args.bytes.now)) (sym c.valid_up_to.ensures ∙ first) valid)
