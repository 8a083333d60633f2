use Rattle.std.proofs.Common.{◌∷◌, length, length-append, length-take, take, drop, ap, subst, arith}
use Rattle.std.proofs.lemmas.List.{take-append-drop}
use Rattle.rbbi_model.proofs.Lists.{all_append}
use Rattle.rbbi_cache.specs.Kept.{IsExtendedBy, NoneIsExtended}
use Rattle.rbbi_cache.specs.inner.Lists.{HasAt}
use Rattle.rbbi_cache.proofs.Quieting.{has_of_all}
use Rattle.rbbi_cache.proofs.Slots.{added_is}
use Rattle.rbbi_cache.proofs.PutFirst.{put_before, put_instead}
use Rattle.rbbi_cache.proofs.run_list.RunList.add_compared.Goals as goal

pub replace-requires : goal.replace-requires
replace-requires c =
    let at : HasAt (take c.args.count c.as_slice-runs.result.now) c.in-Some.k (λ r. IsExtendedBy r c.args.run.now) = c.in-Some.ensures in
    omega (
      arith,
      at.number,
      ap length at.whole,
      length-append at.before (at.run ∷ at.after),
      length-take c.args.count c.as_slice-runs.result.now,
      ap length c.as_slice-runs.ensures.runs,
    )

pub returns-in-Some : goal.returns-in-Some
returns-in-Some c =
    put_instead c.args.run.now c.args.self.now c.replace.new.self c.in-Some.k
    (has_of_all (λ r. IsExtendedBy r c.args.run.now) c.args.self.now (take c.args.count c.args.self.now) (drop c.args.count c.args.self.now) c.in-Some.k
    (take-append-drop c.args.count c.args.self.now)
    (subst (λ l. HasAt (take c.args.count l) c.in-Some.k (λ r. IsExtendedBy r c.args.run.now)) c.as_slice-runs.ensures.runs c.in-Some.ensures))
    c.replace.ensures

pub returns : goal.returns
returns c =
    put_before c.args.run.now c.args.self.now _ (omega (arith, c.as_slice-runs.ensures.few, ap length c.as_slice-runs.ensures.runs))
    (subst (NoneIsExtended c.args.run.now) (take-append-drop c.args.count c.args.self.now)
    (all_append (λ r. IsExtendedBy r c.args.run.now → ⊥) (take c.args.count c.args.self.now) (drop c.args.count c.args.self.now)
    (subst (λ l. NoneIsExtended c.args.run.now (take c.args.count l)) c.as_slice-runs.ensures.runs c.in_default.ensures) c.requires.others))
    (added_is c.self.inside.slots c.self.inside.count c.self.invariant.1 c.self.invariant.0 c.args.self.now c.put_first-self-inside.new.runs
    c.args.run.now c.put_first-self-inside.result c.self.view_is c.put_first-self-inside.ensures.runs)
