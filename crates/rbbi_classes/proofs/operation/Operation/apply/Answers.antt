-- The word at this place is made of both, and no other changes.
use Rattle.std.proofs.Common.{◌≡◌, ◌≢◌, ◌+◌, ℕ, List, get_or, set, ap, ◌∙◌, ⊎_elim, inl, inr, subst, arith}
use Rattle.std.proofs.lemmas.Bool.{cases_lt}
use Rattle.std.proofs.lemmas.List.{get_or-set_same, get_or-set_other}
use Rattle.rbbi_model.specs.Places.{has_bit}
use Rattle.rbbi_classes.specs.inner.Operations.{joins}
use Rattle.rbbi_classes.proofs.operation.Operation.apply.Goals as goal

pub loop-i-preserved : goal.loop-i-preserved
loop-i-preserved c =
    let row : List ℕ = c.loop-i.row in
    let old : List ℕ = c.args.row.now in
    let words : List ℕ = c.args.words.now in
    let start : ℕ = c.args.start in
    let i : ℕ = c.loop-i.i in
    let word : ℕ = c.of.result in
    let new : List ℕ = set row (start + i) word in
    let Done : ℕ → ℕ → Type 0 =
    λ t k. has_bit (get_or new (start + k) 0) t ≡ joins c.args.self (has_bit (get_or old (start + k) 0) t) (has_bit (get_or words k 0) t) in
    record {
      done = λ k t short bit.
          ⊎_elim
          (λ sooner. ap (λ n. has_bit n t) (get_or-set_other row (start + i) (start + k) word 0 (omega (arith, sooner)))
          ∙ c.loop-i.invariant.done k t sooner bit)
          (λ reached. subst (Done t) (let e : i ≡ k = omega (arith, short, reached) in e)
          (ap (λ n. has_bit n t) (get_or-set_same row (start + i) word 0 (omega arith)) ∙ c.of.ensures t bit
          ∙ ap (λ n. joins c.args.self (has_bit n t) (has_bit (get_or words i 0) t)) (c.loop-i.invariant.kept (start + i) (inr (omega arith)))))
          (cases_lt k i);
      kept = λ k out.
          let apart : k ≢ start + i = ⊎_elim (λ sooner. omega (arith, sooner)) (λ past. omega (arith, past)) out in
          get_or-set_other row (start + i) k word 0 apart
          ∙ c.loop-i.invariant.kept k (⊎_elim (λ sooner. inl sooner) (λ past. inr (omega (arith, past))) out);
    }
