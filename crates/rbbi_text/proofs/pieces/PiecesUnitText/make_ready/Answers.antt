use Rattle.std.proofs.Common.{◌≡◌, ℕ, List, length, sum_by, ap, sym, subst, ◌∙◌, arith, rules}
use Rattle.std.proofs.lemmas.Bool.{eqb-true}
use Rattle.rbbi_model.specs.Spelling.{joined}
use Rattle.rbbi_model.specs.Units.{size_of}
use Rattle.rbbi_text.specs.Weighed.{weight_of, IsSingle}
use Rattle.rbbi_text.proofs.MilestoneLemmas.{pieces_small, sum_joined}
use Rattle.rbbi_text.proofs.pieces.PiecesUnitText.make_ready.Goals as goal

pub renew-requires-clause-small : goal.renew-requires-clause-small
renew-requires-clause-small c =
    let long = ap (λ ps. length (joined ps)) (c.deref.ensures.value ∙ c.measure_in.ensures) in
    omega (arith, pieces_small c.args.unit c.deref.result.now (omega (arith, long, c.self.invariant.0.whole.text.1)))

pub total-requires : goal.total-requires
total-requires c =
    let long = ap (λ ps. length (joined ps)) (c.deref-in-Utf8.ensures.value ∙ c.measure_in.ensures) in
    omega (arith, pieces_small c.args.unit c.deref-in-Utf8.result.now (omega (arith, long, c.self.invariant.0.whole.text.1)))

pub invariant_of-self : goal.invariant_of-self
invariant_of-self c = (
  search rules,
  search rules,
  λ on.
      let ps : List (List ℕ) = c.measure_in.new.pieces.items in
      let few : c.total.result ≡ length (joined ps) =
      eqb-true c.total.result c.self.inside.len on ∙ c.self.invariant.0.long
      ∙ ap (λ (l : List (List ℕ)). length (joined l)) (sym c.measure_in.ensures) in
      let same = ap (λ (l : List (List ℕ)). sum_by (weight_of c.args.unit) l) c.deref-in-Utf8.ensures.value in
      subst (λ u. IsSingle u (joined ps)) (sym c.renew.ensures.unit)
      (sum_joined (size_of c.args.unit) ps ∙ sym same ∙ sym c.total.ensures ∙ few),
)
