-- The classes of the span are those that begin in the range.
use Rattle.std.proofs.Common.{ℕ, ◌≤◌, ◌↔◌, refl, arith}
use Rattle.std.proofs.lemmas.Result.{IfOk-weaker}
use Rattle.rbbi_classes.specs.Classes.{class_of, HasClass, HasMember, IsFirstOfClass, ClassBits}
use Rattle.rbbi_classes.proofs.FirstCodePoints.{first-point}
use Rattle.rbbi_classes.proofs.class_set.ClassSet.range.Goals as goal

pub returns-in-Some : goal.returns-in-Some
returns-in-Some c =
    let bounds = c.args.layout.now in
    let Spans : ClassBits → Type 0 = λ set. (k : ℕ) → HasClass set k ↔ ((c.in-Some.span.first ≤ k) × (k ≤ c.in-Some.span.last)) in
    let Begin : ClassBits → Type 0 =
    λ set. (code : ℕ) → IsFirstOfClass bounds code → HasMember bounds set code ↔ ((c.args.low ≤ code) × (code ≤ c.args.high)) in
    IfOk-weaker c.of_span.result Spans Begin
    (λ set has code first.
    let here = c.in-Some.ensures.classes code first in (
      λ member. here.0 ((has (class_of bounds code)).0 member.1),
      λ inside. (first-point bounds c.in-Some.ensures.form code first, (has (class_of bounds code)).1 (here.1 inside)),
    ))
    c.of_span.ensures

pub returns-in-None : goal.returns-in-None
returns-in-None c = λ code first. (
  λ member. absurd (c.empty.ensures c.args.layout.now code member),
  λ inside. let past = c.in-None.ensures.none refl code first inside.0 in absurd (omega (arith, past, inside.1)),
)
