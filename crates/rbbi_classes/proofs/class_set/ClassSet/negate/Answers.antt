-- All classes of the layout without those of the set.
use Rattle.std.proofs.Common.{ℕ, ◌↔◌, ◌≤◌, arith}
use Rattle.std.proofs.lemmas.Result.{IfOk-weaker}
use Rattle.rbbi_classes.specs.Classes.{ClassBits, HasMember, class_of}
use Rattle.rbbi_classes.proofs.ClassBounds.{class-within}
use Rattle.rbbi_classes.proofs.class_set.ClassSet.negate.Goals as goal

pub returns : goal.returns
returns c =
    let layout = c.args.layout.now in
    let these : ClassBits = c.args.self.now in
    let all : ClassBits = c.in_ok-of_span.field-0 in
    IfOk-weaker c.remove.result (λ set. (bounds : _) (point : ℕ) → HasMember bounds set point ↔ (HasMember bounds all point × ¬ HasMember bounds these point))
    (λ set. (point : ℕ) → HasMember layout set point ↔ ((point ≤ 0x10FFFF) × ¬ HasMember layout these point))
    (λ set rest point.
    let here = rest layout point in (
      λ member. let parts = here.0 member in (parts.0.0, parts.1),
      λ parts.
          let within : class_of layout point ≤ c.last_class.result = omega (arith, c.last_class.ensures, class-within layout point) in
          here.1 ((parts.0, (c.in_ok-of_span.ensures (class_of layout point)).1 (omega arith, within)), parts.1),
    ))
    c.remove.ensures
