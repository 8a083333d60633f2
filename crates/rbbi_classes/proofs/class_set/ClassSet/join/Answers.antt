-- A class is in the row where it is in one of the sets: outside of its words the other set has none.
use Rattle.std.proofs.Common.{◌≡◌, ◌/◌, ◌<◌, ◌≤◌, ◌⊎◌, ℕ, Bool, true, false, ◌||◌, refl, sym, ap, ◌∙◌, ⊎_elim, inl, inr, arith}
use Rattle.std.proofs.lemmas.Bool.{cases_lt}
use Rattle.rbbi_bits.proofs.Rows.{or_holds}
use Rattle.rbbi_classes.specs.Classes.{ClassBits, class_bit, class_of}
use Rattle.rbbi_classes.specs.inner.WordRows.{bits}
use Rattle.rbbi_classes.proofs.ClassWords.{bit-outside}
use Rattle.rbbi_classes.proofs.class_set.ClassSet.join.Goals as goal

or-none : (a b : Bool) → b ≡ false → a ≡ (a || b)
or-none true b none = refl
or-none false b none = sym none

pub returns : goal.returns
returns c = λ bounds point.
    let these : ClassBits = c.args.self in
    let those : ClassBits = c.args.other.now in
    let new : ClassBits = bits c.combine.new.self in
    let k : ℕ = class_of bounds point in
    let first : ℕ = c.other.inside.from in
    let last : ℕ = c.end_word-last.result in
    let is_first : first ≡ those.from = ap (λ (s : ClassBits). s.from) c.other.view_is in
    let was : class_bit (bits c.in_ok-row.row) k ≡ class_bit these k = c.in_ok-row.ensures.bits k in
    let kept : (k / 64 < first) ⊎ (last ≤ k / 64) → class_bit new k ≡ (class_bit these k || class_bit those k) = λ out.
    c.combine.ensures.outside k out ∙ was
    ∙ or-none (class_bit these k) (class_bit those k) (bit-outside those k
    (⊎_elim (λ sooner. inl (omega (arith, sooner, is_first))) (λ past. inr (omega (arith, past, c.end_word-last.ensures.value))) out)) in
    let each : class_bit new k ≡ (class_bit these k || class_bit those k) =
    ⊎_elim (λ sooner. kept (inl sooner))
    (λ later. ⊎_elim (λ short. c.combine.ensures.inside k later short ∙ ap (λ b. b || class_bit those k) was) (λ past. kept (inr past))
    (cases_lt (k / 64) last))
    (cases_lt (k / 64) first) in
    let either = or_holds (class_bit new k) (class_bit these k) (class_bit those k) each in
    rw c.of_row.ensures (
      λ member. ⊎_elim (λ one. inl (member.0, one)) (λ other. inr (member.0, other)) (either.0 member.1),
      ⊎_elim (λ member. (member.0, either.1 (inl member.1))) (λ member. (member.0, either.1 (inr member.1))),
    )
