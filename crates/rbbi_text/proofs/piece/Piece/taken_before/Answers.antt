use Rattle.std.proofs.Common.{◌≡◌, ℕ, ◌-◌, List, length, length-take, length-drop, take, drop, sum_by, sym, ap, ◌∙◌, arith}
use Rattle.std.proofs.lemmas.List.{take_all}
use Rattle.std.proofs.lemmas.List.Sums.{sum_by-take-drop}
use Rattle.rbbi_model.specs.declared.unit.Unit.{Unit as TextUnit}
use Rattle.rbbi_model.specs.Units.{size_of}
use Rattle.rbbi_text.proofs.MilestoneLemmas.{sum_small}
use Rattle.rbbi_text.proofs.Even.{even_front, front_by_rest}
use Rattle.rbbi_text.proofs.piece.Piece.taken_before.Goals as goal

-- what the characters from a number on take
rest_is : (unit : TextUnit) (x d : List ℕ) (i rest : ℕ) → d ≡ x → rest ≡ sum_by (size_of unit) (take (length d - i) (drop i d)) →
    rest ≡ sum_by (size_of unit) (drop i x)
rest_is unit x d i rest same is =
    is
    ∙ ap (λ l. sum_by (size_of unit) l) (take_all (length d - i) (drop i d) (omega (arith, length-drop i d)))
    ∙ ap (λ l. sum_by (size_of unit) (drop i l)) same

pub returns-then-all-len : goal.returns-then-all-len
returns-then-all-len c =
    sym (even_front c.args.unit c.args.self.now c.args.i
    (omega (arith, c.units-all.ensures, c.if-all-len.true, c.len-len.ensures, ap length c.self.view_is)) (omega arith))

pub taken-requires : goal.taken-requires
taken-requires c =
    let d : List ℕ = c.deref.result.now in
    omega (
      arith,
      sum_small c.args.unit (take (length d - c.args.i) (drop c.args.i d)),
      length-take (length d - c.args.i) (drop c.args.i d),
      length-drop c.args.i d,
      ap length c.deref.ensures.value,
      c.self.invariant.few,
    )

pub overflow_sub-result : goal.overflow_sub-result
overflow_sub-result c =
    omega (
      arith,
      rest_is c.args.unit c.args.self.now c.deref.result.now c.args.i c.taken.result (c.deref.ensures.value ∙ c.self.view_is) c.taken.ensures,
      c.units-all.ensures,
      sum_by-take-drop (size_of c.args.unit) c.args.self.now c.args.i,
    )

pub returns-then-i-len : goal.returns-then-i-len
returns-then-i-len c =
    front_by_rest c.args.unit c.args.self.now c.args.i c.units-all.result c.taken.result c.units-all.ensures
    (rest_is c.args.unit c.args.self.now c.deref.result.now c.args.i c.taken.result (c.deref.ensures.value ∙ c.self.view_is) c.taken.ensures)
