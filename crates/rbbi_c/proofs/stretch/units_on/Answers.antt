use Rattle.std.proofs.Common.{◌≡◌, ℕ, ◌≤◌, List, length, sym, subst, arith}
use Rattle.rbbi_model.specs.Units.{offset_of}
use Rattle.rbbi_model.proofs.ByCharacters.{offset_of_chars}
use Rattle.rbbi_c.proofs.Stretched.{even_units}
use Rattle.rbbi_c.proofs.stretch.units_on.Goals as goal

pub returns-in-Chars-clause-sum : goal.returns-in-Chars-clause-sum
returns-in-Chars-clause-sum c =
    let x : List ℕ = c.args.excerpt.now.items in
    let sum : (i : ℕ) → i ≤ length x → offset_of c.args.unit x i ≡ i =
    λ i within. subst (λ u. offset_of u x i ≡ i) (sym c.in-Chars.is) (offset_of_chars x i within) in
    omega (arith, sum c.args.from (omega (arith, c.requires.forward, c.requires.within)), sum c.args.to c.requires.within, c.requires.forward)

pub returns-then-to-block-clause-sum : goal.returns-then-to-block-clause-sum
returns-then-to-block-clause-sum c =
    even_units c.args.unit c.args.excerpt.now.items c.block_on.result c.args.from c.args.to c.block_on.ensures.measured c.if-block.true
    c.block_on.ensures.from c.requires.forward c.if-to-block.true
