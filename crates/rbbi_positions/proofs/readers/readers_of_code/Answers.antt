-- The set of a position is that of the characters of its row.
use Rattle.std.proofs.Common.{◌≡◌, ◌↔◌, ◌<◌, ℕ, zero, suc, List, [], ◌∷◌, length, get_or, map, ap, sym, ◌∙◌, subst, arith}
use Rattle.std.specs.Prelude.{IsTrue}
use Rattle.std.proofs.lemmas.Bool.{false≢true}
use Rattle.std.proofs.lemmas.Grind.{common_steps}
use Rattle.std.proofs.lemmas.List.{length-map}
use Rattle.std.proofs.lemmas.List.Elements.{All-from_recursion}
use Rattle.rbbi_model.specs.Ranges.{Range, Has}
use Rattle.rbbi_resolve.specs.RuleTrees.{set_at}
use Rattle.rbbi_classes.specs.CharacterSets.{characters_of}
use Rattle.rbbi_classes.specs.Classes.{ClassBits}
use Rattle.rbbi_positions.proofs.readers.readers_of_code.Goals as goal
use Rattle.rbbi_positions.proofs.readers.readers_of_code.Goals.{then-is_in, else-is_in}

mapped_at : (f : ClassBits → List Range) (rows : List ClassBits) (n : ℕ) (row : ClassBits) → n < length rows → row ≡ get_or rows n row →
    set_at (map f rows) n ≡ f row
mapped_at f [] n row below is = absurd (omega (arith, below))
mapped_at f (first ∷ rows) zero row below is = ap f (sym is)
mapped_at f (first ∷ rows) (suc n) row below is = mapped_at f rows n row (omega (arith, below)) is

pub loop-position-preserved : goal.loop-position-preserved
loop-position-preserved c =
    let division = c.by_classes.result.0.now in
    let rows = c.by_classes.result.1.now in
    let number = get_or c.args.numbers.now c.loop-position.position 0 in
    let inside : number < length rows = omega (
      arith,
      All-from_recursion (λ number. number < length c.args.sets.now) c.args.numbers.now c.requires.numbered
          c.loop-position.position 0 c.loop-position-test.true,
      ap length c.by_classes.ensures.same,
      length-map rows (characters_of division),
    ) in
    let at : set_at c.args.sets.now number ≡ characters_of division c.index-rows-numbers.result =
    ap (λ sets. set_at sets number) c.by_classes.ensures.same ∙ mapped_at (characters_of division) rows number c.index-rows-numbers.result inside
    c.index-rows-numbers.is in
    let told : IsTrue c.is_in.result ↔ Has (set_at c.args.sets.now number) c.args.code =
    subst (λ set. IsTrue c.is_in.result ↔ Has set c.args.code) (sym at) c.is_in.ensures in
    elim c.if-is_in.branch [
      | then-is_in w ↦ let has = told.0 w.if-is_in.true in grind (arith, common_steps, has)
      | else-is_in w ↦ let lacks = λ (h : Has (set_at c.args.sets.now number) c.args.code). false≢true (sym w.if-is_in.false ∙ told.1 h) in
          grind (arith, common_steps, lacks)
    ]
