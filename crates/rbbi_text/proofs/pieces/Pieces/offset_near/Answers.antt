use Rattle.std.proofs.Common.{◌≡◌, ◌≤◌, List, ℕ, length, ap, ◌∙◌, arith}
use Rattle.std.proofs.lemmas.List.Sums.{sum_by-take-le}
use Rattle.rbbi_model.specs.Spelling.{joined}
use Rattle.rbbi_model.specs.Units.{size_of, offset_of}
use Rattle.rbbi_model.specs.Words.{most_characters}
use Rattle.rbbi_text.proofs.MilestoneLemmas.{text_small}
use Rattle.rbbi_text.proofs.pieces.Pieces.offset_near.Goals as goal

pub overflow_add-result : goal.overflow_add-result
overflow_add-result c =
    let x : List ℕ = c.args.self.now in
    let text : joined c.deref.result.now ≡ x = ap joined c.deref.ensures.value ∙ c.self.view_is in
    let few : length x ≤ most_characters = omega (arith, ap length c.self.view_is, c.self.invariant.0.whole.text.1) in
    let low : c.min.result ≡ c.args.from = omega (arith, c.min.ensures, c.if-from-i.true) in
    let high : c.max.result ≡ c.args.i = omega (arith, c.max.ensures, c.if-from-i.true) in
    omega (
      arith,
      c.in-Some.ensures,
      c.requires.offset,
      ap (λ n. offset_of c.args.unit (joined c.deref.result.now) n) low,
      ap (λ (l : List ℕ). offset_of c.args.unit l c.args.from) text,
      ap (λ n. offset_of c.args.unit (joined c.deref.result.now) n) high,
      ap (λ (l : List ℕ). offset_of c.args.unit l c.args.i) text,
      sum_by-take-le (size_of c.args.unit) x c.args.i,
      text_small c.args.unit x few,
    )
