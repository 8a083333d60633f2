use Rattle.std.proofs.Common.{◌≡◌, ℕ, ◌-◌, List, [], get_or, take, sum_by, refl, ap, ◌∙◌, arith}
use Rattle.std.proofs.lemmas.List.{get_or_read}
use Rattle.std.proofs.lemmas.List.Sums.{sum_by-take-le}
use Rattle.rbbi_model.specs.Units.{size_of}
use Rattle.rbbi_model.specs.Spelling.{joined}
use Rattle.rbbi_text.proofs.MilestoneLemmas.{pieces_small, text_small, offset_found}
use Rattle.rbbi_text.proofs.pieces.offset_in.Goals as goal

pub before-requires-clause-small : goal.before-requires-clause-small
before-requires-clause-small c = omega (arith, pieces_small c.args.unit c.args.pieces.now c.requires.cut.whole.text.1)

pub overflow_add-result : goal.overflow_add-result
overflow_add-result c =
    let k : ℕ = c.locate-piece.result in
    let ps : List (List ℕ) = c.args.pieces.now in
    let m : ℕ = c.args.place - get_or c.args.starts.now k 0 in
    let read : c.index-pieces-piece.result ≡ get_or ps k [] =
    get_or_read ps k c.index-pieces-piece.result c.locate-piece.ensures.within c.index-pieces-piece.is [] in
    omega (
      arith,
      offset_found c.args.unit ps c.args.starts.now c.requires.cut k c.args.place (take m (get_or ps k [])) c.locate-piece.ensures refl,
      sum_by-take-le (size_of c.args.unit) (joined ps) c.args.place,
      text_small c.args.unit (joined ps) c.requires.cut.whole.text.1,
      c.before-2.ensures,
      c.taken_before-front.ensures ∙ ap (λ l. sum_by (size_of c.args.unit) (take m l)) read,
    )

pub returns : goal.returns
returns c =
    let k : ℕ = c.locate-piece.result in
    let ps : List (List ℕ) = c.args.pieces.now in
    let m : ℕ = c.args.place - get_or c.args.starts.now k 0 in
    let read : c.index-pieces-piece.result ≡ get_or ps k [] =
    get_or_read ps k c.index-pieces-piece.result c.locate-piece.ensures.within c.index-pieces-piece.is [] in
    omega (
      arith,
      offset_found c.args.unit ps c.args.starts.now c.requires.cut k c.args.place (take m (get_or ps k [])) c.locate-piece.ensures refl,
      c.before-2.ensures,
      c.taken_before-front.ensures ∙ ap (λ l. sum_by (size_of c.args.unit) (take m l)) read,
    )
