use Rattle.std.proofs.Common.{◌≡◌, ◌+◌, ◌<◌, List, ℕ, [], length, get_or, eqb, arith}
use Rattle.std.proofs.lemmas.List.{get_or_read}
use Rattle.rbbi_model.specs.Spelling.{joined}
use Rattle.rbbi_text.specs.Indexes.{IsIndex}
use Rattle.rbbi_text.proofs.Nearby.{near_index}
use Rattle.rbbi_text.proofs.pieces.index_near.Goals as goal
use Rattle.rbbi_text.proofs.pieces.index_near.Goals.{Else-fit-rest}

-- less than the rest of the piece fits
found : (c : Else-fit-rest) → IsIndex c.args.unit (joined c.args.pieces.now) c.args.o
    (record { at = c.args.from + c.fit_in-fit.result.count; whole = eqb (c.args.offset + c.fit_in-fit.result.units) c.args.o })
found c =
    let k : ℕ = c.locate-number.result in
    let ps : List (List ℕ) = c.args.pieces.now in
    let read : c.index-pieces-number.result ≡ get_or ps k [] =
    get_or_read ps k c.index-pieces-number.result c.locate-number.ensures.within c.index-pieces-number.is [] in
    let less : c.fit_in-fit.result.count < length c.behind-rest.result.now = omega (arith, c.fit_in-fit.ensures.within, c.if-fit-rest.false) in
    near_index c.args.unit ps c.args.starts.now c.requires.cut k c.args.from c.args.offset c.args.o c.fit_in-fit.result.count c.fit_in-fit.result.units
    c.index-pieces-number.result c.behind-rest.result.now c.locate-number.ensures c.requires.inside c.requires.offset (omega arith) read c.behind-rest.ensures
    c.fit_in-fit.ensures less

pub overflow_cast-result : goal.overflow_cast-result
overflow_cast-result c =
    let index = found (goal.at.overflow_cast-result c).Else-fit-rest in omega (arith, index.within, c.requires.cut.whole.text.1)

pub overflow_add-result : goal.overflow_add-result
overflow_add-result c =
    let index = found (goal.at.overflow_add-result c).Else-fit-rest in omega (arith, index.within, c.requires.cut.whole.text.1)

pub returns : goal.returns
returns c = found (goal.at.returns c).Else-fit-rest
