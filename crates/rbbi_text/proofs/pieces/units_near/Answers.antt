use Rattle.std.proofs.Common.{◌≡◌, List, ℕ, [], get_or}
use Rattle.std.proofs.lemmas.List.{get_or_read}
use Rattle.rbbi_text.proofs.Nearby.{near_told}
use Rattle.rbbi_text.proofs.pieces.units_near.Goals as goal

pub returns : goal.returns
returns c =
    let k : ℕ = c.locate-number.result in
    let ps : List (List ℕ) = c.args.pieces.now in
    let read : c.index-pieces-number.result ≡ get_or ps k [] =
    get_or_read ps k c.index-pieces-number.result c.locate-number.ensures.within c.index-pieces-number.is [] in
    near_told c.args.unit ps c.args.starts.now c.requires.cut k c.args.from c.args.to c.taken_few.result c.index-pieces-number.result c.locate-number.ensures
    c.requires.forward read c.taken_few.ensures
