use Rattle.std.proofs.Common.{◌≡◌, ℕ, ◌-◌, ◌<◌, List, [], length, get_or, ap, ◌∙◌, arith}
use Rattle.std.proofs.lemmas.List.{get_or_read}
use Rattle.rbbi_text.proofs.CutLemmas.{filled_small}
use Rattle.rbbi_text.proofs.MilestoneLemmas.{starts_long, end_small, whole_index, inside_index}
use Rattle.rbbi_text.proofs.pieces.index_in.Goals as goal

pub bounds-starts-last : goal.bounds-starts-last
bounds-starts-last c =
    omega (arith, starts_long c.args.unit c.args.pieces.now c.args.starts.now c.requires.cut, c.requires.cut.whole.some, c.find-front.ensures.within)

pub overflow_cast-result : goal.overflow_cast-result
overflow_cast-result c =
    let ps : List (List ℕ) = c.args.pieces.now in
    let k : ℕ = c.find-front.result.count - 1 in
    let within : k < length ps = omega (arith, c.requires.cut.whole.some, c.find-front.ensures.within) in
    let read : c.index-pieces-last.result ≡ get_or ps k [] = get_or_read ps k c.index-pieces-last.result within c.index-pieces-last.is [] in
    omega (arith, c.len.ensures, ap length read, filled_small ps k c.requires.cut.whole.filled)

pub overflow_add-result : goal.overflow_add-result
overflow_add-result c =
    let ps : List (List ℕ) = c.args.pieces.now in
    let k : ℕ = c.find-front.result.count - 1 in
    let within : k < length ps = omega (arith, c.requires.cut.whole.some, c.find-front.ensures.within) in
    let read : c.index-pieces-last.result ≡ get_or ps k [] = get_or_read ps k c.index-pieces-last.result within c.index-pieces-last.is [] in
    omega (arith, c.len.ensures, ap length read, end_small c.args.unit ps c.args.starts.now c.requires.cut k within)

pub returns-then-front-pieces : goal.returns-then-front-pieces
returns-then-front-pieces c =
    let ps : List (List ℕ) = c.args.pieces.now in
    let k : ℕ = c.find-front.result.count - 1 in
    let within : k < length ps = omega (arith, c.requires.cut.whole.some, c.find-front.ensures.within) in
    let read : c.index-pieces-last.result ≡ get_or ps k [] = get_or_read ps k c.index-pieces-last.result within c.index-pieces-last.is [] in
    whole_index c.args.unit ps c.args.starts.now c.requires.cut c.args.o c.find-front.result.count c.find-front.result.units c.len.result c.find-front.ensures
    c.if-front-pieces.true (c.len.ensures ∙ ap length read)

pub bounds-starts-front : goal.bounds-starts-front
bounds-starts-front c =
    omega (arith, starts_long c.args.unit c.args.pieces.now c.args.starts.now c.requires.cut, c.find-front.ensures.within, c.if-front-pieces.false)

pub overflow_cast-result-2 : goal.overflow_cast-result-2
overflow_cast-result-2 c =
    let ps : List (List ℕ) = c.args.pieces.now in
    let k : ℕ = c.find-front.result.count in
    let within : k < length ps = omega (arith, c.find-front.ensures.within, c.if-front-pieces.false) in
    let read : c.index-pieces-front.result ≡ get_or ps k [] = get_or_read ps k c.index-pieces-front.result within c.index-pieces-front.is [] in
    omega (arith, c.fit-rest.ensures.within, ap length read, filled_small ps k c.requires.cut.whole.filled)

pub overflow_add-result-2 : goal.overflow_add-result-2
overflow_add-result-2 c =
    let ps : List (List ℕ) = c.args.pieces.now in
    let k : ℕ = c.find-front.result.count in
    let within : k < length ps = omega (arith, c.find-front.ensures.within, c.if-front-pieces.false) in
    let read : c.index-pieces-front.result ≡ get_or ps k [] = get_or_read ps k c.index-pieces-front.result within c.index-pieces-front.is [] in
    omega (arith, c.fit-rest.ensures.within, ap length read, end_small c.args.unit ps c.args.starts.now c.requires.cut k within)

pub returns : goal.returns
returns c =
    let ps : List (List ℕ) = c.args.pieces.now in
    let k : ℕ = c.find-front.result.count in
    let within : k < length ps = omega (arith, c.find-front.ensures.within, c.if-front-pieces.false) in
    let read : c.index-pieces-front.result ≡ get_or ps k [] = get_or_read ps k c.index-pieces-front.result within c.index-pieces-front.is [] in
    inside_index c.args.unit ps c.args.starts.now c.requires.cut c.args.o k c.find-front.result.units c.fit-rest.result.count c.fit-rest.result.units
    c.index-pieces-front.result c.find-front.ensures within read c.fit-rest.ensures
