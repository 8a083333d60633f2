use Rattle.std.proofs.Common.{◌+◌, ap, vec_len, arith}
use Rattle.rbbi_tally.specs.declared.piece.Piece.{Piece}
use Rattle.rbbi_tally.proofs.PieceLists.{item_spot, start_spot, spot_item, next_in_piece, next_piece}
use Rattle.rbbi_tally.proofs.spot.next.Goals as goal

pub returns-then-spot-len-clause-spot : goal.returns-then-spot-len-clause-spot
returns-then-spot-len-clause-spot c =
    item_spot c.args.pieces.now c.args.spot.piece (c.args.spot.item + 1) c.index-pieces-spot.result c.requires.short c.index-pieces-spot.is
    (omega (arith, ap (λ (q : Piece). vec_len q.items) c.index-pieces-spot.is))

pub returns-then-spot-len-clause-rest : goal.returns-then-spot-len-clause-rest
returns-then-spot-len-clause-rest c = next_in_piece c.args.pieces.now c.args.spot

pub returns-clause-spot : goal.returns-clause-spot
returns-clause-spot c = start_spot c.args.pieces.now (c.args.spot.piece + 1) (omega (arith, c.requires.short)) c.requires.pieces

pub returns-clause-rest : goal.returns-clause-rest
returns-clause-rest c =
    next_piece c.args.pieces.now c.args.spot c.index-pieces-spot.result c.requires.short c.index-pieces-spot.is
    (let within = spot_item c.args.pieces.now c.args.spot c.index-pieces-spot.result c.requires.spot c.requires.short c.index-pieces-spot.is in
    omega (arith, ap (λ (q : Piece). vec_len q.items) c.index-pieces-spot.is))
