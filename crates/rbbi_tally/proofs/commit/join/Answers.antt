use Rattle.std.proofs.Common.{◌≡◌, ◌+◌, ◌-◌, ◌<◌, ◌++◌, ◌∷◌, List, take, drop, set, sym, ap, ◌∙◌, subst, arith}
use Rattle.std.specs.List.{AllByRecursion}
use Rattle.rbbi_model.specs.Words.{most_characters}
use Rattle.rbbi_tally.specs.declared.kept.Kept.{Kept}
use Rattle.rbbi_tally.specs.declared.piece.Piece.{Piece}
use Rattle.rbbi_tally.specs.inner.Segments.{Segment}
use Rattle.rbbi_tally.specs.inner.Pieces.{segments_by, segments_in}
use Rattle.rbbi_tally.proofs.Joining.{AreNeighbours, neighbours, neighbours_order, neighbours_near, joined_contents, back_contents, back_pieces}
use Rattle.rbbi_tally.proofs.commit.join.Goals as goal
use Rattle.rbbi_tally.proofs.commit.join.Goals.{After-index_mut, After-insert_one}

at : (c : After-index_mut) →
    AreNeighbours c.args.pieces.now.items c.remove-piece.new.self.items (c.args.number - 1) c.index_mut.result.now c.remove-piece.result
at c =
    neighbours _ _ c.args.number _ _ (omega (arith, c.if-number-eq0.false)) (omega (arith, c.len.ensures, c.if-number-len.false))
    c.remove-piece.ensures.value c.remove-piece.ensures.items c.index_mut.ensures.value

-- the piece is put back
back : (c : After-insert_one) →
    c.insert_one.new.pieces.items ≡ take (c.args.number - 1 + 1) (set c.remove-piece.new.self.items (c.args.number - 1) c.append.new.self)
    ++ (c.remove-piece.result ∷ drop (c.args.number - 1 + 1) (set c.remove-piece.new.self.items (c.args.number - 1) c.append.new.self))
back c =
    let all : List Piece = set c.remove-piece.new.self.items (c.args.number - 1) c.append.new.self in
    let next : c.args.number ≡ c.args.number - 1 + 1 = omega (arith, c.if-number-eq0.false) in
    c.insert_one.ensures ∙ ap (λ n. take n all ++ (c.remove-piece.result ∷ drop n all)) next

pub append-requires-clause-behind : goal.append-requires-clause-behind
append-requires-clause-behind c =
    neighbours_order _ _ _ _ _ (at (goal.at.append-requires-clause-behind c).After-index_mut) c.requires.pieces c.requires.rise

pub append-requires-clause-near : goal.append-requires-clause-near
append-requires-clause-near c =
    subst (λ l. AllByRecursion (λ (s : Segment). s.at < c.index_mut.result.now.start + most_characters) (segments_by c.remove-piece.result.start l))
    (sym c.deref.ensures.value)
    (neighbours_near _ _ _ _ _ (at (goal.at.append-requires-clause-near c).After-index_mut) c.index_mut.result.now.start c.requires.small)

pub returns-then-not-append-clause-pieces : goal.returns-then-not-append-clause-pieces
returns-then-not-append-clause-pieces c =
    let here = goal.at.returns-then-not-append-clause-pieces c in
    back_pieces _ _ _ _ _ (at here.After-index_mut) _ c.append.new.self (back here.After-insert_one) c.if-not-append.ensures.is c.requires.pieces

pub returns-then-not-append-clause-same : goal.returns-then-not-append-clause-same
returns-then-not-append-clause-same c =
    let here = goal.at.returns-then-not-append-clause-same c in
    back_contents _ _ _ _ _ (at here.After-index_mut) _ c.append.new.self (back here.After-insert_one) c.if-not-append.ensures.segments

pub returns-else-not-append-clause-same : goal.returns-else-not-append-clause-same
returns-else-not-append-clause-same c =
    joined_contents _ _ _ _ _ (at (goal.at.returns-else-not-append-clause-same c).After-index_mut) c.append.new.self
    (c.if-not-append.ensures.segments
    ∙ ap (λ (l : List Kept). segments_in c.index_mut.result.now ++ segments_by c.remove-piece.result.start l) c.deref.ensures.value)
