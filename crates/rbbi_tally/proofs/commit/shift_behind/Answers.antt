use Rattle.std.proofs.Common.{◌<◌, length, map, drop, sym, ap, subst, ◌∙◌, arith, rules}
use Rattle.std.proofs.lemmas.List.{take-set-le, take_all, length-set}
use Rattle.rbbi_tally.specs.declared.piece.Piece.{Piece}
use Rattle.rbbi_tally.specs.inner.Segments.{moved}
use Rattle.rbbi_tally.specs.inner.Pieces.{contents, segments_in}
use Rattle.rbbi_tally.specs.inner.Editing.{CanShift}
use Rattle.rbbi_tally.proofs.Shifting.{shift_step, same_rest, can_shift}
use Rattle.rbbi_tally.proofs.PieceLists.{pieces_set}
use Rattle.rbbi_tally.proofs.commit.shift_behind.Goals as goal
use Rattle.rbbi_tally.proofs.commit.shift_behind.Goals.{After-index_mut}

can : (c : After-index_mut) → CanShift c.args.edit c.index_mut.result.now
can c =
    subst (CanShift c.args.edit) (sym c.index_mut.ensures.value)
    (can_shift c.args.edit c.loop-k.pieces.items c.args.pieces.now.items c.args.past c.loop-k.k c.index_mut.result.now c.loop-k.invariant.behind (omega arith)
    (omega (arith, c.loop-k-test.true)) c.requires.movable)

pub shift-requires-clause-behind : goal.shift-requires-clause-behind
shift-requires-clause-behind c = (can (goal.at.shift-requires-clause-behind c).After-index_mut).behind

pub shift-requires-clause-small : goal.shift-requires-clause-small
shift-requires-clause-small c = (can (goal.at.shift-requires-clause-small c).After-index_mut).small

pub loop-k-preserved : goal.loop-k-preserved
loop-k-preserved c =
    let inv = c.loop-k.invariant in
    let k = c.loop-k.k in
    let q = c.shift.new.self in
    let short : k < length c.loop-k.pieces.items = omega (arith, inv.len, c.loop-k-test.true) in
    record {
      are_pieces = pieces_set c.loop-k.pieces.items k q inv.are_pieces c.shift.ensures.is;
      len = length-set c.loop-k.pieces.items k q ∙ inv.len;
      room = search rules;
      before = take-set-le c.args.past c.loop-k.pieces.items k q (omega arith) ∙ inv.before;
      behind = same_rest c.loop-k.pieces.items c.args.pieces.now.items k q inv.behind;
      done = shift_step c.args.edit c.loop-k.pieces.items c.args.pieces.now.items c.args.past k c.index_mut.result.now q inv.behind inv.done (omega arith) short
          (omega (arith, c.loop-k-test.true))
          (c.shift.ensures.segments
          ∙ ap (λ (p : Piece). map (moved c.args.edit.removed c.args.edit.inserted) (segments_in p)) c.index_mut.ensures.value);
    }

pub returns-clause-behind : goal.returns-clause-behind
returns-clause-behind c =
    let inv = c.loop-k.invariant in
    let edit = c.args.edit in
    ap (λ l. contents (drop c.args.past l)) (sym (take_all c.loop-k.k c.loop-k.pieces.items (omega (arith, inv.len, c.loop-k-test.false)))) ∙ inv.done
    ∙ ap (λ l. map (moved edit.removed edit.inserted) (contents (drop c.args.past l)))
    (take_all c.loop-k.k c.args.pieces.now.items (omega (arith, c.loop-k-test.false)))
