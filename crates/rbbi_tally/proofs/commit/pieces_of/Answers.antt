use Rattle.std.proofs.Common.{◌-◌, ◌∷◌, [], sym, subst, arith}
use Rattle.rbbi_model.proofs.Lists.{all_append}
use Rattle.rbbi_tally.specs.inner.Pieces.{IsPiece, ArePieces}
use Rattle.rbbi_tally.proofs.Copying.{rising_part, fit_part, piece_more}
use Rattle.rbbi_tally.proofs.commit.pieces_of.Goals as goal

pub copied-requires-clause-rise : goal.copied-requires-clause-rise
copied-requires-clause-rise c = rising_part (c.min-to.result - c.loop-from.from) c.loop-from.from c.args.items.now c.requires.rise

pub copied-requires-clause-small : goal.copied-requires-clause-small
copied-requires-clause-small c = fit_part c.args.start (c.min-to.result - c.loop-from.from) c.loop-from.from c.args.items.now c.requires.small

pub loop-from-preserved : goal.loop-from-preserved
loop-from-preserved c =
    let inv = c.loop-from.invariant in
    let p = c.in_ok-copied.field-0 in
    record {
      are_pieces = subst ArePieces (sym c.in_ok-push.ensures.items)
          (all_append IsPiece c.loop-from.pieces.items (p ∷ []) inv.are_pieces (c.in_ok-copied.ensures.0, tt));
      parts =
          piece_more c.loop-from.pieces.items c.push.new.self.items p c.args.start c.loop-from.from c.min-to.result c.args.items.now
          c.in_ok-push.ensures.items (omega (arith, c.min-to.ensures, c.loop-from-test.true)) c.in_ok-copied.ensures.1 inv.parts;
      within = omega (arith, c.min-to.ensures);
    }
