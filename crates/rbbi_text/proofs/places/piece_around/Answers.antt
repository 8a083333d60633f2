use Rattle.std.proofs.Common.{◌≡◌, [], get_or, sym, subst, ◌∙◌, arith}
use Rattle.std.proofs.lemmas.List.{get_or_read}
use Rattle.rbbi_model.specs.Spelling.{joined}
use Rattle.rbbi_text.specs.Excerpts.{IsExcerptOf}
use Rattle.rbbi_text.specs.Texts.{IsShortText}
use Rattle.rbbi_text.proofs.CutLemmas.{piece_excerpt, piece_text}
use Rattle.rbbi_text.proofs.places.piece_around.Goals as goal
use Rattle.rbbi_text.proofs.places.piece_around.Goals.{After-as_slice}

-- the characters at hand are those of the piece
is_piece : (c : After-as_slice) → c.as_slice.result.now ≡ get_or c.args.pieces.now c.locate-number.result []
is_piece c =
    c.as_slice.ensures
    ∙ get_or_read c.args.pieces.now c.locate-number.result c.index-pieces-number.result c.locate-number.ensures.within c.index-pieces-number.is []

of_text : (c : After-as_slice) → IsExcerptOf (joined c.args.pieces.now)
    (record { from = get_or c.args.starts.now c.locate-number.result 0; items = c.as_slice.result.now })
of_text c =
    piece_excerpt c.args.pieces.now c.args.starts.now c.locate-number.result c.args.place c.as_slice.result.now c.requires.cut c.locate-number.ensures
    (is_piece c)

pub returns : goal.returns
returns c = of_text (goal.at.returns c).After-as_slice

pub invariant_of-result : goal.invariant_of-result
invariant_of-result c = (
  subst IsShortText (sym (is_piece (goal.at.invariant_of-result c).After-as_slice))
      (piece_text c.args.pieces.now c.locate-number.result c.requires.cut.whole c.locate-number.ensures.within),
  omega (arith, (of_text (goal.at.invariant_of-result c).After-as_slice).within, c.requires.cut.whole.text.1),
)
