use Rattle.std.proofs.Common.{◌≡◌, [], ◌∷◌, ◌++◌, length, chars, arith, ap, sym, ◌∙◌, subst}
use Rattle.std.proofs.lemmas.List.{map-id}
use Rattle.std.proofs.lemmas.Iterator.{YieldsList-from_chars}
use Rattle.std.proofs.lemmas.Iterator.Consumers.{YieldsList-turn, YieldsList-end}
use Rattle.rbbi_model.specs.Spelling.{joined}
use Rattle.rbbi_model.specs.Words.{most_characters}
use Rattle.rbbi_text.specs.Cuts.{ArePieces}
use Rattle.rbbi_text.proofs.Characters.{IsText-chars}
use Rattle.rbbi_text.proofs.CutLemmas.{no_room, so_far_pieces}
use Rattle.rbbi_text.proofs.piece.pieces_of.Goals as goal

-- one more character is to come
pub returns-then-not-room : goal.returns-then-not-room
returns-then-not-room c =
    let t =
    YieldsList-turn (YieldsList-from_chars c.args.text.now c.utf8.text cc) c.loop-c.yielded _ c.loop-c.yielded_by _ _ c.in-Some.c c.in-Some.is
    c.next.ensures.steps in
    let full : length (joined c.loop-c.pieces.items ++ c.loop-c.latest.items) ≡ most_characters =
    no_room c.in_ok-room.room _ _ c.if-not-room.true c.in_ok-room.ensures in
    omega (arith, t.0, full, ap length c.loop-c.invariant.1)

-- the characters so far are all
pub returns : goal.returns
returns c =
    let t =
    YieldsList-end (YieldsList-from_chars c.args.text.now c.utf8.text cc) c.loop-c.yielded _ c.loop-c.yielded_by _ _ c.in-None.is c.next.ensures.steps in
    let all : joined c.loop-c.pieces.items ++ c.loop-c.latest.items ≡ chars c.args.text.now = c.loop-c.invariant.1 ∙ sym (map-id c.loop-c.yielded) ∙ t.0 in
    let made = so_far_pieces c.loop-c.pieces.items c.loop-c.latest.items (chars c.args.text.now) c.loop-c.invariant.0 all
    (IsText-chars c.args.text.now c.utf8.text) in
    let pushed : c.push-2.new.self.items ≡ c.loop-c.pieces.items ++ c.loop-c.latest.items ∷ [] =
    c.in_ok-push-2.ensures.items ∙ ap (λ p. c.loop-c.pieces.items ++ p ∷ []) c.of.ensures in
    (ap joined pushed ∙ made.1, subst ArePieces (sym pushed) made.0)
