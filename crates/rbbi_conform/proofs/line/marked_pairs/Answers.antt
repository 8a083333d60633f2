use Rattle.std.proofs.Common.{[], ◌∷◌, ◌++◌, subst, sym, ap, ◌∙◌}
use Rattle.std.specs.Prelude.{chars, string_bytes}
use Rattle.std.proofs.lemmas.Str.{chars-nil}
use Rattle.rbbi_conform.proofs.Marking.{IsMarking, IsMarking-start, IsMarking-more, IsMarking-bad, IsMarking-end}
use Rattle.rbbi_conform.proofs.line.marked_pairs.Goals as goal

pub loop-point-init : goal.loop-point-init
loop-point-init c =
    let words = c.args.words.now in
    subst (λ t. IsMarking words t c.new-marks.result.items words) (sym (ap chars c.new-text.ensures.bytes ∙ chars-nil))
    (subst (λ m. IsMarking words [] m words) (sym c.new-marks.ensures.items) (IsMarking-start words))

pub returns-in_default-pair_of : goal.returns-in_default-pair_of
returns-in_default-pair_of c =
    IsMarking-bad c.args.words.now (chars (string_bytes c.loop-point.text)) c.loop-point.marks.items c.loop-point.rest.now c.in-Some.point.now
    c.in-Some.after.now c.loop-point.invariant c.in-Some.ensures
    c.in_default-pair_of.ensures

pub loop-point-preserved : goal.loop-point-preserved
loop-point-preserved c =
    let words = c.args.words.now in
    let left = c.in-Some-pair_of.next.now in
    let text = chars (string_bytes c.loop-point.text) ++ c.in-Some-pair_of.character ∷ [] in
    subst (λ t. IsMarking words t c.push.new.self.items left) (sym c.in_ok-push_character.ensures)
    (subst (λ m. IsMarking words text m left) (sym c.in_ok-push.ensures.items)
    (IsMarking-more words (chars (string_bytes c.loop-point.text)) c.loop-point.marks.items c.loop-point.rest.now c.in-Some.point.now
    c.in-Some.after.now c.in-Some-pair_of.character
    c.in-Some-pair_of.mark left c.loop-point.invariant c.in-Some.ensures c.in-Some-pair_of.ensures))

pub returns : goal.returns
returns c =
    IsMarking-end c.args.words.now (chars (string_bytes c.loop-point.text)) c.loop-point.marks.items c.loop-point.rest.now c.loop-point.invariant
    c.in_default.ensures
