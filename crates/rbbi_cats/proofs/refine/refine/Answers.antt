use Rattle.std.proofs.Common.{◌≡◌, ◌/◌, ◌%◌, ◌<◌, length, get_or, ◌∙◌, arith}
use Rattle.rbbi_model.specs.Places.{has_bit}
use Rattle.rbbi_classes.specs.Classes.{word_at}
use Rattle.rbbi_cats.proofs.Numbering.{refined_more, paired-small, are_numbered, are_refined}
use Rattle.rbbi_cats.proofs.refine.refine.Goals as goal
use Rattle.rbbi_cats.proofs.refine.refine.Goals.{then-k-eq0, else-k-eq0}

pub loop-k-preserved : goal.loop-k-preserved
loop-k-preserved c =
    let k = c.loop-k.k in
    let h = c.loop-k.invariant.refined in
    let word : c.if-k-eq0.word ≡ word_at c.args.row.now (k / 64) = elim c.if-k-eq0.branch [
      | then-k-eq0 w ↦ w.word-is ∙ w.word-word.ensures
      | else-k-eq0 w ↦ w.word-is ∙ h.word_is w.if-k-eq0.false
    ] in
    let inside : c.pair_of-pair.result < length c.loop-k.numbers = omega (
      arith,
      c.pair_of-pair.ensures,
      paired-small (get_or c.loop-k.categories k 0) (has_bit c.if-k-eq0.word (k % 64)),
      h.rest k (omega arith),
      c.requires.numbered.within k c.loop-k-test.true,
      c.loop-k.invariant.many,
    ) in
    record {
      refined = refined_more c.number-greatest.new.numbers c.number-greatest.result c.if-k-eq0.word c.pair_of-pair.result h word c.pair_of-pair.ensures inside
          (omega arith) c.number-greatest.ensures;
      many = omega arith;
    }

pub returns : goal.returns
returns c =
    let k = c.loop-k.k in
    let all : k ≡ length c.args.categories.now = omega arith in
    let long = c.loop-k.auto.categories in
    let h = c.loop-k.invariant.refined in
    record {
      numbered = are_numbered c.args.row.now c.args.categories.now c.loop-k.categories c.loop-k.numbers c.loop-k.greatest c.loop-k.word k all long h;
      refines = are_refined c.args.row.now c.args.categories.now c.loop-k.categories c.loop-k.numbers c.loop-k.greatest c.loop-k.word k all long h;
    }
