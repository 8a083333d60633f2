use Rattle.std.proofs.Common.{◌+◌, ◌*◌, ◌<◌, length, sym, ap, ◌∙◌, subst, arith}
use Rattle.std.proofs.lemmas.Bool.{false≢true}
use Rattle.rbbi_bits.specs.NumberedRows.{listed_row}
use Rattle.rbbi_dfa.specs.inner.PositionRows.{PositionRows}
use Rattle.rbbi_dfa.specs.inner.LastWords.{AddsFollowers}
use Rattle.rbbi_bits.proofs.RowLists.{found_row}
use Rattle.rbbi_dfa.proofs.WordFollowers.{adds_none, adds_with, adds_without, adds_past}
use Rattle.rbbi_dfa.proofs.determinize.last_words.follow_word.Goals as goal
use Rattle.rbbi_dfa.proofs.determinize.last_words.follow_word.Goals.{then-position-len+then-is_set, else-position-len}
use Rattle.rbbi_dfa.proofs.determinize.last_words.follow_word.Goals.{else-position-len-via-then-position-len+else-is_set}
use Rattle.rbbi_dfa.proofs.determinize.last_words.follow_word.Goals.{else-position-len-via-else-position-len}

pub loop-bit-init : goal.loop-bit-init
loop-bit-init c = adds_none c.args.rows.now.follow c.args.i c.args.word c.args.next.now

pub overflow_mul-position : goal.overflow_mul-position
overflow_mul-position c = omega (arith, c.requires.within, c.rows.invariant.narrow, ap (λ (r : PositionRows). r.width) c.rows.view_is)

pub overflow_add-position : goal.overflow_add-position
overflow_add-position c = omega (arith, c.requires.within, c.rows.invariant.narrow, ap (λ (r : PositionRows). r.width) c.rows.view_is)

pub add_to-requires : goal.add_to-requires
add_to-requires c =
    let position = 64 * c.args.i + c.loop-bit.bit in
    let rows = c.rows.inside.follow.items in
    let short : position < length c.rows.inside.follow.items = omega (arith, c.if-position-len.true, c.len.ensures, c.rows.inside.follow.ok.0) in
    let at = found_row rows position c.index.result.now short c.index.ensures in
    let wide = c.rows.invariant.follow position short in
    omega (arith, wide, ap length at, ap (λ (r : PositionRows). r.width) c.rows.view_is, c.requires.wide, c.loop-bit.auto.next)

pub loop-bit-preserved : goal.loop-bit-preserved
loop-bit-preserved c =
    let follow = c.args.rows.now.follow in
    let i = c.args.i in
    let word = c.args.word in
    let bit = c.loop-bit.bit in
    let old = c.args.next.now in
    let position = 64 * i + bit in
    let here = c.loop-bit.invariant in
    let same = ap (λ (r : PositionRows). r.follow) c.rows.view_is in
    elim c.if-position-len.branch [
      | then-position-len+then-is_set w ↦
          let short : position < length c.rows.inside.follow.items = omega (arith, w.if-position-len.true, c.len.ensures, c.rows.inside.follow.ok.0) in
          let is = ap (λ l. listed_row l position) (sym same) ∙ found_row c.rows.inside.follow.items position w.index.result.now short w.index.ensures in
          subst (AddsFollowers follow i word (bit + 1) old) (sym w.next-is)
          (adds_with follow i word bit old c.loop-bit.next w.add_to.new.set w.index.result.now here (sym w.is_set.ensures ∙ w.if-is_set.true) is
          w.add_to.ensures)
      | else-position-len w ↦
          subst (AddsFollowers follow i word (bit + 1) old) (sym w.next-is)
          (elim w.else-position-len.branch [
            | else-position-len-via-then-position-len+else-is_set w' ↦ adds_without follow i word bit old c.loop-bit.next here
                (λ one. false≢true (sym w'.if-is_set.false ∙ w'.is_set.ensures ∙ one))
            | else-position-len-via-else-position-len w' ↦ adds_past follow i word bit old c.loop-bit.next here
                (omega (arith, w'.if-position-len.false, c.len.ensures, c.rows.inside.follow.ok.0, ap length same))
          ])
    ]
