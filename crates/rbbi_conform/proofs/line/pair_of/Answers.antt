use Rattle.std.proofs.Common.{◌≡◌, ℕ, Bool, true, false, List, length, ap, arith}
use Rattle.rbbi_conform.specs.Grammar.{IsMark}
use Rattle.rbbi_conform.proofs.line.pair_of.Goals as goal

mark_length : (word : List ℕ) (mark : Bool) → IsMark word mark → length word ≡ 2
mark_length word true is = ap length is
mark_length word false is = ap length is

pub returns : goal.returns
returns c =
    let two = mark_length c.in_ok-sign.sign.0.now c.in_ok-mark.mark c.in_ok-mark.ensures in
    let four = c.in_ok-character.ensures.1 in
    let parts = c.in_ok-sign.ensures.parts in record {
      sign = c.in_ok-sign.sign.0.now;
      words = c.in_ok-sign.ensures.words;
      is_point = c.in_ok-character.ensures.0;
      is_mark = c.in_ok-mark.ensures;
      parts = omega arith;
    }
