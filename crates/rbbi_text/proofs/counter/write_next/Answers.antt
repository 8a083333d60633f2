use Rattle.std.proofs.Common.{◌++◌, ap, ◌∙◌, subst, sym, drop, ◌≡◌, arith}
use Rattle.std.specs.Fmt.{decimal}
use Rattle.std.proofs.lemmas.Fmt.{length-decimal-le}
use Rattle.std.proofs.lemmas.List.{append-nil, drop_all}
use Rattle.rbbi_text.proofs.Digits.{counted_four}
use Rattle.rbbi_text.proofs.counter.write_next.Goals as goal

pub returns-then-new-old : goal.returns-then-new-old
returns-then-new-old c = record {
  start = omega arith;
  digits = subst (λ ds. drop c.args.start ds ≡ decimal c.args.new) (sym c.write_four.ensures)
      (counted_four c.args.digits.now c.args.start c.args.old c.args.new (omega arith) c.requires.start c.requires.digits (omega arith) c.requires.forward
      (omega arith) (omega arith));
}

pub write_digits-requires : goal.write_digits-requires
write_digits-requires c = (length-decimal-le 10 c.args.new (omega arith) (omega arith) (omega arith), omega arith)

pub returns : goal.returns
returns c = record {
  start = omega arith;
  digits = c.write_digits.ensures.written ∙ ap (λ xs. decimal c.args.new ++ xs) (drop_all 10 c.args.digits.now (omega arith)) ∙ append-nil (decimal c.args.new);
}
