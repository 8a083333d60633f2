use Rattle.std.proofs.Common.{◌≡◌, length, chars, rules, arith}
use Rattle.std.proofs.lemmas.Str.{chars_from_encodes}
use Rattle.rbbi_text.proofs.plain.check_edit.Goals as goal

pub returns-then-added-len : goal.returns-then-added-len
returns-then-added-len c =
    let counted : c.count-added.result ≡ length (chars c.args.insert.now) = search (rules, chars_from_encodes) in
    (c.if-at-remove.false, omega arith)

pub returns : goal.returns
returns c =
    let counted : c.count-added.result ≡ length (chars c.args.insert.now) = search (rules, chars_from_encodes) in
    (c.if-at-remove.false, omega arith, counted)
