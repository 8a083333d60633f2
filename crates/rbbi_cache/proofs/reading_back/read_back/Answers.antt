use Rattle.std.proofs.Common.{◌-◌, ◌≤◌, sym, refl, ⊎_elim, arith}
use Rattle.rbbi_cache.proofs.ReadBack.{goes_on, fits_from, wide_is, are_back, is_back, walked_below}
use Rattle.rbbi_cache.proofs.reading_back.read_back.Goals as goal

pub returns-in_default-clause-near : goal.returns-in_default-clause-near
returns-in_default-clause-near g c =
    sym (goes_on c.args.table.now (g.T.Chars.characters c.args.text.now) (c.args.i - 1) c.args.i refl c.in_default.ensures.near
    c.anchor_before-near.result c.anchor_before-near.ensures.anchor)

pub returns-in_default-clause-back : goal.returns-in_default-clause-back
returns-in_default-clause-back g c =
    let more = c.in_default.ensures.near.more in
    is_back c.args.table.now (g.T.Chars.characters c.args.text.now) c.valid.ensures c.args.i c.anchor_before-near.result (c.args.i - 1 - 64) _
    (goes_on c.args.table.now (g.T.Chars.characters c.args.text.now) (c.args.i - 1) c.args.i refl c.in_default.ensures.near
    c.anchor_before-near.result c.anchor_before-near.ensures.anchor)
    (walked_below c.args.table.now (g.T.Chars.characters c.args.text.now) c.valid.ensures (c.args.i - 1 - 64) c.anchor_before-near.result (omega arith)
    c.anchor_before-near.ensures.anchor)

pub first_safe-first-requires-clause-fit : goal.first_safe-first-requires-clause-fit
first_safe-first-requires-clause-fit g c = λ k from to.
    let lies = c.in-Some.ensures.near in
    let before : c.in-Some.near ≤ (c.args.i - 1) = ⊎_elim (λ zero. omega arith) (λ two. omega arith) lies.far in
    fits_from c.args.table.now (g.T.Chars.characters c.args.text.now) (c.args.i - 1) c.max-from.result c.read_on.new.slots c.read_on.ensures.kept (omega arith)
    c.read_on.ensures.room (omega arith) k from (omega arith)

pub returns-clause-back : goal.returns-clause-back
returns-clause-back g c =
    let lies = c.in-Some.ensures.near in
    let before : c.in-Some.near ≤ (c.args.i - 1) = ⊎_elim (λ zero. omega arith) (λ two. omega arith) lies.far in
    are_back c.args.table.now (g.T.Chars.characters c.args.text.now) c.args.i c.in-Some.near _ c.max-from.result _ c.read_on.new.slots
    c.requires.some c.requires.within c.read_on.ensures.room refl lies c.read_on.ensures.kept
    (wide_is c.args.table.now (g.T.Chars.characters c.args.text.now) (c.args.i - 1) c.in-Some.near c.max-from.result c.read_on.new.slots
    (omega arith) c.read_on.ensures.room lies c.read_on.ensures.kept (omega arith) (omega arith) c.first_safe-first.result _ (omega arith)
    c.first_safe-first.ensures.from c.first_safe-first.ensures.to c.first_safe-first.ensures.safe)
    (omega arith) (omega arith) (omega arith) (omega arith)
