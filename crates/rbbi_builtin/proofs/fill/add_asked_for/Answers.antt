-- A text has tokens, which are answered, or a fault and then none.
use Rattle.std.proofs.Common.{sym, ◌∙◌}
use Rattle.std.specs.Str.{chars}
use Rattle.rbbi_builtin.specs.Filling.{IsFilled}
use Rattle.rbbi_builtin.proofs.Filling.{IsFilled-by, IsFilled-faulty, no_tokens, on_ok}
use Rattle.rbbi_builtin.proofs.fill.add_asked_for.Goals as goal

pub returns-clause-filled : goal.returns-clause-filled
returns-clause-filled c =
    on_ok c.add_all.result _ (IsFilled (chars c.args.text.now) c.args.files.now c.add_all.new.files)
    (λ filled. IsFilled-by (chars c.args.text.now) c.in-Ok.tokens c.args.files.now c.add_all.new.files c.in-Ok.ensures.exact c.add_all.ensures.behind filled)
    c.add_all.ensures.filled

pub returns-in-Some-clause-filled : goal.returns-in-Some-clause-filled
returns-in-Some-clause-filled c =
    IsFilled-faulty (chars c.args.text.now) c.args.files.now
    (no_tokens (chars c.args.text.now) c.in-Err.error c.in-Some.field-0 c.in-Err.ensures.exact (sym c.place.ensures ∙ c.in-Some.is))
