use Rattle.std.proofs.Common.{[], ◌∷◌, length-append, refl, ap, ◌∙◌, arith}
use Rattle.std.specs.Str.Lines.{lines}
use Rattle.std.proofs.lemmas.Result.{err_from_is_err_and}
use Rattle.rbbi_text.proofs.Lines.{length-lines, line_told, all_told}
use Rattle.rbbi_text.proofs.LineValues.{next_line, all_lines, refused_line}
use Rattle.rbbi_text.proofs.line_values.text_values.Goals as goal

pub loop-line-init : goal.loop-line-init
loop-line-init g c = (refl, c.new.ensures.items)

pub overflow_add-number : goal.overflow_add-number
overflow_add-number g c =
    let at = line_told _ _ _ _ (ap (λ s. s.rest.now) c.into_iter-line-iterator.ensures.into_iter_gives ∙ c.lines-line-items.ensures.rest)
    c.loop-line.yielded_by c.in-Some.is c.next.ensures.steps c.loop-line.invariant.0 in
    omega (arith, at.within, length-lines c.args.text.now)

pub loop-line-preserved : goal.loop-line-preserved
loop-line-preserved g c = (
  omega (arith, c.loop-line.invariant.0, length-append c.loop-line.yielded (c.in-Some.line ∷ [])),
  next_line g.V.LineValue.IsLine (lines c.args.text.now) c.loop-line.number c.in-Some.line.now c.loop-line.values c.read_line.new.values
      c.loop-line.invariant.1
      (line_told _ _ _ _ (ap (λ s. s.rest.now) c.into_iter-line-iterator.ensures.into_iter_gives ∙ c.lines-line-items.ensures.rest)
      c.loop-line.yielded_by c.in-Some.is c.next.ensures.steps c.loop-line.invariant.0)
      c.in_ok-read_line.ensures,
)

pub returns-in_err-read_line : goal.returns-in_err-read_line
returns-in_err-read_line g c =
    let told = err_from_is_err_and c.from_residual.result c.from_residual.ensures.1 in
    rw (told.1, told.2)
    (refused_line g.V.LineValue.IsLine (lines c.args.text.now) c.loop-line.number c.in-Some.line.now c.loop-line.values c.in_err-read_line.field-0.0
    c.loop-line.invariant.1
    (line_told _ _ _ _ (ap (λ s. s.rest.now) c.into_iter-line-iterator.ensures.into_iter_gives ∙ c.lines-line-items.ensures.rest)
    c.loop-line.yielded_by c.in-Some.is c.next.ensures.steps c.loop-line.invariant.0)
    c.in_err-read_line.ensures)

pub returns : goal.returns
returns g c =
    all_lines g.V.LineValue.IsLine (lines c.args.text.now) c.loop-line.number c.loop-line.values c.loop-line.invariant.1
    (all_told _ _ _ _ (ap (λ s. s.rest.now) c.into_iter-line-iterator.ensures.into_iter_gives ∙ c.lines-line-items.ensures.rest)
    c.loop-line.yielded_by c.in-None.is c.next.ensures.steps c.loop-line.invariant.0)
