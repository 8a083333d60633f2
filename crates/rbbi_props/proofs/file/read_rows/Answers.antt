use Rattle.std.proofs.Common.{◌∷◌, [], length-append, refl, ap, sym, subst, ◌∙◌, arith}
use Rattle.std.specs.Str.Lines.{lines}
use Rattle.std.proofs.lemmas.Result.{err_from_is_err_and}
use Rattle.rbbi_text.proofs.Lines.{IsLineAt, length-lines, line_told, all_told}
use Rattle.rbbi_props.proofs.Reading.{IsReading-none, IsReading-more, IsReading-all, IsLineCause-from_line}
use Rattle.rbbi_props.proofs.file.read_rows.Goals as goal

pub loop-line-init : goal.loop-line-init
loop-line-init c = (refl, IsReading-none (lines c.args.text.now) c.new-rows.result.items c.new-rows.ensures.items)

pub overflow_add-number : goal.overflow_add-number
overflow_add-number c =
    let here = line_told _ _ _ _ (ap (λ s. s.rest.now) c.into_iter-line-iterator.ensures.into_iter_gives ∙ c.lines-line-items.ensures.rest)
    c.loop-line.yielded_by c.in-Some.is c.next.ensures.steps c.loop-line.invariant.0 in
    omega (arith, here.within, length-lines c.args.text.now)

pub loop-line-preserved : goal.loop-line-preserved
loop-line-preserved c =
    let here = line_told _ _ _ _ (ap (λ s. s.rest.now) c.into_iter-line-iterator.ensures.into_iter_gives ∙ c.lines-line-items.ensures.rest)
    c.loop-line.yielded_by c.in-Some.is c.next.ensures.steps c.loop-line.invariant.0 in (
      omega (arith, c.loop-line.invariant.0, length-append c.loop-line.yielded (c.in-Some.line ∷ [])),
      IsReading-more (lines c.args.text.now) c.loop-line.rows.items c.read_line.new.rows.items c.loop-line.number c.as_bytes.result.now
          c.loop-line.invariant.1 (subst (IsLineAt (lines c.args.text.now) c.loop-line.number) (sym c.as_bytes.ensures.value) here)
          c.in_ok-read_line.ensures.row c.in_ok-read_line.ensures.good,
    )

pub returns-in_err-read_line-clause-cause : goal.returns-in_err-read_line-clause-cause
returns-in_err-read_line-clause-cause c =
    let here = line_told _ _ _ _ (ap (λ s. s.rest.now) c.into_iter-line-iterator.ensures.into_iter_gives ∙ c.lines-line-items.ensures.rest)
    c.loop-line.yielded_by c.in-Some.is c.next.ensures.steps c.loop-line.invariant.0 in
    let told = err_from_is_err_and c.from_residual.result c.from_residual.ensures.1 in
    rw (told.1, told.2)
    (IsLineCause-from_line (lines c.args.text.now) c.loop-line.rows.items c.loop-line.number c.as_bytes.result.now c.in_err-read_line.field-0.0
    c.loop-line.invariant.1 (subst (IsLineAt (lines c.args.text.now) c.loop-line.number) (sym c.as_bytes.ensures.value) here)
    c.in_err-read_line.ensures.cause)

pub returns-clause-rows : goal.returns-clause-rows
returns-clause-rows c =
    (IsReading-all (lines c.args.text.now) c.loop-line.rows.items c.loop-line.number c.loop-line.invariant.1
    (all_told _ _ _ _ (ap (λ s. s.rest.now) c.into_iter-line-iterator.ensures.into_iter_gives ∙ c.lines-line-items.ensures.rest)
    c.loop-line.yielded_by c.in-None.is c.next.ensures.steps c.loop-line.invariant.0)).0

pub returns-clause-alone : goal.returns-clause-alone
returns-clause-alone c =
    (IsReading-all (lines c.args.text.now) c.loop-line.rows.items c.loop-line.number c.loop-line.invariant.1
    (all_told _ _ _ _ (ap (λ s. s.rest.now) c.into_iter-line-iterator.ensures.into_iter_gives ∙ c.lines-line-items.ensures.rest)
    c.loop-line.yielded_by c.in-None.is c.next.ensures.steps c.loop-line.invariant.0)).1
