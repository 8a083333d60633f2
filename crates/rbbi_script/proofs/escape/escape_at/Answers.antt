use Rattle.std.proofs.Common.{List, ℕ, Option, Some, None, MatchOption, arith}
use Rattle.rbbi_script.specs.inner.Readings.{IsNoEscape, IsNoNumberEscape, IsOnlyEscape}
use Rattle.rbbi_script.proofs.Words.{letter, line_feed, carriage_return, tab, backslash, no_escape}
use Rattle.rbbi_script.proofs.escape.escape_at.Goals as goal

pub returns-in-Some : goal.returns-in-Some
returns-in-Some c = letter 110 10 c.args.text.now c.in-Some.rest.now (λ k. omega arith) line_feed c.in-Some.ensures

pub returns-in-Some-after : goal.returns-in-Some-after
returns-in-Some-after c = letter 114 13 c.args.text.now c.in-Some-after.rest.now (λ k. omega arith) carriage_return c.in-Some-after.ensures

pub returns-in-Some-after-2 : goal.returns-in-Some-after-2
returns-in-Some-after-2 c = letter 116 9 c.args.text.now c.in-Some-after-2.rest.now (λ k. omega arith) tab c.in-Some-after-2.ensures

pub returns-in-Some-after-3 : goal.returns-in-Some-after-3
returns-in-Some-after-3 c = letter 92 92 c.args.text.now c.in-Some-after-3.rest.now (λ k. omega arith) backslash c.in-Some-after-3.ensures

numbers_alone : {A : Type 0} (text : List ℕ) (is : A → Type 0) (found : Option A) → (IsNoNumberEscape text → IsNoEscape text) →
    MatchOption found (IsNoNumberEscape text) is → MatchOption found (IsNoEscape text) is
numbers_alone text is None none h = none h
numbers_alone text is (Some e) none h = h

pub returns : goal.returns
returns c =
    numbers_alone c.args.text.now (λ e. IsOnlyEscape c.args.text.now e.0 e.1.now) c.numbered.result
    (no_escape c.args.text.now c.in_default.ensures c.in_default-after.ensures c.in_default-after-2.ensures c.in_default-after-3.ensures)
    c.numbered.ensures
