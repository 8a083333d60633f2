-- What holds of the answers of reading a test file, and of verdicts.
use Rattle.std.specs.Prelude.{◌≡◌, ◌≢◌, ℕ, List, Result, Err}
use Rattle.rbbi_model.specs.Boundaries.{Boundary}
use Rattle.rbbi_text.specs.declared.error.LinesErr.{LinesErr}
use Rattle.rbbi_text.specs.declared.error.LinesErr.TheVariants.{Memory}
use Rattle.rbbi_conform.specs.declared.verdict.Verdict.{Verdict}
use Rattle.rbbi_conform.specs.Tests.{Test}
use Rattle.rbbi_conform.specs.Files.{ReadsTests}
use Rattle.rbbi_conform.specs.Verdicts.{IsVerdict}

-- bytes have one answer but for `Memory`: they are the file of one list of tests, or they have one fault
abbrev pub HaveOneTestList : Type 0
HaveOneTestList =
    (bytes : List ℕ) (one other : Result (List Test) LinesErr) → ReadsTests bytes one → ReadsTests bytes other
    → one ≢ Err Memory → other ≢ Err Memory → one ≡ other

-- a test has one verdict by some boundaries
abbrev pub HasOneVerdict : List Boundary → Test → Type 0
HasOneVerdict boundaries test = (one other : Verdict) → IsVerdict boundaries test one → IsVerdict boundaries test other → one ≡ other
