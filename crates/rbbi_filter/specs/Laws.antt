-- What holds of the answers of reading abbreviations and pairs.
use Rattle.std.specs.Prelude.{◌≡◌, ◌≢◌, ℕ, List, Result, Err}
use Rattle.rbbi_text.specs.declared.error.LinesErr.{LinesErr}
use Rattle.rbbi_text.specs.declared.error.LinesErr.TheVariants.{Memory}

-- bytes have one answer, unless memory runs out
abbrev pub HaveOneAnswer : {A : Type 0} → (List ℕ → Result A LinesErr → Type 0) → Type 0
HaveOneAnswer {A} Reads =
    (bytes : List ℕ) (one other : Result A LinesErr) → Reads bytes one → Reads bytes other → one ≢ Err Memory → other ≢ Err Memory → one ≡ other
