-- Puts into a sink one after another, where `gives` says what a put answers and leaves.
use Rattle.std.specs.Prelude.{ℕ, ◌+◌, List, length, drop, Result, Ok, Err}
use Rattle.rbbi_io.specs.declared.error.WriteErr.{WriteErr}

-- so many of the bytes were put between two moments, by puts of the rest, of which none was refused
pub data ArePut {S : Type 0} (gives : S → List ℕ → Result ℕ WriteErr → S → Type 0) (bytes : List ℕ) (before : S) : ℕ → S → Type 0 where
  NoPut : ArePut gives bytes before 0 before
  OneMore : (at n : ℕ) (between now : S) → ArePut gives bytes before at between → gives between (drop at bytes) (Ok n) now →
      ArePut gives bytes before (at + n) now

-- all bytes were put, or those before a put that was refused, which was the last one
abbrev pub EndsAtRefusal : {S T : Type 0} → (S → List ℕ → Result ℕ WriteErr → S → Type 0) → List ℕ → S → Result T WriteErr → S → Type 0
EndsAtRefusal gives bytes before (Ok _) now = ArePut gives bytes before (length bytes) now
EndsAtRefusal {S} gives bytes before (Err error) now =
    (at : ℕ) × (between : S) × ArePut gives bytes before at between × gives between (drop at bytes) (Err error) now
