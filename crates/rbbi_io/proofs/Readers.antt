-- What readers lost, over several reads, and what a read of all answers.
use Rattle.std.proofs.Common.{◌≢◌, ◌≤◌, ◌+◌, ◌-◌, ℕ, List, ◌++◌, length, take, Option, Some, None, IfSome, IsSomeAnd, Err}
use Rattle.std.proofs.Common.{refl, sym, ◌∙◌, arith, inr, length-append, length-take-le}
use Rattle.std.specs.declared.io.Error.{Error}
use Rattle.std.specs.Io.KnownBytes.{Consumes, Keeps}
use Rattle.std.proofs.KnownBytes.{Consumes-trans}
use Rattle.rbbi_io.specs.Answers.{AnswersRead, IsToldAs, KeepsFault}
use Rattle.rbbi_io.specs.Readers.{TakesAtMost}
use Rattle.rbbi_io.specs.declared.error.ReadErr.{ReadErr}
use Rattle.rbbi_io.specs.declared.error.ReadErr.TheVariants as read

-- bytes that were lost after a time in which none were
pub Consumes-late : (before between now : Option (List ℕ)) (bytes : List ℕ) → Keeps before between → Consumes between now bytes → Consumes before now bytes
Consumes-late None between now bytes kept taken = tt
Consumes-late (Some x) None now bytes kept taken = absurd kept
Consumes-late (Some x) (Some y) None bytes kept taken = absurd taken
Consumes-late (Some x) (Some y) (Some z) bytes kept taken = sym kept ∙ taken

-- one more block, of at most one byte more than is left up to the limit
pub TakesAtMost-more : (before between now : Option (List ℕ)) (bytes block : List ℕ) (count limit : ℕ) → length bytes ≤ limit →
    count ≤ (limit - length bytes) + 1 → count ≤ length block → Consumes before between bytes → Consumes between now (take count block) →
    TakesAtMost before now (limit + 1)
TakesAtMost-more before between now bytes block count limit few most within first second = (
  bytes ++ take count block,
  Consumes-trans before between now bytes (take count block) first second,
  omega (arith, length-append bytes (take count block), length-take-le count block within),
)

-- a refusal for another reason than the length says nothing of the bytes
pub AnswersRead-refused : (before : Option (List ℕ)) (limit : ℕ) (refusal : ReadErr) → refusal ≢ read.TooLong →
    IfSome before (λ held. AnswersRead held limit (Err refusal))
AnswersRead-refused None limit refusal other = tt
AnswersRead-refused (Some held) limit read.TooLong other = absurd (other refl)
AnswersRead-refused (Some held) limit refusal other = tt

-- a fault of the system is no refusal for the length
pub told_not_long : (fault : Option Error) (refusal : ReadErr) → IsSomeAnd fault (λ f. IsToldAs f refusal) → refusal ≢ read.TooLong
told_not_long None refusal told e = told
told_not_long (Some fault) read.Failed told e = cc
told_not_long (Some fault) read.TooLong told e = told
told_not_long (Some fault) read.Memory told e = cc

-- the fault that a read was refused for is kept
pub KeepsFault-refused : (before now : Option Error) (refusal : ReadErr) → IsSomeAnd now (λ f. IsToldAs f refusal) →
    KeepsFault before (Err refusal) now
KeepsFault-refused before now read.Failed told = told
KeepsFault-refused before None read.TooLong told = absurd told
KeepsFault-refused before (Some fault) read.TooLong told = absurd told
KeepsFault-refused before now read.Memory told = inr told
