-- Bytes have one answer.
use Rattle.std.proofs.Common.{◌≡◌, ◌≢◌, ℕ, List, length, refl, ap, sym, ◌∙◌, subst, inl, inr, arith}
use Rattle.std.specs.Prelude.{Result, Ok, Err}
use Rattle.rbbi_model.specs.Tables.{Table}
use Rattle.rbbi_table.specs.declared.error.TableErr.{TableErr}
use Rattle.rbbi_table.specs.declared.error.TableErr.TheVariants as table
use Rattle.rbbi_table.specs.Answers.{MakesTable}
use Rattle.rbbi_file.specs.declared.error.FileErr.{FileErr}
use Rattle.rbbi_file.specs.declared.error.FileErr.TheVariants.{BadMagic, Short, Trailing, Part, Memory}
use Rattle.rbbi_file.specs.Lengths.{HasMagic, version_in, parts_end}
use Rattle.rbbi_file.specs.Answers.{ReadsTable, IsFirstBad, SpellBadParts}
use Rattle.rbbi_file.proofs.OneTable.{one_table}
use Rattle.rbbi_file.proofs.Ends.{has_magic, ends_there}
use Rattle.rbbi_file.proofs.WholeFiles.{length_valid, same_valid, spell_valid, not_bad}

-- parts have one first fault
one_fault : (parts : Table) (one other : TableErr) → MakesTable parts (Err one) → MakesTable parts (Err other)
    → one ≢ table.Memory → other ≢ table.Memory → one ≡ other
one_fault parts one table.Memory makes makes' known known' = absurd (known' refl)
one_fault parts table.Memory other makes makes' known known' = absurd (known refl)
one_fault parts table.BadRanges table.BadRanges makes makes' known known' = refl
one_fault parts table.BadRanges other makes makes' known known' = absurd (makes makes'.0)
one_fault parts one table.BadRanges makes makes' known known' = absurd (makes' makes.0)
one_fault parts table.BadLists table.BadLists makes makes' known known' = refl
one_fault parts table.BadLists other makes makes' known known' = absurd (makes.1 makes'.1)
one_fault parts one table.BadLists makes makes' known known' = absurd (makes'.1 makes.1)
one_fault parts table.BadRows table.BadRows makes makes' known known' = refl
one_fault parts table.BadRows other makes makes' known known' = absurd (makes.2 makes'.2)
one_fault parts one table.BadRows makes makes' known known' = absurd (makes'.2 makes.2)
one_fault parts table.BadFronts table.BadFronts makes makes' known known' = refl
one_fault parts table.BadFronts table.BadSafe makes makes' known known' = absurd (makes.3 makes'.3)
one_fault parts table.BadSafe table.BadFronts makes makes' known known' = absurd (makes'.3 makes.3)
one_fault parts table.BadSafe table.BadSafe makes makes' known known' = refl

one_first : (version : ℕ) (parts : Table) (one other : TableErr) → IsFirstBad version parts one → IsFirstBad version parts other → one ≡ other
one_first version parts one other (inl many) (inl many') = many.1 ∙ sym many'.1
one_first version parts one other (inl many) (inr bad) = absurd (many.0 bad.0)
one_first version parts one other (inr bad) (inl many) = absurd (many.0 bad.0)
one_first version parts one other (inr bad) (inr bad') = one_fault parts one other bad.1 bad'.1 bad.2 bad'.2

bad_magic : (bytes : List ℕ) (error : TableErr) → SpellBadParts bytes error → HasMagic bytes
bad_magic bytes error bad = bad.spelled.magic

bad_end : (bytes : List ℕ) (error : TableErr) → SpellBadParts bytes error → parts_end bytes ≡ length bytes
bad_end bytes error bad = ends_there bytes bad.parts bad.spelled

same_fault : (bytes : List ℕ) (one other : TableErr) → SpellBadParts bytes one → SpellBadParts bytes other → one ≡ other
same_fault bytes one other bad bad' =
    let same : bad'.parts ≡ bad.parts = one_table bytes bad'.parts bad.parts bad'.spelled bad.spelled in
    one_first (version_in bytes) bad.parts one other bad.bad (subst (λ t. IsFirstBad (version_in bytes) t other) same bad'.bad)

no_bad : (bytes : List ℕ) (t : Table) (error : TableErr) → ReadsTable bytes (Ok t) → SpellBadParts bytes error → ⊥
no_bad bytes t error reads bad = not_bad bytes bad.parts error bad.spelled bad.bad t reads.0 reads.1

-- bytes have one answer, but for running out of memory
pub one_answer_lem : (bytes : List ℕ) (one other : Result Table FileErr) → ReadsTable bytes one → ReadsTable bytes other
    → one ≢ Err Memory → other ≢ Err Memory → one ≡ other
one_answer_lem bytes one (Err Memory) reads reads' known known' = absurd (known' refl)
one_answer_lem bytes (Err Memory) other reads reads' known known' = absurd (known refl)
one_answer_lem bytes (Ok t) (Ok t') reads reads' known known' = ap Ok (same_valid bytes t t' (spell_valid bytes t reads.0 reads.1) reads'.0 reads'.1)
one_answer_lem bytes (Ok t) (Err BadMagic) reads reads' known known' = absurd (reads' (has_magic bytes t reads.1))
one_answer_lem bytes (Ok t) (Err (Short at')) reads reads' known known' = absurd (omega (arith, length_valid bytes t reads.0 reads.1, reads'.1))
one_answer_lem bytes (Ok t) (Err (Trailing at')) reads reads' known known' = absurd (omega (arith, length_valid bytes t reads.0 reads.1, reads'.1))
one_answer_lem bytes (Ok t) (Err (Part error')) reads reads' known known' = absurd (no_bad bytes t error' reads reads')
one_answer_lem bytes (Err BadMagic) (Ok t') reads reads' known known' = absurd (reads (has_magic bytes t' reads'.1))
one_answer_lem bytes (Err BadMagic) (Err BadMagic) reads reads' known known' = refl
one_answer_lem bytes (Err BadMagic) (Err (Part error')) reads reads' known known' = absurd (reads (bad_magic bytes error' reads'))
one_answer_lem bytes (Err BadMagic) (Err error') reads reads' known known' = absurd (reads reads'.0)
one_answer_lem bytes (Err (Part error)) (Err BadMagic) reads reads' known known' = absurd (reads' (bad_magic bytes error reads))
one_answer_lem bytes (Err error) (Err BadMagic) reads reads' known known' = absurd (reads' reads.0)
one_answer_lem bytes (Err (Short at)) (Ok t') reads reads' known known' = absurd (omega (arith, reads.1, length_valid bytes t' reads'.0 reads'.1))
one_answer_lem bytes (Err (Short at)) (Err (Short at')) reads reads' known known' = ap (λ (n : ℕ). Err (Short n)) (reads.2 ∙ sym reads'.2)
one_answer_lem bytes (Err (Short at)) (Err (Trailing at')) reads reads' known known' = absurd (omega (arith, reads.1, reads'.1))
one_answer_lem bytes (Err (Short at)) (Err (Part error')) reads reads' known known' = absurd (omega (arith, reads.1, bad_end bytes error' reads'))
one_answer_lem bytes (Err (Trailing at)) (Ok t') reads reads' known known' = absurd (omega (arith, reads.1, length_valid bytes t' reads'.0 reads'.1))
one_answer_lem bytes (Err (Trailing at)) (Err (Short at')) reads reads' known known' = absurd (omega (arith, reads.1, reads'.1))
one_answer_lem bytes (Err (Trailing at)) (Err (Trailing at')) reads reads' known known' = ap (λ (n : ℕ). Err (Trailing n)) (reads.2 ∙ sym reads'.2)
one_answer_lem bytes (Err (Trailing at)) (Err (Part error')) reads reads' known known' = absurd (omega (arith, reads.1, bad_end bytes error' reads'))
one_answer_lem bytes (Err (Part error)) (Ok t') reads reads' known known' = absurd (no_bad bytes t' error reads' reads)
one_answer_lem bytes (Err (Part error)) (Err (Short at')) reads reads' known known' = absurd (omega (arith, bad_end bytes error reads, reads'.1))
one_answer_lem bytes (Err (Part error)) (Err (Trailing at')) reads reads' known known' = absurd (omega (arith, bad_end bytes error reads, reads'.1))
one_answer_lem bytes (Err (Part error)) (Err (Part error')) reads reads' known known' =
    ap (λ (e : TableErr). Err (Part e)) (same_fault bytes error error' reads reads')
