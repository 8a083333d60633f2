-- What reads and writes of files in memory leave, in the words of files.
use Rattle.std.proofs.Common.{◌≡◌, ◌≢◌, ◌<◌, ◌≤◌, ◌++◌, ℕ, List, [], ◌∷◌, Result, Ok, Err, arith, ap, refl, sym, subst, ◌∙◌, ⊎_elim, inl, inr}
use Rattle.std.specs.Prelude.{count_by, bytes_eq}
use Rattle.std.proofs.lemmas.Bool.{cases_lt}
use Rattle.rbbi_io.specs.declared.error.ReadErr.{ReadErr}
use Rattle.rbbi_io.specs.declared.error.ReadErr.TheVariants as read
use Rattle.rbbi_io.specs.declared.error.WriteErr.{WriteErr}
use Rattle.rbbi_io.specs.declared.error.WriteErr.TheVariants as write
use Rattle.rbbi_io.specs.Counts.{Rose, EachStays, capped, greatest_count}
use Rattle.rbbi_io.specs.Answers.{LeavesWritten}
use Rattle.rbbi_io.specs.Memory.{FilesInMemory, ReadsMemory, WritesMemory, count_of, reads_failed, writes_failed, held_by}
use Rattle.rbbi_io.proofs.FailedCalls.{failed_again, failed_other}
use Rattle.rbbi_io.proofs.NamedFiles.{held_by-with_file, held_by-with_other}

-- one more is a rise, also where the count stops
rises : (failed : List (List ℕ)) (name : List ℕ) → Rose (count_of failed name) (count_of (failed ++ name ∷ []) name)
rises failed name =
    let before : ℕ = count_by (λ other. bytes_eq other name) failed in
    ⊎_elim
    (λ (h : before < greatest_count). inl (omega (arith, h, failed_again failed name)))
    (λ (h : greatest_count ≤ before). inr (omega (arith, h, failed_again failed name)))
    (cases_lt before greatest_count)

module _ (old new : FilesInMemory) (name : List ℕ) where
  -- a read that failed is counted
  pub ReadsMemory-failed : (limit : ℕ) (result : Result (List ℕ) ReadErr) → ReadsMemory old name limit result new → result ≡ Err read.Failed →
      Rose (reads_failed old name) (reads_failed new name)
  ReadsMemory-failed limit (Err read.Failed) h e =
      subst (λ m. Rose (reads_failed old name) (reads_failed m name)) (sym h.1) (rises old.failed_reads name)
  ReadsMemory-failed limit result h e = cc

  -- no other name's count changes by a read
  pub ReadsMemory-others : (limit : ℕ) (result : Result (List ℕ) ReadErr) → ReadsMemory old name limit result new → (other : List ℕ) → other ≢ name →
      reads_failed new other ≡ reads_failed old other
  ReadsMemory-others limit (Ok bytes) h other ne = ap (λ m. reads_failed m other) h.3
  ReadsMemory-others limit (Err read.Failed) h other ne =
      ap (λ m. reads_failed m other) h.1 ∙ ap capped (failed_other old.failed_reads name other ne)
  ReadsMemory-others limit (Err read.TooLong) h other ne = ap (λ m. reads_failed m other) h.2
  ReadsMemory-others limit (Err read.Memory) h other ne = ap (λ m. reads_failed m other) h

  -- no count changes by a read that didn't fail
  pub ReadsMemory-calm : (limit : ℕ) (result : Result (List ℕ) ReadErr) → ReadsMemory old name limit result new → ¬ (result ≡ Err read.Failed) →
      EachStays (reads_failed old) (reads_failed new)
  ReadsMemory-calm limit (Ok bytes) h calm = λ other. ap (λ m. reads_failed m other) h.3
  ReadsMemory-calm limit (Err read.Failed) h calm = absurd (calm refl)
  ReadsMemory-calm limit (Err read.TooLong) h calm = λ other. ap (λ m. reads_failed m other) h.2
  ReadsMemory-calm limit (Err read.Memory) h calm = λ other. ap (λ m. reads_failed m other) h

  -- a write that failed is counted
  pub WritesMemory-failed : {T : Type 0} (bytes : List ℕ) (result : Result T WriteErr) → WritesMemory old name bytes result new → result ≡ Err write.Failed →
      Rose (writes_failed old name) (writes_failed new name)
  WritesMemory-failed bytes (Err write.Failed) h e =
      subst (λ m. Rose (writes_failed old name) (writes_failed m name)) (sym h.1) (rises old.failed_writes name)
  WritesMemory-failed bytes result h e = cc

  -- no other name's count changes by a write
  pub WritesMemory-others : {T : Type 0} (bytes : List ℕ) (result : Result T WriteErr) → WritesMemory old name bytes result new → (other : List ℕ) →
      other ≢ name → writes_failed new other ≡ writes_failed old other
  WritesMemory-others bytes (Ok _) h other ne = ap (λ m. writes_failed m other) h.1
  WritesMemory-others bytes (Err write.Failed) h other ne =
      ap (λ m. writes_failed m other) h.1 ∙ ap capped (failed_other old.failed_writes name other ne)
  WritesMemory-others bytes (Err write.Memory) h other ne = ap (λ m. writes_failed m other) h

  -- what the names hold after a write
  pub WritesMemory-held : {T : Type 0} (bytes : List ℕ) (result : Result T WriteErr) → WritesMemory old name bytes result new →
      LeavesWritten name bytes result (held_by old.files) (held_by new.files)
  WritesMemory-held bytes (Ok _) h = (
    ap (λ m. held_by m.files name) h.1 ∙ held_by-with_file old.files name bytes,
    λ other ne. ap (λ m. held_by m.files other) h.1 ∙ held_by-with_other old.files name bytes other ne,
  )
  WritesMemory-held bytes (Err write.Failed) h = λ other ne. ap (λ m. held_by m.files other) h.1
  WritesMemory-held bytes (Err write.Memory) h = λ other. ap (λ m. held_by m.files other) h
