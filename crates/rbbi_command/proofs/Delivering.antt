-- What the names hold after the file of an outcome was written, or wasn't.
use Rattle.std.proofs.Common.{◌≡◌, ◌≢◌, ◌⊎◌, ℕ, List, Option, None, Some, refl, sym, subst, inl, inr, ⊎_elim}
use Rattle.std.specs.Prelude.{IsErrOf, Result, Ok, Err, bytes_eq}
use Rattle.std.proofs.lemmas.Bool.{cases_Bool}
use Rattle.std.proofs.lemmas.Bool.Decides.{not_from_Decides}
use Rattle.std.proofs.lemmas.Slice.Eq.{bytes_eq-Decides}
use Rattle.rbbi_io.specs.declared.error.WriteErr.{WriteErr}
use Rattle.rbbi_io.specs.declared.error.WriteErr.TheVariants as write
use Rattle.rbbi_io.specs.Answers.{WhereTold, OthersHold}
use Rattle.rbbi_command.specs.Refusals.{Written}
use Rattle.rbbi_command.specs.Delivery.{HoldsFile}
use Rattle.rbbi_command.specs.inner.Delivery.{LeavesFile}
use Rattle.rbbi_command.specs.Delivery.{FileFailed, EachHoldsOrIsOutputFile}

-- two names are the same, or they differ
same_or_not : (a b : List ℕ) → (a ≡ b) ⊎ (a ≢ b)
same_or_not a b =
    ⊎_elim (λ is. inl ((bytes_eq-Decides a b).0 is)) (λ is. inr (not_from_Decides (bytes_eq a b) (bytes_eq-Decides a b) is)) (cases_Bool (bytes_eq a b))

module _ (writes writes' : List ℕ → ℕ) (held held' : List ℕ → List ℕ) where
  others_hold : (file : Written) → OthersHold file.name held held' → ((held' file.name ≡ file.bytes) ⊎ FileFailed (Some file) writes writes')
      → EachHoldsOrIsOutputFile (Some file) writes writes' held held'
  others_hold file others here name =
      ⊎_elim
      (λ same. inr (record {
        bytes = file.bytes;
        is = λ i. Some (record { name = same i; bytes = file.bytes });
        holds = subst (λ n. (held' n ≡ file.bytes) ⊎ FileFailed (Some (record { name = n; bytes = file.bytes })) writes writes') same here;
      }))
      (λ differ. inl (others name (λ same. differ (sym same))))
      (same_or_not file.name name)

  pub each_left : {T : Type 0} (file : Option Written) (result : Result T WriteErr) → LeavesFile file result held held'
      → (IsErrOf result write.Failed → FileFailed file writes writes') → EachHoldsOrIsOutputFile file writes writes' held held'
  each_left None result left failed = λ name. inl (left name)
  each_left (Some file) (Ok done) left failed = others_hold file left.1 (inl left.0)
  each_left (Some file) (Err write.Failed) left failed = others_hold file left (inr (failed refl))
  each_left (Some file) (Err write.Memory) left failed = λ name. inl (left name)

-- where the files tell what they hold
told_left : {T : Type 0} (before now : Option (List ℕ → List ℕ)) (writes writes' : List ℕ → ℕ) (file : Option Written) (result : Result T WriteErr)
    → WhereTold before now (LeavesFile file result) → (IsErrOf result write.Failed → FileFailed file writes writes')
    → WhereTold before now (EachHoldsOrIsOutputFile file writes writes')
told_left None now writes writes' file result told failed = tt
told_left (Some held) None writes writes' file result told failed = told
told_left (Some held) (Some held') writes writes' file result told failed = each_left writes writes' held held' file result told failed

pub each_left_told : {T : Type 0} (before now : Option (List ℕ → List ℕ)) (writes writes' : List ℕ → ℕ) (file same : Option Written)
    (result : Result T WriteErr)
    → file ≡ same → WhereTold before now (LeavesFile file result) → (IsErrOf result write.Failed → FileFailed file writes writes')
    → WhereTold before now (EachHoldsOrIsOutputFile same writes writes')
each_left_told before now writes writes' file same result is told failed =
    subst (λ f. WhereTold before now (EachHoldsOrIsOutputFile f writes writes')) is (told_left before now writes writes' file result told failed)

-- a file that was written holds its bytes
written_held : {T : Type 0} (before now : Option (List ℕ → List ℕ)) (file : Option Written) (done : T) → WhereTold before now (LeavesFile file (Ok done))
    → WhereTold before now (HoldsFile file)
written_held None now file done told = tt
written_held (Some held) None file done told = told
written_held (Some held) (Some held') None done told = told
written_held (Some held) (Some held') (Some file) done told = told

pub written_told : {T : Type 0} (before now : Option (List ℕ → List ℕ)) (file same : Option Written) (result : Result T WriteErr) (done : T)
    → file ≡ same → result ≡ Ok done → WhereTold before now (LeavesFile file result) → WhereTold before now (HoldsFile same)
written_told before now file same result done is written told =
    subst (λ f. WhereTold before now (HoldsFile f)) is
    (written_held before now file done (subst (λ r. WhereTold before now (LeavesFile file r)) written told))
