-- Which calls a run makes on its files: the reads, and then a write.
use Rattle.std.proofs.Common.{◌≡◌, ◌≢◌, ◌⊎◌, ◌≤◌, ℕ, Option, None, List, length, sym, refl, ap, ◌∙◌, subst, inl, inr, ⊎_elim, arith}
use Rattle.std.specs.Prelude.{IfSome, Result, Ok, Err}
use Rattle.rbbi_io.specs.Sinks.{Takes}
use Rattle.rbbi_io.specs.declared.error.ReadErr.{ReadErr}
use Rattle.rbbi_io.specs.declared.error.WriteErr.{WriteErr}
use Rattle.rbbi_command.specs.declared.files.Source.{Source}
use Rattle.rbbi_command.specs.declared.refusal.Refusal.{Refusal}
use Rattle.rbbi_command.specs.declared.refusal.Refusal.TheVariants.{Usage, Unread, Fault, Memory}
use Rattle.rbbi_command.specs.Delivery.{MakesWrite}
use Rattle.rbbi_command.specs.Files.{limit_of, sources_of}
use Rattle.rbbi_command.specs.Inputs.{Inputs}
use Rattle.rbbi_command.specs.Reads.{AreReads, StopsReading}
use Rattle.rbbi_command.specs.Reads as made
use Rattle.rbbi_command.specs.Refusals.{Outcome, status_of, line_of}
use Rattle.rbbi_command.specs.Words.{Request, IsCommandLine, AreNoForm}
use Rattle.rbbi_command.proofs.Forms.{same_request}
use Rattle.rbbi_command.proofs.Reading.{stops_without}
use Rattle.rbbi_tool.specs.Calls.{CallsInOrder}
use Rattle.rbbi_tool.specs.Causes.{NamesToWrite}
use Rattle.rbbi_tool.specs.Program.{command_stage}
use Rattle.rbbi_tool.specs.inner.Calls.{ReadsTo, ReadsAsAsked}
use Rattle.rbbi_tool.specs.inner.Causes.{ComesTo, GivesOutcome}
use Rattle.rbbi_tool.specs.inner.Stages.{Meets}
use Rattle.rbbi_tool.proofs.Faults.{IsFault, command_fault}
use Rattle.rbbi_tool.proofs.Runs.{fault_low}

-- a fault of a file isn't a failed read
not_six : (r : Refusal) → IsFault r → status_of r ≢ 6
unfolding IsFault
not_six Usage is = absurd is
not_six (Unread name) is = absurd is
not_six (Fault subject label place) is = λ six. omega (arith, (fault_low subject).1, six)
not_six Memory is = absurd is

memory_not_six : status_of Memory ≢ 6
memory_not_six six = omega (arith, six)

module _ {S : Type 0} (reads : S → List ℕ → ℕ → Result (List ℕ) ReadErr → S → Type 0) where
  -- all files were read before a command that is answered
  pub reads_before : (sources : List Source) (before now : S) (request : Request) (inputs : Inputs) (result : Result Outcome Refusal)
      → AreReads reads sources before (length sources) now → Meets (λ outcome. outcome) (command_stage request.command request inputs) result
      → ReadsTo reads sources before result now
  reads_before sources before now request inputs (Ok outcome) are met = are
  reads_before sources before now request inputs (Err r) are met = inr (
    ⊎_elim (λ memory. subst (λ s. status_of s ≢ 6) (sym memory) memory_not_six)
        (λ refuses. not_six r (command_fault request.command request inputs r refuses)) met,
    are,
  )

  -- these are the files of the one request that the words ask for
  pub reads_asked : (words : List (List ℕ)) (here : Request) → IsCommandLine words here → (sources : List Source) → sources ≡ sources_of here
      → (before now : S) (result : Result Outcome Refusal) → ReadsTo reads sources before result now → ReadsAsAsked reads words before result now
  reads_asked words here asks sources is before now result are = record {
    unread = λ none. absurd (none here asks);
    reads = λ request asks'.
        subst (λ ss. ReadsTo reads ss before result now) (is ∙ ap sources_of (same_request words here request asks asks')) are;
  }

  -- memory ran out before any file was read
  pub asked_nothing : (words : List (List ℕ)) (before : S) → ReadsAsAsked {T = Outcome} reads words before (Err Memory) before
  asked_nothing words before = record {
    unread = λ none. refl;
    reads = λ request asks. inl (stops_without reads (sources_of request) before before 0 made.NoRead);
  }

  -- words of no form ask for no file
  pub asked_no_form : (words : List (List ℕ)) (before : S) → AreNoForm words → ReadsAsAsked {T = Outcome} reads words before (Err Usage) before
  asked_no_form words before none = record { unread = λ none. refl; reads = λ request asks. absurd (none request asks) }

  module _ (writes : S → List ℕ → List ℕ → Result (Unit {0}) WriteErr → S → Type 0) (words : List (List ℕ)) (sources : List Source) (start ran : S) where
    -- memory ran out before anything was written
    pub calls_cut : (taken : Option (List ℕ)) (result : Result Outcome Refusal) → ReadsTo reads sources start result ran
        → CallsInOrder reads writes words sources start ran 8 taken taken
    calls_cut taken (Ok outcome) are = record { made = length sources; between = ran; are_reads = are; ends = inl (refl, refl) }
    calls_cut taken (Err r) (inr (other, are)) = record { made = length sources; between = ran; are_reads = are; ends = inl (refl, refl) }
    calls_cut taken (Err r) (inl stops) =
        ⊎_elim
        (λ (same, memory). record { made = stops.made; between = stops.between; are_reads = stops.reads; ends = inl (same, refl) })
        (λ (source, is, refused). record {
          made = stops.made;
          between = stops.between;
          are_reads = stops.reads;
          ends = inr (inl (record {
            source = source;
            is = is;
            error = refused.error;
            refused = refused.answer;
            status_is = inr (inr refl);
            told = λ low. absurd (omega (arith, low));
          }));
        })
        stops.last

    module _ (end : S) (outcome : Outcome) (status : ℕ) (taken taken' : Option (List ℕ)) (named : IfSome outcome.file (λ f. NamesToWrite words f.name))
        (status_is : (status ≡ outcome.status) ⊎ ((status ≡ 7) ⊎ (status ≡ 8))) (takes : status ≤ 6 → Takes taken taken' outcome.bytes)
        (call : MakesWrite writes outcome.file ran end) where
      status_not_six : outcome.status ≢ 6 → status ≢ 6
      status_not_six other six =
          ⊎_elim (λ is. other (sym is ∙ six)) (λ late. ⊎_elim (λ seven. omega (arith, six, seven)) (λ eight. omega (arith, six, eight)) late) status_is

      -- all files were read
      all_read : AreReads reads sources start (length sources) ran → outcome.status ≢ 6
          → CallsInOrder reads writes words sources start end status taken taken'
      all_read are other = record {
        made = length sources;
        between = ran;
        are_reads = are;
        ends = inr (inr (refl, status_not_six other, record { file = outcome.file; named = named; call = call }));
      }

      -- what was read, and what is told of it
      pub calls_made : (contents : Option (List ℕ → List ℕ)) (before now : List ℕ → ℕ) (result : Result Outcome Refusal)
          → ReadsTo reads sources start result ran → ComesTo words contents before now result → GivesOutcome result outcome
          → CallsInOrder reads writes words sources start end status taken taken'
      calls_made contents before now (Ok output) are comes gives =
          all_read are (λ six. let low : output.status ≤ 1 = comes.0 in omega (arith, low, six, ap (λ o. o.status) gives))
      calls_made contents before now (Err r) (inr (other, are)) comes gives = all_read are (λ six. other (sym (ap (λ o. o.status) gives.1) ∙ six))
      calls_made contents before now (Err r) (inl stops) comes gives =
          ⊎_elim (λ (same, memory). absurd (gives.0 memory))
          (λ (source, is, refused).
          ⊎_elim (λ memory. absurd (gives.0 memory))
          (λ told. record {
            made = stops.made;
            between = stops.between;
            are_reads = stops.reads;
            ends = inr (inl (record {
              source = source;
              is = is;
              error = refused.error;
              refused = subst (λ f. reads stops.between source.name (limit_of source.role) (Err refused.error) f) (sym unwritten) refused.answer;
              status_is =
                  subst (λ r. (status ≡ status_of r) ⊎ ((status ≡ 7) ⊎ (status ≡ 8))) told
                  (subst (λ s. (status ≡ s) ⊎ ((status ≡ 7) ⊎ (status ≡ 8))) (ap (λ o. o.status) gives.1) status_is);
              told = λ low. subst (λ r. Takes taken taken' (line_of r)) told (subst (Takes taken taken') (ap (λ o. o.bytes) gives.1) (takes low));
            }));
          })
          refused.told)
          stops.last
        where
          unwritten : end ≡ ran
          unwritten = subst (λ f. MakesWrite writes f ran end) (ap (λ o. o.file) gives.1) call
