-- What a run comes to, what is told of it, and what the sink takes.
use Rattle.std.proofs.Common.{◌≡◌, ◌≢◌, ◌⊎◌, ◌≤◌, ◌<◌, ℕ, Option, Some, None, List, [], take, sym, refl, ap, ◌∙◌, subst, inl, inr, ⊎_elim, arith}
use Rattle.std.specs.Prelude.{IfSome, OnSome, Result, Ok, Err}
use Rattle.std.proofs.lemmas.Bool.{cases_lt}
use Rattle.rbbi_io.specs.Counts.{Rose, EachStays}
use Rattle.rbbi_io.specs.Answers.{WhereTold}
use Rattle.rbbi_io.specs.Sinks.{Takes, TakesFront}
use Rattle.rbbi_command.specs.declared.files.Source.{Source}
use Rattle.rbbi_command.specs.declared.refusal.Subject.{Subject}
use Rattle.rbbi_command.specs.declared.refusal.Subject.TheVariants.{Rules, OtherRules, Table, File}
use Rattle.rbbi_command.specs.declared.refusal.Refusal.{Refusal}
use Rattle.rbbi_command.specs.declared.refusal.Refusal.TheVariants.{Usage, Unread, Fault, Memory}
use Rattle.rbbi_tool.specs.inner.Stages.{Meets}
use Rattle.rbbi_command.specs.Refusals.{Outcome, Written, status_of_subject}
use Rattle.rbbi_model.specs.Lines.{usage_line}
use Rattle.rbbi_command.specs.Words.{Request, IsCommandLine, AreNoForm}
use Rattle.rbbi_command.specs.Files.{sources_of, lengths_stage}
use Rattle.rbbi_command.specs.Reads.{EndsReading, AreRead}
use Rattle.rbbi_command.specs.Inputs.{Inputs, inputs_of}
use Rattle.rbbi_command.specs.Reads.{MakesSomeReads}
use Rattle.rbbi_tool.specs.Program.{command_stage, run_stage, IsOutcome}
use Rattle.rbbi_command.specs.Delivery.{HoldsFile}
use Rattle.rbbi_command.specs.Delivery.{FileFailed, OthersUncounted, EachHoldsOrIsOutputFile}
use Rattle.rbbi_tool.specs.Causes.{NamesToWrite, IsWrittenBy, TellsFailedRead, NoReadFailed, IsPartOfAnswer, TakesPart}
use Rattle.rbbi_tool.specs.inner.Causes.{ComesTo, GivesOutcome, IsAnswer}
use Rattle.rbbi_tool.specs.Causes.{TakesOutcome, TakesFailedRead}
use Rattle.rbbi_tool.specs.Causes.{EachHolds, SomeWriteFailed, OthersUnwritten}
use Rattle.rbbi_command.proofs.Forms.{same_request}
use Rattle.rbbi_command.proofs.Reading.{all_told, always_told}
use Rattle.rbbi_tool.proofs.Faults.{IsFault, command_fault}
use Rattle.rbbi_tool.proofs.Commands.{command_told}
use Rattle.rbbi_tool.proofs.Emitting.{takes_nothing}

module _ (words : List (List ℕ)) (contents : Option (List ℕ → List ℕ)) (before now : List ℕ → ℕ) (request : Request) (asks : IsCommandLine words request) where
  -- reading the files ends the run
  pub ends_run : (sources : List Source) (r : Refusal) → sources ≡ sources_of request → EndsReading sources contents before now r
      → ComesTo words contents before now (Err r)
  ends_run sources Usage same ends = absurd ends
  ends_run sources (Unread name) same ends =
      record { request = request; asks = asks; fails = subst (λ ss. EndsReading ss contents before now (Unread name)) same ends }
  ends_run sources (Fault subject label place) same ends = (
    λ none. none request asks,
    all_told contents (λ held. (lengths_stage held (sources_of request)).refuses (Fault subject label place))
        (λ held. (run_stage words held).refuses (Fault subject label place))
        (subst (λ ss. EndsReading ss contents before now (Fault subject label place)) same ends).0 (λ held long. inr (request, asks, inl long)),
    ends.1,
  )
  ends_run sources Memory same ends = tt

  -- a fault ends the run
  fault_ends : (r : Refusal) → IsFault r → IfSome contents (λ held. (run_stage words held).refuses r) → EachStays before now
      → ComesTo words contents before now (Err r)
  unfolding IsFault
  fault_ends Usage is told stays = absurd is
  fault_ends (Unread name) is told stays = absurd is
  fault_ends (Fault subject label place) is told stays = (λ none. none request asks, told, stays)
  fault_ends Memory is told stays = absurd is

  named : (file : Option Written) → IfSome file (λ f. IsWrittenBy request f.name) → IfSome file (λ f. NamesToWrite words f.name)
  named None written = tt
  named (Some file) written = record { request = request; asks = asks; written = written }

  -- the files are within their limits, and what holds of the inputs holds of what the files hold
  abbrev Holds : (Inputs → Type 0) → (List ℕ → List ℕ) → Type 0
  Holds P held = (lengths_stage held (sources_of request)).passes tt × P (inputs_of held (sources_of request))

  over : (sources : List Source) (inputs : Inputs) (P : Inputs → Type 0) → sources ≡ sources_of request → IfSome contents (AreRead sources inputs)
      → P inputs → IfSome contents (Holds P)
  over sources inputs P same read p =
      all_told contents (AreRead sources inputs) (Holds P) read
      (λ held (are, short). (subst (λ ss. (lengths_stage held ss).passes tt) same short, subst P (are ∙ ap (inputs_of held) same) p))

  -- the command ends the run
  pub command_ends : (sources : List Source) (inputs : Inputs) (result : Result Outcome Refusal) → sources ≡ sources_of request
      → IfSome contents (AreRead sources inputs) → EachStays before now
      → Meets (λ outcome. outcome) (command_stage request.command request inputs) result → ComesTo words contents before now result
  command_ends sources inputs (Ok outcome) same read stays met =
      let told = command_told request.command request inputs outcome refl asks.count met in
      let Passes = λ (i : Inputs). (command_stage request.command request i).passes outcome in (
        told.status,
        λ none. none request asks,
        named outcome.file told.file,
        all_told contents (Holds Passes) (λ held. (run_stage words held).passes outcome) (over sources inputs Passes same read met)
            (λ held (short, passes). (request, asks, (tt, short, passes))),
        stays,
      )
  command_ends sources inputs (Err r) same read stays met =
      ⊎_elim (λ memory. subst (λ s. ComesTo words contents before now (Err s)) (sym memory) tt)
      (λ refuses.
      let Refuses = λ (i : Inputs). (command_stage request.command request i).refuses r in
      fault_ends r (command_fault request.command request inputs r refuses)
      (all_told contents (Holds Refuses) (λ held. (run_stage words held).refuses r) (over sources inputs Refuses same read refuses)
      (λ held (short, refuses). inr (request, asks, inr (tt, short, refuses)))) stays)
      met

-- the files are read in the order of the one request that the words ask for
pub ordered : (words : List (List ℕ)) (contents : Option (List ℕ → List ℕ)) (here request : Request) → IsCommandLine words request → IsCommandLine words here
    → (sources : List Source) → sources ≡ sources_of here → (before now : List ℕ → ℕ) → IfSome contents (MakesSomeReads sources before now)
    → IfSome contents (MakesSomeReads (sources_of request) before now)
ordered words contents here request asks asks' sources is before now made =
    subst (λ ss. IfSome contents (MakesSomeReads ss before now)) (is ∙ ap sources_of (same_request words here request asks' asks)) made

-- a fact of what the names held and hold, from two such facts
both_held : (before now : Option (List ℕ → List ℕ)) (P : (List ℕ → List ℕ) → Type 0) (Q R : (List ℕ → List ℕ) → (List ℕ → List ℕ) → Type 0)
    → IfSome before P → WhereTold before now Q → ((held held' : List ℕ → List ℕ) → P held → Q held held' → R held held') → WhereTold before now R
both_held None now P Q R p q both = tt
both_held (Some held) None P Q R p q both = q
both_held (Some held) (Some held') P Q R p q both = both held held' p q

held_more : (before now : Option (List ℕ → List ℕ)) (Q R : (List ℕ → List ℕ) → (List ℕ → List ℕ) → Type 0)
    → WhereTold before now Q → ((held held' : List ℕ → List ℕ) → Q held held' → R held held') → WhereTold before now R
held_more None now Q R q more = tt
held_more (Some held) None Q R q more = q
held_more (Some held) (Some held') Q R q more = more held held' q

-- the status of a fault
pub fault_low : (subject : Subject) → (3 ≤ status_of_subject subject) × (status_of_subject subject ≤ 5)
fault_low Rules = (omega arith, omega arith)
fault_low OtherRules = (omega arith, omega arith)
fault_low Table = (omega arith, omega arith)
fault_low (File name) = (omega arith, omega arith)

module _ (words : List (List ℕ)) (contents : Option (List ℕ → List ℕ)) (before now : List ℕ → ℕ) (outcome : Outcome) where
  no_file_told : outcome.file ≡ None → IfSome outcome.file (λ f. NamesToWrite words f.name)
  no_file_told none = subst (λ f. IfSome f (λ f. NamesToWrite words f.name)) (sym none) tt

  -- what is told is what the program answers
  pub is_answer : (result : Result Outcome Refusal) → ComesTo words contents before now result → GivesOutcome result outcome
      → IsAnswer words contents before now outcome
  is_answer (Ok output) comes told =
      let status : outcome.status ≡ output.status = ap (λ o. o.status) told in
      let low : output.status ≤ 1 = comes.0 in
      record {
        low = omega arith;
        file = subst (λ f. IfSome f (λ f. NamesToWrite words f.name)) (sym (ap (λ o. o.file) told)) comes.2;
        no_file = λ two. absurd (omega arith);
        usage = λ two. absurd (omega arith);
        form = λ none. absurd (comes.1 none);
        is = λ other. all_told contents (λ held. (run_stage words held).passes output) (λ held. IsOutcome words held outcome) comes.3
            (λ held passes. inr (subst (λ o. (run_stage words held).passes o) (sym told) passes));
        unfailed = λ low. comes.4;
        read_failed = λ six. absurd (omega arith);
      }
  is_answer (Err Usage) comes told =
      let status : outcome.status ≡ 2 = ap (λ o. o.status) told.1 in
      let none : outcome.file ≡ None = ap (λ o. o.file) told.1 in
      record {
        low = omega arith;
        file = no_file_told none;
        no_file = λ two. none;
        usage = λ two. (comes.0, ap (λ o. o.bytes) told.1);
        form = λ none. status;
        is = λ other. always_told contents (λ held. IsOutcome words held outcome) (λ held. inl (Usage, inl (comes.0, refl), told.1));
        unfailed = λ low. comes.1;
        read_failed = λ six. absurd (omega arith);
      }
  is_answer (Err (Unread name)) comes told =
      let status : outcome.status ≡ 6 = ap (λ o. o.status) told.1 in
      let none : outcome.file ≡ None = ap (λ o. o.file) told.1 in
      record {
        low = omega arith;
        file = no_file_told none;
        no_file = λ two. none;
        usage = λ two. absurd (omega arith);
        form = λ no. absurd (no comes.request comes.asks);
        is = λ other. absurd (other status);
        unfailed = λ low. absurd (omega arith);
        read_failed = λ six. (name, comes, ap (λ o. o.bytes) told.1);
      }
  is_answer (Err (Fault subject label place)) comes told =
      let status : outcome.status ≡ status_of_subject subject = ap (λ o. o.status) told.1 in
      let none : outcome.file ≡ None = ap (λ o. o.file) told.1 in
      let low = fault_low subject in
      record {
        low = omega arith;
        file = no_file_told none;
        no_file = λ two. none;
        usage = λ two. absurd (omega arith);
        form = λ no. absurd (comes.0 no);
        is = λ other. all_told contents (λ held. (run_stage words held).refuses (Fault subject label place)) (λ held. IsOutcome words held outcome) comes.1
            (λ held refuses. inl (Fault subject label place, refuses, told.1));
        unfailed = λ low. comes.2;
        read_failed = λ six. absurd (omega arith);
      }
  is_answer (Err Memory) comes told = absurd (told.0 refl)

  -- a prefix of an answer whose file is held
  front_of_answer : (n : ℕ) (contents' : Option (List ℕ → List ℕ)) → IsAnswer words contents before now outcome
      → WhereTold contents contents' (HoldsFile outcome.file)
      → WhereTold contents contents' (λ held held'. IsPartOfAnswer words before now held held' (take n outcome.bytes))
  front_of_answer n contents' answer holds =
      ⊎_elim (λ six. failed contents contents' (answer.read_failed six) holds)
      (λ other. both_held contents contents' (λ held. IsOutcome words held outcome) (HoldsFile outcome.file)
      (λ held held'. IsPartOfAnswer words before now held held' (take n outcome.bytes))
      (answer.is other) holds (λ held held' is file. inr (inl (outcome, is, (n, refl), file))))
      (six_or_not (cases_lt outcome.status 6))
    where
      failed : (o o' : Option (List ℕ → List ℕ)) → TellsFailedRead words o before now outcome.bytes → WhereTold o o' (HoldsFile outcome.file)
          → WhereTold o o' (λ held held'. IsPartOfAnswer words before now held held' (take n outcome.bytes))
      failed None o' tells holds = tt
      failed (Some held) None tells holds = holds
      failed (Some held) (Some held') tells holds = inr (inr (outcome.bytes, tells, (n, refl)))

      six_or_not : (outcome.status < 6) ⊎ (6 ≤ outcome.status) → (outcome.status ≡ 6) ⊎ (outcome.status ≢ 6)
      six_or_not (inl low) = inr (λ six. omega arith)
      six_or_not (inr high) = inl (omega (arith, answer.low))

module _ (words : List (List ℕ)) (contents contents' : Option (List ℕ → List ℕ)) (before now : List ℕ → ℕ) (taken taken' : Option (List ℕ)) where
  -- the sink took nothing, of files that still tell what they hold
  pub takes_no_part : (Q : (List ℕ → List ℕ) → (List ℕ → List ℕ) → Type 0) → taken' ≡ taken → WhereTold contents contents' Q
      → WhereTold contents contents' (TakesPart words before now taken taken')
  takes_no_part Q same told =
      held_more contents contents' Q (TakesPart words before now taken taken') told
      (λ held held' q. ([], inl refl, subst (λ t. Takes taken t []) (sym same) (takes_nothing taken)))

  -- the sink took nothing, or a prefix of the answer after its file was held
  pub takes_front : (outcome : Outcome) (writes writes' : List ℕ → ℕ) → IsAnswer words contents before now outcome
      → TakesFront taken taken' outcome.bytes → WhereTold contents contents' (EachHoldsOrIsOutputFile outcome.file writes writes')
      → (taken' ≡ taken) ⊎ WhereTold contents contents' (HoldsFile outcome.file)
      → WhereTold contents contents' (TakesPart words before now taken taken')
  takes_front outcome writes writes' answer front each file_first =
      ⊎_elim
      (λ same. takes_no_part (EachHoldsOrIsOutputFile outcome.file writes writes') same each)
      (λ holds.
      held_more contents contents' (λ held held'. IsPartOfAnswer words before now held held' (take front.0 outcome.bytes))
      (TakesPart words before now taken taken') (front_of_answer words contents before now outcome front.0 contents' answer holds)
      (λ held held' is. (take front.0 outcome.bytes, is, front.2)))
      file_first

pub held_same : (before now : Option (List ℕ → List ℕ)) (words : List (List ℕ)) (writes writes' : List ℕ → ℕ) → now ≡ before
    → WhereTold before now (EachHolds words writes writes')
held_same before now words writes writes' same =
    subst (λ o. WhereTold before o (EachHolds words writes writes')) (sym same) (at before)
  where
    at : (o : Option (List ℕ → List ℕ)) → WhereTold o o (EachHolds words writes writes')
    at None = tt
    at (Some held) = λ name. inl refl

-- nothing was taken, and no file was written
pub no_part_same : (before now : Option (List ℕ → List ℕ)) (words : List (List ℕ)) (reads reads' : List ℕ → ℕ) (taken taken' : Option (List ℕ))
    → now ≡ before → taken' ≡ taken → WhereTold before now (TakesPart words reads reads' taken taken')
no_part_same before now words reads reads' taken taken' same none =
    takes_no_part words before now reads reads' taken taken' (EachHolds words reads reads') none (held_same before now words reads reads' same)

module _ (words : List (List ℕ)) (contents contents' : Option (List ℕ → List ℕ)) (before now : List ℕ → ℕ) (outcome : Outcome)
    (answer : IsAnswer words contents before now outcome) where
  -- where no read failed, no failed read is told
  pub no_six : NoReadFailed words before now → outcome.status ≢ 6
  no_six none six =
      let told = answer.read_failed six in
      let fails = told.1.fails in
      none told.0 (record {
        request = told.1.request;
        asks = told.1.asks;
        number = fails.number;
        source = fails.source;
        is = fails.is;
        named = fails.named;
      }) fails.rose

  -- the sink took the outcome, and its file is held
  pub takes_outcome : (status : ℕ) (taken taken' : Option (List ℕ)) → status ≡ outcome.status → status ≢ 6 → Takes taken taken' outcome.bytes
      → WhereTold contents contents' (HoldsFile outcome.file) → WhereTold contents contents' (TakesOutcome words status taken taken')
  takes_outcome status taken taken' same other takes holds =
      both_held contents contents' (λ held. IsOutcome words held outcome) (HoldsFile outcome.file) (TakesOutcome words status taken taken')
      (answer.is (λ six. other (same ∙ six))) holds
      (λ held held' is file. record { outcome = outcome; is = is; status_is = sym same; takes = takes; holds = file })

  -- each name holds what it held, or is that of the outcome's file
  pub each_holds : (writes writes' : List ℕ → ℕ) → WhereTold contents contents' (EachHoldsOrIsOutputFile outcome.file writes writes')
      → WhereTold contents contents' (EachHolds words writes writes')
  each_holds writes writes' told =
      ⊎_elim
      (λ low.
      both_held contents contents' (λ held. IsOutcome words held outcome) (EachHoldsOrIsOutputFile outcome.file writes writes') (EachHolds words writes writes')
      (answer.is (λ six. omega arith)) told
      (λ held held' is each name. ⊎_elim inl (λ file. inr (record { outcome = outcome; is = is; bytes = file.bytes; file = file.is; holds = file.holds }))
      (each name)))
      (λ high.
      let none : outcome.file ≡ None = answer.no_file (omega arith) in
      held_more contents contents' (EachHoldsOrIsOutputFile outcome.file writes writes') (EachHolds words writes writes') told
      (λ held held' each name. ⊎_elim inl (λ file. absurd (cc (none, file.is))) (each name)))
      (cases_lt outcome.status 6)

  failed_named : (file : Option Written) (writes writes' : List ℕ → ℕ) → IfSome file (λ f. NamesToWrite words f.name) → FileFailed file writes writes'
      → SomeWriteFailed words writes writes'
  failed_named None writes writes' named failed = absurd failed
  failed_named (Some file) writes writes' named failed = (file.name, named, failed)

  -- the write of the outcome's file failed
  pub write_failed : (writes writes' : List ℕ → ℕ) → FileFailed outcome.file writes writes' → SomeWriteFailed words writes writes'
  write_failed writes writes' failed = failed_named outcome.file writes writes' answer.file failed

  others_of : (file : Option Written) (writes writes' : List ℕ → ℕ) → IfSome file (λ f. NamesToWrite words f.name) → OthersUncounted file writes writes'
      → OthersUnwritten words writes writes'
  others_of None writes writes' named stay = λ name other. stay name
  others_of (Some file) writes writes' named stay =
      λ name other. stay name (λ same. other (subst (NamesToWrite words) (sym same) named))

  -- no count changed but of files that the words name to be written
  pub others_unwritten : (writes writes' : List ℕ → ℕ) → OnSome contents (OthersUncounted outcome.file writes writes')
      → IfSome contents (λ _. OthersUnwritten words writes writes')
  others_unwritten writes writes' stay =
      all_told contents (λ _. OthersUncounted outcome.file writes writes') (λ _. OthersUnwritten words writes writes') stay
      (λ held others. others_of outcome.file writes writes' answer.file others)

-- What writing and putting an outcome leaves: before are the files, counts and sink of the run's start.
pub record IsDelivered (words : List (List ℕ)) (contents contents' : Option (List ℕ → List ℕ)) (reads reads' writes writes' : List ℕ → ℕ)
    (taken taken' : Option (List ℕ)) (faults faults' : ℕ) (outcome : Outcome) (result : ℕ) : Type 0 where
  pub answer : IsAnswer words contents reads reads' outcome
  pub status : (result ≡ outcome.status) ⊎ ((result ≡ 7) ⊎ (result ≡ 8))
  pub takes : result ≤ 6 → Takes taken taken' outcome.bytes
  pub holds : result ≤ 6 → WhereTold contents contents' (HoldsFile outcome.file)
  pub failed : result ≡ 7 → Rose faults faults' ⊎ FileFailed outcome.file writes writes'
  pub front : TakesFront taken taken' outcome.bytes
  pub file_first : (taken' ≡ taken) ⊎ WhereTold contents contents' (HoldsFile outcome.file)
  pub each : WhereTold contents contents' (EachHoldsOrIsOutputFile outcome.file writes writes')
  pub others : OnSome contents (OthersUncounted outcome.file writes writes')

module _ {words : List (List ℕ)} {contents contents' : Option (List ℕ → List ℕ)} {reads reads' writes writes' : List ℕ → ℕ}
    {taken taken' : Option (List ℕ)} {faults faults' : ℕ} {outcome : Outcome} {result : ℕ}
    (d : IsDelivered words contents contents' reads reads' writes writes' taken taken' faults faults' outcome result) where
  same_status : result ≤ 6 → result ≡ outcome.status
  same_status low = ⊎_elim (λ is. is) (λ other. absurd (⊎_elim (λ seven. omega arith) (λ eight. omega arith) other)) d.status

  pub statuses_of : result ≤ 8
  statuses_of = ⊎_elim (λ is. omega (arith, d.answer.low)) (λ other. ⊎_elim (λ seven. omega arith) (λ eight. omega arith) other) d.status

  pub no_form_of : AreNoForm words → (result ≡ 2) ⊎ ((result ≡ 7) ⊎ (result ≡ 8))
  no_form_of none = ⊎_elim (λ is. inl (is ∙ d.answer.form none)) inr d.status

  -- after a status from 2 to 6 no file was written
  pub unwritten_of : (outcome.file ≡ None → contents' ≡ contents) → 2 ≤ result → result ≤ 6 → contents' ≡ contents
  unwritten_of same two six = same (d.answer.no_file (omega (arith, same_status six)))

  pub usage_of : result ≡ 2 → AreNoForm words × Takes taken taken' usage_line
  usage_of two =
      let usage = d.answer.usage (sym (same_status (omega arith)) ∙ two) in
      (usage.0, subst (Takes taken taken') usage.1 (d.takes (omega arith)))

  pub outcome_of : result ≤ 5 → WhereTold contents contents' (TakesOutcome words result taken taken')
  outcome_of low =
      takes_outcome words contents contents' reads reads' outcome d.answer result taken taken' (same_status (omega arith)) (λ six. omega arith)
      (d.takes (omega arith)) (d.holds (omega arith))

  pub read_failed_of : result ≡ 6 → TakesFailedRead words contents reads reads' taken taken'
  read_failed_of six =
      (outcome.bytes, d.answer.read_failed (sym (same_status (omega arith)) ∙ six), d.takes (omega arith))

  pub unfailed_of : result ≤ 5 → EachStays reads reads'
  unfailed_of low = d.answer.unfailed (omega (arith, same_status (omega arith)))

  pub put_failed_of : result ≡ 7 → Rose faults faults' ⊎ SomeWriteFailed words writes writes'
  put_failed_of seven = ⊎_elim inl (λ failed. inr (write_failed words contents contents' reads reads' outcome d.answer writes writes' failed)) (d.failed seven)

  pub front_of : 7 ≤ result → WhereTold contents contents' (TakesPart words reads reads' taken taken')
  front_of high = takes_front words contents contents' reads reads' taken taken' outcome writes writes' d.answer d.front d.each d.file_first

  pub complete_of : NoReadFailed words reads reads' → ¬ Rose faults faults' → ¬ SomeWriteFailed words writes writes' → result ≢ 8
      → WhereTold contents contents' (TakesOutcome words result taken taken')
  complete_of none calm unfailed other =
      ⊎_elim
      (λ is.
      let low : outcome.status ≤ 6 = d.answer.low in
      takes_outcome words contents contents' reads reads' outcome d.answer result taken taken' is
      (λ six. no_six words contents contents' reads reads' outcome d.answer none (sym is ∙ six)) (d.takes (omega arith)) (d.holds (omega arith)))
      (λ failed. absurd (⊎_elim (λ seven. ⊎_elim calm unfailed (put_failed_of seven)) other failed)) d.status

  pub each_of : WhereTold contents contents' (EachHolds words writes writes')
  each_of = each_holds words contents contents' reads reads' outcome d.answer writes writes' d.each

  pub others_of_all : IfSome contents (λ _. OthersUnwritten words writes writes')
  others_of_all = others_unwritten words contents contents' reads reads' outcome d.answer writes writes' d.others

-- what is said of the moment after the answer, which changed no file, is said of the start
pub from_start : (words : List (List ℕ)) (k0 k1 k2 : Option (List ℕ → List ℕ)) (r0 r1 r2 w0 w1 w2 : List ℕ → ℕ) (taken taken' : Option (List ℕ))
    (faults faults' : ℕ) (outcome : Outcome) (result : ℕ) → k1 ≡ k0 → EachStays r1 r2 → EachStays w0 w1
    → IsAnswer words k0 r0 r1 outcome → (result ≡ outcome.status) ⊎ ((result ≡ 7) ⊎ (result ≡ 8)) → (result ≤ 6 → Takes taken taken' outcome.bytes)
    → (result ≤ 6 → WhereTold k1 k2 (HoldsFile outcome.file)) → (result ≡ 7 → Rose faults faults' ⊎ FileFailed outcome.file w1 w2)
    → TakesFront taken taken' outcome.bytes → (taken' ≡ taken) ⊎ WhereTold k1 k2 (HoldsFile outcome.file)
    → WhereTold k1 k2 (EachHoldsOrIsOutputFile outcome.file w1 w2) → OnSome k1 (OthersUncounted outcome.file w1 w2)
    → IsDelivered words k0 k2 r0 r2 w0 w2 taken taken' faults faults' outcome result
from_start words k0 k1 k2 r0 r1 r2 w0 w1 w2 taken taken' faults faults' outcome result same reads writes answer status takes holds failed front first each
    others =
    let reads_are : r1 ≡ r2 = λ i n. sym (reads n) i in
    let writes_are : w1 ≡ w0 = λ i n. writes n i in
    record {
      answer = subst (λ r. IsAnswer words k0 r0 r outcome) reads_are answer;
      status = status;
      takes = takes;
      holds = λ low. subst (λ k. WhereTold k k2 (HoldsFile outcome.file)) same (holds low);
      failed = λ seven. subst (λ w. Rose faults faults' ⊎ FileFailed outcome.file w w2) writes_are (failed seven);
      front = front;
      file_first = subst (λ k. (taken' ≡ taken) ⊎ WhereTold k k2 (HoldsFile outcome.file)) same first;
      each = subst (λ k. WhereTold k k2 (EachHoldsOrIsOutputFile outcome.file w0 w2)) same
          (subst (λ w. WhereTold k1 k2 (EachHoldsOrIsOutputFile outcome.file w w2)) writes_are each);
      others = subst (λ k. OnSome k (OthersUncounted outcome.file w0 w2)) same (subst (λ w. OnSome k1 (OthersUncounted outcome.file w w2)) writes_are others);
    }
