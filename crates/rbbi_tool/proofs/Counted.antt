-- The bytes that count of the files that a request names, and what a command reads of them.
use Rattle.std.proofs.Common.{◌≡◌, ℕ, ◌+◌, ◌<◌, ◌≤◌, List, [], ◌∷◌, length, take, get_or, refl, ap, ◌∙◌, subst, inl, inr, arith}
use Rattle.std.specs.Prelude.{◌⊎◌, sum_by, Option, None, IfSome}
use Rattle.std.proofs.lemmas.List.Sums.{sum_by-append, sum_by-cons, sum_by_more, sum_by-take-le}
use Rattle.rbbi_model.specs.Tables.{Table}
use Rattle.rbbi_model.specs.Scripts as model
use Rattle.rbbi_text.specs.Steps.{RisesUpTo}
use Rattle.rbbi_command.specs.declared.words.command.Command.{Command}
use Rattle.rbbi_command.specs.declared.words.command.Command.TheVariants.{Breaks, Run, Tally}
use Rattle.rbbi_command.specs.declared.files.Role.{Role}
use Rattle.rbbi_command.specs.declared.files.Role.TheVariants as role
use Rattle.rbbi_command.specs.declared.files.Source.{Source}
use Rattle.rbbi_filter.specs.declared.filter.Filter.{Filter}
use Rattle.rbbi_command.specs.Stages.{Stage, gives}
use Rattle.rbbi_command.specs.Settings.{Options}
use Rattle.rbbi_command.specs.Words.{Request, IsCommandLine}
use Rattle.rbbi_command.specs.Files.{sources_of}
use Rattle.rbbi_command.specs.Inputs.{Inputs, no_inputs, put, inputs_of}
use Rattle.rbbi_command.proofs.Reading.{with_files}
use Rattle.rbbi_command.specs.Reads.{MakesSomeReads, AreRead}
use Rattle.rbbi_tool.specs.Texts.{text_stage}
use Rattle.rbbi_tool.specs.Scripts.{script_stage}
use Rattle.rbbi_tool.specs.Basis.{IsTableOf}
use Rattle.rbbi_tool.specs.Steps.{counted, named_bytes, ReadsFor, list_cost, replies_cost, tally_cost, CommandReads, RequestReads}
use Rattle.rbbi_tool.specs.Filters.{FilteredBasis, behind_filter, filtered_stage}
use Rattle.rbbi_tool.specs.inner.Steps.{given_bytes, ReadsInOrder}
use Rattle.rbbi_tool.specs.inner.Prepared.{ReadsByEnd}
use Rattle.rbbi_command.proofs.Forms.{same_request}
use Rattle.rbbi_command.proofs.Reading.{all_told, always_told}

-- the bytes of one more property file
pub handed_more : (handed : List (List ℕ)) (i begun steps steps' : ℕ) (bytes : List ℕ) → i < length handed → bytes ≡ get_or handed i bytes →
    RisesUpTo (sum_by length (take i handed)) begun steps → steps' ≡ steps + length bytes → RisesUpTo (sum_by length (take (i + 1) handed)) begun steps'
handed_more handed i begun steps steps' bytes inside is paid read =
    let one : length bytes ≡ length (get_or handed i bytes) = ap length is in
    record { more = omega (arith, paid.more, read); cost = omega (arith, paid.cost, read, one, sum_by_more length handed i bytes inside) }

pub handed_all : (handed : List (List ℕ)) (i begun steps : ℕ) → RisesUpTo (sum_by length (take i handed)) begun steps →
    RisesUpTo (sum_by length handed) begun steps
handed_all handed i begun steps paid = record { more = paid.more; cost = omega (arith, paid.cost, sum_by-take-le length handed i) }

-- less was read than may be
pub rises_further : (most more begun steps : ℕ) → RisesUpTo most begun steps → most ≤ more → RisesUpTo more begun steps
rises_further most more begun steps paid less = record { more = paid.more; cost = omega (arith, paid.cost, less) }

-- and then some more
pub rises_by : (first second begun steps steps' : ℕ) → RisesUpTo first begun steps → steps' ≡ steps + second → RisesUpTo (first + second) begun steps'
rises_by first second begun steps steps' paid read = record { more = omega (arith, paid.more, read); cost = omega (arith, paid.cost, read) }

pub rises_twice : (first second begun steps steps' : ℕ) → RisesUpTo first begun steps → RisesUpTo second steps steps' →
    RisesUpTo (first + second) begun steps'
rises_twice first second begun steps steps' paid paid' =
    record { more = omega (arith, paid.more, paid'.more); cost = omega (arith, paid.cost, paid'.cost) }

-- so much was read, and no more by this end
pub ends_early : {read given before now end : ℕ} → RisesUpTo read before now → read ≤ given → RisesUpTo 0 now end → RisesUpTo given before end
ends_early paid less none = record { more = omega (arith, paid.more, none.more); cost = omega (arith, paid.cost, none.cost, less) }

-- what is read for the lines of boundaries, of replies or of counts
pub reads_for : (filtered : Stage FilteredBasis) (text : Stage (List ℕ)) (script : Stage (List model.Command))
    (cost_of : Option Filter → Table → List ℕ → List model.Command → ℕ) (bytes before between after : ℕ) (by : FilteredBasis) (table : Table) (x : List ℕ)
    (commands : List model.Command) → filtered.passes by → IsTableOf table by.basis → text.passes x → script.passes commands → RisesUpTo bytes before between
    → RisesUpTo (cost_of by.filter table x commands) between after → ReadsFor filtered text script cost_of bytes before after
reads_for filtered text script cost_of bytes before between after by table x commands passes table_is text_is script_is paid cost = record {
  by = by;
  table = table;
  x = x;
  commands = commands;
  passes = passes;
  table_is = table_is;
  text_is = text_is;
  script_is = script_is;
  reads = rises_twice bytes (cost_of by.filter table x commands) before between after paid cost;
}

-- where nothing is read, nothing is over the bound
command_reads_none : (command : Command) (options : Options) (inputs : Inputs) (bytes before after : ℕ) → RisesUpTo 0 before after
    → CommandReads command options inputs bytes before after
command_reads_none Breaks options inputs bytes before after none = inl (rises_further 0 bytes before after none (omega arith))
command_reads_none Run options inputs bytes before after none = inl (rises_further 0 bytes before after none (omega arith))
command_reads_none Tally options inputs bytes before after none = inl (rises_further 0 bytes before after none (omega arith))
command_reads_none command options inputs bytes before after none = tt

pub reads_none : (contents : Option (List ℕ → List ℕ)) (request : Request) (steps : ℕ)
    → IfSome contents (λ held. ReadsByEnd 0 (RequestReads request held) steps steps)
reads_none contents request steps =
    always_told contents (λ held. ReadsByEnd 0 (RequestReads request held) steps steps)
    (λ held end none.
    command_reads_none request.command request.options (inputs_of held (sources_of request)) (named_bytes held request) steps end none)

-- a file more counts its bytes, or in place of others
put_counted : (role : Role) (name bytes : List ℕ) (inputs : Inputs) → given_bytes (put role name bytes inputs) ≤ given_bytes inputs + counted role bytes
put_counted role.Property name bytes inputs = omega (arith, sum_by-append length inputs.properties (bytes ∷ []), sum_by-cons length bytes [])
put_counted role.Filter name bytes inputs = omega arith
put_counted role.Rules name bytes inputs = omega arith
put_counted role.OtherRules name bytes inputs = omega arith
put_counted role.Table name bytes inputs = omega arith
put_counted role.Text name bytes inputs = omega arith
put_counted role.Script name bytes inputs = omega arith
put_counted role.Tests name bytes inputs = omega arith

module _ (held : List ℕ → List ℕ) where
  abbrev counts : Source → ℕ
  counts source = counted source.role (held source.name)

  files_counted : (sources : List Source) (inputs : Inputs) → given_bytes (with_files held inputs sources) ≤ given_bytes inputs + sum_by counts sources
  files_counted [] inputs = omega arith
  files_counted (source ∷ sources) inputs =
      omega (
        arith,
        files_counted sources (put source.role source.name (held source.name) inputs),
        put_counted source.role source.name (held source.name) inputs,
        sum_by-cons counts source sources,
      )

  given_named : (request : Request) → given_bytes (inputs_of held (sources_of request)) ≤ named_bytes held request
  given_named request = omega (arith, files_counted (sources_of request) no_inputs)

-- answering reads no more than may be
reads_further_for : (filtered : Stage FilteredBasis) (text : Stage (List ℕ)) (script : Stage (List model.Command))
    (cost_of : Option Filter → Table → List ℕ → List model.Command → ℕ) (few many before after : ℕ) → few ≤ many
    → RisesUpTo few before after ⊎ ReadsFor filtered text script cost_of few before after
    → RisesUpTo many before after ⊎ ReadsFor filtered text script cost_of many before after
reads_further_for filtered text script cost_of few many before after less (inl paid) = inl (rises_further few many before after paid less)
reads_further_for filtered text script cost_of few many before after less (inr r) =
    let cost : ℕ = cost_of r.by.filter r.table r.x r.commands in
    inr (record {
      by = r.by;
      table = r.table;
      x = r.x;
      commands = r.commands;
      passes = r.passes;
      table_is = r.table_is;
      text_is = r.text_is;
      script_is = r.script_is;
      reads = rises_further (few + cost) (many + cost) before after r.reads (omega (arith, less));
    })

-- a command reads no more than may be
reads_further : (command : Command) (options : Options) (inputs : Inputs) (few many before after : ℕ) → few ≤ many
    → CommandReads command options inputs few before after → CommandReads command options inputs many before after
reads_further Breaks options inputs few many before after less reads =
    reads_further_for (filtered_stage options inputs) (text_stage inputs.text) (gives []) (λ filter table x commands. list_cost filter table x) few many
    before after less reads
reads_further Run options inputs few many before after less reads =
    reads_further_for (filtered_stage options inputs) (text_stage inputs.text) (script_stage inputs.script)
    (λ filter. replies_cost filter options.unit) few many before after less reads
reads_further Tally options inputs few many before after less reads =
    reads_further_for (behind_filter options inputs None) (text_stage inputs.text) (script_stage inputs.script) (λ filter. tally_cost) few many before
    after less reads
reads_further command options inputs few many before after less reads = tt

-- no file is read
pub reads_nothing : (words : List (List ℕ)) (contents : Option (List ℕ → List ℕ)) (reads : List ℕ → ℕ) (steps : ℕ)
    → ReadsInOrder words contents reads reads 0 steps steps
reads_nothing words contents reads steps = record {
  order = λ request asks.
      always_told contents (MakesSomeReads (sources_of request) reads reads)
      (λ held. (0, record { few = omega arith; within = λ k source less. absurd (omega arith); others = λ name differs. refl }));
  steps = λ request asks. reads_none contents request steps;
}

-- what is read of the files that were read in order
pub reads_told : (words : List (List ℕ)) (contents : Option (List ℕ → List ℕ)) (here request : Request) → IsCommandLine words request
    → IsCommandLine words here → (sources : List Source) (inputs : Inputs) (rest before now : ℕ) → sources ≡ sources_of here
    → IfSome contents (AreRead sources inputs) → ReadsByEnd rest (CommandReads here.command here.options inputs (given_bytes inputs)) before now
    → IfSome contents (λ held. ReadsByEnd rest (RequestReads request held) before now)
reads_told words contents here request asks asks' sources inputs rest before now is read reads =
    all_told contents (AreRead sources inputs) (λ held. ReadsByEnd rest (RequestReads request held) before now) read
    (λ held (are, short) end more.
    let named = inputs_of held (sources_of here) in
    subst (λ r. RequestReads r held before end) (same_request words here request asks' asks)
    (reads_further here.command here.options named (given_bytes named) (named_bytes held here) before end (given_named held here)
    (subst (λ i. CommandReads here.command here.options i (given_bytes i) before end) (are ∙ ap (inputs_of held) is) (reads end more))))

-- what is read by the run's end
pub reads_at_end : (contents : Option (List ℕ → List ℕ)) (request : Request) (rest before now end : ℕ)
    → IfSome contents (λ held. ReadsByEnd rest (RequestReads request held) before now) → RisesUpTo rest now end
    → IfSome contents (λ held. RequestReads request held before end)
reads_at_end contents request rest before now end reads more =
    all_told contents (λ held. ReadsByEnd rest (RequestReads request held) before now) (λ held. RequestReads request held before end) reads
    (λ held by_end. by_end end more)
